use Rattle.std.proofs.Common.{◌∙◌, ap, sym, subst}
use Rattle.rx_value.specs.Fields.{AreFields}
use Rattle.rx_value.specs.Named.{without}
use Rattle.rx_value.proofs.Removed.{remove_is, without_fields, without_none}
use Rattle.rx_value.proofs.fields.Fields.remove.Goals as goal

pub invariant_of-self : goal.invariant_of-self
invariant_of-self c =
    let ps = c.self.inside.pairs.items in
    let name = c.args.name.now in
    let found = rw c.as_slice.ensures.value at c.in-Ok.ensures.found in
    subst AreFields (sym (c.remove-value.ensures.items ∙ remove_is ps name c.in-Ok.i found.within
    c.self.invariant.rising found.is_there))
    (without_fields ps name c.self.invariant)

pub returns-in-Ok-clause-others : goal.returns-in-Ok-clause-others
returns-in-Ok-clause-others c =
    let ps = c.self.inside.pairs.items in
    let name = c.args.name.now in
    let found = rw c.as_slice.ensures.value at c.in-Ok.ensures.found in
    c.remove-value.ensures.items ∙ remove_is ps name c.in-Ok.i found.within
    c.self.invariant.rising found.is_there
    ∙ ap (λ ps. without ps name) c.self.view_is

pub returns-in-Err-clause-others : goal.returns-in-Err-clause-others
returns-in-Err-clause-others c =
    let ps = c.self.inside.pairs.items in
    let name = c.args.name.now in
    let absent = rw c.as_slice.ensures.value at c.in-Err.ensures.absent in
    sym c.self.view_is ∙ sym (without_none name ps absent.unnamed)
    ∙ ap (λ ps. without ps name) c.self.view_is
