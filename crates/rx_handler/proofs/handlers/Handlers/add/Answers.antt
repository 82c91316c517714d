use Rattle.std.proofs.Common.{◌∙◌, ap, sym, inr, Err}
use Rattle.rx_value.specs.Named.{by_name, named}
use Rattle.rx_handler.specs.declared.fault.HandlerFault.TheVariants.{Twice}
use Rattle.rx_handler.proofs.Added.{there, nothing, told, untold}
use Rattle.rx_handler.proofs.handlers.Handlers.add.Goals as goal

pub returns-then-contains_key-clause-exact : goal.returns-then-contains_key-clause-exact
returns-then-contains_key-clause-exact g c =
    let es = c.args.self.now.held.entries in
    inr (told (named (by_name (λ h. h.kind) es) c.args.handler.name) c.args.handler.name
    (there (λ h. h.kind) es c.as_str.result.now c.args.handler.name _
    (c.as_str.ensures ∙ c.name.ensures) c.if-contains_key.ensures)
    ∙ ap (λ n. Err (Twice n)) (sym c.into_name.ensures))

pub put-requires-clause-none : goal.put-requires-clause-none
put-requires-clause-none g c =
    let es = c.args.self.now.held.entries in
    nothing (named (by_name (λ h. h.kind) es) c.args.handler.name)
    (there (λ h. h.kind) es c.as_str.result.now c.args.handler.name _
    (c.as_str.ensures ∙ c.name.ensures) c.if-contains_key.ensures)

pub returns-clause-exact : goal.returns-clause-exact
returns-clause-exact g c =
    let es = c.args.self.now.held.entries in
    untold (named (by_name (λ h. h.kind) es) c.args.handler.name) c.args.handler.name
    (nothing (named (by_name (λ h. h.kind) es) c.args.handler.name)
    (there (λ h. h.kind) es c.as_str.result.now c.args.handler.name _
    (c.as_str.ensures ∙ c.name.ensures) c.if-contains_key.ensures))
