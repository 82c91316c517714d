use Rattle.std.proofs.Common.{◌≡◌, sym, ap, ◌∙◌}
use Rattle.std.proofs.lemmas.Map.Text.{is_eq-slice_cmp}
use Rattle.std.proofs.lemmas.Slice.Eq.{bytes_eq-Decides}
use Rattle.std.specs.Ordering.{is_eq}
use Rattle.rx_value.specs.Order.{text_cmp}
use Rattle.rx_index.specs.ByKey.{id_in}
use Rattle.rx_index.specs.Packed.{raised_text, unpacked}
use Rattle.rx_index.specs.Position.{id_of}
use Rattle.rx_index.proofs.Ids.{raised_same}
use Rattle.rx_index.proofs.range.Entry.is_of.Goals as goal

pub returns-then-self : goal.returns-then-self
returns-then-self c =
    let name = c.self.inside.name.now in
    let these : c.id_bytes.result.now ≡ raised_text c.args.self.now =
    c.id_bytes.ensures ∙ ap (λ bs. raised_text (id_of (unpacked bs))) c.as_bytes.ensures
    ∙ ap (λ b. raised_text (id_in b name)) (sym c.if-self.true) ∙ ap raised_text c.self.view_is in
    let those : raised_text c.as_bytes-then-self.result.now ≡ raised_text c.args.id.now =
    ap raised_text c.as_bytes-then-self.ensures.value in (
      λ t. raised_same c.args.self.now c.args.id.now (sym these ∙ c.is_raised.ensures.0 t ∙ those),
      λ h. c.is_raised.ensures.1 (these ∙ ap raised_text h ∙ sym those),
    )

pub returns-else-self : goal.returns-else-self
returns-else-self c =
    let name = c.self.inside.name.now in
    let id = c.args.id.now in
    let same = bytes_eq-Decides name id in
    let this : name ≡ c.args.self.now =
    ap (λ b. id_in b name) (sym c.if-self.false) ∙ c.self.view_is in
    let is = c.is_eq.ensures
    ∙ ap is_eq (c.compare.ensures ∙ ap (text_cmp name) c.as_bytes-else-self.ensures.value)
    ∙ is_eq-slice_cmp name id in (
      λ t. sym this ∙ same.0 (sym is ∙ t),
      λ h. is ∙ same.1 (this ∙ h),
    )
