use Rattle.std.proofs.Common.{◌++◌, codes, refl, ap₂, ◌∙◌}
use Rattle.json.specs.Print.{print}
use Rattle.serde_json.specs.Data.{Data, object, member, string, no_members}
use Rattle.serde_json.proofs.Texts.{print-outline}
use Rattle.rx_wire.proofs.printing.fault_bytes.Goals as goal

pub returns-clause-text : goal.returns-clause-text
returns-clause-text c =
    let whole : Data = object (member (codes "fault") (string c.args.name.now) no_members) in
    c.into_inner.ensures.items
    ∙ ap₂ (λ before ts. before ++ print ts)
    (c.in_ok-end_object.ensures.room.0 ∙ c.in_ok-put_text.ensures.before
    ∙ c.in_ok-begin_object.ensures.room.0 ∙ c.new-writer.ensures.before
    ∙ c.in_ok-with_capacity.ensures.items)
    (c.in_ok-end_object.ensures.ok
    ∙ rw (
      c.in_ok-put_text.ensures.tokens,
      c.in_ok-begin_object.ensures.ok,
      c.new-writer.ensures.tokens,
    ) refl)
    ∙ print-outline whole
