use Rattle.std.proofs.Common.{ap, ◌∙◌}
use Rattle.hex.specs.Hex.{encode_lower}
use Rattle.serde_json.specs.View.{view}
use Rattle.sha2.specs.Sha256.{sha256}
use Rattle.rx_schema.specs.Writing.{kinds_of}
use Rattle.rx_schema.proofs.Again.{lawful}
use Rattle.rx_schema.proofs.schema.Schema.read.Goals as goal

pub invariant_of-result : goal.invariant_of-result
invariant_of-result c = (
  lawful (view c.args.json.now) c.in_ok-shape.shape c.in_ok-shape.ensures.rising
      c.in_ok-shape.ensures.exact,
  c.in_ok-kinds.ensures ∙ ap kinds_of c.as_slice.ensures,
  c.in_ok-canonical.ensures.text,
  c.in_ok-canonical.ensures.reads_back,
  c.in_ok-hash.ensures
      ∙ ap (λ t. encode_lower (sha256 t)) (c.as_str.ensures ∙ c.in_ok-canonical.ensures.text),
)
