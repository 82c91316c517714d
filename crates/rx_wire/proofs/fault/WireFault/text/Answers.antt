use Rattle.std.proofs.Common.{codes, ap, ◌∙◌}
use Rattle.serde_json.specs.Data.{object, member, string, no_members}
use Rattle.rx_wire.specs.OneLine.{is_one_line}
use Rattle.rx_wire.proofs.OneLine.{one_line}
use Rattle.rx_wire.proofs.fault.WireFault.text.Goals as goal

pub returns-clause-one_line : goal.returns-clause-one_line
returns-clause-one_line c =
    ap is_one_line (c.in_ok-text_of.ensures ∙ c.in_ok-bytes.ensures.text)
    ∙ one_line (object (member (codes "fault") (string c.name.result.now) no_members))
