use Rattle.std.proofs.Common.{Some, ap, ◌∙◌}
use Rattle.serde_json.specs.Read.{read}
use Rattle.serde_json.specs.Written.{has_float, compact_text}
use Rattle.rx_schema.proofs.Written.{no_float, shallow}
use Rattle.rx_schema.proofs.writing.canonical_text.Goals as goal

pub returns-clause-text : goal.returns-clause-text
returns-clause-text c =
    c.in_ok-from_string.ensures
    ∙ c.in_ok-to_string.ensures.text (ap has_float c.in_ok-json.ensures ∙ no_float c.args.shape.now)
    ∙ ap compact_text c.in_ok-json.ensures

pub returns-clause-reads_back : goal.returns-clause-reads_back
returns-clause-reads_back c =
    ap read c.in_ok-from_string.ensures
    ∙ c.in_ok-to_string.ensures.reads_back (rw c.in_ok-json.ensures (shallow c.args.shape.now))
    ∙ ap Some c.in_ok-json.ensures
