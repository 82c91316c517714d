use Rattle.std.proofs.Common.{Some, ap, ◌∙◌}
use Rattle.serde_json.specs.Written.{has_float, compact_text}
use Rattle.rx_value.specs.Writing.{fields_data}
use Rattle.rx_value.proofs.Written.{no_float, shallow, again}
use Rattle.rx_value.proofs.writing.fields_text.Goals as goal

pub returns-clause-text : goal.returns-clause-text
returns-clause-text c =
    c.in_ok-compact.ensures.text
    (ap has_float c.in_ok-json.ensures.data ∙ no_float c.args.fields.now)
    ∙ ap compact_text c.in_ok-json.ensures.data

pub returns-clause-reads_back : goal.returns-clause-reads_back
returns-clause-reads_back c = (
  fields_data c.args.fields.now,
  c.in_ok-compact.ensures.reads_back (rw c.in_ok-json.ensures.data (shallow c.args.fields.now))
      ∙ ap Some c.in_ok-json.ensures.data,
  again c.args.fields.now c.in_ok-json.ensures.fields,
)
