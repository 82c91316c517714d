use Rattle.std.proofs.Common.{Some, ap, ◌∙◌}
use Rattle.serde_json.specs.Written.{has_float, compact_text}
use Rattle.rx_value.proofs.Written.{state_no_float, state_shallow, state_again}
use Rattle.rx_value.proofs.writing.text.Goals as goal

pub returns-clause-text : goal.returns-clause-text
returns-clause-text c =
    c.in_ok-compact.ensures.text
    (ap has_float c.in_ok-json.ensures.data ∙ state_no_float c.args.state.now)
    ∙ ap compact_text c.in_ok-json.ensures.data

pub returns-clause-reads_back : goal.returns-clause-reads_back
returns-clause-reads_back c = λ unmarked.
    state_again c.args.state.now c.in_ok-compact.field-0 c.in_ok-json.ensures.fields unmarked
    (c.in_ok-compact.ensures.reads_back
    (rw c.in_ok-json.ensures.data (state_shallow c.args.state.now))
    ∙ ap Some c.in_ok-json.ensures.data)
