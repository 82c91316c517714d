use Rattle.std.proofs.Common.{◌≡◌, ◌++◌, drop}
use Rattle.json.specs.Tree.{json_tokens}
use Rattle.serde_json.specs.Written.{outline}
use Rattle.rx_value.specs.State.{state_data}
use Rattle.rx_wire.specs.Printing.{tokens_left}
use Rattle.rx_wire.proofs.state_printing.put_state.Given as goal

-- the tokens so far, before those that are left, are those that are due
abbrev pub invariant-loop-i : goal.invariant-loop-i
invariant-loop-i l = record {
  before : l.writer.before ≡ l.fn.writer.before;
  tokens : l.writer.tokens ++ tokens_left l.marked l.state.deleted (drop l.i l.state.fields)
      ≡ l.fn.writer.tokens ++ json_tokens (outline (state_data l.state));
}
