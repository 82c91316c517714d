use Rattle.std.proofs.Common.{◌≡◌, ◌++◌, drop}
use Rattle.std.specs.List.{AllByRecursion}
use Rattle.json.specs.Tree.{json_tokens, items_tokens}
use Rattle.serde_json.specs.Data.{array}
use Rattle.serde_json.specs.Written.{outline, items_outline}
use Rattle.rx_wire.specs.Printing.{HasFields}
use Rattle.rx_wire.specs.Writing.{states_items}
use Rattle.rx_wire.proofs.state_printing.put_states.Given as goal

-- the tokens so far, before those of the states that are left, are those that are due
abbrev pub invariant-loop-state : goal.invariant-loop-state
invariant-loop-state l = record {
  before : l.writer.before ≡ l.fn.writer.before;
  tokens : l.writer.tokens
      ++ items_tokens (items_outline (states_items (drop l.state-index l.states)))
      ≡ l.fn.writer.tokens ++ json_tokens (outline (array (states_items l.states)));
  fields : AllByRecursion HasFields (drop l.state-index l.states)
      → AllByRecursion HasFields l.states;
}
