use Rattle.std.proofs.Common.{◌≡◌, ◌++◌, drop}
use Rattle.json.specs.Tree.{json_tokens}
use Rattle.serde_json.specs.Written.{outline}
use Rattle.rx_value.specs.State.{state_data}
use Rattle.rx_reply.specs.Answer.{states_of}
use Rattle.rx_reply.specs.Writing.{list_data}
use Rattle.rx_reply.proofs.Tokens.{of_items}
use Rattle.rx_reply.proofs.writing.put_states.Given as goal

-- the tokens so far, before those that are left, are those that are due
abbrev pub invariant-loop-document : goal.invariant-loop-document
invariant-loop-document l = record {
  before : l.writer.before ≡ l.fn.writer.before;
  tokens : l.fn.writer.tokens
      ++ json_tokens (outline (list_data state_data (states_of l.documents)))
      ≡ l.writer.tokens ++ of_items state_data (states_of (drop l.document-index l.documents));
}
