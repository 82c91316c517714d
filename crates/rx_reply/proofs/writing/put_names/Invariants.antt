use Rattle.std.proofs.Common.{◌≡◌, ◌++◌, drop}
use Rattle.json.specs.Tree.{json_tokens}
use Rattle.serde_json.specs.Data.{string}
use Rattle.serde_json.specs.Written.{outline}
use Rattle.rx_value.specs.Form.{texts}
use Rattle.rx_reply.specs.Writing.{list_data}
use Rattle.rx_reply.proofs.Tokens.{of_items}
use Rattle.rx_reply.proofs.writing.put_names.Given as goal

-- the tokens so far, before those that are left, are those that are due
abbrev pub invariant-loop-name : goal.invariant-loop-name
invariant-loop-name l = record {
  before : l.writer.before ≡ l.fn.writer.before;
  tokens : l.fn.writer.tokens ++ json_tokens (outline (list_data string (texts l.names)))
      ≡ l.writer.tokens ++ of_items string (texts (drop l.name-index l.names));
}
