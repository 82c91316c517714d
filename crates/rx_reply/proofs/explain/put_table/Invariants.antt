use Rattle.std.proofs.Common.{◌≡◌, ◌++◌, drop}
use Rattle.json.specs.Tree.{json_tokens}
use Rattle.serde_json.specs.Data.{object}
use Rattle.serde_json.specs.Written.{outline}
use Rattle.rx_reply.specs.Explain.{actions_by_name, counted_members}
use Rattle.rx_reply.proofs.Tokens.{of_members}
use Rattle.rx_reply.proofs.explain.put_table.Given as goal

-- the tokens so far, before those that are left, are those that are due
abbrev pub invariant-loop-name : goal.invariant-loop-name
invariant-loop-name l = record {
  before : l.writer.before ≡ l.fn.writer.before;
  tokens : l.fn.writer.tokens
      ++ json_tokens (outline (object (counted_members l.counts (actions_by_name l.table))))
      ≡ l.writer.tokens
      ++ of_members (counted_members l.counts (actions_by_name (drop l.name-index l.table)));
}
