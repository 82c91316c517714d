use Rattle.std.proofs.Common.{◌≡◌, ◌++◌, drop}
use Rattle.rx_value.specs.Writing.{pairs_tokens}
use Rattle.rx_value.proofs.writing.put_pairs.Given as goal

-- the tokens so far, before those that are left, are those that are due
abbrev pub invariant-loop-name : goal.invariant-loop-name
invariant-loop-name l = record {
  before : l.writer.before ≡ l.fn.writer.before;
  tokens : l.fn.writer.tokens ++ pairs_tokens l.pairs
      ≡ l.writer.tokens ++ pairs_tokens (drop l.name-index l.pairs);
}
