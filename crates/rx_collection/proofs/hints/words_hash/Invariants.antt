use Rattle.std.proofs.Common.{◌≡◌, drop}
use Rattle.rx_collection.specs.Hints.{words_hash}
use Rattle.rx_collection.proofs.hints.words_hash.Given as goal

-- with the words to come it gives what all give
abbrev pub invariant-loop-word : goal.invariant-loop-word
invariant-loop-word l = words_hash l.hash (drop l.word-index l.words) ≡ words_hash l.first l.words
