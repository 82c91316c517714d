use Rattle.std.proofs.Common.{◌≡◌, ℕ, List, ◌++◌}
use Rattle.sha2.specs.Hashers.{Holds256}
use Rattle.rx_digest.specs.Digest.{states_text}
use Rattle.rx_digest.proofs.hash_states.Given as goal

-- the message so far, before the lines that are left, is the one that is due
abbrev pub invariant-loop-document : goal.invariant-loop-document
invariant-loop-document l =
    (m : List ℕ) × (Holds256 l.hasher m)
    × (m ++ states_text l.document-iterator ≡ states_text l.fn.documents)
    × (goal.iterator-loop-document).can_next l.document-iterator
    × (goal.iterator-loop-document).is_finite l.document-iterator
