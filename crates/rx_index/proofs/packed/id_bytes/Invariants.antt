use Rattle.std.proofs.Common.{ℕ, ◌+◌, ◌<◌, ◌≤◌, length, get_or}
use Rattle.rx_index.proofs.packed.id_bytes.Given as goal

-- the bytes from there to the end are high
abbrev pub invariant-walk : goal.invariant-walk
invariant-walk l = record {
  within : l.start + 1 ≤ length l.key;
  high : (i : ℕ) → l.start ≤ i → i + 1 < length l.key → 11 ≤ get_or l.key i 0;
}

abbrev pub decreases-walk : goal.decreases-walk
decreases-walk l = l.start
