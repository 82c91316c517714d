use Rattle.std.proofs.Common.{◌≡◌, ◌≤◌, ◌-◌, take, vec_len, vec_capacity}
use Rattle.rx_journal.proofs.window.fill_up.Given as goal

abbrev pub invariant-loop-bytes : goal.invariant-loop-bytes
invariant-loop-bytes l = record {
  capacity : vec_capacity l.bytes ≡ vec_capacity l.initial.bytes;
  longer : vec_len l.initial.bytes ≤ vec_len l.bytes;
  kept : take (vec_len l.initial.bytes) l.bytes.items ≡ l.initial.bytes.items;
}

abbrev pub decreases-loop-bytes : goal.decreases-loop-bytes
decreases-loop-bytes l = vec_capacity l.bytes - vec_len l.bytes
