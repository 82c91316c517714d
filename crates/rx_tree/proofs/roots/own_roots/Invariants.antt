use Rattle.std.proofs.Common.{◌≡◌, ℕ, ◌<◌, length, get_or}
use Rattle.rx_tree.specs.Table.{most_collections}
use Rattle.rx_tree.proofs.roots.own_roots.Given as goal

-- those so far are at their own places
abbrev pub invariant-loop-i : goal.invariant-loop-i
invariant-loop-i l = record {
  whole : length l.roots ≡ most_collections;
  each : (n : ℕ) → n < l.i → get_or l.roots n 0 ≡ n;
}
