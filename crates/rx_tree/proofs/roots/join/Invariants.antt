use Rattle.std.proofs.Common.{◌≡◌, ℕ, ◌<◌, ◌≤◌, cond, get_or}
use Rattle.std.specs.Prelude.{◌==◌}
use Rattle.rx_tree.proofs.roots.join.Given as goal

-- those so far are joined, and the others are as they were
abbrev pub invariant-loop-root : goal.invariant-loop-root
invariant-loop-root l = record {
  joined : (n : ℕ) → n < l.root-index → get_or l.roots n 0
      ≡ cond (get_or l.initial.roots n 0 == l.under) l.top (get_or l.initial.roots n 0);
  left : (n : ℕ) → l.root-index ≤ n → get_or l.roots n 0 ≡ get_or l.initial.roots n 0;
}
