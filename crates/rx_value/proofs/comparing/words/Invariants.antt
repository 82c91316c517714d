use Rattle.std.proofs.Common.{◌+◌, ◌-◌, ◌≤◌}
use Rattle.std.specs.Slice.Scan.{differ, HoldsNowhere}
use Rattle.rx_value.proofs.comparing.words.Given as goal

-- the bytes so far are the same
abbrev pub invariant-loop-at : goal.invariant-loop-at
invariant-loop-at l = record {
  same : HoldsNowhere (differ l.a l.b) 0 l.at;
  within : l.at ≤ l.last + 8;
}

abbrev pub decreases-loop-at : goal.decreases-loop-at
decreases-loop-at l = l.last - l.at
