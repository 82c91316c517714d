use Rattle.std.proofs.Common.{◌≡◌, drop}
use Rattle.std.specs.Map.{keys_of}
use Rattle.rx_handler.specs.Resolve.{joined, joined_at}
use Rattle.rx_handler.proofs.resolve.joined.Given as goal

-- the names to come
abbrev pub invariant-loop-i : goal.invariant-loop-i
invariant-loop-i l = joined_at l.new (drop l.i (keys_of l.new)) l.fields ≡ joined l.real l.new
