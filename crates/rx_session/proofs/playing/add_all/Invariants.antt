use Rattle.std.proofs.Common.{◌≡◌, ◌++◌}
use Rattle.std.specs.Vec.Iter.{into_iter_items}
use Rattle.rx_session.proofs.playing.add_all.Given as goal

-- the emissions so far, and those to come
abbrev pub invariant-loop-emission : goal.invariant-loop-emission
invariant-loop-emission l =
    l.all.items ++ into_iter_items l.emission-iterator
    ≡ l.initial.all.items ++ into_iter_items l.initial.emission-iterator
