use Rattle.std.proofs.Common.{arith}
use Rattle.rx_index.proofs.Ids.{key_long, walk_stops, walk_cuts}
use Rattle.rx_index.proofs.packed.id_bytes.Goals as goal

pub overflow_sub-end : goal.overflow_sub-end
overflow_sub-end c =
    let long = key_long c.args.key.now c.requires in
    omega arith

pub walk-init : goal.walk-init
walk-init c =
    let long = key_long c.args.key.now c.requires in
    record { within = omega arith; high = λ i from to. absurd (omega arith) }

pub returns-then-key-start-lt-RAISE : goal.returns-then-key-start-lt-RAISE
returns-then-key-start-lt-RAISE c =
    walk_cuts c.args.key.now c.requires c.walk.start c.walk.invariant.within
    c.if-key-start-lt-RAISE.true c.walk.invariant.high

pub unreachable-requires : goal.unreachable-requires
unreachable-requires c =
    let some = walk_stops c.args.key.now c.requires c.walk.start c.walk.invariant.high in
    omega (arith, some)
