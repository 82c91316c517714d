use Rattle.std.proofs.Common.{◌∙◌, ◌∷◌, [], ap, sym, map}
use Rattle.rx_store.proofs.Stops.{handed_on, memory_stop}
use Rattle.rx_compact.specs.Plan.{in_parts, known_record}
use Rattle.rx_compact.proofs.Left.{part_end, part_less, part_next, part_some, states_left, states_taken, vec_none, vec_some}
use Rattle.rx_compact.proofs.Ongoing.{all_added, nothing_yet, some_more, starved, still_going, stopped}
use Rattle.rx_compact.proofs.copying.add_known_left.Goals as goal

pub loop-copy-init : goal.loop-copy-init
loop-copy-init g c = (
  nothing_yet g.D.Disk c.args.disk.now c.args.copy
      (map (known_record c.args.replication.now) (in_parts c.args.known.now)),
  c.requires.rising,
)

pub returns-in_err-states : goal.returns-in_err-states
returns-in_err-states g c =
    starved g.D.Disk c.args.disk.now c.args.copy _ c.loop-copy.disk c.loop-copy.copy _
    c.from_residual.result
    (memory_stop c.from_residual.result c.from_residual.ensures.1)
    c.loop-copy.invariant.0

pub returns-then-is_empty : goal.returns-then-is_empty
returns-then-is_empty g c =
    all_added g.D.Disk c.args.disk.now c.args.copy _ c.loop-copy.disk c.loop-copy.copy _
    (ap (map (known_record c.args.replication.now))
    (part_end c.loop-copy.known c.in_ok-states.states.items c.in_ok-states.ensures.states
    (vec_none c.in_ok-states.states (sym c.is_empty.ensures ∙ c.if-is_empty.true))))
    c.loop-copy.invariant.0

pub add_states-requires-clause-going : goal.add_states-requires-clause-going
add_states-requires-clause-going g c =
    still_going g.D.Disk c.args.disk.now c.args.copy _ c.loop-copy.disk c.loop-copy.copy _
    c.loop-copy.invariant.0 c.requires.going

pub add_states-requires-clause-rising : goal.add_states-requires-clause-rising
add_states-requires-clause-rising g c =
    states_taken c.loop-copy.known c.in_ok-states.states.items c.in_ok-states.ensures.states
    c.loop-copy.invariant.1

pub returns-in_err-copy : goal.returns-in_err-copy
returns-in_err-copy g c =
    stopped g.D.Disk c.args.disk.now c.args.copy _ c.loop-copy.disk c.add_states.new.disk
    c.loop-copy.copy _ (known_record c.args.replication.now c.in_ok-states.states.items ∷ []) _
    c.from_residual-in_err-copy.result c.in_err-copy.field-0.0
    (handed_on c.from_residual-in_err-copy.result c.in_err-copy.field-0.0
    c.from_residual-in_err-copy.ensures.1)
    (ap (map (known_record c.args.replication.now))
    (part_next c.loop-copy.known c.next_states.new.known c.in_ok-states.states.items
    c.in_ok-states.ensures.states c.in_ok-states.ensures.left
    (vec_some c.in_ok-states.states (sym c.is_empty.ensures ∙ c.if-is_empty.false))))
    c.loop-copy.invariant.0 c.in_err-copy.ensures

pub loop-copy-smaller : goal.loop-copy-smaller
loop-copy-smaller g c =
    part_less c.loop-copy.known c.next_states.new.known c.in_ok-states.ensures.left
    (part_some c.loop-copy.known c.in_ok-states.states.items c.in_ok-states.ensures.states
    (vec_some c.in_ok-states.states (sym c.is_empty.ensures ∙ c.if-is_empty.false)))

pub loop-copy-preserved : goal.loop-copy-preserved
loop-copy-preserved g c = (
  some_more g.D.Disk c.args.disk.now c.args.copy _ c.loop-copy.disk c.add_states.new.disk
      c.loop-copy.copy c.in_ok-copy.copy _
      (known_record c.args.replication.now c.in_ok-states.states.items ∷ []) _
      (ap (map (known_record c.args.replication.now))
      (part_next c.loop-copy.known c.next_states.new.known c.in_ok-states.states.items
      c.in_ok-states.ensures.states c.in_ok-states.ensures.left
      (vec_some c.in_ok-states.states (sym c.is_empty.ensures ∙ c.if-is_empty.false))))
      c.loop-copy.invariant.0 c.in_ok-copy.ensures,
  states_left c.loop-copy.known c.next_states.new.known c.in_ok-states.ensures.left
      c.loop-copy.invariant.1,
)
