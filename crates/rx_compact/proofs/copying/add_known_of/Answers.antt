use Rattle.std.proofs.Common.{◌≡◌, ◌∙◌, ◌∷◌, ◌++◌, List, [], true, false, is_some, ap, sym, subst, map, Ok}
use Rattle.rx_record.specs.Content.{Content}
use Rattle.rx_store.proofs.Stops.{handed_on, memory_stop}
use Rattle.rx_value.specs.declared.state.State.{State}
use Rattle.rx_compact.specs.Plan.{in_parts, known_by, known_record, known_records}
use Rattle.rx_compact.specs.Writing.{Adds}
use Rattle.rx_compact.proofs.Adding.{adds_memory, adds_none, adds_stopped, adds_then}
use Rattle.rx_compact.proofs.Left.{first_passed, known_next, known_none, known_rise, second_passed, shown_some, states_left, states_taken, vec_none, vec_some}
use Rattle.rx_compact.proofs.copying.add_known_of.Goals as goal
use Rattle.rx_compact.proofs.copying.add_known_of.Goals.{else-is_empty-via-then-is_empty+then-is_none+else-is_none-2, else-is_empty-via-then-is_empty+else-is_none, else-is_empty-via-else-is_empty}

pub returns-in_err-states : goal.returns-in_err-states
returns-in_err-states g c =
    adds_memory g.D.Disk c.args.disk.now c.args.disk.now c.args.copy c.args.copy []
    (known_records c.args.replication.now) c.from_residual.result
    (memory_stop c.from_residual.result c.from_residual.ensures.1)
    (adds_none g.D.Disk c.args.disk.now c.args.copy)

pub returns-then-is_none-2 : goal.returns-then-is_none-2
returns-then-is_none-2 g c =
    let r = c.args.replication.now in
    subst (λ (l : List Content). Adds g.D.Disk c.args.disk.now c.args.disk.now c.args.copy l
    (Ok c.args.copy))
    (sym (ap (λ (l : List State). known_by r (in_parts l)) (sym c.all-known.ensures.states)
    ∙ known_none r c.all-known.result c.in_ok-states.states.items c.in_ok-states.ensures.states
    (vec_none c.in_ok-states.states (sym c.is_empty.ensures ∙ c.if-is_empty.true))
    (shown_some _ c.up.result r.side.up false c.up.ensures c.if-is_none.ensures)
    (shown_some _ c.down.result r.side.down false c.down.ensures c.if-is_none-2.ensures)))
    (adds_none g.D.Disk c.args.disk.now c.args.copy)

pub add_states-requires-clause-rising : goal.add_states-requires-clause-rising
add_states-requires-clause-rising g c =
    states_taken c.all-known.result c.in_ok-states.states.items c.in_ok-states.ensures.states
    (known_rise c.args.replication.now.side.known c.all-known.result c.all-known.ensures.states
    c.all-known.ensures.lawful)

pub add_known_left-requires-clause-rising : goal.add_known_left-requires-clause-rising
add_known_left-requires-clause-rising g c =
    states_left c.all-known.result c.next_states.new.known c.in_ok-states.ensures.left
    (known_rise c.args.replication.now.side.known c.all-known.result c.all-known.ensures.states
    c.all-known.ensures.lawful)

pub add_known_left-requires-clause-going : goal.add_known_left-requires-clause-going
add_known_left-requires-clause-going g c = λ told.
    let had = c.requires.going told in (
      had.0,
      had.1 ++ known_record c.args.replication.now c.in_ok-states.states.items ∷ [],
      c.in_ok-copy.ensures.written told had.0 had.1 had.2,
    )

pub returns-in_err-copy : goal.returns-in_err-copy
returns-in_err-copy g c =
    let r = c.args.replication.now in
    let first : List Content = known_record r c.in_ok-states.states.items ∷ [] in
    let left : List Content = map (known_record r) (in_parts c.next_states.new.known) in
    let split : known_records r ≡ first ++ left =
    ap (λ (l : List State). known_by r (in_parts l)) (sym c.all-known.ensures.states)
    ∙ known_next r c.all-known.result c.next_states.new.known c.in_ok-states.states.items
    c.in_ok-states.ensures.states c.in_ok-states.ensures.left
    (elim c.else-is_empty.branch [
      | else-is_empty-via-then-is_empty+then-is_none+else-is_none-2 w ↦
          λ none. second_passed (is_some r.side.up) (is_some r.side.down)
          (shown_some _ w.down.result r.side.down true w.down.ensures w.if-is_none-2.ensures)
      | else-is_empty-via-then-is_empty+else-is_none w ↦
          λ none. first_passed (is_some r.side.up) (is_some r.side.down)
          (shown_some _ w.up.result r.side.up true w.up.ensures w.if-is_none.ensures)
      | else-is_empty-via-else-is_empty w ↦
          λ none. absurd (vec_some c.in_ok-states.states
          (sym c.is_empty.ensures ∙ w.if-is_empty.false) none)
    ]) in
    subst (λ (l : List Content). Adds g.D.Disk c.args.disk.now c.add_states.new.disk c.args.copy l
    c.from_residual-in_err-copy.result) (sym split)
    (adds_stopped g.D.Disk c.args.disk.now c.add_states.new.disk c.args.copy first left
    c.from_residual-in_err-copy.result c.in_err-copy.field-0.0
    (handed_on c.from_residual-in_err-copy.result c.in_err-copy.field-0.0
    c.from_residual-in_err-copy.ensures.1)
    c.in_err-copy.ensures)

pub returns : goal.returns
returns g c =
    let r = c.args.replication.now in
    let first : List Content = known_record r c.in_ok-states.states.items ∷ [] in
    let left : List Content = map (known_record r) (in_parts c.next_states.new.known) in
    let split : known_records r ≡ first ++ left =
    ap (λ (l : List State). known_by r (in_parts l)) (sym c.all-known.ensures.states)
    ∙ known_next r c.all-known.result c.next_states.new.known c.in_ok-states.states.items
    c.in_ok-states.ensures.states c.in_ok-states.ensures.left
    (elim c.else-is_empty.branch [
      | else-is_empty-via-then-is_empty+then-is_none+else-is_none-2 w ↦
          λ none. second_passed (is_some r.side.up) (is_some r.side.down)
          (shown_some _ w.down.result r.side.down true w.down.ensures w.if-is_none-2.ensures)
      | else-is_empty-via-then-is_empty+else-is_none w ↦
          λ none. first_passed (is_some r.side.up) (is_some r.side.down)
          (shown_some _ w.up.result r.side.up true w.up.ensures w.if-is_none.ensures)
      | else-is_empty-via-else-is_empty w ↦
          λ none. absurd (vec_some c.in_ok-states.states
          (sym c.is_empty.ensures ∙ w.if-is_empty.false) none)
    ]) in
    subst (λ (l : List Content). Adds g.D.Disk c.args.disk.now c.add_known_left.new.disk c.args.copy
    l c.add_known_left.result) (sym split)
    (adds_then g.D.Disk c.args.disk.now c.add_states.new.disk c.add_known_left.new.disk c.args.copy
    c.in_ok-copy.copy first left c.add_known_left.result c.in_ok-copy.ensures
    c.add_known_left.ensures)
