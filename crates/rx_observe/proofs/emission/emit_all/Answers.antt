use Rattle.std.proofs.Common.{arith, set, sym, ◌∙◌, subst}
use Rattle.std.proofs.lemmas.List.{nil_from_length}
use Rattle.std.specs.Vec.Iter.{into_iter_items}
use Rattle.rx_observe.proofs.Places.{AreEmitted, place_within, unseen_at, emitted_at, all_emitted}
use Rattle.rx_observe.proofs.emission.emit_all.Goals as goal

pub index_mut-query-requires : goal.index_mut-query-requires
index_mut-query-requires c =
    let before = c.args.queries.now.items in
    let now = c.loop-place.queries.items in
    let rest = into_iter_items c.next.new.self in
    let within = place_within before now c.in-Some.place c.in-Some.rows rest
    (subst (AreEmitted before now) c.in-Some.ensures.steps.0 c.loop-place.invariant) in
    omega arith

pub emit-requires : goal.emit-requires
emit-requires c =
    let before = c.args.queries.now.items in
    let now = c.loop-place.queries.items in
    let rest = into_iter_items c.next.new.self in
    unseen_at before now c.in-Some.place c.in-Some.rows rest
    (subst (AreEmitted before now) c.in-Some.ensures.steps.0 c.loop-place.invariant)
    c.index_mut-query.result.now c.index_mut-query.ensures.value

pub loop-place-preserved : goal.loop-place-preserved
loop-place-preserved c =
    let before = c.args.queries.now.items in
    let now = c.loop-place.queries.items in
    let rest = into_iter_items c.next.new.self in
    let place = c.in-Some.place in
    let x = c.index_mut-query.result.now in
    subst (λ o. AreEmitted before (set now place (x.0, o)) rest) (sym c.emit.ensures)
    (emitted_at before now place c.in-Some.rows rest
    (subst (AreEmitted before now) c.in-Some.ensures.steps.0 c.loop-place.invariant) x
    c.index_mut-query.ensures.value)

pub returns : goal.returns
returns c =
    let before = c.args.queries.now.items in
    let now = c.loop-place.queries.items in
    let rest = c.loop-place.place-iterator.rest in
    let none = nil_from_length rest.items (sym rest.ok.0 ∙ c.in-None.ensures.steps.0) in
    all_emitted before now (subst (AreEmitted before now) none c.loop-place.invariant)
