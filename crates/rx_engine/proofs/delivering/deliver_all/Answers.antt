use Rattle.std.proofs.Common.{◌≡◌, ◌∙◌, List, [], refl, ap, sym, subst, arith, rules}
use Rattle.std.proofs.lemmas.List.{nil_from_length}
use Rattle.std.specs.Vec.Iter.{into_iter_items}
use Rattle.rx_stream.specs.declared.event.Event.{Event}
use Rattle.rx_engine.specs.Delivering.{delivery_at}
use Rattle.rx_engine.specs.declared.delivering.Delivered.{Delivered as Made}
use Rattle.rx_engine.proofs.EachEvent.{IsDelivering, all_delivered, begun, may_give, next_delivered}
use Rattle.rx_engine.proofs.delivering.deliver_all.Goals as goal
use Rattle.rx_engine.proofs.delivering.deliver_all.Goals.{else-loop-i-test, then-loop-i-test+in-None}

pub loop-i-init : goal.loop-i-init
loop-i-init c =
    let same : c.args.events.items ≡ into_iter_items c.into_iter-coming.result = search rules in
    let name = c.args.wanted.now.name in
    let ls = c.args.wanted.now.link.items in
    let made : Made =
    record {
      play = c.args.first;
      given = c.new.result;
      kept = c.new-2.result;
      none = c.args.none;
    } in
    record {
      on = subst (λ (rest : List Event). IsDelivering name c.args.now ls c.args.events.items
          c.args.first 0 rest made) same
          (begun name c.args.now ls c.args.events.items c.args.first c.requires.may made refl
          c.new.ensures c.new-2.ensures.items);
      none = c.requires.none;
    }

pub deliver-requires-clause-may : goal.deliver-requires-clause-may
deliver-requires-clause-may c =
    let name = c.args.wanted.now.name in
    let on = subst (λ (rest : List Event). IsDelivering name c.args.now c.args.wanted.now.link.items
    c.args.events.items c.args.first c.loop-i.i rest c.loop-i.made) c.in-Some.ensures.items
    c.loop-i.invariant.on in
    may_give c.loop-i.made.play.playing.world name c.in-Some.event (into_iter_items c.next.new.self)
    on.may

pub loop-i-preserved : goal.loop-i-preserved
loop-i-preserved c =
    let name = c.args.wanted.now.name in
    let ls = c.args.wanted.now.link.items in
    let es = c.args.events.items in
    let on =
    subst (λ (rest : List Event). IsDelivering name c.args.now ls es c.args.first c.loop-i.i
    rest c.loop-i.made) c.in-Some.ensures.items c.loop-i.invariant.on in
    record {
      on = next_delivered name c.args.now ls es c.args.first c.loop-i.i c.in-Some.event
          (into_iter_items c.next.new.self) c.loop-i.made c.in_ok-made-in-Some.made on
          c.delivery_at-delivery.result
          (c.delivery_at-delivery.ensures ∙ ap (delivery_at c.loop-i.i) c.as_slice.ensures.value)
          c.in_ok-made-in-Some.ensures.delivered;
      none = c.in_ok-made-in-Some.ensures.none;
    }

-- none is left where all were counted, and where none comes
pub returns-clause-delivered : goal.returns-clause-delivered
returns-clause-delivered c =
    let name = c.args.wanted.now.name in
    let ls = c.args.wanted.now.link.items in
    let es = c.args.events.items in
    let on = c.loop-i.invariant.on in
    let none : into_iter_items c.loop-i.coming ≡ [] =
    elim c.loop-i-test.branch [
      | else-loop-i-test w ↦
          (let left = on.left in
          let past = w.loop-i-test.false in
          let count = c.len-count.ensures in
          let all = c.args.events.ok.0 in
          nil_from_length _ (omega (arith, left, past, count, all)))
      | then-loop-i-test+in-None w ↦
          nil_from_length _ (sym c.loop-i.coming.rest.ok.0 ∙ w.in-None.ensures.cases.0)
    ] in
    all_delivered name c.args.now ls es c.args.first c.loop-i.i c.loop-i.made
    (subst (λ (rest : List Event). IsDelivering name c.args.now ls es c.args.first c.loop-i.i rest
    c.loop-i.made) none on)
