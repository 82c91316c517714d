use Rattle.std.proofs.Common.{◌∙◌, List, ℕ, refl, ap, sym, subst}
use Rattle.rx_value.proofs.Outcomes.{if_ok}
use Rattle.rx_session.specs.Doing.{with_emptied, with_kept}
use Rattle.rx_session.specs.Emissions.{emissions, settled_session}
use Rattle.rx_session.specs.Session.{Session}
use Rattle.rx_store.proofs.Stops.{memory_stop}
use Rattle.rx_sync.specs.Delivery.{is_level, is_resync}
use Rattle.rx_world.specs.World.{World}
use Rattle.rx_engine.specs.Delivering.{MayEnd}
use Rattle.rx_engine.specs.Engine.{asks_in, session_of, standing_of}
use Rattle.rx_engine.specs.Shown.{deliver_of}
use Rattle.rx_engine.specs.Streams.{delivered_by}
use Rattle.rx_engine.proofs.AfterDeliveries.{begun_may, begun_none, follows, given_is, last_is, may_end, world_then}
use Rattle.rx_engine.proofs.Committing.{none_committed, play_may_commit}
use Rattle.rx_engine.proofs.engine.Engine.make_delivery.Goals as goal

pub deliver_all-requires-clause-may : goal.deliver_all-requires-clause-may
unfolding session_of
deliver_all-requires-clause-may g c =
    let b = c.begin_delivery-begun in
    begun_may (deliver_of c.args.wanted.now) c.args.self b.result b.ensures.begun b.ensures.good
    c.requires.open

pub deliver_all-requires-clause-none : goal.deliver_all-requires-clause-none
deliver_all-requires-clause-none g c =
    let b = c.begin_delivery-begun in
    begun_none (deliver_of c.args.wanted.now) c.args.self b.result b.ensures.begun

pub returns-in_err-made-clause-commits : goal.returns-in_err-made-clause-commits
returns-in_err-made-clause-commits g c =
    none_committed g.D.Disk c.args.disk.now c.args.self
    (λ told left e. g.met.D.Disk.only_now c.args.disk.now left told e) _ _ c.from_residual.result
    (memory_stop c.from_residual.result c.from_residual.ensures.1)

pub end-requires-clause-at : goal.end-requires-clause-at
unfolding session_of
end-requires-clause-at g c told =
    let d = deliver_of c.args.wanted.now in
    let s = c.args.self.session.session in
    let b = c.begin_delivery-begun in
    let at = c.requires.at told in
    play_may_commit g.D.Disk c.args.disk.now c.args.disk.now c.args.self (delivered_by d s).records
    (with_emptied d.name s) refl c.in_ok-made.made.play
    (follows d c.args.self b.result b.ensures.begun c.in_ok-made.made
    c.in_ok-made.ensures.delivered) at.0 at.1

pub end-requires-clause-may : goal.end-requires-clause-may
unfolding session_of
end-requires-clause-may g c =
    let b = c.begin_delivery-begun in
    subst (λ (n : List ℕ). MayEnd n c.in_ok-made.made b.result.aside.remembered)
    (sym c.as_str.ensures)
    (may_end (deliver_of c.args.wanted.now) c.args.self b.result b.ensures.begun c.in_ok-made.made
    c.in_ok-made.ensures.delivered b.ensures.good c.requires.open c.in_ok-made.ensures.none)

pub returns-clause-commits : goal.returns-clause-commits
unfolding session_of
returns-clause-commits g c =
    let d = deliver_of c.args.wanted.now in
    let s = c.args.self.session.session in
    let b = c.begin_delivery-begun in
    c.end.ensures.commits c.args.self (with_emptied d.name s) (delivered_by d s).records refl
    (follows d c.args.self b.result b.ensures.begun c.in_ok-made.made
    c.in_ok-made.ensures.delivered)

pub returns-clause-delivered : goal.returns-clause-delivered
unfolding session_of asks_in standing_of
returns-clause-delivered g c =
    let d = deliver_of c.args.wanted.now in
    let e = c.args.self in
    let s = e.session.session in
    let b = c.begin_delivery-begun in
    let begun = b.ensures.begun in
    let m = c.in_ok-made.made in
    let was = c.in_ok-made.ensures.delivered in
    let name = c.as_str.ensures in
    let last = last_is d e b.result begun m was in
    λ kinds heard. if_ok c.end.result _ _ c.end.ensures.ended (λ after ended. record {
      session = ended.session
          ∙ ap (λ (n : List ℕ). settled_session (with_kept n m.kept.items m.play.playing)) name
          ∙ ap (λ (x : Session). settled_session x) last;
      asks = ended.asks ∙ b.ensures.good.asks;
      due = ended.due
          ∙ ap (λ (n : List ℕ). emissions (with_kept n m.kept.items m.play.playing)) name
          ∙ ap (λ (x : Session). emissions x) last;
      given = ended.given ∙ given_is d e b.result begun m was;
      level = ended.level ∙ ap (is_level m.play.playing.world) name
          ∙ ap (λ (w : World). is_level w d.name) (world_then d e b.result begun m was);
      resync = ended.resync ∙ ap (is_resync b.result.aside.lost) (given_is d e b.result begun m was)
          ∙ ap (λ x. is_resync x (delivered_by d s).given) begun.lost;
    })
