use Rattle.std.proofs.Common.{◌≡◌, ◌∙◌, ◌||◌, List, ℕ, Some, Bool, true, true≢false, refl, ap, sym, subst}
use Rattle.rx_session.specs.Placed.{world_of as seen_world}
use Rattle.rx_sync.specs.Asking.{pending_in}
use Rattle.rx_sync.specs.Delivery.{given_once}
use Rattle.rx_sync.specs.Events.{IsGoodEventIn, event_taken}
use Rattle.rx_sync.specs.Exchange.{world_after}
use Rattle.rx_sync.specs.Laws.{HasMasterHere}
use Rattle.rx_sync.specs.Shown.{giving_of, record_in}
use Rattle.rx_world.specs.Sound.{IsSoundWorld}
use Rattle.rx_world.specs.World.{World}
use Rattle.rx_engine.proofs.EachEvent.{given_on, is_taken, none_given}
use Rattle.rx_engine.proofs.Staging.{world_of}
use Rattle.rx_engine.proofs.delivering.Delivered.give.Goals as goal
use Rattle.rx_engine.proofs.delivering.Delivered.give.Goals.{then-none, else-none+in-Taken, else-none+in_default}

pub give-requires-clause-master : goal.give-requires-clause-master
give-requires-clause-master c =
    subst (λ (w : World). HasMasterHere w c.as_str-name.result.now) (sym c.world.ensures)
    (subst (HasMasterHere c.args.self.play.playing.world) (sym c.as_str-name.ensures)
    c.requires.may.here)

pub give-requires-clause-sound : goal.give-requires-clause-sound
give-requires-clause-sound c = subst IsSoundWorld (sym c.world.ensures) c.requires.may.sound

pub give-requires-clause-none : goal.give-requires-clause-none
give-requires-clause-none c is =
    subst (λ (w : World). pending_in w c.as_str-name.result.now ≡ Some 0) (sym c.world.ensures)
    (subst (λ (n : List ℕ). pending_in c.args.self.play.playing.world n ≡ Some 0)
    (sym c.as_str-name.ensures) (c.requires.none is))

pub give-requires-clause-good : goal.give-requires-clause-good
give-requires-clause-good c =
    subst (λ (w : World). IsGoodEventIn w c.as_str-name.result.now c.args.event.now)
    (sym c.world.ensures)
    (subst (λ (n : List ℕ). IsGoodEventIn c.args.self.play.playing.world n c.args.event.now)
    (sym c.as_str-name.ensures) c.requires.may.good.0)

pub returns-clause-delivered : goal.returns-clause-delivered
returns-clause-delivered c =
    let w = c.args.self.play.playing.world in
    let g = c.in_ok-written.field-0 in
    let is : given_once c.args.wanted.now.name c.args.now c.args.number c.args.event.now w
    ≡ giving_of g =
    ap (λ (n : List ℕ). given_once n c.args.now c.args.number c.args.event.now w)
    (sym c.as_str-name.ensures)
    ∙ ap (given_once c.as_str-name.result.now c.args.now c.args.number c.args.event.now)
    (sym c.world.ensures) ∙ c.in_ok-written.ensures.exact in
    given_on _ g c.args.self _ is c.in_ok-play.ensures c.in_ok-push.ensures.ok refl

-- nothing is to be pushed where nothing was, or where it was taken
pub returns-clause-none : goal.returns-clause-none
returns-clause-none c told =
    let w = c.args.self.play.playing.world in
    let name = c.args.wanted.now.name in
    let e = c.args.event.now in
    let g = c.in_ok-written.field-0 in
    let is : given_once name c.args.now c.args.number e w ≡ giving_of g =
    ap (λ (n : List ℕ). given_once n c.args.now c.args.number e w) (sym c.as_str-name.ensures)
    ∙ ap (given_once c.as_str-name.result.now c.args.now c.args.number e) (sym c.world.ensures)
    ∙ c.in_ok-written.ensures.exact in
    let taken : (c.args.self.none || is_taken g.given.took) ≡ true =
    elim c.if-none.branch [
      | then-none x ↦ ap (λ (b : Bool). b || is_taken g.given.took) x.if-none.true
      | else-none+in-Taken x ↦ ap (λ (b : Bool). b || is_taken g.given.took) x.if-none.false
          ∙ ap is_taken x.in-Taken.is
      | else-none+in_default x ↦ absurd (true≢false (sym told ∙ x.none-is))
    ] in
    subst (λ (v : World). pending_in v name ≡ Some 0)
    (sym (world_of c.args.self.play c.in_ok-play.play (record_in g.written) c.in_ok-play.ensures))
    (none_given w name c.args.number e c.args.self.none g (event_taken w name e c.args.now) is
    c.requires.none
    (λ so. subst (λ (v : World). pending_in (world_after (record_in g.written) v) name ≡ Some 0)
    c.world.ensures
    (subst (λ (n : List ℕ).
    pending_in (world_after (record_in g.written) (seen_world c.world.result.now)) n
    ≡ Some 0) c.as_str-name.ensures (c.in_ok-written.ensures.settled so)))
    taken)
