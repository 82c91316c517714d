use Rattle.std.proofs.Common.{sym, subst}
use Rattle.rx_value.proofs.Outcomes.{if_ok}
use Rattle.rx_reply.specs.declared.given.Took.TheVariants as took
use Rattle.rx_script.specs.declared.delivery.Delivery.{Delivery}
use Rattle.rx_sync.specs.Delivery.{given_once, joined, one_delivered}
use Rattle.rx_world.specs.World.{World}
use Rattle.rx_engine.specs.Delivering.{IsDeliveredOn, MayGive, kept_as, noted_as}
use Rattle.rx_engine.proofs.EachEvent.{may_again, on_after}
use Rattle.rx_engine.proofs.Staging.{world_of}
use Rattle.rx_engine.proofs.delivering.Delivered.deliver.Goals as goal

-- it may be given again once it was
pub give-requires-in-Twice-2-clause-may : goal.give-requires-in-Twice-2-clause-may
give-requires-in-Twice-2-clause-may c =
    let w = c.args.self.play.playing.world in
    let name = c.args.wanted.now.name in
    let once = c.in_ok-once-in-Twice.once in
    let d = given_once name c.args.now c.args.number c.args.event w in
    subst (λ (v : World). MayGive v name c.args.event)
    (sym
    (world_of c.args.self.play once.play d.records c.in_ok-once-in-Twice.ensures.delivered.follows))
    (may_again w name c.args.now c.args.number c.args.event c.requires.may)

pub returns-in_ok-once-in-Twice-clause-delivered :
    goal.returns-in_ok-once-in-Twice-clause-delivered
returns-in_ok-once-in-Twice-clause-delivered c =
    let w = c.args.self.play.playing.world in
    let name = c.args.wanted.now.name in
    let e = c.args.event in
    let i = c.args.number in
    let once = c.in_ok-once-in-Twice.once in
    let d = given_once name c.args.now i e w in
    let on = c.in_ok-once-in-Twice.ensures.delivered in
    if_ok c.give-in-Twice-2.result
    (IsDeliveredOn (given_once name c.args.now i e once.play.playing.world) once)
    (IsDeliveredOn (one_delivered name c.args.now i c.args.delivery e w) c.args.self)
    c.give-in-Twice-2.ensures.delivered
    (λ q next.
    subst (λ (x : Delivery). IsDeliveredOn (one_delivered name c.args.now i x e w) c.args.self q)
    (sym c.in-Twice.is)
    (subst
    (λ (v : World). IsDeliveredOn (joined d (given_once name c.args.now i e v)) c.args.self q)
    (world_of c.args.self.play once.play d.records on.follows)
    (on_after d
    (given_once name c.args.now i e once.play.playing.world) c.args.self once q on next)))

pub returns-in_ok-noted-in-Later-clause-delivered :
    goal.returns-in_ok-noted-in-Later-clause-delivered
returns-in_ok-noted-in-Later-clause-delivered c =
    let w = c.args.self.play.playing.world in
    let name = c.args.wanted.now.name in
    let e = c.args.event in
    let i = c.args.number in
    let noted = c.in_ok-noted-in-Later.noted in
    if_ok c.keep.result (IsDeliveredOn (kept_as e) noted)
    (IsDeliveredOn (one_delivered name c.args.now i c.args.delivery e w) c.args.self)
    c.keep.ensures.delivered
    (λ q next.
    subst (λ (x : Delivery). IsDeliveredOn (one_delivered name c.args.now i x e w) c.args.self q)
    (sym c.in-Later.is)
    (on_after (noted_as i e took.Later) (kept_as e) c.args.self noted q
    c.in_ok-noted-in-Later.ensures.delivered next))
