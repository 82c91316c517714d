use Rattle.std.proofs.Common.{ap, option_map}
use Rattle.rx_world.proofs.Deciding.{decides_some}
use Rattle.rx_world.proofs.soundness.is_sound_side.Goals as goal

pub returns-then-reaches : goal.returns-then-reaches
returns-then-reaches c =
    decides_some c.args.collection.now.documents c.args.side.now.known c.in-Some.place.now
    (option_map (λ p. p.now) c.args.checkpoint) c.are_known_up_to.result
    (ap (option_map (λ p. p.now)) c.in-Some.is)
    (c.holds_known.ensures.0 c.if-not-holds_known.false) (c.reaches.ensures.0 c.if-reaches.true)
    c.are_known_up_to.ensures
