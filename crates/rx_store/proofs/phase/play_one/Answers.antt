use Rattle.std.proofs.Common.{◌≡◌, ◌∙◌, ◌∷◌, ap, Option, None, IsErrOf, rules}
use Rattle.rx_outside.specs.declared.stop.Stop.TheVariants.{NotJournal}
use Rattle.rx_record.specs.Content.{record_of}
use Rattle.rx_world.specs.Holders.{world_in}
use Rattle.rx_world.specs.Replay.{after_body, replay_from}
use Rattle.rx_world.specs.World.{World}
use Rattle.rx_world.proofs.Replays.{replay_from-first, replay_from-none}
use Rattle.rx_store.specs.Phase.{world_to_come}
use Rattle.rx_store.specs.declared.phase.Phase.{Phase}
use Rattle.rx_store.proofs.phase.play_one.Goals as goal

pub returns-in_err-replay_one-in-Running-clause-not_journal :
    goal.returns-in_err-replay_one-in-Running-clause-not_journal
returns-in_err-replay_one-in-Running-clause-not_journal g c = λ refused more.
    let body = c.args.body.now in
    let w = world_in g.H.Holder.held c.in-Running.world in
    let none : IsErrOf c.from_residual.result NotJournal → after_body (record_of body) w ≡ None =
    search rules in
    ap (λ (p : Phase _). world_to_come g.H.Holder.held p (body ∷ more)) c.in-Running.is
    ∙ replay_from-first w body more
    ∙ ap (λ (o : Option World). replay_from o more) (none refused) ∙ replay_from-none more

pub returns-in_ok-replay_one-in-Running-clause-ok :
    goal.returns-in_ok-replay_one-in-Running-clause-ok
returns-in_ok-replay_one-in-Running-clause-ok g c = λ more.
    let body = c.args.body.now in
    let w = world_in g.H.Holder.held c.in-Running.world in
    ap (λ (p : Phase _). world_to_come g.H.Holder.held p (body ∷ more)) c.in-Running.is
    ∙ replay_from-first w body more
    ∙ ap (λ (o : Option World). replay_from o more) c.in_ok-replay_one-in-Running.ensures.ok
