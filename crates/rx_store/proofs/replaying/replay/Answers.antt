use Rattle.std.proofs.Common.{◌≡◌, ◌∙◌, [], ap, Some, rules}
use Rattle.rx_world.specs.Copy.{plain_world}
use Rattle.rx_world.specs.Holders.{world_in}
use Rattle.rx_world.proofs.Replays.{replay_from-nothing}
use Rattle.rx_store.specs.Phase.{world_to_come}
use Rattle.rx_store.specs.declared.phase.Phase.{Phase}
use Rattle.rx_store.specs.declared.phase.Phase.TheVariants.{Copying, Running}
use Rattle.rx_store.proofs.Phases.{copy_unended}
use Rattle.rx_store.proofs.replaying.replay.Goals as goal

pub returns-in-Running-clause-ok : goal.returns-in-Running-clause-ok
returns-in-Running-clause-ok g c = λ told lent.
    let run = c.in-Running.world in
    let is : c.in_ok-phase.field-0.phase ≡ Running run = search rules in
    let r = c.in_ok-phase.ensures.ok told lent in (
      r.0,
      r.1,
      r.2 ∙ ap (λ (p : Phase _). world_to_come g.H.Holder.held p []) is
          ∙ replay_from-nothing (Some (world_in g.H.Holder.held run)),
    )

pub returns-in-Running-clause-counted : goal.returns-in-Running-clause-counted
returns-in-Running-clause-counted g c = λ told.
    let run = c.in-Running.world in
    let is : c.in_ok-phase.field-0.phase ≡ Running run = search rules in
    let r = c.in_ok-phase.ensures.counted told in (
      r.0,
      r.1,
      record {
        plays = r.2.plays ∙ ap (λ (p : Phase _). world_to_come g.H.Holder.held p []) is
            ∙ replay_from-nothing (Some (world_in g.H.Holder.held run));
        counted = r.2.counted;
        sized = r.2.sized;
      },
    )

-- a copy without its end makes no world
pub returns-clause-not_journal : goal.returns-clause-not_journal
returns-clause-not_journal g c = λ told _ bodies will.
    let is : c.in_ok-phase.field-0.phase ≡ Copying c.in-Copying.field-0 = search rules in
    c.in_ok-phase.ensures.all told bodies will
    ∙ ap (λ (p : Phase _). world_to_come g.H.Holder.held p []) is
    ∙ copy_unended (plain_world c.in-Copying.field-0)
