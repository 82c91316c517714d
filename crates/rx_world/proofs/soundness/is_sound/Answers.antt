use Rattle.std.proofs.Common.{sym, ◌∙◌, refl, true≢false}
use Rattle.std.specs.Map.{values_of}
use Rattle.rx_value.specs.Named.{by_name}
use Rattle.rx_world.specs.Sound.{IsSoundIn}
use Rattle.rx_world.proofs.Deciding.{all_by_bytes, turn_ended, turn_not, turn_sound}
use Rattle.rx_world.proofs.soundness.is_sound.Goals as goal

pub returns-then-not-is_sound_in : goal.returns-then-not-is_sound_in
returns-then-not-is_sound_in g c =
    let P = IsSoundIn (by_name g.H.Holder.held c.args.parts.now.holders.entries) in
    let es = c.args.parts.now.replications.entries in (
      λ no. absurd (true≢false (sym no)),
      λ all. absurd (turn_not P c.loop-replication.replication-iterator
          (values_of es) c.in-Some.replication.now
          c.next.new.self c.in-Some.ensures.steps
          (λ here. true≢false (sym (c.is_sound_in.ensures.1 here) ∙ c.if-not-is_sound_in.true))
          c.loop-replication.invariant.0 ((all_by_bytes P es).1 all)),
    )

pub loop-replication-preserved : goal.loop-replication-preserved
loop-replication-preserved g c =
    let P = IsSoundIn (by_name g.H.Holder.held c.args.parts.now.holders.entries) in
    let es = c.args.parts.now.replications.entries in (
      turn_sound P c.loop-replication.replication-iterator (values_of es) c.in-Some.replication.now
          c.next.new.self c.in-Some.ensures.steps
          (c.is_sound_in.ensures.0 c.if-not-is_sound_in.false)
          c.loop-replication.invariant.0,
      tt,
      tt,
    )

pub returns : goal.returns
returns g c =
    let P = IsSoundIn (by_name g.H.Holder.held c.args.parts.now.holders.entries) in
    let es = c.args.parts.now.replications.entries in (
      λ yes. (all_by_bytes P es).0
          (turn_ended P c.loop-replication.replication-iterator
          (values_of es) c.in-None.ensures.steps.0
          c.loop-replication.invariant.0),
      λ all. refl,
    )
