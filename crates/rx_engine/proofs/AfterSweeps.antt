-- A sweep of the standing, and what holds after it.
use Rattle.std.proofs.Common.{◌≡◌, ◌∙◌, ◌⊎◌, ℕ, ◌+◌, ◌*◌, ◌≤◌, List, length, Result, Ok, Err, IfOk, ap, sym, subst}
use Rattle.rx_outside.specs.declared.stop.Stop.{Stop}
use Rattle.rx_reply.specs.declared.turn.TurnEnd.TheVariants.{Quiet, Clock}
use Rattle.rx_session.specs.Session.{Session}
use Rattle.rx_sync.specs.Asks.{Asks}
use Rattle.rx_sync.specs.Exchange.{world_after}
use Rattle.rx_sync.specs.Sweep.{AreEqualIn, HoldsOnly, IsInTree, MaySweep, Sweep, Swept, sweep, sweep_from}
use Rattle.rx_sync.specs.declared.sweeping.Step.{Step}
use Rattle.rx_sync.proofs.Sweeps.{quiet_sweep_is_equal}
use Rattle.rx_sync.proofs.SweepsInTime.{sweep_ends_in_time}
use Rattle.rx_world.specs.Made.{IsMadeWorld}
use Rattle.rx_world.specs.Sound.{IsSoundWorld}
use Rattle.rx_world.specs.World.{World}
use Rattle.rx_engine.specs.Engine.{Answers, IsWellSwept, session_of, standing_of}
use Rattle.rx_engine.specs.Lines.{sweeps, task}
use Rattle.rx_engine.specs.Meaning.{sweep_meaning}
use Rattle.rx_engine.specs.Remembered.{AreRemembered}
use Rattle.rx_engine.specs.Standing.{Standing}
use Rattle.rx_engine.specs.Sweeping.{WantedSweep, swept}
use Rattle.rx_engine.specs.Sweeps.{sweep_terms}
use Rattle.rx_engine.specs.declared.engine.Engine.{Engine}
use Rattle.rx_engine.specs.declared.output.Output.{Output}
use Rattle.rx_engine.proofs.CanDo.{IsSweptAt}
use Rattle.rx_engine.proofs.CanSweeps.{swept_over}
use Rattle.rx_engine.proofs.Plays.{written-world}
use Rattle.rx_engine.proofs.Remembering.{remembers_lawful}

module _ (v : WantedSweep) (s : Standing) (session : Session) (now : ℕ)
    (asks : List (List ℕ × Asks))
    (sessions : session ≡ s.session) (moments : now ≡ s.session.moment) (same : asks ≡ s.asks) where
  pub swept_here : sweep (sweep_terms v.batch v.budget now s.kinds) v.steps session.world asks
      ≡ swept v s
  swept_here =
      ap (λ (x : Session). sweep (sweep_terms v.batch v.budget now s.kinds) v.steps x.world asks)
      sessions
      ∙ ap (λ (n : ℕ). sweep (sweep_terms v.batch v.budget n s.kinds) v.steps s.session.world asks)
      moments
      ∙ ap (sweep (sweep_terms v.batch v.budget s.session.moment s.kinds) v.steps s.session.world)
      same

-- ---- a line that sweeps, or doesn't

module _ (number : ℕ) (line : List ℕ) (s : Standing) (v : WantedSweep)
    (is : task s.kinds line s.session ≡ sweeps v) (some : 1 ≤ v.batch)
    (made : IsMadeWorld s.session.world) (sound : IsSoundWorld s.session.world)
    (remembers : AreRemembered s.session.world s.asks) where
  abbrev w : World
  w = s.session.world

  abbrev terms : Sweep
  terms = sweep_terms v.batch v.budget s.session.moment s.kinds

  module _ (root : List ℕ) (at : IsSweptAt s.kinds root s.session v) where
    may : MaySweep terms root w s.asks
    may = record {
      batch = some;
      made = made;
      sound = sound;
      handled = at.handled;
      remembers = λ name. remembers_lawful w s.asks name remembers;
    }

    -- it is over the tree of that collection
    from_root : sweep_from terms root w s.asks ≡ swept v s
    from_root = ap (λ (steps : List Step). sweep terms steps w s.asks) (sym at.steps)

    quiet_equal : (swept v s).ended ≡ Quiet → (c : List ℕ) → IsInTree w c root
        → AreEqualIn (world_after (swept v s).records w) c root
    quiet_equal =
        subst (λ (t : Swept). t.ended ≡ Quiet → (c : List ℕ) → IsInTree w c root
        → AreEqualIn (world_after t.records w) c root) from_root
        (quiet_sweep_is_equal terms root w s.asks may)

    ends_in_time : (keys : List (List ℕ)) → HoldsOnly w root keys → 3 * length keys + 1 ≤ v.budget
        → ((swept v s).ended ≡ Quiet) ⊎ ((swept v s).ended ≡ Clock)
    ends_in_time =
        subst (λ (t : Swept). (keys : List (List ℕ)) → HoldsOnly w root keys
        → 3 * length keys + 1 ≤ v.budget → (t.ended ≡ Quiet) ⊎ (t.ended ≡ Clock)) from_root
        (sweep_ends_in_time terms root w s.asks may)

  pub well_swept : (r : Result (Engine × Output) Stop)
      → IfOk r (λ x. Answers s.kinds s.heard (sweep_meaning number v s) x.0 x.1)
      → IfOk r (λ x. IsWellSwept line s (session_of x.0).world)
  unfolding standing_of
  well_swept (Err stop) answers = tt
  well_swept (Ok x) answers = record {
    equal = λ root batch budget asks u at ended c inside.
        let same : v ≡ u = cc in
        let then : (session_of x.0).world ≡ world_after (swept v s).records w =
        ap (λ (y : Standing). y.session.world) answers.next
        ∙ written-world (swept v s).records s.session in
        subst (λ (y : World). AreEqualIn y c root) (sym then)
        (quiet_equal root (swept_over s.kinds line s.session v root batch budget asks is)
        (ap (λ (y : WantedSweep). (swept y s).ended) same ∙ ended) c inside);
    in_time = λ root batch budget asks u at.
        let same : v ≡ u = cc in
        subst (λ (y : WantedSweep). (keys : List (List ℕ)) → HoldsOnly w root keys
        → 3 * length keys + 1 ≤ y.budget
        → ((swept y s).ended ≡ Quiet) ⊎ ((swept y s).ended ≡ Clock)) same
        (ends_in_time root (swept_over s.kinds line s.session v root batch budget asks is));
  }
