-- What may be asked of the world that a line leaves.
use Rattle.std.proofs.Common.{◌≡◌, ◌∙◌, ℕ, List, Result, Ok, Err, IfOk, sym, ap, subst}
use Rattle.rx_outside.specs.declared.stop.Stop.{Stop}
use Rattle.rx_reply.specs.declared.turn.TurnEnd.TheVariants.{Quiet}
use Rattle.rx_session.specs.Doing.{with_emptied}
use Rattle.rx_session.specs.Streams.{AreStreamed}
use Rattle.rx_sync.specs.Delivery.{is_level}
use Rattle.rx_sync.specs.Exchange.{world_after}
use Rattle.rx_sync.specs.Laws.{IsLevel}
use Rattle.rx_world.specs.World.{World}
use Rattle.rx_engine.specs.Calling.{WantedCall}
use Rattle.rx_engine.specs.Engine.{Answers, session_of, standing_of}
use Rattle.rx_engine.specs.Kept.{IsLineKept}
use Rattle.rx_engine.specs.Lines.{answered, turns, calls, sweeps, delivers, task}
use Rattle.rx_engine.specs.Meaning.{delivery_meaning, sweep_meaning}
use Rattle.rx_engine.specs.Outcome.{Outcome}
use Rattle.rx_engine.specs.SoundSession.{HasSoundWorld, with_asks}
use Rattle.rx_engine.specs.Standing.{Standing}
use Rattle.rx_engine.specs.Streams.{WantedDelivery, delivered_by}
use Rattle.rx_engine.specs.Sweeping.{WantedSweep}
use Rattle.rx_engine.specs.Turning.{WantedTurn, turned}
use Rattle.rx_engine.specs.declared.engine.Engine.{Engine}
use Rattle.rx_engine.specs.declared.output.Output.{Output}
use Rattle.rx_engine.proofs.AfterDeliveries.{level_delivered}
use Rattle.rx_engine.proofs.AfterSweeps.{well_swept}
use Rattle.rx_engine.proofs.Batches.{TaskHasBatch, line_has_batch}
use Rattle.rx_engine.proofs.CanTurns.{can_deliver}
use Rattle.rx_engine.proofs.Plays.{written-world}

module _ (line : List ℕ) (s : Standing) where
  -- nothing is to be said of a line that is answered already
  pub answered_kept : (o : Outcome) → task s.kinds line s.session ≡ answered o
      → (r : Result (Engine × Output) Stop) → IfOk r (λ x. IsLineKept line s (session_of x.0).world)
  answered_kept o is (Err stop) = tt
  answered_kept o is (Ok x) = record {
    quiet = λ t at. absurd (cc);
    level = λ d at. absurd (cc);
    swept = record {
      equal = λ root batch budget asks v at. absurd (cc);
      in_time = λ root batch budget asks v at. absurd (cc);
    };
  }

  -- nor of a turn to a master elsewhere
  pub call_kept : (c : WantedCall) → task s.kinds line s.session ≡ calls c
      → (r : Result (Engine × Output) Stop) → IfOk r (λ x. IsLineKept line s (session_of x.0).world)
  call_kept c is (Err stop) = tt
  call_kept c is (Ok x) = record {
    quiet = λ t at. absurd (cc);
    level = λ d at. absurd (cc);
    swept = record {
      equal = λ root batch budget asks v at. absurd (cc);
      in_time = λ root batch budget asks v at. absurd (cc);
    };
  }

  -- where a turn ends quiet, fork and master are level
  pub turn_kept : (u : WantedTurn) → task s.kinds line s.session ≡ turns u
      → (r : Result (Engine × Output) Stop)
      → IfOk r (λ x. (turned u s).ended ≡ Quiet → IsLevel (session_of x.0).world u.name)
      → IfOk r (λ x. IsLineKept line s (session_of x.0).world)
  turn_kept u is (Err stop) level = tt
  turn_kept u is (Ok x) level = record {
    quiet = λ t at quiet.
        let same : u ≡ t = cc in
        subst (λ (t : WantedTurn). IsLevel (session_of x.0).world t.name) same
        (level (ap (λ (t : WantedTurn). (turned t s).ended) same ∙ quiet));
    level = λ d at. absurd (cc);
    swept = record {
      equal = λ root batch budget asks v at. absurd (cc);
      in_time = λ root batch budget asks v at. absurd (cc);
    };
  }

  module _ (good : HasSoundWorld (with_asks s.session s.asks)) where
    -- so they are where a delivery is answered level
    pub delivery_kept : AreStreamed s.session.world s.session.streams → (d : WantedDelivery)
        → task s.kinds line s.session ≡ delivers d → (r : Result (Engine × Output) Stop) (n : ℕ)
        → IfOk r (λ x. Answers s.kinds s.heard (delivery_meaning n d s) x.0 x.1)
        → IfOk r (λ x. IsLineKept line s (session_of x.0).world)
    unfolding standing_of
    delivery_kept streamed d is (Err stop) n answers = tt
    delivery_kept streamed d is (Ok x) n answers = record {
      quiet = λ t at. absurd (cc);
      level = λ e at level.
          let same : d ≡ e = cc in
          let m = delivered_by d s.session in
          let then : (session_of x.0).world ≡ world_after m.records s.session.world =
          ap (λ (y : Standing). y.session.world) answers.next
          ∙ written-world m.records (with_emptied d.name s.session) in
          subst (λ (e : WantedDelivery). IsLevel (session_of x.0).world e.name) same
          (subst (λ (w : World). IsLevel w d.name) (sym then)
          (level_delivered d s.session good.made good.sound streamed
          (can_deliver s.kinds line s.session d is) (ap (λ (e : WantedDelivery).
          is_level (world_after (delivered_by e s.session).records s.session.world) e.name) same
          ∙ level)));
      swept = record {
        equal = λ root batch budget asks v at. absurd (cc);
        in_time = λ root batch budget asks v at. absurd (cc);
      };
    }

    -- and a sweep that ends quiet leaves its tree level
    pub sweep_kept : (v : WantedSweep) → task s.kinds line s.session ≡ sweeps v
        → (r : Result (Engine × Output) Stop) (n : ℕ)
        → IfOk r (λ x. Answers s.kinds s.heard (sweep_meaning n v s) x.0 x.1)
        → IfOk r (λ x. IsLineKept line s (session_of x.0).world)
    sweep_kept v is (Err stop) n answers = tt
    sweep_kept v is (Ok x) n answers = record {
      quiet = λ t at. absurd (cc);
      level = λ d at. absurd (cc);
      swept = well_swept n line s v is
          (subst TaskHasBatch is (line_has_batch s.kinds line s.session)) good.made good.sound
          good.remembered (Ok x) answers;
    }
