-- What was done with an engine and a dial is what the line means.
use Rattle.std.proofs.Common.{◌≡◌, ℕ, List, [], ◌++◌, Result, Err, IfOk, IsOk, refl, sym, subst}
use Rattle.rx_value.proofs.Outcomes.{if_ok}
use Rattle.rx_disk.specs.declared.disk.Disk.{Ghosts}
use Rattle.rx_handler.specs.Handlers.{Kinds}
use Rattle.rx_outside.specs.declared.stop.Stop.{Stop}
use Rattle.rx_outside.specs.declared.stop.Stop.TheVariants.{Memory}
use Rattle.rx_store.specs.Safe.{IsCrashSafe}
use Rattle.rx_store.proofs.Crashes.{ran_out}
use Rattle.rx_store.proofs.Growing.{stays}
use Rattle.rx_sync.specs.Remote.{Heard, RemoteTurned}
use Rattle.rx_engine.specs.Calling.{WantedCall, called, to_hear}
use Rattle.rx_engine.specs.Callings.{IsDialledBy, TurnsRemotely}
use Rattle.rx_engine.specs.Dialled.{DialStanding}
use Rattle.rx_engine.specs.Engine.{Answers, AnswersCall, IsAt, limit_of, session_of, standing_of}
use Rattle.rx_engine.specs.Hearing.{IsShownBy, PlaysLine}
use Rattle.rx_engine.specs.Lines.{Task, answered, turns, calls, sweeps, delivers, task}
use Rattle.rx_engine.specs.Meaning.{Meaning, bodies_of, meaning, turn_meaning}
use Rattle.rx_engine.specs.Outcome.{Outcome}
use Rattle.rx_engine.specs.Standing.{Standing}
use Rattle.rx_engine.specs.Sweeping.{WantedSweep}
use Rattle.rx_engine.specs.Streams.{WantedDelivery}
use Rattle.rx_engine.specs.Turning.{WantedTurn}
use Rattle.rx_engine.specs.declared.engine.Engine.{Engine}
use Rattle.rx_engine.specs.declared.output.Output.{Output}
use Rattle.rx_engine.proofs.Meanings.{call_so}
use Rattle.rx_engine.proofs.Remotely.{if_err}

module _ {D : Type 0} (d : Ghosts D) (tells : Type 0) (kinds : Kinds) (number : ℕ) (text : List ℕ)
    (old new : D) (dial dial' : DialStanding) (e : Engine)
    (r : Result (Engine × Output) Stop) where
  abbrev standing : List Heard → Standing
  standing heard = standing_of kinds heard e

  abbrev to_do : Task
  to_do = task kinds text (session_of e)

  -- nothing was heard
  pub plays_none : ((later : List Heard)
      → IfOk r (λ p. Answers kinds later (meaning number text (standing later)) p.0 p.1))
      → ((later : List Heard) → d.tells → (bodies : List (List ℕ)) → IsAt d old e bodies
      → IsCrashSafe d old new bodies (bodies_of (meaning number text (standing later)).records)
      (limit_of e) (λ p. IsAt d new p.0) r)
      → IsShownBy tells to_do (standing []) dial dial' [] (IsOk r)
      → PlaysLine d tells kinds number text old new dial dial' e r
  plays_none answers safe shown = record {
    heard = [];
    answers = answers;
    safe = safe;
    shown = λ other. shown;
  }

  -- the line made no turn to a master elsewhere
  pub shown_printed : (o : Outcome) → to_do ≡ answered o → dial' ≡ dial
      → IsShownBy tells to_do (standing []) dial dial' [] (IsOk r)
  shown_printed o is same =
      subst (λ (t : Task). IsShownBy tells t (standing []) dial dial' [] (IsOk r))
      (sym is) (refl, same)

  pub shown_turn : (u : WantedTurn) → to_do ≡ turns u → dial' ≡ dial
      → IsShownBy tells to_do (standing []) dial dial' [] (IsOk r)
  shown_turn u is same =
      subst (λ (t : Task). IsShownBy tells t (standing []) dial dial' [] (IsOk r))
      (sym is) (refl, same)

  pub shown_sweep : (v : WantedSweep) → to_do ≡ sweeps v → dial' ≡ dial
      → IsShownBy tells to_do (standing []) dial dial' [] (IsOk r)
  shown_sweep v is same =
      subst (λ (t : Task). IsShownBy tells t (standing []) dial dial' [] (IsOk r))
      (sym is) (refl, same)

  pub shown_delivery : (u : WantedDelivery) → to_do ≡ delivers u → dial' ≡ dial
      → IsShownBy tells to_do (standing []) dial dial' [] (IsOk r)
  shown_delivery u is same =
      subst (λ (t : Task). IsShownBy tells t (standing []) dial dial' [] (IsOk r))
      (sym is) (refl, same)

  -- it made one
  module _ (c : WantedCall) (is : to_do ≡ calls c)
      (made : TurnsRemotely d old new (limit_of e) (IsAt d old e) (λ p. IsAt d new p.0)
      (λ heard. called c (standing heard)) (AnswersCall number c.name kinds e)
      (IsDialledBy tells c.port (session_of e).world c.name dial dial') r) where
    abbrev then : List Heard → RemoteTurned
    then later = called c (standing (made.heard ++ later))

    here : (later : List Heard)
        → turn_meaning number c.name (then later).turned
        (to_hear (then later).later (standing (made.heard ++ later)))
        ≡ meaning number text (standing (made.heard ++ later))
    unfolding standing_of
    here later = call_so number text (standing (made.heard ++ later)) c is

    answers_here : (later : List Heard) (x : Engine × Output)
        → AnswersCall number c.name kinds e (then later) later x
        → Answers kinds later (meaning number text (standing (made.heard ++ later))) x.0 x.1
    unfolding standing_of
    answers_here later x a =
        subst (λ (m : Meaning). Answers kinds later m x.0 x.1) (here later)
        (subst (λ (hs : List Heard). Answers kinds later
        (turn_meaning number c.name (then later).turned (standing_of kinds hs e)) x.0 x.1)
        (sym a.later_so) a.answers)

    pub plays_call : PlaysLine d tells kinds number text old new dial dial' e r
    unfolding standing_of
    plays_call = record {
      heard = made.heard;
      answers = λ later.
          if_ok r (AnswersCall number c.name kinds e (then later) later)
          (λ p. Answers kinds later (meaning number text (standing (made.heard ++ later))) p.0 p.1)
          (made.so later) (answers_here later);
      safe = λ later told bodies at.
          subst (λ (m : Meaning). IsCrashSafe d old new bodies (bodies_of m.records) (limit_of e)
          (λ p. IsAt d new p.0) r) (here later) (made.safe later told bodies at);
      shown = λ other.
          subst (λ (t : Task). IsShownBy tells t (standing []) dial dial' made.heard (IsOk r))
          (sym is)
          (record {
            requests = made.requests;
            made = λ later. made.asked other later;
            dialled = made.shown other;
          });
    }

  -- memory was wanting before anything was done
  pub plays_out_of_memory : r ≡ Err Memory → old ≡ new
      → (d.tells → (x : List ℕ) → d.image_since old (d.moment old) x → d.image old x)
      → PlaysLine d tells kinds number text old new dial dial' e r
  plays_out_of_memory is same only_now = record {
    heard = [];
    answers = λ later. if_err _ r Memory is;
    safe = λ later told bodies at.
        subst (λ (x : D). IsCrashSafe d old x bodies
        (bodies_of (meaning number text (standing later)).records) (limit_of e)
        (λ p. IsAt d x p.0) r) same
        (ran_out d old old bodies (bodies_of (meaning number text (standing later)).records)
        (limit_of e) (λ p. IsAt d old p.0) r is
        (λ alike. stays d old e.journal bodies
        (bodies_of (meaning number text (standing later)).records) (session_of e).world at
        (only_now told)));
    shown = λ other. absurd (other is);
  }
