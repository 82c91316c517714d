-- What the work on one line leaves, by what the engine says of it.
use Rattle.std.proofs.Common.{◌≡◌, ◌∙◌, refl, sym, ap, subst, ℕ, Bool, true, false, true≢false, cond, List, [], ◌++◌, append-nil, string_bytes, Option, None, Some, Result, Ok, Err, IsErrOf}
use Rattle.rx_disk.specs.declared.disk.Disk.{Ghosts}
use Rattle.rx_engine.specs.Dialled.{DialStanding}
use Rattle.rx_engine.specs.Engine.{Answers, IsAt, limit_of, session_of, standing_of}
use Rattle.rx_engine.specs.Hearing.{PlaysLine}
use Rattle.rx_engine.specs.Kept.{IsInOrder, IsLineKept, IsWellMeant}
use Rattle.rx_engine.specs.Lines.{task}
use Rattle.rx_engine.specs.Meaning.{meaning}
use Rattle.rx_engine.specs.declared.engine.Engine.{Engine}
use Rattle.rx_engine.specs.declared.output.Output.{Output}
use Rattle.rx_outside.specs.Sink.{WritesFront}
use Rattle.rx_outside.specs.declared.stop.Stop.{Stop}
use Rattle.rx_engine.specs.Standing.{Standing}
use Rattle.rx_handler.specs.Handlers.{Kinds}
use Rattle.rx_sync.specs.Remote.{Heard}
use Rattle.rx_store.specs.Safe.{IsCrashSafe}
use Rattle.rx_store.proofs.Crashes.{answered, idle, same_stop}
use Rattle.rx_top.specs.Lines.{is_blank}
use Rattle.rx_top.specs.Script.{effect_of, line_effect, no_effect}
use Rattle.rx_top.specs.Story.{Effect}
use Rattle.rx_top.specs.Turns.{HoldsOfTurn}
use Rattle.rx_top.specs.Work.{HasAll, WorksLine, work_of}
use Rattle.rx_top.specs.declared.early_end.EarlyEnd.{EarlyEnd}
use Rattle.rx_top.specs.declared.early_end.EarlyEnd.TheVariants.{Sink, Work}
use Rattle.rx_top.proofs.Chunks.{OnlyNow, still}
use Rattle.rx_top.proofs.Done.{leaves_at}
use Rattle.rx_top.proofs.Hears.{shown_in}

module _ (s : Standing) {D : Type 0} (d : Ghosts D) (e : Engine) (n : ℕ) (line : List ℕ) where
  -- what the line does
  abbrev effect : Effect Standing
  effect = line_effect n line s

  -- work on the line is safe, by what it came to
  abbrev IsSafe : D → D → List (List ℕ) → Result (Engine × Bool) EarlyEnd → Type 0
  IsSafe old new bodies worked =
      IsCrashSafe d old new bodies effect.bodies (limit_of e) (HasAll d new) (work_of worked)

  nothing_to_do : is_blank line ≡ true → [] ≡ effect.bodies
  nothing_to_do blank =
      ap (λ b. (cond b (no_effect s) (effect_of (meaning n line s))).bodies)
      (sym blank)

  -- a blank line leaves the disk as it is
  pub blank_safe : (disk : D) (bodies : List (List ℕ)) → is_blank line ≡ true → OnlyNow d disk
      → IsAt d disk e bodies → IsSafe disk disk bodies (Ok (e, false))
  blank_safe disk bodies blank only at =
      subst (λ (more : List (List ℕ)).
      IsCrashSafe d disk disk bodies more (limit_of e) (HasAll d disk) (Ok (Some e)))
      (nothing_to_do blank)
      (idle d disk bodies (limit_of e) (HasAll d disk) (Some e)
      (λ images. still d disk bodies only (leaves_at d disk e bodies [] at)) at)

  does : is_blank line ≡ false → effect_of (meaning n line s) ≡ effect
  does full =
      ap (λ b. cond b (no_effect s) (effect_of (meaning n line s))) (sym full)

  -- what holds of a line that was played
  pub turn_done : (kinds : Kinds) (later : List Heard) (pair : Engine × Output)
      → is_blank line ≡ false → Answers kinds later (meaning n line s) pair.0 pair.1
      → IsWellMeant line s → IsInOrder (task s.kinds line s.session) s.session
      → IsLineKept line s (session_of pair.0).world → HoldsOfTurn n line s effect.next
  unfolding standing_of
  turn_done kinds later pair full answers meant in_order kept _ = record {
    meant = meant;
    in_order = in_order;
    kept = subst (λ (x : Standing). IsLineKept line s x.session.world)
        (answers.next ∙ ap (λ (m : Effect Standing). m.next) (does full)) kept;
  }

  -- a blank line makes none
  pub turn_blank : is_blank line ≡ true → HoldsOfTurn n line s effect.next
  turn_blank blank = λ full. absurd (cc)

  -- what holds of an engine that made an output
  abbrev IsMade : D → Engine × Output → List (List ℕ) → Type 0
  IsMade new p bodies = IsAt d new p.0 bodies

  -- what the engine did to the disk
  abbrev IsDone : D → D → List (List ℕ) → Result (Engine × Output) Stop → Type 0
  IsDone old new bodies result =
      IsCrashSafe d old new bodies (effect_of (meaning n line s)).bodies (limit_of e) (IsMade new)
      result

  -- it is what was done to it by the line
  as_work : (old new : D) (bodies : List (List ℕ)) (done : Result (Option Engine) Stop)
      → is_blank line ≡ false
      → IsCrashSafe d old new bodies (effect_of (meaning n line s)).bodies (limit_of e)
      (HasAll d new) done
      → IsCrashSafe d old new bodies effect.bodies (limit_of e) (HasAll d new) done
  as_work old new bodies done full safe =
      subst (λ (m : Effect Standing).
      IsCrashSafe d old new bodies m.bodies (limit_of e) (HasAll d new) done) (does full) safe

  -- the engine stopped
  pub stop_safe : (old new : D) (bodies : List (List ℕ)) (stop : Stop) → is_blank line ≡ false
      → IsDone old new bodies (Err stop) → IsSafe old new bodies (Err (Work stop))
  stop_safe old new bodies stop full safe =
      as_work old new bodies (Err stop) full
      (same_stop d old new bodies _ (limit_of e) (IsMade new) (HasAll d new) stop (Err stop) refl
      safe)

  -- the engine did all, and goes on or not
  pub done_safe : (old new : D) (bodies : List (List ℕ)) (pair : Engine × Output) (now : Bool)
      → is_blank line ≡ false → IsDone old new bodies (Ok pair)
      → IsSafe old new bodies (Ok (pair.0, now))
  done_safe old new bodies pair now full safe =
      as_work old new bodies (Ok (Some pair.0)) full
      (answered d old new bodies _ (limit_of e) (IsMade new) (HasAll d new) pair (Some pair.0) safe
      (λ held. held))

  pub sunk_safe : (old new : D) (bodies : List (List ℕ)) (pair : Engine × Output)
      → is_blank line ≡ false → IsDone old new bodies (Ok pair)
      → IsSafe old new bodies (Err Sink)
  sunk_safe old new bodies pair full safe =
      as_work old new bodies (Ok None) full
      (answered d old new bodies _ (limit_of e) (IsMade new) (HasAll d new) pair None safe
      (λ held. leaves_at d new pair.0 _ [] held))

-- ---- the work on a line, by what was heard in it

module _ (kinds : Kinds) (wires k_tells : Type 0) {D : Type 0} (d : Ghosts D) (e : Engine) (n : ℕ)
    (line : List ℕ) where
  abbrev standing : List Heard → Standing
  standing heard = standing_of kinds heard e

  abbrev does_for : List Heard → Effect Standing
  does_for heard = line_effect n line (standing heard)

  as_blank : {X : Type 0} (pick : Effect Standing → X) (heard : List Heard) → is_blank line ≡ true
      → pick (no_effect (standing heard)) ≡ pick (does_for heard)
  as_blank pick heard blank =
      ap (λ b.
      pick (cond b (no_effect (standing heard)) (effect_of (meaning n line (standing heard)))))
      (sym blank)

  -- a blank line
  pub blank_works : (disk : D) (dial : DialStanding) (w : List ℕ) → is_blank line ≡ true
      → (d.tells → OnlyNow d disk)
      → WorksLine d kinds wires k_tells n line e disk disk dial dial w w (Ok (e, false))
  unfolding standing_of
  blank_works disk dial w blank only = record {
    heard = [];
    next = λ later. as_blank (λ (m : Effect Standing). m.next) later blank;
    refused = λ later. as_blank (λ (m : Effect Standing). m.refused) later blank;
    told = λ later k. sym (append-nil w)
        ∙ ap (λ (bs : List ℕ). w ++ bs) (as_blank (λ (m : Effect Standing). m.reply) later blank);
    front = λ later k is. absurd (cc);
    safe = λ later told bodies at.
        blank_safe (standing later) d e n line disk bodies blank (only told) at;
    turn = λ later. turn_blank (standing later) d e n line blank;
    unharmed = λ later other full. absurd (true≢false (sym blank ∙ full));
    later_so = λ later. blank_later later blank;
    shown = λ later other. (λ is. (refl, refl), λ full. absurd (true≢false (sym blank ∙ full)));
  }
    where
      blank_later : (later : List Heard) → is_blank line ≡ true
          → (does_for later).next.heard ≡ later
      blank_later later blank = sym (as_blank (λ (m : Effect Standing). m.next.heard) later blank)

  module _ (old new : D) (dial dial' : DialStanding) (full : is_blank line ≡ false) where
    -- the engine stopped
    pub stop_works : (w : List ℕ) (stop : Stop)
        → PlaysLine d wires kinds n line old new dial dial' e (Err stop)
        → ((heard : List Heard) → IsWellMeant line (standing heard))
        → WorksLine d kinds wires k_tells n line e old new dial dial' w w (Err (Work stop))
    unfolding standing_of
    stop_works w stop plays meant = record {
      heard = plays.heard;
      next = λ later. tt;
      refused = λ later. tt;
      told = λ later k. tt;
      front = λ later k is. absurd (cc);
      safe = λ later told bodies at.
          stop_safe (standing (plays.heard ++ later)) d e n line old new bodies stop full
          (plays.safe later told bodies at);
      turn = λ later. tt;
      unharmed = λ later other full. (meant (plays.heard ++ later)).unharmed;
      later_so = λ later. tt;
      shown = λ later other. shown_in wires line kinds e dial dial' plays.heard (λ none. none)
          (plays.heard ++ later) full (plays.shown (λ is. other (same_work is)));
    }
      where
        same_work : {st : Stop} → IsErrOf {T = Engine × Output} (Err stop) st
            → IsErrOf {T = Engine × Bool} (Err (Work stop)) (Work st)
        same_work {st} h = let same : stop ≡ st = cc in ap (λ (x : Stop). Err (Work x)) same

    module _ (w w' : List ℕ) (pair : Engine × Output)
        (plays : PlaysLine d wires kinds n line old new dial dial' e (Ok pair))
        (meant : (heard : List Heard) → IsWellMeant line (standing heard))
        (in_order : IsInOrder (task kinds line (session_of e)) (session_of e))
        (kept : IsLineKept line (standing []) (session_of pair.0).world)
      where
        -- what it leaves doesn't depend on what is to be heard later
        kept_so : (heard : List Heard) → IsLineKept line (standing heard) (session_of pair.0).world
        unfolding standing_of
        kept_so heard = record {
          quiet = kept.quiet;
          level = kept.level;
          swept = record { equal = kept.swept.equal; in_time = kept.swept.in_time };
        }

        turn_so : (later : List Heard) → HoldsOfTurn n line (standing (plays.heard ++ later))
            (does_for (plays.heard ++ later)).next
        unfolding standing_of
        turn_so later =
            turn_done (standing (plays.heard ++ later)) d e n line kinds later pair full
            (plays.answers later) (meant (plays.heard ++ later)) in_order
            (kept_so (plays.heard ++ later))

        left_so : (later : List Heard) → (does_for (plays.heard ++ later)).next.heard ≡ later
        unfolding standing_of
        left_so later =
            sym (ap (λ (x : Standing). x.heard) ((plays.answers later).next
            ∙ ap (λ (m : Effect Standing). m.next)
            (does (standing (plays.heard ++ later)) d e n line full)))

        reply_so : (later : List Heard) → string_bytes pair.1.text
            ≡ (does_for (plays.heard ++ later)).reply
        reply_so later =
            (plays.answers later).reply
            ∙ ap (λ (m : Effect Standing). m.reply)
            (does (standing (plays.heard ++ later)) d e n line full)

        -- the engine did all
        pub done_works : (k_tells → w' ≡ w ++ string_bytes pair.1.text)
            → WorksLine d kinds wires k_tells n line e old new dial dial' w w'
            (Ok (pair.0, pair.1.refused))
        unfolding standing_of
        done_works had = record {
          heard = plays.heard;
          next = λ later. (plays.answers later).next
              ∙ ap (λ (m : Effect Standing). m.next)
              (does (standing (plays.heard ++ later)) d e n line full);
          refused = λ later. (plays.answers later).refused
              ∙ ap (λ (m : Effect Standing). m.refused)
              (does (standing (plays.heard ++ later)) d e n line full);
          told = λ later k. had k ∙ ap (λ (bs : List ℕ). w ++ bs) (reply_so later);
          front = λ later k is. absurd (cc);
          safe = λ later told bodies at.
              done_safe (standing (plays.heard ++ later)) d e n line old new bodies pair
              pair.1.refused full (plays.safe later told bodies at);
          turn = turn_so;
          unharmed = λ later other _. (meant (plays.heard ++ later)).unharmed;
          later_so = left_so;
          shown = λ later other. shown_in wires line kinds e dial dial' plays.heard (λ all. all)
              (plays.heard ++ later) full (plays.shown (λ is. cc));
        }

        -- it did, and the sink failed
        pub sunk_works : (k_tells → WritesFront w w' (string_bytes pair.1.text))
            → WorksLine d kinds wires k_tells n line e old new dial dial' w w' (Err Sink)
        unfolding standing_of
        sunk_works front = record {
          heard = plays.heard;
          next = λ later. tt;
          refused = λ later. tt;
          told = λ later k. tt;
          front = λ later k is.
              subst (λ (bs : List ℕ). WritesFront w w' bs) (reply_so later) (front k);
          safe = λ later told bodies at.
              sunk_safe (standing (plays.heard ++ later)) d e n line old new bodies pair full
              (plays.safe later told bodies at);
          turn = turn_so;
          unharmed = λ later other _. (meant (plays.heard ++ later)).unharmed;
          later_so = left_so;
          shown = λ later other. shown_in wires line kinds e dial dial' plays.heard (λ all. all)
              (plays.heard ++ later) full (plays.shown (λ is. cc));
        }
