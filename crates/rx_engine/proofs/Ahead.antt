-- What is done to an engine before its commit.
use Rattle.std.proofs.Common.{◌≡◌, ◌∙◌, ℕ, List, [], ◌∷◌, ◌++◌, length, string_bytes, None, Ok, refl, sym, ap, subst, arith}
use Rattle.rx_handler.specs.Handlers.{Kinds}
use Rattle.rx_journal.specs.Ready.{due_end, staged_bytes}
use Rattle.rx_journal.specs.declared.journal.Journal.{Journal}
use Rattle.rx_observe.specs.declared.emission.Emission.{Emission}
use Rattle.rx_record.specs.Content.{Content, content_bytes}
use Rattle.rx_session.specs.Doing.{Doing, write, session_after, MayDo}
use Rattle.rx_session.specs.Emissions.{emissions, settled_session}
use Rattle.rx_session.specs.Session.{Session}
use Rattle.rx_session.specs.Shown.{done_by}
use Rattle.rx_session.specs.Streams.{AreStreamed}
use Rattle.rx_session.specs.declared.doing.Doing.{Doing as Done}
use Rattle.rx_session.specs.declared.doing.Doing.TheVariants as done
use Rattle.rx_store.specs.Staged.{Adds, Stages}
use Rattle.rx_store.proofs.Staged.{adds_none, adds_one}
use Rattle.rx_sync.specs.Asks.{Asks}
use Rattle.rx_sync.specs.Remote.{Heard}
use Rattle.rx_world.specs.Step.{step}
use Rattle.rx_world.specs.World.{World}
use Rattle.rx_engine.specs.Ahead.{AddsTo, AnswersAhead, ChangesAhead, IsLeft, PlaysAhead, StagesLine, StagesPrinted}
use Rattle.rx_engine.specs.Engine.{asks_in, session_of, standing_of}
use Rattle.rx_engine.specs.Judged.{IsPrinted}
use Rattle.rx_engine.specs.Lines.{answered, task}
use Rattle.rx_engine.specs.Meaning.{asks_kept, bodies_of, lines_of, records_of}
use Rattle.rx_engine.specs.Outcome.{Outcome}
use Rattle.rx_engine.specs.Shown.{WritesNoExchange, doing_of}
use Rattle.rx_engine.specs.SoundSession.{HasSoundWorld}
use Rattle.rx_engine.specs.Standing.{Standing}
use Rattle.rx_engine.specs.declared.engine.Engine.{Engine}
use Rattle.rx_engine.specs.declared.judging.Printed.{Printed}
use Rattle.rx_engine.specs.declared.outcome.LineDoing.TheVariants.{InSession}
use Rattle.rx_engine.specs.declared.output.Output.{Output}
use Rattle.rx_engine.specs.declared.grouping.Staged.{Staged}
use Rattle.rx_engine.specs.declared.grouping.Staged.TheVariants as staged
use Rattle.rx_engine.proofs.Keeping.{sound_then, world_kept}
use Rattle.rx_engine.proofs.Meanings.{answers_so, records_so}
use Rattle.rx_engine.proofs.WellMeant.{in_order_as, well_meant}

-- ---- nothing was done

pub left_as_it_is : (e : Engine) → IsLeft e e
left_as_it_is e = record {
  same = λ kinds heard. refl;
  adds = adds_none e.journal (session_of e).world;
}

-- a journal that holds what was staged in another
adds_kept : (old new : Journal) (w : World) → new.end ≡ old.end → new.limit ≡ old.limit
    → staged_bytes new ≡ staged_bytes old → Adds old new w w []
adds_kept old new w end limit kept =
    let none = adds_none old w in
    let due : due_end new ≡ due_end old =
    omega (arith, end, ap length kept, old.staged.ok.0, new.staged.ok.0) in
    record {
      same_end = end;
      same_limit = limit;
      ends = due ∙ none.ends;
      staged = λ more has. kept ∙ none.staged more has;
      world = none.world;
      sound = none.sound;
    }

-- a record had no room
pub left_without_room : (e : Engine) (journal : Journal) → journal.end ≡ e.journal.end
    → journal.limit ≡ e.journal.limit → staged_bytes journal ≡ staged_bytes e.journal
    → IsLeft e (record e { journal = journal })
unfolding session_of asks_in standing_of
left_without_room e journal end limit kept = record {
  same = λ kinds heard. refl;
  adds = adds_kept e.journal journal (session_of e).world end limit kept;
}

-- ---- something was done to the session

module _ (e next : Engine) (due : List Emission) where
  -- with no record
  pub changes_alone : (d : Doing) → records_of d ≡ []
      → session_of next ≡ settled_session (session_after d (session_of e))
      → due ≡ emissions (session_after d (session_of e)) → asks_in next ≡ asks_in e
      → next.journal ≡ e.journal → ChangesAhead d e next due
  changes_alone d none session emitted asks journal =
      let world : (session_of next).world ≡ (session_of e).world =
      ap (λ (s : Session). s.world) session ∙ world_kept d (session_of e) none in
      record {
        session = session;
        emissions = emitted;
        asks = asks;
        adds = subst (λ (cs : List Content). AddsTo e next (bodies_of cs)) (sym none)
            (subst (λ (j : Journal). Adds e.journal j (session_of e).world
            (session_of next).world []) (sym journal)
            (subst (λ (w : World). Adds e.journal e.journal (session_of e).world w []) (sym world)
            (adds_none e.journal (session_of e).world)));
      }

  -- with a record, which was staged before
  pub changes_with : {A : Type 0} (x : A) (c : Content) (journal : Journal)
      → HasSoundWorld e.session
      → MayDo (write c) (session_of e) → WritesNoExchange (write c)
      → Stages {A = A} e.journal journal c (Ok x)
      → session_of next ≡ settled_session (session_after (write c) (session_of e))
      → due ≡ emissions (session_after (write c) (session_of e)) → asks_in next ≡ asks_in e
      → next.journal ≡ journal → ChangesAhead (write c) e next due
  unfolding session_of
  changes_with x c journal held may apart staged session emitted asks is =
      let s = e.session.session in
      let world : (session_of next).world ≡ step c s.world =
      ap (λ (y : Session). y.world) session in
      record {
        session = session;
        emissions = emitted;
        asks = asks;
        adds = subst (λ (j : Journal). Adds e.journal j s.world (session_of next).world
            (content_bytes c ∷ [])) (sym is)
            (subst (λ (w : World). Adds e.journal journal s.world w (content_bytes c ∷ []))
            (sym world)
            (adds_one e.journal journal s.world c x staged may.0
            (sound_then (write c) s may apart held.made held.sound)));
      }

-- what is done within a session leaves what is remembered of requests
asks_stay : (x : Done) (w : World) (asks : List (List ℕ × Asks))
    → asks_kept (done_by x) w asks ≡ asks
asks_stay done.Nothing w asks = refl
asks_stay (done.SetClock at) w asks = refl
asks_stay (done.Write entry) w asks = refl
asks_stay (done.Watch query) w asks = refl
asks_stay (done.Unwatch name) w asks = refl
asks_stay (done.Attach name) w asks = refl
asks_stay (done.OpenStream opening) w asks = refl
asks_stay (done.CloseStream name) w asks = refl

-- ---- a line was answered

-- it was done, and printed
pub answers_changed : (p : Printed) (x : Done) → p.doing ≡ InSession x → (e next : Engine)
    (due : List Emission) → ChangesAhead (done_by x) e next due → (o : Output)
    → string_bytes o.text ≡ string_bytes p.text ++ lines_of due → o.emissions ≡ length due
    → o.refused ≡ p.refused → o.end ≡ None → AnswersAhead p e next o
answers_changed p x is e next due did o text emitted refused ended =
    let same : doing_of p.doing ≡ done_by x = ap doing_of is in
    let emits = did.emissions
    ∙ ap (λ (d : Doing). emissions (session_after d (session_of e))) (sym same) in
    record {
      session = did.session
          ∙ ap (λ (d : Doing). settled_session (session_after d (session_of e))) (sym same);
      asks = did.asks ∙ sym (asks_stay x (session_of e).world (asks_in e))
          ∙ ap (λ (d : Doing). asks_kept d (session_of e).world (asks_in e)) (sym same);
      text = text ∙ ap (λ (es : List Emission). string_bytes p.text ++ lines_of es) emits;
      emitted = emitted ∙ ap (λ (es : List Emission). length es) emits;
      refused = refused;
      ended = ended;
      adds = subst (λ (d : Doing). AddsTo e next (bodies_of (records_of d))) (sym same) did.adds;
    }

pub plays_printed : (kinds : Kinds) (number : ℕ) (text : List ℕ) (e next : Engine) (o : Output)
    (outcome : Outcome) (p : Printed) → task kinds text (session_of e) ≡ answered outcome
    → IsPrinted number p outcome → HasSoundWorld e.session
    → AreStreamed e.session.session.world e.session.session.streams
    → MayDo (doing_of p.doing) e.session.session → AnswersAhead p e next o
    → PlaysAhead kinds number text e next o
unfolding session_of asks_in standing_of
plays_printed kinds number text e next o outcome p is printed good streamed may done =
    let s : List Heard → Standing = λ heard. standing_of kinds heard e in
    record {
      outcome = outcome;
      is = is;
      meant = λ heard. well_meant text (s heard) good streamed;
      in_order = in_order_as text (s []) outcome (doing_of p.doing) is printed.doing may;
      answers = λ heard. answers_so number text (s heard) outcome p is printed (Ok (next, o))
          done.session done.asks done.text done.emitted done.refused done.ended;
      adds = λ heard. subst (λ (cs : List Content). AddsTo e next (bodies_of cs))
          (records_so number text (s heard) outcome p is printed) done.adds;
    }

-- so it was, or nothing of it was done
pub stages_printed : (kinds : Kinds) (number : ℕ) (text : List ℕ) (e : Engine)
    (outcome : Outcome) (p : Printed) → task kinds text (session_of e) ≡ answered outcome
    → IsPrinted number p outcome → HasSoundWorld e.session
    → AreStreamed e.session.session.world e.session.session.streams
    → MayDo (doing_of p.doing) e.session.session → (x : Staged) → StagesPrinted p e x
    → StagesLine kinds number text e x
stages_printed kinds number text e outcome p is printed good streamed may
    (staged.Played next o) done =
    plays_printed kinds number text e next o outcome p is printed good streamed may done
stages_printed kinds number text e outcome p is printed good streamed may (staged.Alone next)
    left = left
