-- A turn of a sweep, and what may follow it.
use Rattle.std.proofs.Common.{◌≡◌, ◌∙◌, ◌≤◌, ℕ, ◌+◌, true, false, List, [], ◌∷◌, ◌++◌, drop, Some, refl, sym, ap, subst, append_assoc, append-nil}
use Rattle.std.specs.Prelude.{slice_get}
use Rattle.rx_value.specs.Named.{by_bytes, put_named}
use Rattle.rx_value.proofs.Lists.{drop_at}
use Rattle.rx_handler.specs.Handlers.{Kinds}
use Rattle.rx_record.specs.Content.{Content}
use Rattle.rx_reply.specs.declared.swept.Swept.{Swept as SweptTurn}
use Rattle.rx_reply.specs.declared.turn.TurnEnd.{TurnEnd}
use Rattle.rx_reply.specs.declared.turn.TurnEnd.TheVariants.{Quiet, Lost, Clock, More}
use Rattle.rx_sync.proofs.Apart.{apart_turn}
use Rattle.rx_sync.proofs.Staying.{ready_after}
use Rattle.rx_sync.proofs.Turns.{turn_again, turn_sound}
use Rattle.rx_sync.specs.Asks.{Asks, asks_of}
use Rattle.rx_sync.specs.Exchange.{Terms, world_after}
use Rattle.rx_sync.specs.Laws.{ComeSoundly, IsReady, MayTurn}
use Rattle.rx_sync.specs.Sweep.{Swept, sweep, swept_on, swept_with, turn_in}
use Rattle.rx_sync.specs.Turn.{Turned}
use Rattle.rx_sync.specs.declared.sweeping.Step.{Step}
use Rattle.rx_world.specs.World.{World}
use Rattle.rx_engine.specs.Marks.{AreMarked, AreMarkedBut}
use Rattle.rx_engine.specs.Play.{Follows}
use Rattle.rx_engine.specs.Remembered.{AreRemembered}
use Rattle.rx_engine.specs.Sweeping.{is_quiet}
use Rattle.rx_engine.specs.Sweeps.{CanSweep, IsGoodPlay, IsStepped, IsSwept, sweep_terms}
use Rattle.rx_engine.specs.Turning.{CanTurn}
use Rattle.rx_engine.specs.declared.play.Play.{Play}
use Rattle.rx_engine.specs.declared.remembered.Remembered.{Remembered}
use Rattle.rx_engine.specs.declared.sweeping.MadeSweep.{MadeSweep}
use Rattle.rx_engine.proofs.AfterTurns.{LeavesSoundly, made_after_turn, others_after_turn, remembered_after_turn, sound_after_turn}
use Rattle.rx_engine.proofs.Remembering.{remembers_lawful}
use Rattle.rx_engine.proofs.Staging.{follows_on, world_of}

-- ---- one turn

module _ (kinds : Kinds) (batch budget now : ℕ) (some : 1 ≤ batch) (p : Play) (r : Remembered)
    (good : IsGoodPlay p r) (name : List ℕ) (can : CanTurn kinds p.playing name) where
  abbrev w : World
  w = p.playing.world

  abbrev asks : List (List ℕ × Asks)
  asks = by_bytes r.asks.entries

  abbrev terms : Terms
  terms = record { name = name; now = now; kinds = kinds }

  abbrev pub t : Turned
  t = turn_in (sweep_terms batch budget now kinds) name w asks

  ready_for : (d : List ℕ) → CanTurn kinds p.playing d → IsReady w d kinds
  ready_for d can = record {
    made = good.made;
    sound = good.sound;
    here = can.here;
    kind = can.kind;
    handler = can.handler;
  }

  pub may_step : MayTurn terms w (asks_of name asks)
  may_step = record {
    ready = ready_for name can;
    asks = remembers_lawful w asks name good.remembers;
  }

  come : ComeSoundly w t.records
  come = turn_sound terms batch budget [] w (asks_of name asks) some may_step

  module _ (q : Play) (follows : Follows p t.records q) where
    then_is : world_after t.records w ≡ q.playing.world
    then_is = sym (world_of p q t.records follows)

    leaves : LeavesSoundly name w t
    leaves =
        let again = turn_again terms batch budget [] w (asks_of name asks) some may_step in
        record {
          come = come;
          apart = λ other not. apart_turn terms other not batch budget [] w (asks_of name asks);
          lawful = again.asks;
          replication = again.ready.here.replication;
          held = again.ready.here.held;
        }

    pub others_then : AreMarkedBut name q.playing.world r.marks
    others_then = others_after_turn name t w q.playing.world then_is leaves r.marks good.marked

    pub good_then : (then : Remembered) → by_bytes then.asks.entries ≡ put_named asks name t.asks
        → AreMarked q.playing.world then.marks → IsGoodPlay q then
    good_then then same marked = record {
      made = made_after_turn name t w q.playing.world then_is leaves good.made;
      sound = sound_after_turn name t w q.playing.world then_is leaves good.sound;
      remembers = subst (AreRemembered q.playing.world) (sym same)
          (remembered_after_turn name t w q.playing.world then_is leaves asks good.made
          good.remembers);
      marked = marked;
    }

    -- another turn may follow
    can_then : (d : List ℕ) → CanTurn kinds p.playing d → CanTurn kinds q.playing d
    can_then d other =
        let ready = subst (λ (v : World). IsReady v d kinds) then_is
        (ready_after t.records w d kinds (ready_for d other) come) in
        record { here = ready.here; kind = ready.kind; handler = ready.handler }

    pub can_all_then : (steps : List Step) → CanSweep kinds p.playing steps
        → CanSweep kinds q.playing steps
    can_all_then [] all = tt
    can_all_then (step ∷ steps) all = (can_then step.name all.0, can_all_then steps all.1)

-- ---- turns, one after another

module _ (kinds : Kinds) (batch budget now : ℕ) (first : Play) (steps : List Step)
    (total : Swept) where
  abbrev rest_of : ℕ → Play → Remembered → Swept
  rest_of i p r =
      sweep (sweep_terms batch budget now kinds) (drop i steps) p.playing.world
      (by_bytes r.asks.entries)

  -- so many turns were made, and these are to come
  pub record IsSweeping (i : ℕ) (p : Play) (r : Remembered) (so_far : List SweptTurn) : Type 0 where
    pub good : IsGoodPlay p r
    pub can : CanSweep kinds p.playing (drop i steps)
    pub done : List Content
    pub follows : Follows first done p
    pub records : total.records ≡ done ++ (rest_of i p r).records
    pub asks : total.asks ≡ (rest_of i p r).asks
    pub turns : total.turns ≡ so_far ++ (rest_of i p r).turns
    pub ended : total.ended ≡ (rest_of i p r).ended

  -- none is left
  pub all_swept : (i : ℕ) (p : Play) (r : Remembered) (turns : List SweptTurn)
      → IsSweeping i p r turns → drop i steps ≡ [] → (made : MadeSweep) → made.play ≡ p
      → made.turns ≡ turns → made.ended ≡ Quiet → IsSwept total first made (by_bytes r.asks.entries)
  all_swept i p r turns is none made plays made_turns ends =
      let rest : rest_of i p r ≡ swept_with Quiet (by_bytes r.asks.entries) =
      ap (λ (xs : List Step). sweep (sweep_terms batch budget now kinds) xs p.playing.world
      (by_bytes r.asks.entries)) none in
      record {
        follows = subst (λ (cs : List Content). Follows first cs made.play)
            (sym (is.records ∙ ap (λ (s : Swept). is.done ++ s.records) rest ∙ append-nil is.done))
            (subst (Follows first is.done) (sym plays) is.follows);
        asks = sym (is.asks ∙ ap (λ (s : Swept). s.asks) rest);
        turns = made_turns
            ∙ sym (is.turns ∙ ap (λ (s : Swept). turns ++ s.turns) rest ∙ append-nil turns);
        ended = ends ∙ sym (is.ended ∙ ap (λ (s : Swept). s.ended) rest);
      }

  -- one more is made
  module _ (some : 1 ≤ batch) (i : ℕ) (p : Play) (r : Remembered) (turns : List SweptTurn)
      (is : IsSweeping i p r turns) (step : Step) (at : slice_get steps i ≡ Some step) where
    abbrev asks_now : List (List ℕ × Asks)
    asks_now = by_bytes r.asks.entries

    here : drop i steps ≡ step ∷ drop (i + 1) steps
    here = drop_at steps i step at

    can_here : CanSweep kinds p.playing (step ∷ drop (i + 1) steps)
    can_here = subst (CanSweep kinds p.playing) here is.can

    pub can_step : CanTurn kinds p.playing step.name
    can_step = can_here.0

    abbrev made_turn : Turned
    made_turn = turn_in (sweep_terms batch budget now kinds) step.name p.playing.world asks_now

    abbrev then_asks : List (List ℕ × Asks)
    then_asks = put_named asks_now step.name made_turn.asks

    abbrev behind : Swept
    behind =
        sweep (sweep_terms batch budget now kinds) (drop (i + 1) steps)
        (world_after made_turn.records p.playing.world) then_asks

    abbrev tail : Swept
    tail = swept_on made_turn.ended then_asks behind

    abbrev one : SweptTurn
    one = record {
      pass = step.pass;
      name = step.name;
      exchanges = made_turn.exchanges;
      end = made_turn.ended;
    }

    rest_is : rest_of i p r ≡ record {
      records = made_turn.records ++ tail.records;
      asks = tail.asks;
      turns = one ∷ tail.turns;
      ended = tail.ended;
    }
    rest_is =
        ap (λ (xs : List Step).
        sweep (sweep_terms batch budget now kinds) xs p.playing.world asks_now)
        here

    module _ (q : Play) (made : SweptTurn) (then : Remembered)
        (stepped : IsStepped step made_turn p q made asks_now (by_bytes then.asks.entries))
        (good : IsGoodPlay q then) (more : List SweptTurn)
        (pushed : more ≡ turns ++ made ∷ []) where
      ends_so : made.end ≡ made_turn.ended
      ends_so = ap (λ (x : SweptTurn). x.end) stepped.made_so

      so_far : Follows first (is.done ++ made_turn.records) q
      so_far = follows_on first p q is.done made_turn.records is.follows stepped.follows

      -- one that was quiet
      pub swept_further : is_quiet made.end ≡ true → IsSweeping (i + 1) q then more
      swept_further quiet =
          let on : tail ≡ rest_of (i + 1) q then =
          ap (λ (e : TurnEnd). swept_on e then_asks behind) (sym ends_so ∙ quiet_is made.end quiet)
          ∙ ap (λ (v : World).
          sweep (sweep_terms batch budget now kinds) (drop (i + 1) steps) v then_asks)
          (sym (world_of p q made_turn.records stepped.follows))
          ∙ ap (sweep (sweep_terms batch budget now kinds) (drop (i + 1) steps) q.playing.world)
          (sym stepped.asks) in
          record {
            good = good;
            can = can_all_then kinds batch budget now some p r is.good step.name can_step q
                stepped.follows (drop (i + 1) steps) can_here.1;
            done = is.done ++ made_turn.records;
            follows = so_far;
            records = is.records
                ∙ ap (λ (s : Swept). is.done ++ s.records) rest_is
                ∙ ap (λ (s : Swept). is.done ++ (made_turn.records ++ s.records)) on
                ∙ sym (append_assoc is.done made_turn.records (rest_of (i + 1) q then).records);
            asks = is.asks ∙ ap (λ (s : Swept). s.asks) rest_is ∙ ap (λ (s : Swept). s.asks) on;
            turns = is.turns
                ∙ ap (λ (s : Swept). turns ++ s.turns) rest_is
                ∙ ap (λ (x : SweptTurn). turns ++ x ∷ tail.turns) (sym stepped.made_so)
                ∙ ap (λ (s : Swept). turns ++ made ∷ s.turns) on
                ∙ sym (append_assoc turns (made ∷ []) (rest_of (i + 1) q then).turns)
                ∙ ap (λ (xs : List SweptTurn). xs ++ (rest_of (i + 1) q then).turns) (sym pushed);
            ended = is.ended ∙ ap (λ (s : Swept). s.ended) rest_is ∙ ap (λ (s : Swept). s.ended) on;
          }
        where
          quiet_is : (e : TurnEnd) → is_quiet e ≡ true → e ≡ Quiet
          quiet_is Quiet is = refl
          quiet_is Lost is = absurd (cc)
          quiet_is Clock is = absurd (cc)
          quiet_is More is = absurd (cc)

      -- one that was not is the last
      pub swept_last : is_quiet made.end ≡ false → (last : MadeSweep) → last.play ≡ q
          → last.turns ≡ more → last.ended ≡ made.end
          → IsSwept total first last (by_bytes then.asks.entries)
      swept_last not last plays last_turns ends =
          let on : tail ≡ swept_with made.end then_asks =
          ap (λ (e : TurnEnd). swept_on e then_asks behind) (sym ends_so)
          ∙ none_behind made.end not in
          record {
            follows = subst (λ (cs : List Content). Follows first cs last.play)
                (sym (is.records
                ∙ ap (λ (s : Swept). is.done ++ s.records) rest_is
                ∙ ap (λ (s : Swept). is.done ++ (made_turn.records ++ s.records)) on
                ∙ ap (λ (cs : List Content). is.done ++ cs) (append-nil made_turn.records)))
                (subst (Follows first (is.done ++ made_turn.records)) (sym plays) so_far);
            asks = stepped.asks
                ∙ sym (is.asks ∙ ap (λ (s : Swept). s.asks) rest_is
                ∙ ap (λ (s : Swept). s.asks) on);
            turns = last_turns ∙ pushed
                ∙ sym (is.turns
                ∙ ap (λ (s : Swept). turns ++ s.turns) rest_is
                ∙ ap (λ (x : SweptTurn). turns ++ x ∷ tail.turns) (sym stepped.made_so)
                ∙ ap (λ (s : Swept). turns ++ made ∷ s.turns) on);
            ended = ends
                ∙ sym (is.ended ∙ ap (λ (s : Swept). s.ended) rest_is
                ∙ ap (λ (s : Swept). s.ended) on);
          }
        where
          none_behind : (e : TurnEnd) → is_quiet e ≡ false
              → swept_on e then_asks behind ≡ swept_with e then_asks
          none_behind Quiet is = absurd (cc)
          none_behind Lost is = refl
          none_behind Clock is = refl
          none_behind More is = refl
