-- Each turn of a sweep may be made where it comes, where each may be made before the first.
use Rattle.std.proofs.Common.{◌≡◌, ◌∙◌, ℕ, ◌≤◌, true, false, cond, List, [], ◌∷◌, Some, refl, sym, ap, subst}
use Rattle.std.proofs.lemmas.Bool.{false≢true}
use Rattle.std.proofs.lemmas.Slice.Eq.{bytes_eq-Decides}
use Rattle.std.specs.Prelude.{unwrap_or}
use Rattle.std.specs.Str.{bytes_eq}
use Rattle.rx_value.specs.Named.{named, put_named}
use Rattle.rx_value.proofs.Named.{named-put_named}
use Rattle.rx_world.specs.World.{World}
use Rattle.rx_world.proofs.Looked.{named-put_other}
use Rattle.rx_sync.specs.Asks.{Asks, asks_of, no_asks}
use Rattle.rx_sync.specs.Exchange.{world_after}
use Rattle.rx_sync.specs.Laws.{MayTurn, RemembersLawful}
use Rattle.rx_sync.specs.Sweep.{EachSwept, Sweep, terms_in, turn_in}
use Rattle.rx_sync.specs.Turn.{Turned}
use Rattle.rx_sync.specs.Updates.{MayTurnEach, SweepsKeepUpdates}
use Rattle.rx_sync.specs.declared.sweeping.Step.{Step}
use Rattle.rx_sync.proofs.Staying.{ready_after, remembers_after, soundly_in_turn}
use Rattle.rx_sync.proofs.Turns.{turn_again, turn_sound}
use Rattle.rx_sync.proofs.Updates.{turn_keeps}

-- what was put at a name is found there
pub put_same : (asks : List (List ℕ × Asks)) (name : List ℕ) (a : Asks)
    → named (put_named asks name a) name ≡ Some a
put_same asks name a =
    named-put_named asks name name a
    ∙ ap (λ b. cond b (Some a) (named asks name)) ((bytes_eq-Decides name name).1 refl)

module _ (s : Sweep) (some : 1 ≤ s.batch) where
  -- the turn of the replication of a name may be made
  abbrev pub MayTurnIn : List ℕ → World → List (List ℕ × Asks) → Type 0
  MayTurnIn name w asks = MayTurn (terms_in s name) w (asks_of name asks)

  -- so may another behind it, of the same replication or of another
  pub may_then : (name other : List ℕ) (w : World) (asks : List (List ℕ × Asks))
      → MayTurnIn name w asks → MayTurnIn other w asks
      → MayTurnIn other (world_after (turn_in s name w asks).records w)
      (put_named asks name (turn_in s name w asks).asks)
  may_then name other w asks may one =
      let t : Turned = turn_in s name w asks in
      let a : Asks = asks_of name asks in
      let come = turn_sound (terms_in s name) s.batch s.budget [] w a some may in
      let next : World = world_after t.records w in
      let then : List (List ℕ × Asks) = put_named asks name t.asks in
      record {
        ready = ready_after t.records w other s.kinds one.ready come;
        asks = elim (bytes_eq other name) as (λ b. bytes_eq other name ≡ b
            → RemembersLawful next other (asks_of other then)) [
              | true ↦ (λ same.
                  subst (λ (n : List ℕ). RemembersLawful next n (asks_of n then))
                  (sym ((bytes_eq-Decides other name).0 same))
                  (subst (RemembersLawful next name)
                  (sym (ap (λ o. unwrap_or o no_asks) (put_same asks name t.asks)))
                  (turn_again (terms_in s name) s.batch s.budget [] w a some may).asks))
              | false ↦ (λ apart.
                  subst (RemembersLawful next other)
                  (sym (ap (λ o. unwrap_or o no_asks)
                  (named-put_other asks name other t.asks (λ same.
                  false≢true (sym apart ∙ (bytes_eq-Decides other name).1 same)))))
                  (remembers_after t.records w other s.kinds (asks_of other asks) one.ready
                  (soundly_in_turn w t.records come) one.asks))
            ] refl;
      }

  all_then : (name : List ℕ) (steps : List Step) (w : World) (asks : List (List ℕ × Asks))
      → MayTurnIn name w asks → MayTurnEach s steps w asks
      → MayTurnEach s steps (world_after (turn_in s name w asks).records w)
      (put_named asks name (turn_in s name w asks).asks)
  all_then name [] w asks may all = tt
  all_then name (step ∷ steps) w asks may all =
      (may_then name step.name w asks may all.0, all_then name steps w asks may all.1)

  -- what holds of every turn holds of each of a sweep
  pub each_swept : (P : List ℕ → World → List (List ℕ × Asks) → Type 0)
      → ((name : List ℕ) (w : World) (asks : List (List ℕ × Asks)) → MayTurnIn name w asks
      → P name w asks)
      → (steps : List Step) (w : World) (asks : List (List ℕ × Asks)) → MayTurnEach s steps w asks
      → EachSwept P s steps w asks
  each_swept P holds [] w asks all = tt
  each_swept P holds (step ∷ steps) w asks all =
      let t : Turned = turn_in s step.name w asks in (
        holds step.name w asks all.0,
        λ quiet. each_swept P holds steps (world_after t.records w)
            (put_named asks step.name t.asks) (all_then step.name steps w asks all.0 all.1),
      )

-- so no sweep loses an update
pub sweeps_keep_updates : SweepsKeepUpdates
sweeps_keep_updates s steps w asks some all =
    each_swept s some _
    (λ name w asks may.
    turn_keeps (terms_in s name) s.batch s.budget [] w (asks_of name asks) some may)
    steps w asks all
