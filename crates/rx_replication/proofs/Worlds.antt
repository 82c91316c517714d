-- What a commit or an exchange keeps of all replications of a world.
use Rattle.std.proofs.Common.{◌≡◌, ◌≢◌, ℕ, List, Option, Some, None, sym, ap, ◌∙◌, ◌⊎◌, inl, inr, subst}
use Rattle.rx_value.specs.Named.{named}
use Rattle.rx_value.specs.declared.state.State.{State}
use Rattle.rx_value.proofs.Bytes.{bytes_cases}
use Rattle.rx_value.proofs.Outcomes.{some_same}
use Rattle.rx_document.specs.declared.place.Place.{Place}
use Rattle.rx_collection.specs.Held.{Held}
use Rattle.rx_replication.specs.Known.{KnownStates}
use Rattle.rx_replication.specs.Sound.{IsForkSound, IsMasterSound}
use Rattle.rx_replication.specs.Worlds.{Collections, Linked, HasSoundFork, HasSoundMaster, HasSoundSides}
use Rattle.rx_replication.proofs.Commits.{Wrote}
use Rattle.rx_replication.proofs.Sides.{side_after}

-- a collection of a name was written, and all others stay
pub record IsWrittenAt (before after : Collections) (name : List ℕ) (ss : List State)
    : Type 0 where
  pub old : Held
  pub new : Held
  pub was : named before name ≡ Some old
  pub is : named after name ≡ Some new
  pub wrote : Wrote old.documents ss new.documents
  pub others : (k : List ℕ) → k ≢ name → named after k ≡ named before k

module _ (before after : Collections) (name : List ℕ) (ss : List State)
    (w : IsWrittenAt before after name ss) where
  fork_after : (r : Linked) → HasSoundFork before r → (r.fork ≡ name) ⊎ (r.fork ≢ name)
      → HasSoundFork after r
  fork_after r s (inl is) =
      let same : s.0 ≡ w.old = some_same (sym s.1 ∙ ap (named before) is ∙ w.was) in (
        w.new,
        ap (named after) is ∙ w.is,
        side_after w.old.documents ss w.new.documents w.wrote r.known r.up
            (subst (λ (c : Held). IsForkSound c.documents r.known r.up) same s.2),
      )
  fork_after r s (inr other) = (s.0, w.others r.fork other ∙ s.1, s.2)

  pub master_after : (master : Option (List ℕ)) (known : KnownStates) (down : Option Place)
      → HasSoundMaster before master known down → HasSoundMaster after master known down
  master_after None known down s = tt
  master_after (Some k) known down s =
      elim (bytes_cases k name) [
        | inl is ↦
            let same : s.0 ≡ w.old = some_same (sym s.1 ∙ ap (named before) is ∙ w.was) in (
              w.new,
              ap (named after) is ∙ w.is,
              side_after w.old.documents ss w.new.documents w.wrote known down
                  (subst (λ (c : Held). IsMasterSound c.documents known down) same s.2),
            )
        | inr other ↦ (s.0, w.others k other ∙ s.1, s.2)
      ]

  -- a commit on any collection keeps each replication sound, whether it is of its fork, of its
  -- master or of neither
  pub commit_keeps : (r : Linked) → HasSoundSides before r → HasSoundSides after r
  commit_keeps r s = record {
    fork_side = fork_after r s.fork_side (bytes_cases r.fork name);
    master_side = master_after r.master r.known r.down s.master_side;
  }
