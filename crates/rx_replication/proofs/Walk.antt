-- Pending documents are found by walking from the checkpoint up.
use Rattle.std.proofs.Common.{◌≡◌, ℕ, zero, suc, ◌≤◌, Bool, true, false, cond, List, [], ◌∷◌, filter, take, length, Option, refl, sym, ap, ◌∙◌, inl, inr, arith}
use Rattle.std.proofs.lemmas.Bool.{not_from_false}
use Rattle.std.specs.Map.{values_of}
use Rattle.rx_document.specs.Documents.{Documents}
use Rattle.rx_document.specs.declared.place.Place.{Place}
use Rattle.rx_document.specs.declared.stored.Stored.{Stored}
use Rattle.rx_collection.specs.Since.{by_place, is_above, since}
use Rattle.rx_replication.specs.Known.{KnownStates, is_pending, pending, NonePendingBelow}
use Rattle.rx_replication.specs.Member.{Member}
use Rattle.rx_replication.specs.Sound.{IsForkSound}
use Rattle.rx_replication.specs.Write.{AreByKey}
use Rattle.rx_replication.proofs.Bound.{listing-le}
use Rattle.rx_replication.proofs.Pages.{placed, from_placed, above-placed, stands_above}
use Rattle.rx_replication.proofs.Sides.{known_up_to-none_pending}

-- of a sound fork none is pending at or below up
pub sound-none_pending : (fork : Documents) (known : KnownStates) (up : Option Place)
    → AreByKey fork → IsForkSound fork known up → NonePendingBelow fork known up
sound-none_pending fork known up by_key sound =
    known_up_to-none_pending fork known up by_key sound.settled

-- two tests in turn, where the second passes nothing that the first doesn't
filter-twice : (first second : Stored → Bool) (ds : List Stored)
    → ((d : Stored) → Member d ds → first d ≡ false → second d ≡ false)
    → filter second ds ≡ filter second (filter first ds)
filter-twice first second [] below = refl
filter-twice first second (d ∷ ds) below =
    let rest = filter-twice first second ds (λ e m. below e (inr m)) in
    elim (first d) as (λ b. first d ≡ b
    → cond (second d) (d ∷ filter second ds) (filter second ds)
    ≡ filter second (cond b (d ∷ filter first ds) (filter first ds))) [
      | true ↦ (λ h. ap (λ r. cond (second d) (d ∷ r) r) rest)
      | false ↦ (λ h.
          ap (λ b. cond b (d ∷ filter second ds) (filter second ds)) (below d (inl refl) h) ∙ rest)
    ] refl

-- so the pending documents are those above up that are pending
pub pending-above : (documents : Documents) (known : KnownStates) (up : Option Place)
    → AreByKey documents → NonePendingBelow documents known up
    → pending documents known
    ≡ filter (is_pending known) (values_of (filter (λ e. is_above up e.0) (by_place documents)))
pending-above documents known up by_key below =
    filter-twice (stands_above up) (is_pending known) (placed documents) (λ d m h.
    below d.state.key d (from_placed documents d by_key m) (not_from_false _ h))
    ∙ ap (filter (is_pending known)) (sym (above-placed documents by_key up))

take_enough : (n : ℕ) (ds : List Stored) → length ds ≤ n → take n ds ≡ ds
take_enough zero [] h = refl
take_enough zero (d ∷ ds) h = absurd (omega arith)
take_enough (suc n) [] h = refl
take_enough (suc n) (d ∷ ds) h = ap (λ r. d ∷ r) (take_enough n ds (omega arith))

-- a page as long as the documents is all of them that are above its place
pub since-all : (documents : Documents) (p : Option Place) (n : ℕ) → AreByKey documents
    → length documents ≤ n
    → since documents p n ≡ values_of (filter (λ e. is_above p e.0) (by_place documents))
since-all documents p n by_key enough =
    ap (take n) (above-placed documents by_key p)
    ∙ take_enough n (filter (stands_above p) (placed documents))
    (omega (arith, listing-le documents p))
    ∙ sym (above-placed documents by_key p)

-- and the pending ones of that page are the pending documents
pub pending-since : (documents : Documents) (known : KnownStates) (up : Option Place) (n : ℕ)
    → AreByKey documents → NonePendingBelow documents known up → length documents ≤ n
    → pending documents known ≡ filter (is_pending known) (since documents up n)
pending-since documents known up n by_key below enough =
    pending-above documents known up by_key below
    ∙ ap (filter (is_pending known)) (sym (since-all documents up n by_key enough))
