-- The greatest write time of documents.
use Rattle.std.proofs.Common.{◌≡◌, ℕ, ◌<◌, ◌≤◌, max, true, false, cond, List, [], ◌∷◌, length, Some, Less, Equal, Greater, refl, sym, subst, true≢false, arith}
use Rattle.std.proofs.Math.Nat.{le-max_left, le-max_right, max-le}
use Rattle.std.specs.Cmp.{ranked}
use Rattle.std.specs.List.{AllByRecursion}
use Rattle.std.specs.Ordering.{is_lt, nat_cmp, ordering_then}
use Rattle.std.specs.Str.{bytes_eq}
use Rattle.rx_value.specs.Named.{named}
use Rattle.rx_value.specs.Order.{text_cmp}
use Rattle.rx_document.specs.Documents.{Documents}
use Rattle.rx_document.specs.Place.{place_cmp}
use Rattle.rx_document.specs.declared.place.Place.{Place}
use Rattle.rx_document.specs.declared.stored.Stored.{Stored}
use Rattle.rx_collection.specs.Held.{Held}
use Rattle.rx_collection.specs.Lawful.{IsHeldAt, IsLawful}
use Rattle.rx_collection.specs.Time.{last_lwt, most_lwt}

-- what is held was written no later
pub within_last : (es : Documents) (k : List ℕ) (d : Stored) → named es k ≡ Some d
    → d.lwt ≤ last_lwt es
within_last [] k d at = absurd (cc)
within_last (e ∷ es) k d at =
    elim (bytes_eq k e.0) as (λ b. cond b (Some e.1) (named es k) ≡ Some d
    → d.lwt ≤ max e.1.lwt (last_lwt es)) [
      | true ↦ (λ h.
          let same : e.1 ≡ d = cc in
          subst (λ x. x.lwt ≤ max e.1.lwt (last_lwt es)) same (le-max_left e.1.lwt (last_lwt es)))
      | false ↦ (λ h.
          let below = within_last es k d h in
          let step = le-max_right e.1.lwt (last_lwt es) in omega arith)
    ] at

-- a bound of all is one of the last
pub last-le : (n : ℕ) (es : Documents) → AllByRecursion (λ e. e.1.lwt ≤ n) es → last_lwt es ≤ n
last-le n [] all = omega arith
last-le n (e ∷ es) all = max-le all.0 (last-le n es all.1)

-- a place that isn't above another was written no later
pub no_later : (p q : Place) → is_lt (place_cmp p q) ≡ false → q.lwt ≤ p.lwt
no_later p q h =
    elim (nat_cmp p.lwt q.lwt) as (λ r. r ≡ nat_cmp p.lwt q.lwt
    → is_lt (ordering_then r (text_cmp p.id q.id)) ≡ false → q.lwt ≤ p.lwt) [
      | Less ↦ (λ is h. absurd (true≢false h))
      | Equal ↦ (λ is h. let same = ranked p.lwt q.lwt Equal is in omega arith)
      | Greater ↦ (λ is h. let above = ranked p.lwt q.lwt Greater is in omega arith)
    ] refl h

-- what holds no entry is empty
pub empty_of : {X : Type 0} (xs : List X) → (0 < length xs → false ≡ true) → xs ≡ []
empty_of [] h = refl
empty_of (x ∷ xs) h = absurd (true≢false (sym (h (omega arith))))

-- each was written in range
all_in_range : (primary : List ℕ) (es : Documents)
    → AllByRecursion (λ e. IsHeldAt primary e.0 e.1) es → AllByRecursion (λ e. e.1.lwt ≤ most_lwt)
    es
all_in_range primary [] all = tt
all_in_range primary (e ∷ es) all = (all.0.in_range, all_in_range primary es all.1)

-- in range where each is
pub last_in_range : (c : Held) → IsLawful c → last_lwt c.documents ≤ most_lwt
last_in_range c lawful =
    last-le most_lwt c.documents
    (all_in_range c.schema.primary c.documents lawful.each)
