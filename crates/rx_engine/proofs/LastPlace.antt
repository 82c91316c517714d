-- The place that documents go up to.
use Rattle.std.proofs.Common.{◌≡◌, suc, ◌-◌, ◌<◌, Bor, List, [], ◌∷◌, length, map, Option, Some, None, option_map, refl, ap, sym, ◌∙◌, arith}
use Rattle.std.proofs.lemmas.Option.{slice_get-get_or}
use Rattle.std.specs.Prelude.{slice_get}
use Rattle.rx_collection.specs.Since.{place_of}
use Rattle.rx_document.specs.declared.place.Place.{Place}
use Rattle.rx_document.specs.declared.stored.Stored.{Stored}
use Rattle.rx_engine.specs.Listing.{place_after}

-- that of the last one
pub last_place : (docs : List (Bor Stored)) (asked : Option Place) (d : Bor Stored)
    → slice_get docs (length docs - 1) ≡ Some d
    → place_after asked (map (λ b. b.now) docs) ≡ Some (place_of d.now)
last_place [] asked d last = cc
last_place (x ∷ []) asked d last = ap (option_map (λ b. place_of b.now)) last
last_place (x ∷ y ∷ ys) asked d last =
    let here : length (x ∷ y ∷ ys) - 1 ≡ suc (length ys) = omega arith in
    let there : length (y ∷ ys) - 1 ≡ length ys = omega arith in
    last_place (y ∷ ys) (Some (place_of x.now)) d
    (ap (slice_get (y ∷ ys)) there ∙ sym (ap (slice_get (x ∷ y ∷ ys)) here) ∙ last)

-- or the one asked from, where there is none
pub asked_place : (docs : List (Bor Stored)) (asked : Option Place)
    → slice_get docs (length docs - 1) ≡ None
    → place_after asked (map (λ b. b.now) docs) ≡ asked
asked_place [] asked none = refl
asked_place (x ∷ xs) asked none =
    let lt : length (x ∷ xs) - 1 < length (x ∷ xs) = omega arith in
    let there = slice_get-get_or (x ∷ xs) (length (x ∷ xs) - 1) x lt in
    absurd (cc)
