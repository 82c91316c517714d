-- The order of places.
use Rattle.std.specs.Prelude.{◌≡◌, ◌↔◌}
use Rattle.std.specs.Cmp.{IsTotalOrder}
use Rattle.std.specs.Ordering.{nat_cmp, ordering_then}
use Rattle.std.specs.declared.cmp.Ordering.{Ordering}
use Rattle.std.specs.declared.cmp.Ordering.TheVariants.{Equal}
use Rattle.std.proofs.lemmas.Cmp.{nat_cmp_total, nat_list_cmp_total, on_total, then_total}
use Rattle.rx_value.specs.Order.{text_cmp}
use Rattle.rx_document.specs.declared.place.Place.{Place}

-- by write time, and then by the bytes of the key
abbrev pub place_cmp : Place → Place → Ordering
place_cmp p q = ordering_then (nat_cmp p.lwt q.lwt) (text_cmp p.id q.id)

-- it is a total order
abbrev pub PlacesAreOrdered : Type 0
PlacesAreOrdered = IsTotalOrder place_cmp

-- and exactly equal places tie
abbrev pub TiesAreOnePlace : Type 0
TiesAreOnePlace = (p q : Place) → (place_cmp p q ≡ Equal) ↔ (p ≡ q)

-- as it is by each of its parts
pub place_total : PlacesAreOrdered
place_total =
    then_total (on_total (λ (p : Place). p.lwt) nat_cmp_total)
    (on_total (λ (p : Place). p.id) nat_list_cmp_total)
