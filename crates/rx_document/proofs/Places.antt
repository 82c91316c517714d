-- Only a place itself ties with it.
use Rattle.std.proofs.Common.{◌≡◌, sym, ap, ◌∙◌}
use Rattle.std.proofs.lemmas.Cmp.{tied_itself}
use Rattle.std.proofs.lemmas.Map.Lookups.{exact_bytes, exact_unsigned}
use Rattle.std.specs.Bool.{Decides}
use Rattle.std.specs.Cmp.{Equal-is}
use Rattle.std.specs.Ordering.{eq_by_cmp, nat_cmp}
use Rattle.std.specs.declared.cmp.Ordering.TheVariants.{Equal}
use Rattle.rx_value.specs.Order.{text_cmp}
use Rattle.rx_value.proofs.Orderings.{both_tie}
use Rattle.rx_document.specs.Place.{place_cmp, place_total, TiesAreOnePlace}
use Rattle.rx_document.specs.declared.place.Place.{Place}

-- places that tie are one
tied : (p q : Place) → place_cmp p q ≡ Equal → p ≡ q
tied p q h =
    let parts = both_tie (nat_cmp p.lwt q.lwt) (text_cmp p.id q.id) h in
    let same_lwt = exact_unsigned p.lwt q.lwt parts.0 in
    let same_id = exact_bytes p.id q.id parts.1 in
    λ i. record { lwt = same_lwt i; id = same_id i }

-- and a place ties with itself
pub place_ties : TiesAreOnePlace
place_ties p q = (tied p q, λ h. ap (place_cmp p) (sym h) ∙ tied_itself place_total p)

-- so the test of equality decides it
pub place_eq-Decides : (p q : Place) → Decides (eq_by_cmp place_cmp p q) (p ≡ q)
place_eq-Decides p q =
    let tie = Equal-is (place_cmp p q) in
    (λ h. tied p q (tie.0 h), λ h. tie.1 ((place_ties p q).1 h))
