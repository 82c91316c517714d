-- Only a position itself ties with it, and what a bound encloses.
use Rattle.std.proofs.Common.{◌≡◌, ℕ, ◌+◌, ◌-◌, Bool, true, false, not, List, [], ◌∷◌, ◌++◌, map, length, slice_get, Option, Some, Equal, refl, sym, ap, ◌∙◌, arith, length-append}
use Rattle.std.proofs.lemmas.Cmp.{tied_itself}
use Rattle.std.proofs.lemmas.List.{get_or_push}
use Rattle.std.proofs.lemmas.Option.{slice_get-get_or}
use Rattle.std.specs.Bool.{Decides}
use Rattle.std.specs.Cmp.{Equal-is}
use Rattle.std.specs.Ordering.{ordering_then, is_le, is_eq, eq_by_cmp}
use Rattle.rx_value.proofs.Ordered.{order_total, order_ties, flag_ties}
use Rattle.rx_value.specs.Order.{order_of}
use Rattle.rx_value.specs.declared.value.Value.{Value}
use Rattle.rx_value.specs.declared.value.Value.TheVariants.{Flag, Text}
use Rattle.rx_document.specs.declared.stored.Stored.{Stored}
use Rattle.rx_value.specs.Named.{named}
use Rattle.rx_value.proofs.Orderings.{both_tie}
use Rattle.rx_index.specs.Ordered.{position_total}
use Rattle.rx_index.specs.Position.{Position, values_cmp, position_cmp, key_of, text_in, id_of, TiesAreOnePosition, BoundsEnclose}

-- ---- ties

values_tied : (xs : List (Option Value)) (a : Bool) (ys : List (Option Value)) (b : Bool)
    → values_cmp xs a ys b ≡ Equal → (xs ≡ ys) × (a ≡ b)
values_tied [] a [] b h = (refl, flag_ties a b h)
values_tied [] true (y ∷ ys) b h = cc
values_tied [] false (y ∷ ys) b h = cc
values_tied (x ∷ xs) a [] true h = cc
values_tied (x ∷ xs) a [] false h = cc
values_tied (x ∷ xs) a (y ∷ ys) b h =
    let parts = both_tie (order_of x y) (values_cmp xs a ys b) h in
    let rest = values_tied xs a ys b parts.1 in
    let first : x ≡ y = (order_ties x y).0 parts.0 in
    (λ i. first i ∷ rest.0 i, rest.1)

-- positions that tie are one
pub tied : (p q : Position) → position_cmp p q ≡ Equal → p ≡ q
tied p q h =
    let parts = values_tied p.values p.after q.values q.after h in
    λ i. record { values = parts.0 i; after = parts.1 i }

-- a position ties with itself
pub itself : (p : Position) → position_cmp p p ≡ Equal
itself p = tied_itself position_total p

pub position_ties : TiesAreOnePosition
position_ties p q = (tied p q, λ h. ap (position_cmp p) (sym h) ∙ itself p)

-- so the test of equality decides it
pub position_eq-Decides : (p q : Position) → Decides (eq_by_cmp position_cmp p q) (p ≡ q)
position_eq-Decides p q =
    let tie = Equal-is (position_cmp p q) in
    (λ h. tied p q (tie.0 h), λ h. tie.1 ((position_ties p q).1 h))

-- ---- bounds

encloses : (xs : List (Option Value)) (after : Bool) (rest : List (Option Value))
    → is_le (values_cmp xs after (xs ++ rest) false) ≡ not after
encloses [] true [] = refl
encloses [] false [] = refl
encloses [] true (y ∷ ys) = refl
encloses [] false (y ∷ ys) = refl
encloses (x ∷ xs) after rest =
    ap (λ o. is_le (ordering_then o (values_cmp xs after (xs ++ rest) false)))
    (tied_itself order_total x)
    ∙ encloses xs after rest

pub bounds_enclose : BoundsEnclose
bounds_enclose p rest = encloses p.values p.after rest

-- ---- keys

-- the last of a list that has one more
pub last_pushed : {X : Type 0} (xs : List X) (x : X)
    → slice_get (xs ++ x ∷ []) (length (xs ++ x ∷ []) - 1) ≡ Some x
last_pushed xs x =
    let long : length (xs ++ x ∷ []) ≡ length xs + 1 = length-append xs (x ∷ []) in
    slice_get-get_or (xs ++ x ∷ []) (length (xs ++ x ∷ []) - 1) x (omega (arith, long))
    ∙ ap Some (get_or_push xs x x (length (xs ++ x ∷ []) - 1) (omega (arith, long)))

-- a key tells whose it is
pub id_of-key_of : (fields : List (List ℕ)) (d : Stored) → id_of (key_of fields d) ≡ d.state.key
id_of-key_of fields d =
    ap text_in
    (last_pushed (Some (Flag d.state.deleted) ∷ map (λ field. named d.state.fields field) fields)
    (Some (Text d.state.key)))

-- what ties with a key tells the same
pub id_of-tied : (fields : List (List ℕ)) (d : Stored) (k : Position)
    → is_eq (position_cmp (key_of fields d) k) ≡ true → id_of k ≡ d.state.key
id_of-tied fields d k h =
    ap id_of (sym ((position_eq-Decides (key_of fields d) k).0 h)) ∙ id_of-key_of fields d
