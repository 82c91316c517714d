-- Things of a world by their place and by their name, and parts of a report.
use Rattle.std.proofs.Common.{◌≡◌, ◌∙◌, refl, sym, ap, ℕ, zero, suc, ◌+◌, List, [], ◌∷◌, ◌++◌, drop, append_assoc, Bool, true, false, cond, Option, None, Some, is_some, option_map}
use Rattle.std.proofs.lemmas.Slice.Eq.{bytes_eq-Decides}
use Rattle.std.specs.List.{flat_map, slice_get}
use Rattle.std.specs.Str.{bytes_eq}
use Rattle.rx_value.specs.Named.{named}
use Rattle.rx_value.proofs.Lists.{drop_at}

-- a thing that comes before another is found, or the other is
either : {X : Type 0} (x : X) (o : Option X) (b : Bool) → is_some o ≡ true
    → is_some (cond b (Some x) o) ≡ true
either x o true found = refl
either x o false found = found

-- what stands at a place under a name is found by it, or another thing is
pub named_at : {X : Type 0} (es : List (List ℕ × X)) (i : ℕ) (name : List ℕ) (x : X)
    → slice_get es i ≡ Some (name, x) → is_some (named es name) ≡ true
named_at [] i name x is = absurd (cc)
named_at (e ∷ es) zero name x is =
    let same : e ≡ (name, x) = cc in
    let found : bytes_eq name name ≡ true = (bytes_eq-Decides name name).1 refl in
    rw same (rw found refl)
named_at (e ∷ es) (suc i) name x is =
    either e.1 (named es name) (bytes_eq name e.0) (named_at es i name x is)

pub map_map : {X Y Z : Type 0} (f : X → Y) (g : Y → Z) (o : Option X)
    → option_map (λ x. g (f x)) o ≡ option_map g (option_map f o)
map_map f g None = refl
map_map f g (Some x) = refl

-- a line more, of what stands at a place
pub one_line : {X : Type 0} (f : X → List ℕ) (xs : List X) (i : ℕ) (x : X)
    (all before before' : List ℕ) → slice_get xs i ≡ Some x → before' ≡ before ++ f x
    → all ≡ before ++ flat_map f (drop i xs) → all ≡ before' ++ flat_map f (drop (i + 1) xs)
one_line f xs i x all before before' here added whole =
    whole ∙ ap (λ l. before ++ flat_map f l) (drop_at xs i x here)
    ∙ sym (append_assoc before (f x) (flat_map f (drop (i + 1) xs)))
    ∙ ap (λ b. b ++ flat_map f (drop (i + 1) xs)) (sym added)
