-- What is written of a schema is in order, holds no float and is shallow.
use Rattle.std.proofs.Common.{Some, None, ◌≡◌, ℕ, ◌+◌, ◌<◌, ◌≤◌, suc, ℤ, false, List, [], ◌∷◌, ◌++◌, length, map, take, drop, get_or, Option, refl, sym, ap, ◌∙◌, subst, arith, drop-cons}
use Rattle.std.proofs.lemmas.List.{take-append-drop, take_more}
use Rattle.std.specs.List.Sorted.{IsStrictlySortedBy}
use Rattle.std.specs.Map.{keys_of}
use Rattle.std.specs.Ordering.{ordering_reverse}
use Rattle.std.specs.declared.cmp.Ordering.TheVariants.{Greater}
use Rattle.serde_json.specs.Data.{string, object, Members, member, put, depth, members_depth, items_depth}
use Rattle.serde_json.specs.Read.{max_depth}
use Rattle.serde_json.specs.View.{items_of}
use Rattle.serde_json.specs.Written.{has_float, members_have_float, items_have_float}
use Rattle.rx_value.specs.Named.{AreRising}
use Rattle.rx_value.specs.Order.{text_cmp}
use Rattle.rx_value.proofs.Ordered.{text_total}
use Rattle.rx_value.proofs.Written.{integer_no_float, below_last}
use Rattle.rx_schema.specs.Writing.{names_data, bound_member, rule_members, properties_members, schema_data, kinds_of}
use Rattle.rx_schema.specs.declared.rule.Rule.{Rule}
use Rattle.rx_schema.specs.declared.rule.Rule.TheVariants.{Flag, Int, Text}
use Rattle.rx_schema.specs.declared.shape.Shape.{Shape}
use Rattle.rx_schema.proofs.Properties.{Rules}

-- ---- order

-- a name above those before it goes last
put_last : (done : Rules) (p : List ℕ × Rule) (more : Rules) → AreRising (done ++ p ∷ more)
    → put p.0 (object (rule_members p.1)) (properties_members done)
    ≡ properties_members (done ++ p ∷ [])
unfolding IsStrictlySortedBy
put_last [] p more h = refl
put_last (x ∷ done) p more h =
    let above : text_cmp p.0 x.0 ≡ Greater =
    text_total.antisymm p.0 x.0 ∙ ap ordering_reverse (below_last x.0 done p more h.0) in
    rw above (ap (member x.0 (object (rule_members x.1))) (put_last done p more h.1))

-- the next property in order
pub put_next : (ps : Rules) (i : ℕ) (p : List ℕ × Rule) → i < length ps → p ≡ get_or ps i p
    → AreRising ps
    → put p.0 (object (rule_members p.1)) (properties_members (take i ps))
    ≡ properties_members (take (i + 1) ps)
put_next ps i p h is rising =
    let whole : ps ≡ take i ps ++ p ∷ drop (suc i) ps =
    sym (take-append-drop i ps) ∙ ap (λ xs. take i ps ++ xs)
    (drop-cons ps i p h ∙ ap (λ q. q ∷ drop (suc i) ps) (sym is)) in
    put_last (take i ps) p (drop (suc i) ps) (subst AreRising whole rising)
    ∙ ap properties_members (ap (λ q. take i ps ++ q ∷ []) is ∙ sym (take_more ps i p h))

-- the kinds of properties have their names
kinds_names : (ps : Rules) → keys_of (kinds_of ps) ≡ keys_of ps
kinds_names [] = refl
kinds_names (p ∷ ps) = ap (λ ks. p.0 ∷ ks) (kinds_names ps)

-- and so are in order
pub kinds_rising : (ps : Rules) → AreRising ps → AreRising (kinds_of ps)
kinds_rising ps h = rw (kinds_names ps) h

-- ---- no floats

-- nor is a bound
bound_no_float : (name : List ℕ) (o : Option ℤ) (ms : Members) → members_have_float ms ≡ false
    → members_have_float (bound_member name o ms) ≡ false
bound_no_float name None ms h = h
bound_no_float name (Some z) ms h = rw (integer_no_float z) h

-- a property has no float
rule_no_float : (r : Rule) → members_have_float (rule_members r) ≡ false
rule_no_float Flag = refl
rule_no_float (Int b) =
    bound_no_float _ b.maximum _ (bound_no_float _ b.minimum _
    (bound_no_float _ b.multiple_of _ refl))
rule_no_float (Text most) = refl

-- nor have all
properties_no_float : (ps : Rules) → members_have_float (properties_members ps) ≡ false
properties_no_float [] = refl
properties_no_float (p ∷ ps) = rw (rule_no_float p.1) (properties_no_float ps)

-- names have none
names_no_float : (names : List (List ℕ)) → items_have_float (items_of (map string names)) ≡ false
names_no_float [] = refl
names_no_float (n ∷ ns) = names_no_float ns

-- nor have indexes
indexes_no_float : (is : List (List (List ℕ)))
    → items_have_float (items_of (map names_data is)) ≡ false
indexes_no_float [] = refl
indexes_no_float (i ∷ is) = rw (names_no_float i) (indexes_no_float is)

-- a schema has no float
pub no_float : (s : Shape) → has_float (schema_data s) ≡ false
no_float s =
    rw (indexes_no_float s.indexes, properties_no_float s.properties, names_no_float s.required)
    refl

-- ---- depth

-- a bound is flat
bound_flat : (name : List ℕ) (o : Option ℤ) (ms : Members) → members_depth ms ≡ 0
    → members_depth (bound_member name o ms) ≡ 0
bound_flat name None ms h = h
bound_flat name (Some z) ms h = rw h refl

-- so is a property
rule_flat : (r : Rule) → members_depth (rule_members r) ≡ 0
rule_flat Flag = refl
rule_flat (Int b) =
    bound_flat _ b.maximum _ (bound_flat _ b.minimum _ (bound_flat _ b.multiple_of _ refl))
rule_flat (Text most) = refl

-- properties nest once
properties_shallow : (ps : Rules) → members_depth (properties_members ps) ≤ 1
properties_shallow [] = omega arith
properties_shallow (p ∷ ps) =
    let r = rule_flat p.1 in let rest = properties_shallow ps in omega (arith, r, rest)

-- names are flat
names_flat : (names : List (List ℕ)) → items_depth (items_of (map string names)) ≡ 0
names_flat [] = refl
names_flat (n ∷ ns) = rw (names_flat ns) refl

-- indexes nest once
indexes_shallow : (is : List (List (List ℕ))) → items_depth (items_of (map names_data is)) ≤ 1
indexes_shallow [] = omega arith
indexes_shallow (i ∷ is) =
    let names = names_flat i in let rest = indexes_shallow is in omega (arith, names, rest)

-- a schema can be read
pub shallow : (s : Shape) → depth (schema_data s) ≤ max_depth
shallow s =
    let i = indexes_shallow s.indexes in let p = properties_shallow s.properties in
    let r = names_flat s.required in
    omega (arith, i, p, r)
