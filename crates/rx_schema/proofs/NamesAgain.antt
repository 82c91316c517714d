-- The names that are written of a schema read as they were: the primary key, those that are
-- required, and those of indexes.
use Rattle.std.proofs.Common.{◌≡◌, ℕ, ℤ, pos, Bool, true, false, cond, not, ◌||◌, ◌&&◌, List, [], ◌∷◌, map, filter, codes, Option, Some, None, is_some, is_none, option_map, Ok, refl, sym, ap, ◌∙◌, true≢false, subst}
use Rattle.std.proofs.lemmas.Map.Text.{is_eq-slice_cmp}
use Rattle.std.proofs.lemmas.Slice.Eq.{bytes_eq-Decides}
use Rattle.std.proofs.lemmas.Bool.{or_parts, or_right}
use Rattle.std.proofs.lemmas.Option.{same_Some}
use Rattle.std.specs.List.{AllByRecursion}
use Rattle.std.specs.Map.{keys_of}
use Rattle.std.specs.Ordering.{is_eq, match_ordering}
use Rattle.std.specs.Str.{bytes_eq}
use Rattle.std.specs.declared.cmp.Ordering.{Ordering}
use Rattle.std.specs.declared.cmp.Ordering.TheVariants.{Less, Equal, Greater}
use Rattle.serde_json.specs.Data.{Data, string, object, Items, no_items, item}
use Rattle.serde_json.specs.Find.{get, get_member, as_array}
use Rattle.serde_json.specs.View.{items_of}
use Rattle.rx_value.specs.Due.{◌>>=◌, or_fault, only_if, unless, demand}
use Rattle.rx_value.specs.Form.{is_among, text_at, integer_within}
use Rattle.rx_value.specs.Name.{is_field_name}
use Rattle.rx_value.specs.Named.{named}
use Rattle.rx_value.specs.Order.{text_cmp}
use Rattle.rx_value.specs.Value.{largest}
use Rattle.rx_value.specs.declared.kinds.Kind.{Kind}
use Rattle.rx_value.specs.declared.kinds.Kind.TheVariants as kind
use Rattle.rx_schema.specs.Names.{indexes_of, indexes_in, first_unbounded, first_unbounded_in, is_bounded, is_bounded_if, texts_of, property_at, first_stranger, required_of, is_index, given_names, index_of, each_index, index_list_of}
use Rattle.rx_schema.specs.Property.{says, is_word, kind_of, known_property, length_of, bound_at, is_range, bounds_of, rule_of, property_of}
use Rattle.rx_schema.specs.Reading.{primary_of, required_names}
use Rattle.rx_schema.specs.Writing.{names_data, rule_members, properties_members, schema_data}
use Rattle.rx_schema.specs.declared.fault.SchemaFault.TheVariants as fault
use Rattle.rx_schema.specs.declared.rule.Bounds.{Bounds}
use Rattle.rx_schema.specs.declared.rule.Rule.{Rule}
use Rattle.rx_schema.specs.declared.rule.Rule.TheVariants.{Flag, Int, Text}
use Rattle.rx_schema.specs.declared.shape.Shape.{Shape}
use Rattle.rx_schema.proofs.Properties.{Rules}
use Rattle.rx_schema.proofs.Schemas.{WasRead, properties_at, found, text_kind, only_where, same_ok, key_rule}
use Rattle.rx_schema.proofs.PropertyAgain.{lowest, made_of}
use Rattle.rx_value.proofs.Outcomes.{ok_then, some_of, some_then, none_or}
use Rattle.rx_value.proofs.Lists.{all_passed}

-- ---- finding properties again

-- one property, and then the others
get_step : (o : Ordering) (k : List ℕ) (p : List ℕ × Rule) (ps : Rules) (r : Rule)
    → text_cmp k p.0 ≡ o
    → (named ps k ≡ Some r → get_member k (properties_members ps) ≡ Some (object (rule_members r)))
    → cond (is_eq o) (Some p.1) (named ps k) ≡ Some r
    → match_ordering o (get_member k (properties_members ps)) (Some (object (rule_members p.1)))
    (get_member k (properties_members ps)) ≡ Some (object (rule_members r))
get_step Less k p ps r is more h = more h
get_step Greater k p ps r is more h = more h
get_step Equal k p ps r is more h = ap (λ q. Some (object (rule_members q))) (same_Some p.1 r h)

-- the member of a property
get_rule : (ps : Rules) (k : List ℕ) (r : Rule) → named ps k ≡ Some r
    → get_member k (properties_members ps) ≡ Some (object (rule_members r))
get_rule [] k r h = cc
get_rule (p ∷ ps) k r h =
    get_step (text_cmp k p.0) k p ps r refl (get_rule ps k r)
    (ap (λ b. cond b (Some p.1) (named ps k)) (is_eq-slice_cmp k p.0) ∙ h)

-- the primary key reads again
pub primary_again : (d : Data) (s : Shape) → WasRead d s → primary_of (schema_data s) ≡ Ok s.primary
primary_again d s r =
    let key = key_rule d s r in
    rw (get_rule s.properties s.primary (Text key.0) key.1) refl

-- ---- lists of names again

-- a list of texts reads again
texts_again : (names : List (List ℕ)) → texts_of (items_of (map string names)) ≡ Some names
texts_again [] = refl
texts_again (n ∷ ns) = rw (texts_again ns) refl

-- a name stands in its own list
here : (n : List ℕ) (ns : List (List ℕ)) → is_among (n ∷ ns) n ≡ true
here n ns = rw ((bytes_eq-Decides n n).1 refl) refl

-- what holds of the names of a list holds of each
of_each : (Q : List ℕ → Type 0) (ns : List (List ℕ)) → ((n : List ℕ) → is_among ns n ≡ true → Q n)
    → AllByRecursion Q ns
of_each Q [] f = tt
of_each Q (n ∷ ns) f =
    (f n (here n ns), of_each Q ns (λ m h. f m (or_right (bytes_eq n m) (is_among ns m) h)))

-- one property, and then the others
named_step : (p : List ℕ × Rule) (ps : Rules) (k : List ℕ) (same back : Bool)
    → bytes_eq k p.0 ≡ same
    → bytes_eq p.0 k ≡ back → (back || is_among (keys_of ps) k) ≡ true
    → (is_among (keys_of ps) k ≡ true → (r : Rule) × (named ps k ≡ Some r))
    → (r : Rule) × (cond same (Some p.1) (named ps k) ≡ Some r)
named_step p ps k true back is at h rest = (p.1, refl)
named_step p ps k false false is at h rest = rest h
named_step p ps k false true is at h rest =
    let name = (bytes_eq-Decides p.0 k).0 at in
    absurd (true≢false (sym ((bytes_eq-Decides k p.0).1 (sym name)) ∙ is))

-- a name among those of properties names one
among_named : (ps : Rules) (k : List ℕ) → is_among (keys_of ps) k ≡ true
    → (r : Rule) × (named ps k ≡ Some r)
among_named [] k h = cc
among_named (p ∷ ps) k h =
    named_step p ps k (bytes_eq k p.0) (bytes_eq p.0 k) refl refl h (among_named ps k)

-- the names kept by a test, one by one
among_step : (P : List ℕ → Bool) (m n : List ℕ) (ns : List (List ℕ)) (pass back : Bool) → P m ≡ pass
    → bytes_eq m n ≡ back → P n ≡ true → (back || is_among ns n) ≡ true
    → (is_among ns n ≡ true → is_among (filter P ns) n ≡ true)
    → is_among (cond pass (m ∷ filter P ns) (filter P ns)) n ≡ true
among_step P m n ns true true is at h g rest = rw at refl
among_step P m n ns true false is at h g rest = or_right (bytes_eq m n) (is_among (filter P ns) n)
    (rest g)
among_step P m n ns false false is at h g rest = rest g
among_step P m n ns false true is at h g rest =
    absurd (true≢false (sym h ∙ sym (ap P ((bytes_eq-Decides m n).0 at)) ∙ is))

-- a name that passes is kept
among_kept : (P : List ℕ → Bool) (ns : List (List ℕ)) (n : List ℕ) → P n ≡ true
    → is_among ns n ≡ true
    → is_among (filter P ns) n ≡ true
among_kept P [] n h g = cc
among_kept P (m ∷ ns) n h g =
    among_step P m n ns (P m) (bytes_eq m n) refl refl h g (among_kept P ns n h)

-- one name that was kept, and then the others
passes_step : (P : List ℕ → Bool) (m n : List ℕ) (ns : List (List ℕ)) (pass : Bool) (back : Bool)
    → P m ≡ pass → bytes_eq m n ≡ back → (back || is_among (filter P ns) n) ≡ true
    → (is_among (filter P ns) n ≡ true → P n ≡ true) → pass ≡ true → P n ≡ true
passes_step P m n ns pass true is at h rest went = sym (ap P ((bytes_eq-Decides m n).0 at))
    ∙ is ∙ went
passes_step P m n ns pass false is at h rest went = rest h

-- the same with what was kept as the test tells
passes_case : (P : List ℕ → Bool) (m n : List ℕ) (ns : List (List ℕ)) (pass : Bool) → P m ≡ pass
    → is_among (cond pass (m ∷ filter P ns) (filter P ns)) n ≡ true
    → (is_among (filter P ns) n ≡ true → P n ≡ true) → P n ≡ true
passes_case P m n ns true is h rest = passes_step P m n ns true (bytes_eq m n) is refl h rest refl
passes_case P m n ns false is h rest = rest h

-- a name that was kept passes
passes : (P : List ℕ → Bool) (ns : List (List ℕ)) (n : List ℕ) → is_among (filter P ns) n ≡ true
    → P n ≡ true
passes P [] n h = cc
passes P (m ∷ ns) n h = passes_case P m n ns (P m) refl h (passes P ns n)

-- ---- required names again

-- a name is needed by the names that were kept just where it was
needed_step : (P : List ℕ → Bool) (a : Bool) (ns : List (List ℕ)) (n : List ℕ) (pass kept : Bool)
    → P n ≡ pass → is_among (filter P ns) n ≡ kept → is_among ns n ≡ true
    → (pass ≡ false → a ≡ false) → (a || kept) ≡ pass
needed_step P a ns n true true is at h f = or_right a true refl
needed_step P a ns n true false is at h f =
    absurd (true≢false (sym (among_kept P ns n is h) ∙ at))
needed_step P a ns n false true is at h f = absurd (true≢false (sym (passes P ns n at) ∙ is))
needed_step P a ns n false false is at h f = rw (f refl) refl

-- tests that agree keep the same
filter_same : (P Q : List ℕ → Bool) (ns : List (List ℕ)) → AllByRecursion (λ n. P n ≡ Q n) ns
    → filter P ns ≡ filter Q ns
filter_same P Q [] h = refl
filter_same P Q (n ∷ ns) h = rw (h.0, filter_same P Q ns h.1) refl

-- the required names are those required by them
pub required_same : (primary : List ℕ) (listed : List (List ℕ)) (ps : Rules)
    → required_names primary (required_names primary listed ps) ps
    ≡ required_names primary listed ps
required_same primary listed ps =
    let P : List ℕ → Bool = λ n. bytes_eq n primary || is_among listed n in
    filter_same (λ n. bytes_eq n primary || is_among (filter P (keys_of ps)) n) P (keys_of ps)
    (of_each (λ n. (bytes_eq n primary || is_among (filter P (keys_of ps)) n) ≡ P n) (keys_of ps)
    (λ n h. needed_step P (bytes_eq n primary) (keys_of ps) n (P n) (is_among (filter P
    (keys_of ps)) n)
    refl refl h (λ g. (or_parts (bytes_eq n primary) (is_among listed n) g).0)))

-- names that are properties hold no stranger
no_stranger : (d : Data) (ns : List (List ℕ)) → AllByRecursion (λ n. is_none (property_at n d)
    ≡ false) ns
    → first_stranger d ns ≡ None
no_stranger d [] h = refl
no_stranger d (n ∷ ns) h = rw h.0 (no_stranger d ns h.1)

-- a name of a property is one again
known_again : (s : Shape) (n : List ℕ) → is_among (keys_of s.properties) n ≡ true
    → is_none (property_at n (schema_data s)) ≡ false
known_again s n h =
    let r = among_named s.properties n h in ap is_none (get_rule s.properties n r.0 r.1)

-- the required names read again
pub required_again : (d : Data) (s : Shape) → WasRead d s
    → required_of (schema_data s) ≡ Ok s.required
required_again d s r =
    let known = of_each (λ n. is_none (property_at n (schema_data s))
    ≡ false) (keys_of s.properties)
    (known_again s) in
    let none : first_stranger (schema_data s) s.required ≡ None =
    no_stranger (schema_data s) s.required
    (subst (λ ns. AllByRecursion (λ n. is_none (property_at n (schema_data s))
    ≡ false) ns) (sym r.required)
    (all_passed (λ n. is_none (property_at n (schema_data s)) ≡ false)
    (λ n. bytes_eq n s.primary || is_among r.listed n) (keys_of s.properties) known)) in
    rw (texts_again s.required, none) refl

-- ---- indexes again

-- the forms of indexes that were read
forms : (ds : Items) (is : List (List (List ℕ))) → each_index ds ≡ Some is
    → AllByRecursion (λ i. is_index i ≡ true) is
forms no_items is h = subst (λ js. AllByRecursion (λ i. is_index i
    ≡ true) js) (same_Some [] is h) tt
forms (item d ds) is h =
    let a = some_then (index_of d) _ is h in
    let b = some_then (each_index ds) _ is a.2 in
    let n = some_then (given_names d) _ a.0 a.1 in
    let o = only_where (is_index n.0) (Some n.0) a.0 n.2 in
    let form : is_index a.0 ≡ true = subst (λ i. is_index i ≡ true) (same_Some n.0 a.0 o.1) o.0 in
    subst (λ js. AllByRecursion (λ i. is_index i ≡ true) js) (same_Some (a.0 ∷ b.0) is b.2)
    (form, forms ds b.0 b.1)

-- an index reads again
index_again : (i : List (List ℕ)) → is_index i ≡ true → index_of (names_data i) ≡ Some i
index_again i h = rw (texts_again i) (ap (λ b. only_if b (Some i)) h)

-- and so do all
each_again : (is : List (List (List ℕ))) → AllByRecursion (λ i. is_index i ≡ true) is
    → each_index (items_of (map names_data is)) ≡ Some is
each_again [] h = refl
each_again (i ∷ is) h = rw (index_again i h.0, each_again is h.1) refl

-- a bound that was given is there
given_step : (o : Option ℤ) (n : Option ℤ) (b : Bool) → not b ≡ true
    → cond b (Some None) (option_map Some n) ≡ Some o → is_some o ≡ true
given_step o n true h g = cc
given_step o None false h g = cc
given_step o (Some z) false h g = subst (λ m. is_some m ≡ true) (same_Some (Some z) o g) refl

-- what is some isn't none
not_none : {A : Type 0} (o : Option A) → is_some o ≡ true → not (is_none o) ≡ true
not_none None h = cc
not_none (Some x) h = refl

-- a bound that was given is there
given : (name : List ℕ) (low : ℤ) (d : Data) (o : Option ℤ) → is_some (get name d) ≡ true
    → bound_at name low d ≡ Some o → is_some o ≡ true
given name low d o h g =
    given_step o (integer_within name low (pos largest) d) (is_none (get name d))
    (not_none (get name d) h) g

-- three tests held
three : (a b c : Bool) → (a && b && c) ≡ true → (a ≡ true) × (b ≡ true) × (c ≡ true)
three true true c h = (refl, refl, h)
three true false c h = cc
three false b c h = cc

-- an object of numbers with all bounds is bounded
all_bounds : (l m s : Option ℤ) → is_some l ≡ true → is_some m ≡ true → is_some s ≡ true
    → is_bounded (object (rule_members (Int (record {
      minimum = l;
      maximum = m;
      multiple_of =
          s;
    })))) ≡ true
all_bounds None m s a b c = cc
all_bounds (Some x) None s a b c = cc
all_bounds (Some x) (Some y) None a b c = cc
all_bounds (Some x) (Some y) (Some z) a b c = refl

-- the bounds of a number are all given
int_given : (d : Data) (b : Bounds) → bounds_of d ≡ Some b
    → (is_some (get (codes "minimum") d) && is_some (get (codes "maximum") d)
    && is_some (get (codes "multipleOf") d)) ≡ true
    → is_bounded (object (rule_members (Int b))) ≡ true
int_given d b h g =
    let t = three (is_some (get (codes "minimum") d)) (is_some (get (codes "maximum") d))
    (is_some (get (codes "multipleOf") d)) g in
    let l = some_then (bound_at (codes "minimum") lowest d) _ b h in
    let m = some_then (bound_at (codes "maximum") lowest d) _ b l.2 in
    let s = some_then (bound_at (codes "multipleOf") (pos 1) d) _ b m.2 in
    let whole : Bounds = record { minimum = l.0; maximum = m.0; multiple_of = s.0 } in
    let r = only_where (is_range l.0 m.0) (Some whole) b s.2 in
    subst (λ c. is_bounded (object (rule_members (Int c))) ≡ true) (same_Some whole b r.1)
    (all_bounds l.0 m.0 s.0
    (given (codes "minimum") lowest d l.0 t.0 l.1)
    (given (codes "maximum") lowest d m.0 t.1 m.1)
    (given (codes "multipleOf") (pos 1) d s.0 t.2 s.1))

-- what says that it is a flag is of that kind
flag_kind : (d : Data) (word : Option (List ℕ)) → text_at (codes "type") d ≡ word
    → is_word (codes "boolean") word ≡ true → kind_of d ≡ Some kind.Flag
flag_kind d None is h = cc
flag_kind d (Some w) is h =
    let word = (bytes_eq-Decides w (codes "boolean")).0 h in
    rw (is, word) refl

-- the bounds of a number as the tests of its type tell
int_bounded : (d : Data) (b : Bounds) (flag text : Bool) → kind_of d ≡ Some kind.Int
    → says (codes "type") (codes "boolean") d ≡ flag → says (codes "type") (codes "string") d ≡ text
    → bounds_of d ≡ Some b
    → cond flag true (cond text (is_some (get (codes "maxLength") d))
    (is_some (get (codes "minimum") d) && is_some (get (codes "maximum") d)
    && is_some (get (codes "multipleOf") d))) ≡ true
    → is_bounded (object (rule_members (Int b))) ≡ true
int_bounded d b true text k is at h g =
    let other = flag_kind d (text_at (codes "type") d) refl is in
    let same : kind.Flag ≡ kind.Int = same_Some kind.Flag kind.Int (sym other ∙ k) in cc
int_bounded d b false true k is at h g =
    let other = text_kind d (text_at (codes "type") d) refl at in
    let same : kind.Text ≡ kind.Int = same_Some kind.Text kind.Int (sym other ∙ k) in cc
int_bounded d b false false k is at h g = int_given d b h g

-- what has its bounds has them again
bounded_kind : (d : Data) (r : Rule) (of : Kind) → kind_of d ≡ Some of → rule_of of d ≡ Some r
    → is_bounded d ≡ true → is_bounded (object (rule_members r)) ≡ true
bounded_kind d r kind.Flag k h g =
    subst (λ q. is_bounded (object (rule_members q)) ≡ true) (same_Some Flag r h) refl
bounded_kind d r kind.Text k h g =
    let a = made_of Text (length_of d) r h in
    subst (λ q. is_bounded (object (rule_members q)) ≡ true) a.2 refl
bounded_kind d r kind.Int k h g =
    let a = made_of Int (bounds_of d) r h in
    subst (λ q. is_bounded (object (rule_members q)) ≡ true) a.2
    (int_bounded d a.0 (says (codes "type") (codes "boolean") d) (says (codes "type")
    (codes "string") d)
    k refl refl a.1 g)

-- the same of a property
bounded_rule : (k : List ℕ) (d : Data) (r : Rule) → property_of k d ≡ Ok r → is_bounded d ≡ true
    → is_bounded (object (rule_members r)) ≡ true
bounded_rule k d r h g =
    let a = ok_then (demand (is_field_name k) (fault.FieldName k)) _ r h in
    let b = ok_then (or_fault (fault.Kind k) (kind_of d)) _ r a.2 in
    let c = ok_then (known_property b.0 d) _ r b.2 in
    bounded_kind d r b.0 (some_of (fault.Kind k) (kind_of d) b.0 b.1)
    (some_of (fault.Bounds k) (rule_of b.0 d) r c.2) g

-- there is something with its bounds
there_bounded : (o : Option Data) → is_bounded_if o ≡ true
    → (p : Data) × (o ≡ Some p) × (is_bounded p ≡ true)
there_bounded None h = cc
there_bounded (Some p) h = (p, refl, h)

-- a name that may be indexed may be again
bounded_again : (d : Data) (s : Shape) (n : List ℕ) → WasRead d s
    → is_bounded_if (property_at n d) ≡ true → is_bounded_if (property_at n (schema_data s)) ≡ true
bounded_again d s n r h =
    let p = there_bounded (property_at n d) h in
    let at : get_member n r.members ≡ Some p.0 =
    sym (ap (λ o. o >>= get n) (properties_at d r.members r.words)) ∙ p.1 in
    let f = found n r.members s.properties p.0 r.properties at in
    ap is_bounded_if (get_rule s.properties n f.rule f.is_named)
    ∙ bounded_rule n p.0 f.rule f.was p.2

-- one name, and then the others
unbounded_step : (d : Data) (s : Shape) (n : List ℕ) (ns : List (List ℕ)) (b : Bool) → WasRead d s
    → is_bounded_if (property_at n d) ≡ b → cond (not b) (Some n) (first_unbounded d ns) ≡ None
    → (first_unbounded d ns ≡ None → first_unbounded (schema_data s) ns ≡ None)
    → first_unbounded (schema_data s) (n ∷ ns) ≡ None
unbounded_step d s n ns false r is h rest = cc
unbounded_step d s n ns true r is h rest = rw (bounded_again d s n r is) (rest h)

-- names that may all be indexed may be again
unbounded_again : (d : Data) (s : Shape) (ns : List (List ℕ)) → WasRead d s
    → first_unbounded d ns ≡ None → first_unbounded (schema_data s) ns ≡ None
unbounded_again d s [] r h = refl
unbounded_again d s (n ∷ ns) r h =
    unbounded_step d s n ns (is_bounded_if (property_at n d)) r refl h (unbounded_again d s ns r)

-- and so may those of all indexes
all_unbounded_again : (d : Data) (s : Shape) (is : List (List (List ℕ))) → WasRead d s
    → first_unbounded_in d is ≡ None → first_unbounded_in (schema_data s) is ≡ None
all_unbounded_again d s [] r h = refl
all_unbounded_again d s (i ∷ is) r h =
    let a = none_or (first_unbounded d i) (first_unbounded_in d is) h in
    rw (unbounded_again d s i r a.0) (all_unbounded_again d s is r a.1)

-- nothing was at fault
unless_none : (o : Option (List ℕ)) (is js : List (List (List ℕ)))
    → unless fault.Index o (Ok is) ≡ Ok js → (o ≡ None) × (is ≡ js)
unless_none None is js h = (refl, same_ok is js h)
unless_none (Some x) is js h = cc

-- what is known of indexes that were read
record Indexed (d : Data) (is : List (List (List ℕ))) : Type 0 where
  shaped : AllByRecursion (λ i. is_index i ≡ true) is
  bound : first_unbounded_in d is ≡ None

-- the indexes that were read have their form and bounds
indexed : (d : Data) (l : Option Data) (is : List (List (List ℕ))) → indexes_in d l ≡ Ok is
    → Indexed d is
indexed d None is h =
    subst (λ js. Indexed d js) (same_ok [] is h) (record { shaped = tt; bound = refl })
indexed d (Some l) is h =
    let a = ok_then (or_fault (fault.Index (codes "indexes")) (index_list_of l)) _ is h in
    let list = some_of (fault.Index (codes "indexes")) (index_list_of l) a.0 a.1 in
    let b = some_then (as_array l) each_index a.0 list in
    let u = unless_none (first_unbounded_in d a.0) a.0 is a.2 in
    subst (λ js. Indexed d js) u.1 (record { shaped = forms b.0 a.0 b.2; bound = u.0 })

-- the indexes read again
pub indexes_again : (d : Data) (s : Shape) → WasRead d s → indexes_of (schema_data s) ≡ Ok s.indexes
indexes_again d s r =
    let i = indexed d (get (codes "indexes") d) s.indexes r.indexes in
    let none = all_unbounded_again d s s.indexes r i.bound in
    rw (each_again s.indexes i.shaped, none) refl
