-- How long the text of a valid state is: its fields take no more than the schema's properties may.
use Rattle.std.proofs.Common.{◌≡◌, ℕ, suc, ◌+◌, ◌*◌, ◌-◌, ◌≤◌, ℤ, pos, negsuc, Bool, true, false, cond, ◌&&◌, not, nat_eq, nat_lt, nat_le, List, [], ◌∷◌, ◌++◌, length, sum_by, chars, IsUtf8, Option, Some, None, option_map, Ok, refl, sym, ap, ◌∙◌, subst, arith, length-append, int_le}
use Rattle.std.specs.Char.{is_ascii_alphabetic}
use Rattle.std.specs.List.{AllByRecursion, list_all}
use Rattle.std.specs.List.Sorted.{IsStrictlySortedBy}
use Rattle.std.specs.Map.{keys_of}
use Rattle.std.specs.Ordering.{match_ordering}
use Rattle.std.specs.Str.{bytes_eq}
use Rattle.std.specs.declared.cmp.Ordering.{Ordering}
use Rattle.std.specs.declared.cmp.Ordering.TheVariants.{Less, Equal, Greater}
use Rattle.std.proofs.lemmas.Bool.{and_parts, leb-true, ltb-true, ltb-false}
use Rattle.std.proofs.lemmas.Cmp.{nat_list_eq_equiv}
use Rattle.std.proofs.lemmas.Fmt.{length-decimal-le}
use Rattle.std.proofs.lemmas.List.Sums.{sum_by-cons}
use Rattle.std.proofs.lemmas.Slice.Eq.{bytes_eq-Decides}
use Rattle.json.specs.Print.{quoted}
use Rattle.serde_json.specs.Data.{Data, boolean, object, Members, no_members, member, put}
use Rattle.serde_json.specs.Find.{of_integer}
use Rattle.serde_json.specs.Written.{number_text, compact_text, members_text, comma_if}
use Rattle.rx_value.specs.Fields.{Pair, Pairs}
use Rattle.rx_value.specs.Name.{is_field_name, is_field_byte, longest_name}
use Rattle.rx_value.specs.Named.{named, without, AreRising}
use Rattle.rx_value.specs.Order.{text_cmp}
use Rattle.rx_value.specs.State.{mark, state_data}
use Rattle.rx_value.specs.Value.{is_number, is_value, largest}
use Rattle.rx_value.specs.Writing.{value_data, pairs_members}
use Rattle.rx_value.specs.declared.state.State.{State}
use Rattle.rx_value.specs.declared.value.Value.{Value}
use Rattle.rx_value.specs.declared.value.Value.TheVariants as value
use Rattle.rx_value.proofs.Ordered.{text_ties}
use Rattle.rx_value.proofs.Outcomes.{demanded, none_or, some_same}
use Rattle.rx_value.proofs.Places.{other}
use Rattle.rx_schema.specs.Property.{most_code_points}
use Rattle.rx_schema.specs.Reading.{code_points_of, few_enough, most_properties, most_indexes}
use Rattle.rx_schema.specs.Validity.{Fault, missing, unknown, of_length, fault_of, first_missing, first_unknown, first_bad, is_long_enough, unless_fits}
use Rattle.rx_schema.specs.declared.fault.SchemaFault.TheVariants.{TooMany}
use Rattle.rx_schema.specs.declared.rule.Rule.{Rule}
use Rattle.rx_schema.specs.declared.rule.Rule.TheVariants as rule
use Rattle.rx_schema.specs.declared.shape.Shape.{Shape}
use Rattle.rx_schema.proofs.Properties.{Rules}
use Rattle.rx_schema.proofs.Schemas.{was_read, field_names}
use Rattle.rx_wire.specs.Lawful.{IsSaid, IsState}
use Rattle.rx_steps.specs.Texts.{longest_state, HasText, IsWellFormed, longest_key}
use Rattle.rx_steps.proofs.TextsEscaped.{quoted_short, text_short, bytes_short}

-- ---- members

-- the bytes of members behind others, with the closing brace
pub members_size : Members → ℕ
members_size ms = length (members_text true ms)

-- the bytes of a member, with its colon and a comma
pub member_size : List ℕ → Data → ℕ
member_size k d = length (quoted k) + length (compact_text d) + 2

comma_short : (later : Bool) (xs : List ℕ) → length (comma_if later ++ xs) ≤ length xs + 1
comma_short true xs = omega arith
comma_short false xs = omega arith

-- a member before others
member_text : (later : Bool) (k : List ℕ) (d : Data) (ms : Members)
    → length (members_text later (member k d ms)) ≤ member_size k d + members_size ms
unfolding members_size member_size
member_text later k d ms =
    omega (
      arith,
      comma_short later (quoted k ++ 58 ∷ (compact_text d ++ members_text true ms)),
      length-append (quoted k) (58 ∷ (compact_text d ++ members_text true ms)),
      length-append (compact_text d) (members_text true ms),
    )

pub members_none : members_size no_members ≡ 1
unfolding members_size
members_none = refl

pub members_more : (k : List ℕ) (d : Data) (ms : Members)
    → members_size (member k d ms) ≤ member_size k d + members_size ms
unfolding members_size
members_more k d ms = member_text true k d ms

-- a member, by its name and its value
pub member_short : (k : List ℕ) (d : Data)
    → member_size k d ≤ 6 * length k + length (compact_text d) + 4
unfolding member_size
member_short k d = omega (arith, quoted_short k)

-- members that are the first
first_members : (ms : Members) → length (members_text false ms) ≤ members_size ms
unfolding members_size
first_members no_members = omega arith
first_members (member k d ms) = omega arith

-- the object of members
pub object_size : (ms : Members) → length (compact_text (object ms)) ≤ members_size ms + 1
object_size ms = omega (arith, first_members ms)

-- members are no shorter than those behind the first
pub members_rest : (k : List ℕ) (d : Data) (ms : Members)
    → members_size ms ≤ members_size (member k d ms)
unfolding members_size
members_rest k d ms =
    omega (
      arith,
      length-append (quoted k) (58 ∷ (compact_text d ++ members_text true ms)),
      length-append (compact_text d) (members_text true ms),
    )

-- nor than the value of the first
pub members_first : (k : List ℕ) (d : Data) (ms : Members)
    → length (compact_text d) ≤ members_size (member k d ms)
unfolding members_size
members_first k d ms =
    omega (
      arith,
      length-append (quoted k) (58 ∷ (compact_text d ++ members_text true ms)),
      length-append (compact_text d) (members_text true ms),
    )

-- and their object is no shorter
pub object_least : (ms : Members) → members_size ms ≤ length (compact_text (object ms))
unfolding members_size
object_least no_members = omega arith
object_least (member k d ms) = omega arith

-- one among others
among : (o : Ordering) (k l : List ℕ) (d e : Data) (ms : Members) → text_cmp k l ≡ o
    → members_size (put k d ms) ≤ member_size k d + members_size ms
    → members_size (match_ordering o (member k d (member l e ms)) (member l d ms)
    (member l e (put k d ms)))
    ≤ member_size k d + members_size (member l e ms)
unfolding members_size member_size
among Less k l d e ms is rest = member_text true k d (member l e ms)
among Equal k l d e ms is rest =
    omega (
      arith,
      member_text true l d ms,
      ap (λ n. length (quoted n)) (text_ties k l is),
      length-append (quoted l) (58 ∷ (compact_text e ++ members_text true ms)),
      length-append (compact_text e) (members_text true ms),
    )
among Greater k l d e ms is rest =
    omega (
      arith,
      rest,
      length-append (quoted l) (58 ∷ (compact_text e ++ members_text true ms)),
      length-append (compact_text e) (members_text true ms),
      length-append (quoted l) (58 ∷ (compact_text e ++ members_text true (put k d ms))),
      length-append (compact_text e) (members_text true (put k d ms)),
    )

pub members_put : (k : List ℕ) (d : Data) (ms : Members)
    → members_size (put k d ms) ≤ member_size k d + members_size ms
members_put k d no_members = members_more k d no_members
members_put k d (member l e ms) =
    among (text_cmp k l) k l d e ms refl (members_put k d ms)

-- ---- values

-- a number of a field
number_short : (z : ℤ) → is_number z ≡ true → length (number_text (of_integer z)) ≤ 17
number_short (pos n) h =
    let high =
    (and_parts (int_le (negsuc (largest - 1)) (pos n)) (int_le (pos n) (pos largest)) h).1 in
    let small : n ≤ largest = leb-true n largest high in
    omega (arith, length-decimal-le 17 n (omega arith) (omega arith) (omega arith))
number_short (negsuc n) h =
    let low =
    (and_parts (int_le (negsuc (largest - 1)) (negsuc n)) (int_le (negsuc n) (pos largest)) h).0 in
    let small : n ≤ largest - 1 = leb-true n (largest - 1) low in
    omega (arith, length-decimal-le 16 (suc n) (omega arith) (omega arith) (omega arith))

-- a text that is no longer than it may be
long_enough : (most : ℕ) (is_key : Bool) (t : List ℕ) (fault : Fault)
    → unless_fits (is_long_enough most is_key t) fault ≡ None → length (chars t) ≤ most
long_enough most is_key t fault h = at_most (nat_lt most (length (chars t))) refl h
  where
    at_most : (b : Bool) → nat_lt most (length (chars t)) ≡ b
        → unless_fits (not b && not (is_key && (nat_eq (length (chars t)) 0))) fault ≡ None
        → length (chars t) ≤ most
    at_most true is h = absurd (cc)
    at_most false is h = omega (arith, ltb-false most (length (chars t)) is)

-- the value of a field, by the code points that its property takes
value_short : (r : Rule) (is_key : Bool) (name : List ℕ) (v : Value)
    → fault_of (Some r) is_key name v ≡ None → is_value v ≡ true → HasText v
    → length (compact_text (value_data v)) ≤ 6 * code_points_of r + 17
value_short rule.Flag is_key name (value.Flag true) h within text = omega arith
value_short rule.Flag is_key name (value.Flag false) h within text = omega arith
value_short rule.Flag is_key name (value.Int z) h within text = absurd (cc)
value_short rule.Flag is_key name (value.Text t) h within text = absurd (cc)
value_short (rule.Int b) is_key name (value.Flag f) h within text = absurd (cc)
value_short (rule.Int b) is_key name (value.Int z) h within text =
    omega (arith, number_short z within)
value_short (rule.Int b) is_key name (value.Text t) h within text = absurd (cc)
value_short (rule.Text most) is_key name (value.Flag f) h within text = absurd (cc)
value_short (rule.Text most) is_key name (value.Int z) h within text = absurd (cc)
value_short (rule.Text most) is_key name (value.Text t) h within text =
    omega (arith, text_short t text, long_enough most is_key t (of_length name) h)

-- a field's name
name_short : (k : List ℕ) → is_field_name k ≡ true → length k ≤ 64
name_short [] h = omega arith
name_short (c ∷ cs) h =
    let a = and_parts (is_ascii_alphabetic c && nat_lt (length cs) longest_name)
    (list_all is_field_byte cs) h in
    let b = and_parts (is_ascii_alphabetic c) (nat_lt (length cs) longest_name) a.0 in
    omega (arith, ltb-true (length cs) longest_name b.1)

-- ---- fields

-- The bytes that a field of such a property may take: six for each code point of its value, and for
-- each byte of its name, of which there are at most 64, four quotes or two and a number of 17
-- bytes, a colon and a comma.
pub room : Rule → ℕ
room r = 6 * code_points_of r + 405

-- the bytes that fields of these properties may take
abbrev rooms : Rules → ℕ
rooms rules = sum_by (λ p. room p.1) rules

rooms_more : (e : List ℕ × Rule) (es : Rules) → rooms (e ∷ es) ≡ room e.1 + rooms es
rooms_more e es = sum_by-cons (λ p. room p.1) e es

-- a field takes no more than its property may
pub record IsWithin (rules : Rules) (p : Pair) : Type 0 where
  rule : Rule
  is_named : named rules p.0 ≡ Some rule
  short : member_size p.0 (value_data p.1) ≤ room rule

-- what is left without a property
room_taken : (rules : Rules) (k : List ℕ) (r : Rule) → named rules k ≡ Some r
    → rooms (without rules k) + room r ≤ rooms rules
room_taken [] k r is = absurd (cc)
room_taken (e ∷ es) k r is =
    elim (bytes_eq k e.0) as (λ b. cond b (Some e.1) (named es k) ≡ Some r
    → rooms (cond b es (e ∷ without es k)) + room r ≤ rooms (e ∷ es)) [
      | true ↦ (λ found. omega (arith, ap room (some_same found), rooms_more e es))
      | false ↦ (λ rest. omega (
        arith,
        room_taken es k r rest,
        rooms_more e es,
        rooms_more e (without es k),
      ))
    ] is

-- another name's property is among what is left
named_left : (rules : Rules) (k q : List ℕ) → bytes_eq k q ≡ false
    → named (without rules k) q ≡ named rules q
named_left [] k q apart = refl
named_left (e ∷ es) k q apart = one (bytes_eq k e.0) refl (named_left es k q apart)
  where
    one : (b : Bool) → bytes_eq k e.0 ≡ b → named (without es k) q ≡ named es q
        → named (cond b es (e ∷ without es k)) q ≡ named (e ∷ es) q
    one true is rest =
        let same : k ≡ e.0 = (bytes_eq-Decides k e.0).0 is in
        let differs : bytes_eq q e.0 ≡ false =
        ap (bytes_eq q) (sym same) ∙ nat_list_eq_equiv.symm q k ∙ apart in
        sym (ap (λ b. cond b (Some e.1) (named es q)) differs)
    one false is rest = ap (cond (bytes_eq q e.0) (Some e.1)) rest

-- so later fields stay within it
within_left : (rules : Rules) (k : List ℕ) (ps : Pairs)
    → AllByRecursion (λ q. text_cmp k q ≡ Less) (keys_of ps) → AllByRecursion (IsWithin rules) ps
    → AllByRecursion (IsWithin (without rules k)) ps
within_left rules k [] below all = tt
within_left rules k (p ∷ ps) below all = (
  record {
    rule = all.0.rule;
    is_named = named_left rules k p.0 (other k p.0 Less below.0 refl) ∙ all.0.is_named;
    short = all.0.short;
  },
  within_left rules k ps below.1 all.1,
)

-- fields of rising names take no more than all properties may
pairs_fit : (rules : Rules) (ps : Pairs) → AreRising ps → AllByRecursion (IsWithin rules) ps
    → members_size (pairs_members ps) ≤ rooms rules + 1
unfolding IsStrictlySortedBy
pairs_fit rules [] rising all = omega (arith, members_none)
pairs_fit rules (p ∷ ps) rising all =
    omega (
      arith,
      members_more p.0 (value_data p.1) (pairs_members ps),
      all.0.short,
      room_taken rules p.0 all.0.rule all.0.is_named,
      pairs_fit (without rules p.0) ps rising.1 (within_left rules p.0 ps rising.0 all.1),
    )

-- ---- valid fields

-- a property has a field name
rule_name : (rules : Rules) (k : List ℕ) (r : Rule)
    → AllByRecursion (λ p. is_field_name p.0 ≡ true) rules
    → named rules k ≡ Some r → is_field_name k ≡ true
rule_name [] k r names is = absurd (cc)
rule_name (e ∷ es) k r names is = one (bytes_eq k e.0) refl is (rule_name es k r names.1)
  where
    one : (b : Bool) → bytes_eq k e.0 ≡ b → cond b (Some e.1) (named es k) ≡ Some r
        → (named es k ≡ Some r → is_field_name k ≡ true) → is_field_name k ≡ true
    one true at is rest = ap is_field_name ((bytes_eq-Decides k e.0).0 at) ∙ names.0
    one false at is rest = rest is

-- a valid field is within the room of its property
one_within : (rules : Rules) (p : Pair) (is_key : Bool) (o : Option Rule)
    → AllByRecursion (λ q. is_field_name q.0 ≡ true) rules → named rules p.0 ≡ o
    → fault_of o is_key p.0 p.1 ≡ None → is_value p.1 ≡ true → HasText p.1 → IsWithin rules p
unfolding member_size room
one_within rules p is_key None names is h within text = absurd (none_of p.1 h)
  where
    none_of : (v : Value) → fault_of None is_key p.0 v ≡ None → ⊥
    none_of (value.Flag b) h = cc
    none_of (value.Int z) h = cc
    none_of (value.Text t) h = cc
one_within rules p is_key (Some r) names is h within text = record {
  rule = r;
  is_named = is;
  short =
      omega (
        arith,
        quoted_short p.0,
        name_short p.0 (rule_name rules p.0 r names is),
        value_short r is_key p.0 p.1 h within text,
      );
}

all_within : (s : Shape) (ps : Pairs)
    → AllByRecursion (λ q. is_field_name q.0 ≡ true) s.properties → first_bad s ps ≡ None
    → AllByRecursion (λ p. is_value p.1 ≡ true) ps → AllByRecursion (λ p. HasText p.1) ps
    → AllByRecursion (IsWithin s.properties) ps
all_within s [] names h within texts = tt
all_within s (p ∷ ps) names h within texts =
    let both = none_or (fault_of (named s.properties p.0) (bytes_eq p.0 s.primary) p.0 p.1)
    (first_bad s ps) h in (
      one_within s.properties p (bytes_eq p.0 s.primary) (named s.properties p.0) names refl both.0
          within.0 texts.0,
      all_within s ps names both.1 within.1 texts.1,
    )

-- ---- states

-- the code points that texts of these properties may take together
abbrev points : Rules → ℕ
points rules = sum_by (λ p. code_points_of p.1) rules

points_more : (e : List ℕ × Rule) (es : Rules) → points (e ∷ es) ≡ code_points_of e.1 + points es
points_more e es = sum_by-cons (λ p. code_points_of p.1) e es

-- the room of properties, by their count and the code points that they take together
rooms_of : (rules : Rules)
    → rooms rules ≡ 6 * points rules + 405 * length rules
unfolding room
rooms_of [] = refl
rooms_of (e ∷ es) =
    omega (arith, rooms_of es, rooms_more e es, points_more e es)

-- a schema that was read is small
small : (s : Shape) → few_enough s.properties s.indexes ≡ Ok tt
    → ((length s.properties ≤ most_properties) × (points s.properties ≤ most_code_points))
small s h =
    let count = nat_le (length s.properties) most_properties in
    let indexes = nat_le (length s.indexes) most_indexes in
    let total = nat_le (points s.properties) most_code_points in
    let a = and_parts (count && indexes) total
    (demanded (count && indexes && total) TooMany tt h) in
    let b = and_parts count indexes a.0 in (
      leb-true (length s.properties) most_properties b.0,
      leb-true (points s.properties) most_code_points a.1,
    )

rooms_few : (s : Shape) → few_enough s.properties s.indexes ≡ Ok tt → rooms s.properties ≤ 812352
rooms_few s h =
    let few = small s h in
    omega (arith, rooms_of s.properties, few.0, few.1)

pub states_short : (s : Shape) (state : State) → IsSaid s → IsState s state → IsWellFormed state
    → length (compact_text (state_data state)) ≤ longest_state
unfolding member_size
states_short s state said lawful formed =
    let read = was_read said.0 s said.1 in
    let a = none_or (option_map missing (first_missing s.required state.fields)) _ lawful.valid in
    let b = none_or (option_map unknown (first_unknown s.properties state.fields)) _ a.1 in
    let names = field_names read.members s.properties read.properties in
    let ps = state.fields in
    omega (
      arith,
      object_size (put mark (boolean state.deleted) (pairs_members ps)),
      members_put mark (boolean state.deleted) (pairs_members ps),
      quoted_short mark,
      flag_short state.deleted,
      pairs_fit s.properties ps formed.fields.rising
          (all_within s ps names b.1 formed.fields.in_range formed.texts),
      rooms_few s read.few,
    )
  where
    flag_short : (b : Bool) → length (compact_text (boolean b)) ≤ 5
    flag_short true = omega arith
    flag_short false = omega arith

-- ---- keys

-- a property takes no more than all together
points_within : (rules : Rules) (k : List ℕ) (r : Rule) → named rules k ≡ Some r
    → code_points_of r ≤ points rules
points_within [] k r is = absurd (cc)
points_within (e ∷ es) k r is =
    elim (bytes_eq k e.0) as (λ b. cond b (Some e.1) (named es k) ≡ Some r
    → code_points_of r ≤ points (e ∷ es)) [
      | true ↦ (λ found. omega (arith, ap code_points_of (some_same found), points_more e es))
      | false ↦ (λ rest. omega (arith, points_within es k r rest, points_more e es))
    ] is

-- nor does a text
text_within : (rules : Rules) (k : List ℕ) (is_key : Bool) (o : Option Rule) (t : List ℕ)
    → named rules k ≡ o → fault_of o is_key k (value.Text t) ≡ None
    → length (chars t) ≤ points rules
text_within rules k is_key None t is h = absurd (cc)
text_within rules k is_key (Some rule.Flag) t is h = absurd (cc)
text_within rules k is_key (Some (rule.Int b)) t is h = absurd (cc)
text_within rules k is_key (Some (rule.Text most)) t is h =
    omega (
      arith,
      long_enough most is_key t (of_length k) h,
      points_within rules k (rule.Text most) is,
    )

-- a text among valid fields
field_text : (s : Shape) (ps : Pairs) (k t : List ℕ) → first_bad s ps ≡ None
    → AllByRecursion (λ p. HasText p.1) ps → named ps k ≡ Some (value.Text t)
    → (IsUtf8 t × (length (chars t) ≤ points s.properties))
field_text s [] k t h texts is = absurd (cc)
field_text s (p ∷ ps) k t h texts is =
    let is_key = bytes_eq p.0 s.primary in
    let both = none_or (fault_of (named s.properties p.0) is_key p.0 p.1) (first_bad s ps) h in
    elim (bytes_eq k p.0) as (λ b. cond b (Some p.1) (named ps k) ≡ Some (value.Text t)
    → (IsUtf8 t × (length (chars t) ≤ points s.properties))) [
      | true ↦ (λ found.
          let same : p.1 ≡ value.Text t = some_same found in (
            subst HasText same texts.0,
            text_within s.properties p.0 is_key (named s.properties p.0) t refl
                (subst (λ v. fault_of (named s.properties p.0) is_key p.0 v ≡ None) same both.0),
          ))
      | false ↦ (λ rest. field_text s ps k t both.1 texts.1 rest)
    ] is

key_of : (s : Shape) (state : State) → IsSaid s → IsState s state → IsWellFormed state
    → (IsUtf8 state.key × (length (chars state.key) ≤ most_code_points))
key_of s state said lawful formed =
    let read = was_read said.0 s said.1 in
    let a = none_or (option_map missing (first_missing s.required state.fields)) _ lawful.valid in
    let b = none_or (option_map unknown (first_unknown s.properties state.fields)) _ a.1 in
    let key = field_text s state.fields s.primary state.key b.1 formed.texts lawful.carried in
    (key.0, omega (arith, key.1, (small s read.few).1))

-- a key is UTF-8
pub keys_text : (s : Shape) (state : State) → IsSaid s → IsState s state → IsWellFormed state
    → IsUtf8 state.key
keys_text s state said lawful formed = (key_of s state said lawful formed).0

-- and short
pub keys_short : (s : Shape) (state : State) → IsSaid s → IsState s state → IsWellFormed state
    → length state.key ≤ longest_key
keys_short s state said lawful formed =
    let key = key_of s state said lawful formed in
    omega (arith, bytes_short state.key key.0, key.1)

-- ---- names

-- what is within a schema's properties has a field name
all_named : (rules : Rules) (ps : Pairs) → AllByRecursion (λ p. is_field_name p.0 ≡ true) rules
    → AllByRecursion (IsWithin rules) ps → AllByRecursion (λ p. is_field_name p.0 ≡ true) ps
all_named rules [] names all = tt
all_named rules (p ∷ ps) names all = (
  rule_name rules p.0 all.0.rule names all.0.is_named,
  all_named rules ps names all.1,
)

pub names_of : (s : Shape) (state : State) → IsSaid s → IsState s state → IsWellFormed state
    → AllByRecursion (λ p. is_field_name p.0 ≡ true) state.fields
names_of s state said lawful formed =
    let read = was_read said.0 s said.1 in
    let a = none_or (option_map missing (first_missing s.required state.fields)) _ lawful.valid in
    let b = none_or (option_map unknown (first_unknown s.properties state.fields)) _ a.1 in
    let names = field_names read.members s.properties read.properties in
    all_named s.properties state.fields names
    (all_within s state.fields names b.1 formed.fields.in_range formed.texts)
