-- What a handler makes of two valid states is valid.
use Rattle.std.proofs.Common.{◌≡◌, ℕ, Bool, true, false, cond, List, [], ◌∷◌, Option, Some, None, is_none, option_map, refl, sym, ap, ◌∙◌, true≢false}
use Rattle.std.proofs.lemmas.Slice.Eq.{bytes_eq-Decides}
use Rattle.std.proofs.lemmas.Bool.{and_parts, and_from}
use Rattle.std.specs.List.{AllByRecursion}
use Rattle.std.specs.Map.{keys_of}
use Rattle.std.specs.Option.{option_or}
use Rattle.std.specs.Ordering.{is_lt}
use Rattle.std.specs.Str.{bytes_eq}
use Rattle.rx_value.specs.Fields.{Pairs}
use Rattle.rx_value.specs.Named.{named, put_in_order}
use Rattle.rx_value.specs.Order.{order_of}
use Rattle.rx_value.specs.Value.{is_text}
use Rattle.rx_value.specs.declared.state.State.{State}
use Rattle.rx_value.specs.declared.value.Value.{Value}
use Rattle.rx_value.specs.declared.value.Value.TheVariants as value
use Rattle.rx_value.proofs.Outcomes.{none_or, none_is, none_mapped}
use Rattle.rx_schema.specs.Validity.{fault_of, first_missing, first_unknown, first_bad, first_fault, missing, unknown}
use Rattle.rx_schema.specs.declared.shape.Shape.{Shape}
use Rattle.rx_collection.proofs.Named.{at_name, all_put}
use Rattle.rx_handler.specs.Resolve.{resolve, greater_of, raised_to, joined_at, joined, number_of, is_greater}
use Rattle.rx_handler.specs.declared.kind.HandlerKind.TheVariants.{MasterWins, ForkWins, Greater, Join}
use Rattle.rx_handler.proofs.Joined.{joins}
use Rattle.rx_fork.specs.Valid.{is_valid, ResolvesKeys, ResolvesValid}

-- ---- keys

key_of_greater : (b : Bool) (real new : State) → real.key ≡ new.key
    → (cond b new real).key ≡ new.key
key_of_greater true real new same = refl
key_of_greater false real new same = same

pub resolves_keys : ResolvesKeys
resolves_keys MasterWins field real new same = same
resolves_keys ForkWins field real new same = refl
resolves_keys Greater field real new same =
    key_of_greater (is_greater (number_of (named real.fields field))
    (number_of (named new.fields field))) real new same
resolves_keys Join field real new same = same

-- ---- fields one by one

-- a field that is a property, whose value fits
pub record IsFine (s : Shape) (name : List ℕ) (v : Value) : Type 0 where
  pub property : is_none (named s.properties name) ≡ false
  pub fits : fault_of (named s.properties name) (bytes_eq name s.primary) name v ≡ None

not_some : {A B : Type 0} (x : A) → Some x ≡ None → B
not_some x e = absurd (cc)

known_first : (b : Bool) (name : List ℕ) (rest : Option (List ℕ)) → cond b (Some name) rest ≡ None
    → (b ≡ false) × (rest ≡ None)
known_first true name rest none = not_some name none
known_first false name rest none = (refl, none)

all_fine : (s : Shape) (ps : Pairs) → first_unknown s.properties ps ≡ None → first_bad s ps ≡ None
    → AllByRecursion (λ p. IsFine s p.0 p.1) ps
all_fine s [] known good = tt
all_fine s (p ∷ ps) known good =
    let a = known_first (is_none (named s.properties p.0)) p.0 (first_unknown s.properties ps)
    known in
    let b = none_or (fault_of (named s.properties p.0) (bytes_eq p.0 s.primary) p.0 p.1)
    (first_bad s ps) good in
    (record { property = a.0; fits = b.0 }, all_fine s ps a.1 b.1)

fine_known : (s : Shape) (ps : Pairs) → AllByRecursion (λ p. IsFine s p.0 p.1) ps
    → first_unknown s.properties ps ≡ None
fine_known s [] all = refl
fine_known s (p ∷ ps) all =
    ap (λ b. cond b (Some p.0) (first_unknown s.properties ps)) all.0.property
    ∙ fine_known s ps all.1

fine_good : (s : Shape) (ps : Pairs) → AllByRecursion (λ p. IsFine s p.0 p.1) ps
    → first_bad s ps ≡ None
fine_good s [] all = refl
fine_good s (p ∷ ps) all =
    ap (λ o. option_or o (first_bad s ps)) all.0.fits ∙ fine_good s ps all.1

-- ---- joined fields

fine_raised : (s : Shape) (ps qs : Pairs) (name : List ℕ) (o : Option Value) → named qs name ≡ o
    → AllByRecursion (λ p. IsFine s p.0 p.1) ps → AllByRecursion (λ p. IsFine s p.0 p.1) qs
    → AllByRecursion (λ p. IsFine s p.0 p.1) (raised_to ps name o)
fine_raised s ps qs name None is these those = these
fine_raised s ps qs name (Some v) is these those =
    elim (is_lt (order_of (named ps name) (Some v)))
    as (λ b. AllByRecursion (λ p. IsFine s p.0 p.1) (cond b (put_in_order ps name v) ps)) [
      | true ↦ all_put (IsFine s) ps name v (at_name (IsFine s) qs name v those is) these
      | false ↦ these
    ]

fine_joined : (s : Shape) (qs : Pairs) (names : List (List ℕ)) (ps : Pairs)
    → AllByRecursion (λ p. IsFine s p.0 p.1) ps → AllByRecursion (λ p. IsFine s p.0 p.1) qs
    → AllByRecursion (λ p. IsFine s p.0 p.1) (joined_at qs names ps)
fine_joined s qs [] ps these those = these
fine_joined s qs (n ∷ names) ps these those =
    fine_joined s qs names (raised_to ps n (named qs n))
    (fine_raised s ps qs n (named qs n) refl these those) those

-- what the first has is there
there_still : (b : Bool) (a w : Option Value) → is_none a ≡ false → (b ≡ true → is_none w ≡ false)
    → is_none (cond b w a) ≡ false
there_still true a w is more = more refl
there_still false a w is more = is

lower_there : (a w : Option Value) → is_none a ≡ false → is_lt (order_of a w) ≡ true
    → is_none w ≡ false
lower_there (Some v) (Some w) is lower = refl
lower_there (Some v) None is lower = absurd (cc)
lower_there None w is lower = absurd (cc)

missing_none : (names : List (List ℕ)) (ps qs : Pairs) → first_missing names ps ≡ None
    → first_missing names (joined ps qs) ≡ None
missing_none [] ps qs none = refl
missing_none (n ∷ names) ps qs none =
    let a = known_first (is_none (named ps n)) n (first_missing names ps) none in
    ap (λ b. cond b (Some n) (first_missing names (joined ps qs)))
    (ap is_none (joins ps qs n)
    ∙ there_still (is_lt (order_of (named ps n) (named qs n))) (named ps n) (named qs n) a.0
    (lower_there (named ps n) (named qs n) a.0))
    ∙ missing_none names ps qs a.1

-- joined valid fields are valid
joined_valid : (s : Shape) (ps qs : Pairs) → first_fault s ps ≡ None → first_fault s qs ≡ None
    → first_fault s (joined ps qs) ≡ None
joined_valid s ps qs h k =
    let a = none_or (option_map missing (first_missing s.required ps)) _ h in
    let b = none_or (option_map unknown (first_unknown s.properties ps)) _ a.1 in
    let c = none_or (option_map missing (first_missing s.required qs)) _ k in
    let d = none_or (option_map unknown (first_unknown s.properties qs)) _ c.1 in
    let these = all_fine s ps (none_mapped unknown (first_unknown s.properties ps) b.0) b.1 in
    let those = all_fine s qs (none_mapped unknown (first_unknown s.properties qs) d.0) d.1 in
    let all = fine_joined s qs (keys_of qs) ps these those in
    ap (λ (o : Option (List ℕ)). option_or (option_map missing o)
    (option_or (option_map unknown (first_unknown s.properties (joined ps qs)))
    (first_bad s (joined ps qs))))
    (missing_none s.required ps qs (none_mapped missing (first_missing s.required ps) a.0))
    ∙ ap (λ (o : Option (List ℕ)). option_or (option_map unknown o) (first_bad s (joined ps qs)))
    (fine_known s (joined ps qs) all)
    ∙ fine_good s (joined ps qs) all

-- ---- the primary key

text_is : (key : List ℕ) (o : Option Value) → is_text key o ≡ true → o ≡ Some (value.Text key)
text_is key (Some (value.Text t)) is = ap (λ k. Some (value.Text k)) ((bytes_eq-Decides t key).0 is)
text_is key _ is = absurd (true≢false (sym is))

greater_itself : (o : Option Value) → greater_of o o ≡ o
greater_itself o =
    elim (is_lt (order_of o o)) as (λ b. cond b o o ≡ o) [ true ↦ refl | false ↦ refl ]

joined_state : (schema : Shape) (field : List ℕ) (real new : State) → real.key ≡ new.key
    → is_valid schema real ≡ true → is_valid schema new ≡ true
    → is_valid schema (resolve Join field real new) ≡ true
joined_state schema field real new same h k =
    let a = and_parts (is_none (first_fault schema real.fields)) _ h in
    let b = and_parts (is_none (first_fault schema new.fields)) _ k in
    let real_key = text_is real.key (named real.fields schema.primary) a.1 in
    let new_key = text_is new.key (named new.fields schema.primary) b.1
    ∙ ap (λ l. Some (value.Text l)) (sym same) in
    and_from (is_none (first_fault schema (joined real.fields new.fields)))
    (is_text real.key (named (joined real.fields new.fields) schema.primary))
    (ap is_none (joined_valid schema real.fields new.fields
    (none_is (first_fault schema real.fields) a.0) (none_is (first_fault schema new.fields) b.0)))
    (ap (is_text real.key) (joins real.fields new.fields schema.primary
    ∙ ap (λ o. greater_of o (named new.fields schema.primary)) real_key
    ∙ ap (greater_of (Some (value.Text real.key))) new_key
    ∙ greater_itself (Some (value.Text real.key)))
    ∙ (bytes_eq-Decides real.key real.key).1 refl)

-- ---- every kind

valid_of_greater : (schema : Shape) (b : Bool) (real new : State) → is_valid schema real ≡ true
    → is_valid schema new ≡ true → is_valid schema (cond b new real) ≡ true
valid_of_greater schema true real new h k = k
valid_of_greater schema false real new h k = h

pub resolves_valid : ResolvesValid
resolves_valid schema MasterWins field real new same h k = h
resolves_valid schema ForkWins field real new same h k = k
resolves_valid schema Greater field real new same h k =
    valid_of_greater schema (is_greater (number_of (named real.fields field))
    (number_of (named new.fields field))) real new h k
resolves_valid schema Join field real new same h k = joined_state schema field real new same h k
