-- What is left of a world's records while its things are gone through.
use Rattle.std.proofs.Common.{◌≡◌, ◌≢◌, ◌∙◌, ◌≤◌, ◌<◌, ◌+◌, inl, inr, ap, sym, subst, refl, ℕ, zero, suc, List, [], ◌∷◌, ◌++◌, map, length, take, drop, length-drop, Some, None, vec_len, Vec, Global, ◌==◌, Bool, true, false, cond, ◌||◌, is_some, Option, option_map, Less, Ordering, arith}
use Rattle.std.proofs.lemmas.Bool.Decides.{nat_tests}
use Rattle.std.proofs.lemmas.List.{drop-map, drop_all, nil_from_length, take-map}
use Rattle.std.specs.List.{AllByRecursion, flat_map}
use Rattle.std.specs.List.Sorted.{IsStrictlySortedBy}
use Rattle.std.specs.Map.{keys_of, values_of}
use Rattle.std.specs.Prelude.{slice_get}
use Rattle.rx_value.proofs.Lists.{all_taken, drop_at}
use Rattle.rx_value.proofs.Outcomes.{some_mapped}
use Rattle.rx_value.specs.Order.{text_cmp}
use Rattle.rx_value.specs.declared.state.State.{State}
use Rattle.rx_document.specs.Place.{place_cmp}
use Rattle.rx_document.specs.declared.stored.Stored.{Stored}
use Rattle.rx_collection.specs.Held.{Held}
use Rattle.rx_collection.specs.Lawful.{IsLawful}
use Rattle.rx_collection.specs.Since.{place_of, since}
use Rattle.rx_meta.specs.Side.{AreKnownByKey}
use Rattle.rx_record.specs.PartRows.{row_place}
use Rattle.rx_record.specs.Rows.{state_key}
use Rattle.rx_record.specs.Writable.{PlacesRise, StatesRise}
use Rattle.rx_replication.specs.Member.{Member}
use Rattle.rx_replication.proofs.Commits.{lawful-by_key}
use Rattle.rx_replication.proofs.Pages.{Rise, page_rises, since-page, stands_above}
use Rattle.rx_world.specs.declared.replication.Replication.{Replication}
use Rattle.rx_compact.specs.Plan.{in_parts, known_by, known_record, most_in_part, part_row}
use Rattle.rx_compact.proofs.Parts.{first_part, no_first_part}

-- ---- things that are gone through in order

module _ {X Y : Type 0} (xs : List X) where
  -- what is made of those that are left begins with what is made of the next
  pub map_next : (f : X → Y) (i : ℕ) (x : X) → slice_get xs i ≡ Some x
      → map f (drop i xs) ≡ (f x ∷ []) ++ map f (drop (i + 1) xs)
  map_next f i x is = ap (map f) (drop_at xs i x is)

  -- the same where several are made of each
  pub flat_next : (f : X → List Y) (i : ℕ) (x : X) → slice_get xs i ≡ Some x
      → flat_map f (drop i xs) ≡ f x ++ flat_map f (drop (i + 1) xs)
  flat_next f i x is = ap (flat_map f) (drop_at xs i x is)

  -- behind the last there is none
  pub map_end : (f : X → Y) (i : ℕ) → length xs ≤ i → map f (drop i xs) ≡ []
  map_end f i past = ap (map f) (drop_all i xs past)

  -- and none where several are made of each
  pub flat_end : (f : X → List Y) (i : ℕ) → length xs ≤ i → flat_map f (drop i xs) ≡ []
  flat_end f i past = ap (flat_map f) (drop_all i xs past)

-- ---- parts that are taken one after another

-- what the tests of a length tell of it
is_zero : (n : ℕ) → (n == 0) ≡ true → n ≡ 0
is_zero n is = grind (arith, nat_tests)

not_zero : (n : ℕ) → (n == 0) ≡ false → 0 < n
not_zero n is = grind (arith, nat_tests)

-- a vector of none is empty
pub vec_none : {X : Type 0} (v : Vec X Global) → (vec_len v == 0) ≡ true → v.items ≡ []
vec_none v is = nil_from_length v.items (omega (arith, is_zero (vec_len v) is, v.ok.0))

-- and one of some isn't
pub vec_some : {X : Type 0} (v : Vec X Global) → (vec_len v == 0) ≡ false → v.items ≢ []
vec_some v isnt none = absurd (omega (arith, not_zero (vec_len v) isnt, v.ok.0, ap length none))

module _ {X : Type 0} where
  -- the next part, and those of what is left
  pub part_next : (old new made : List X) → made ≡ take most_in_part old
      → new ≡ drop most_in_part old → made ≢ [] → in_parts old ≡ made ∷ in_parts new
  part_next old new made is rest some =
      first_part old (λ none. some (is ∙ none))
      ∙ ap (λ (p : List X). p ∷ in_parts (drop most_in_part old)) (sym is)
      ∙ ap (λ (l : List X). made ∷ in_parts l) (sym rest)

  -- an empty one is behind the last
  pub part_end : (old made : List X) → made ≡ take most_in_part old → made ≡ []
      → in_parts old ≡ []
  part_end old made is none = no_first_part old (sym is ∙ none)

  -- each part leaves less
  pub part_less : (old new : List X) → new ≡ drop most_in_part old → old ≢ []
      → length new < length old
  part_less [] new rest some = absurd (some refl)
  part_less (x ∷ xs) new rest some =
      omega (arith, ap length rest, length-drop most_in_part (x ∷ xs))

  -- nothing is taken of nothing
  pub part_some : (old made : List X) → made ≡ take most_in_part old → made ≢ [] → old ≢ []
  part_some [] made is some none = some is
  part_some (x ∷ xs) made is some none = absurd (cc)

module _ {X Y : Type 0} (f : X → Y) (old new : List X) (made : List Y)
    (is : made ≡ map f (take most_in_part old)) where
  -- a part of what is made is made of a part
  taken : made ≡ take most_in_part (map f old)
  taken = is ∙ sym (take-map f most_in_part old)

  -- the same where a part is made of what is taken
  pub made_next : new ≡ drop most_in_part old → made ≢ []
      → in_parts (map f old) ≡ made ∷ in_parts (map f new)
  made_next rest some =
      part_next (map f old) (map f new) made taken
      (ap (map f) rest ∙ sym (drop-map f most_in_part old)) some

  -- an empty one is behind the last
  pub made_end : made ≡ [] → in_parts (map f old) ≡ []
  made_end none = part_end (map f old) made taken none

  -- and each leaves less
  pub made_less : new ≡ drop most_in_part old → made ≢ [] → length new < length old
  made_less rest some =
      part_less old new rest
      (λ none. some (is ∙ ap (λ (l : List X). map f (take most_in_part l)) none))

-- ---- documents by rising place

-- those that are left rise too
pub rise_drop : (n : ℕ) (ds : List Stored) → Rise ds → Rise (drop n ds)
rise_drop zero ds rise = rise
rise_drop (suc n) [] rise = tt
rise_drop (suc n) (d ∷ ds) rise = rise_drop n ds rise.1

-- a place below those of documents is below those of their rows
below_rows : (d : Stored) (ds : List Stored)
    → ((e : Stored) → Member e ds → place_cmp (place_of d) (place_of e) ≡ Less)
    → AllByRecursion (λ p. place_cmp (place_of d) p ≡ Less) (map row_place (map part_row ds))
below_rows d [] below = tt
below_rows d (e ∷ ds) below = (below e (inl refl), below_rows d ds (λ x m. below x (inr m)))

-- and so do the rows made of them
pub rows_rise : (ds : List Stored) → Rise ds → PlacesRise (map part_row ds)
unfolding IsStrictlySortedBy
rows_rise [] rise = tt
rows_rise (d ∷ ds) rise = (below_rows d ds rise.0, rows_rise ds rise.1)

-- all documents of a collection do
pub all_rise : (c : Held) → IsLawful c → Rise (since c.documents None (length c.documents))
all_rise c lawful =
    let by_key = lawful-by_key c lawful in
    subst Rise (sym (since-page c.documents by_key None (length c.documents)))
    (page_rises c.documents by_key (stands_above None) (length c.documents))

-- ---- known states by rising key

module _ {K : Type 0} (c : K → K → Ordering) where
  -- the first of keys in order are so, and those behind them
  sorted_take : (n : ℕ) (ks : List K) → IsStrictlySortedBy c ks → IsStrictlySortedBy c (take n ks)
  unfolding IsStrictlySortedBy
  sorted_take zero ks sorted = tt
  sorted_take (suc n) [] sorted = tt
  sorted_take (suc n) (k ∷ ks) sorted =
      (all_taken (λ l. c k l ≡ Less) n ks sorted.0, sorted_take n ks sorted.1)

  sorted_drop : (n : ℕ) (ks : List K) → IsStrictlySortedBy c ks → IsStrictlySortedBy c (drop n ks)
  unfolding IsStrictlySortedBy
  sorted_drop zero ks sorted = sorted
  sorted_drop (suc n) [] sorted = tt
  sorted_drop (suc n) (k ∷ ks) sorted = sorted_drop n ks sorted.1

-- the first of states that rise do
pub states_taken : (old made : List State) → made ≡ take most_in_part old → StatesRise old
    → StatesRise made
states_taken old made is rise =
    subst (IsStrictlySortedBy text_cmp)
    (take-map state_key most_in_part old ∙ sym (ap (map state_key) is))
    (sorted_take text_cmp most_in_part (map state_key old) rise)

-- and so do those that are left
pub states_left : (old new : List State) → new ≡ drop most_in_part old → StatesRise old
    → StatesRise new
states_left old new is rise =
    subst (IsStrictlySortedBy text_cmp)
    (drop-map state_key most_in_part old ∙ sym (ap (map state_key) is))
    (sorted_drop text_cmp most_in_part (map state_key old) rise)

-- the keys of known states are their own
own_keys : (known : List (List ℕ × State)) → AllByRecursion (λ e. e.1.key ≡ e.0) known
    → keys_of known ≡ map state_key (values_of known)
own_keys [] keyed = refl
own_keys (e ∷ known) keyed = λ i. sym keyed.0 i ∷ own_keys known keyed.1 i

-- those that a fork knows by key rise
pub known_rise : (known : List (List ℕ × State)) (all : List State) → all ≡ values_of known
    → AreKnownByKey known → StatesRise all
known_rise known all is by_key =
    subst (IsStrictlySortedBy text_cmp)
    (own_keys known by_key.keyed ∙ sym (ap (map state_key) is)) by_key.rising

-- ---- what a fork knows

-- where no state is known and there is no checkpoint, there is no record
pub known_none : (r : Replication) (old made : List State) → made ≡ take most_in_part old
    → made ≡ [] → is_some r.side.up ≡ false → is_some r.side.down ≡ false
    → known_by r (in_parts old) ≡ []
known_none r old made is none up down =
    ap (known_by r) (part_end old made is none)
    ∙ ap (λ (b : Bool). cond (b || is_some r.side.down) (known_record r [] ∷ []) []) up
    ∙ ap (λ (b : Bool). cond b (known_record r [] ∷ []) []) down

-- behind an empty part nothing is left
nothing_left : (old new made : List State) → made ≡ take most_in_part old
    → new ≡ drop most_in_part old → made ≡ [] → new ≡ []
nothing_left [] new made is rest none = rest
nothing_left (x ∷ xs) new made is rest none = absurd (cc)

-- else there is one for the first part, which may be empty, and those of what is left
pub known_next : (r : Replication) (old new made : List State) → made ≡ take most_in_part old
    → new ≡ drop most_in_part old
    → (made ≡ [] → (is_some r.side.up || is_some r.side.down) ≡ true)
    → known_by r (in_parts old)
    ≡ (known_record r made ∷ []) ++ map (known_record r) (in_parts new)
known_next r old new [] is rest some =
    ap (known_by r) (part_end old [] is refl)
    ∙ ap (λ (b : Bool). cond b (known_record r [] ∷ []) []) (some refl)
    ∙ ap (λ (l : List State). known_record r [] ∷ map (known_record r) (in_parts l))
    (sym (nothing_left old new [] is rest refl))
known_next r old new (s ∷ made) is rest some =
    ap (known_by r) (part_next old new (s ∷ made) is rest (λ none. cc))

-- ---- whether there is a checkpoint

-- what is made of something is something, and so with nothing
pub shown_some : {A B : Type 0} (f : A → B) (o : Option A) (p : Option B) (b : Bool)
    → option_map f o ≡ p → is_some o ≡ b → is_some p ≡ b
shown_some {B = B} f o p b is test =
    sym (ap (λ (x : Option B). is_some x) is) ∙ sym (some_mapped f o) ∙ test

-- one of two tests is passed: the first
pub first_passed : (a b : Bool) → a ≡ true → (a || b) ≡ true
first_passed a b is = ap (λ (c : Bool). c || b) is

-- or the other
pub second_passed : (a b : Bool) → b ≡ true → (a || b) ≡ true
second_passed true b is = refl
second_passed false b is = is
