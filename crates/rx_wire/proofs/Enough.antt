-- What is kept of an object is enough: it is the same message, or has the same first fault.
use Rattle.std.proofs.Common.{◌≡◌, ℕ, zero, suc, ◌≤◌, leb, Bool, true, false, true≢false, cond, ◌&&◌, List, [], ◌∷◌, ◌++◌, length, Option, Some, None, option_map, is_none, is_some, Result, Ok, Err, IfOk, codes, refl, sym, ap, ap₂, ◌∙◌, arith}
use Rattle.std.proofs.lemmas.Bool.{leb-true, leb-false}
use Rattle.std.proofs.lemmas.Slice.Eq.{bytes_eq-Decides}
use Rattle.std.specs.Prelude.{⊤}
use Rattle.std.specs.Result.{result_ok}
use Rattle.std.specs.Str.{IsUtf8, bytes_eq}
use Rattle.serde_json.specs.Data.{Data, null, boolean, number, string, array, object, Items, no_items, item}
use Rattle.serde_json.specs.Events.{items_len}
use Rattle.serde_json.specs.Find.{get, as_str, as_number, as_bool, as_object, as_u64}
use Rattle.serde_json.specs.Read.{read}
use Rattle.rx_value.specs.Due.{Due, ◌>>◌, ◌>>=◌, only_if, or_fault, unless}
use Rattle.rx_value.specs.Form.{missing, is_among, unexpected, text_at, whole_within}
use Rattle.rx_value.specs.Named.{named}
use Rattle.rx_value.specs.Reading.{fields_beside}
use Rattle.rx_value.specs.State.{mark}
use Rattle.rx_value.specs.Value.{largest}
use Rattle.rx_value.specs.declared.state.State.{State}
use Rattle.rx_document.specs.declared.place.Place.{Place}
use Rattle.rx_schema.specs.Writing.{kinds_of}
use Rattle.rx_schema.specs.declared.shape.Shape.{Shape}
use Rattle.rx_wire.specs.Form.{has_needed, has_form, number_at, count_at, place_of, maybe_place, place_at}
use Rattle.rx_wire.specs.Kept.{is_known, below, kept, kept_items, kept_object, kept_request, kept_reply}
use Rattle.rx_wire.specs.Lawful.{IsRequest, IsReply}
use Rattle.rx_wire.specs.Limits.{longest_line, most_states}
use Rattle.rx_wire.specs.Reading.{object_of, has_hash, pull_of, push_of, asked_by, request_in, conflicts_of, docs_of, reply_in}
use Rattle.rx_wire.specs.Spelling.{if_spelt, request_of, reply_of}
use Rattle.rx_wire.specs.States.{mark_at, is_state, is_state_if, is_row, all_items, list_of, states_at, rows_at, valid_state, state_of, maybe_state, has_key, row_of, row_key, state_key, unless_twice, read_after, rows_of, states_of}
use Rattle.rx_wire.specs.Writing.{request_text, reply_text}
use Rattle.rx_wire.specs.declared.message.AskKind.TheVariants.{Push, Pull}
use Rattle.rx_wire.specs.declared.message.Body.TheVariants.{Conflicts, Docs}
use Rattle.rx_wire.specs.declared.message.PushRow.{PushRow}
use Rattle.rx_wire.specs.declared.message.Reply.{Reply}
use Rattle.rx_wire.specs.declared.message.Request.{Request}
use Rattle.rx_wire.specs.declared.fault.WireFault.{WireFault}
use Rattle.rx_wire.specs.declared.fault.WireFault.TheVariants as fault
use Rattle.rx_wire.proofs.Members.{get_known, AreKnown, unexpected_known}
use Rattle.rx_wire.proofs.Lawful.{request_lawful, reply_lawful}
use Rattle.rx_wire.proofs.Lines.{object_there, object_missing, not_json}
use Rattle.rx_wire.proofs.Unknown.{neither, state_kept}

-- ---- one reading after another

-- the same function of the same thing
with : {A B : Type 0} {f g : A → B} {x y : A} → f ≡ g → x ≡ y → f x ≡ g y
with e h = ap₂ (λ f x. f x) e h

each : {A B E : Type 0} (r : Result A E) (f g : A → Result B E) → ((x : A) → f x ≡ g x)
    → (r >> f) ≡ (r >> g)
each (Ok x) f g h = h x
each (Err e) f g h = refl

-- equal readings, and equal ones after them
then : {A B E : Type 0} (r q : Result A E) (f g : A → Result B E) → r ≡ q
    → ((x : A) → f x ≡ g x) → (r >> f) ≡ (q >> g)
then r q f g e h = ap (λ s. s >> f) e ∙ each q f g h

-- ---- what stands at a name

get_kept : (s : Shape) (levels : ℕ) (k : List ℕ) (d : Data) → is_known s levels k ≡ true
    → get k (kept s levels d) ≡ option_map (kept s (below levels k)) (get k d)
get_kept s levels k null h = refl
get_kept s levels k (boolean b) h = refl
get_kept s levels k (number n) h = refl
get_kept s levels k (string t) h = refl
get_kept s levels k (array ds) h = refl
get_kept s levels k (object ms) h = get_known s levels k ms h

over : {B : Type 0} (s : Shape) (levels : ℕ) (f : Data → Option B)
    → ((d : Data) → f (kept s levels d) ≡ f d)
    → (o : Option Data) → (option_map (kept s levels) o >>= f) ≡ (o >>= f)
over s levels f h None = refl
over s levels f h (Some d) = h d

at_kept : {B : Type 0} (s : Shape) (levels : ℕ) (k : List ℕ) (f : Data → Option B) (d : Data)
    → is_known s levels k ≡ true → ((e : Data) → f (kept s (below levels k) e) ≡ f e)
    → (get k (kept s levels d) >>= f) ≡ (get k d >>= f)
at_kept s levels k f d h same =
    ap (λ o. o >>= f) (get_kept s levels k d h) ∙ over s (below levels k) f same (get k d)

str_kept : (s : Shape) (levels : ℕ) (d : Data) → as_str (kept s levels d) ≡ as_str d
str_kept s levels null = refl
str_kept s levels (boolean b) = refl
str_kept s levels (number n) = refl
str_kept s levels (string t) = refl
str_kept s levels (array ds) = refl
str_kept s levels (object ms) = refl

number_kept : (s : Shape) (levels : ℕ) (d : Data) → as_number (kept s levels d) ≡ as_number d
number_kept s levels null = refl
number_kept s levels (boolean b) = refl
number_kept s levels (number n) = refl
number_kept s levels (string t) = refl
number_kept s levels (array ds) = refl
number_kept s levels (object ms) = refl

bool_kept : (s : Shape) (levels : ℕ) (d : Data) → as_bool (kept s levels d) ≡ as_bool d
bool_kept s levels null = refl
bool_kept s levels (boolean b) = refl
bool_kept s levels (number n) = refl
bool_kept s levels (string t) = refl
bool_kept s levels (array ds) = refl
bool_kept s levels (object ms) = refl

-- an object stays one
pub object_kept : (s : Shape) (levels : ℕ) (d : Data)
    → is_some (as_object (kept s levels d)) ≡ is_some (as_object d)
object_kept s levels null = refl
object_kept s levels (boolean b) = refl
object_kept s levels (number n) = refl
object_kept s levels (string t) = refl
object_kept s levels (array ds) = refl
object_kept s levels (object ms) = refl

text_kept : (s : Shape) (levels : ℕ) (k : List ℕ) (d : Data) → is_known s levels k ≡ true
    → text_at k (kept s levels d) ≡ text_at k d
text_kept s levels k d h = at_kept s levels k as_str d h (str_kept s (below levels k))

whole_kept : (s : Shape) (levels : ℕ) (k : List ℕ) (most : ℕ) (d : Data)
    → is_known s levels k ≡ true
    → whole_within k 1 most (kept s levels d) ≡ whole_within k 1 most d
whole_kept s levels k most d h =
    ap (λ o. o >>= as_u64 >>= λ n. only_if (leb 1 n && leb n most) (Some n))
    (at_kept s levels k as_number d h (number_kept s (below levels k)))

-- ---- the form

missing_kept : (s : Shape) (levels : ℕ) (names : List (List ℕ)) (d : Data)
    → AreKnown s levels names → missing names (kept s levels d) ≡ missing names d
missing_kept s levels [] d h = refl
missing_kept s levels (name ∷ names) d h =
    ap₂ (λ b o. cond b (Some name) o)
    (ap is_none (get_kept s levels name d h.0) ∙ none_mapped (get name d))
    (missing_kept s levels names d h.1)
  where
    none_mapped : (o : Option Data)
        → is_none (option_map (kept s (below levels name)) o) ≡ is_none o
    none_mapped None = refl
    none_mapped (Some e) = refl

unexpected_kept : (s : Shape) (levels : ℕ) (needed optional : List (List ℕ)) (d : Data)
    → AreKnown s levels needed → AreKnown s levels optional
    → unexpected needed optional (kept s levels d) ≡ unexpected needed optional d
unexpected_kept s levels needed optional null h g = refl
unexpected_kept s levels needed optional (boolean b) h g = refl
unexpected_kept s levels needed optional (number n) h g = refl
unexpected_kept s levels needed optional (string t) h g = refl
unexpected_kept s levels needed optional (array ds) h g = refl
unexpected_kept s levels needed optional (object ms) h g =
    unexpected_known s levels needed optional ms h g

needed_kept : (s : Shape) (needed : List (List ℕ)) (d : Data) → AreKnown s 4 needed
    → has_needed needed (kept s 4 d) ≡ has_needed needed d
needed_kept s needed d h =
    ap (λ o. unless fault.Missing o (Ok tt)) (missing_kept s 4 needed d h)

form_kept : (s : Shape) (needed optional : List (List ℕ)) (d : Data) → AreKnown s 4 needed
    → AreKnown s 4 optional
    → has_form needed optional (kept s 4 d) ≡ has_form needed optional d
form_kept s needed optional d h g =
    ap₂ (λ r o. r >> λ _. unless fault.Unexpected o (Ok tt)) (needed_kept s needed d h)
    (unexpected_kept s 4 needed optional d h g)

number_at_kept : (s : Shape) (k : List ℕ) (most : ℕ) (d : Data) → is_known s 4 k ≡ true
    → number_at k most (kept s 4 d) ≡ number_at k most d
number_at_kept s k most d h = ap (or_fault (fault.WrongType k)) (whole_kept s 4 k most d h)

count_kept : (s : Shape) (k : List ℕ) (d : Data) → is_known s 4 k ≡ true
    → count_at k (kept s 4 d) ≡ count_at k d
count_kept s k d h = number_at_kept s k largest d h

-- ---- the place

abbrev place_from : Option (List ℕ) → Option ℕ → Option (List ℕ) → Option Place
place_from id lwt other =
    id >>= λ id. lwt >>= λ lwt.
    only_if (is_none other) (Some (record { lwt = lwt; id = id }))

place_of_kept : (s : Shape) (d : Data) → place_of (kept s 3 d) ≡ place_of d
place_of_kept s d =
    with (with (ap place_from (text_kept s 3 (codes "id") d refl))
    (whole_kept s 3 (codes "lwt") largest d refl))
    (unexpected_kept s 3 (codes "id" ∷ codes "lwt" ∷ []) [] d (refl, (refl, tt)) tt)

maybe_place_kept : (s : Shape) (o : Option Data)
    → maybe_place (option_map (kept s 3) o) ≡ maybe_place o
maybe_place_kept s None = refl
maybe_place_kept s (Some d) =
    ap (λ p. or_fault (fault.WrongType (codes "place")) p >> λ place. Ok (Some place))
    (place_of_kept s d)

place_at_kept : (s : Shape) (d : Data) → place_at (kept s 4 d) ≡ place_at d
place_at_kept s d =
    ap maybe_place (get_kept s 4 (codes "place") d refl)
    ∙ maybe_place_kept s (get (codes "place") d)

-- ---- the hash

hash_kept : (s : Shape) (d : Data) → has_hash s (kept s 4 d) ≡ has_hash s d
hash_kept s d =
    then _ _ _ _
    (ap (or_fault (fault.WrongType (codes "schema"))) (text_kept s 4 (codes "schema") d refl))
    (λ hash. refl)

-- ---- states and rows

-- the mark isn't the name that isn't it
apart : (k : List ℕ) → bytes_eq mark k ≡ false → bytes_eq k mark ≡ false
apart k h = by (bytes_eq k mark) refl
  where
    by : (b : Bool) → bytes_eq k mark ≡ b → b ≡ false
    by true e =
        absurd (true≢false (sym (ap (λ n. bytes_eq mark n) ((bytes_eq-Decides k mark).0 e)) ∙ h))
    by false e = refl

abbrev pub Strange : Shape → ℕ → Type 0
Strange s levels =
    (k : List ℕ) → is_known s levels k ≡ false
    → (bytes_eq k mark ≡ false) × (is_some (named (kinds_of s.properties) k) ≡ false)

strange_one : (s : Shape) → Strange s 1
strange_one s k h =
    let parts = neither (is_among (mark ∷ []) k) (is_some (named (kinds_of s.properties) k)) h in
    (apart k (neither (bytes_eq mark k) false parts.0).0, parts.1)

strange_two : (s : Shape) → Strange s 2
strange_two s k h =
    let parts = neither (is_among (mark ∷ codes "assumed" ∷ codes "new" ∷ []) k)
    (is_some (named (kinds_of s.properties) k)) h in (
      apart k
          (neither (bytes_eq mark k) (is_among (codes "assumed" ∷ codes "new" ∷ []) k) parts.0).0,
      parts.1,
    )

mark_kept : (s : Shape) (levels : ℕ) (d : Data) → is_known s levels mark ≡ true
    → mark_at (kept s levels d) ≡ mark_at d
mark_kept s levels d h = at_kept s levels mark as_bool d h (bool_kept s (below levels mark))

is_state_kept : (s : Shape) (levels : ℕ) (d : Data) → is_known s levels mark ≡ true
    → is_state (kept s levels d) ≡ is_state d
is_state_kept s levels d h = ap is_some (mark_kept s levels d h)

fields_at : (s : Shape) (levels : ℕ) (deleted : Bool) (d : Data) → Strange s levels
    → (result_ok (fields_beside mark (kept s levels d)) >>= valid_state s deleted)
    ≡ (result_ok (fields_beside mark d) >>= valid_state s deleted)
fields_at s levels deleted null h = refl
fields_at s levels deleted (boolean b) h = refl
fields_at s levels deleted (number n) h = refl
fields_at s levels deleted (string t) h = refl
fields_at s levels deleted (array ds) h = refl
fields_at s levels deleted (object ms) h = state_kept s levels h deleted ms

state_of_kept : (s : Shape) (levels : ℕ) (d : Data) → is_known s levels mark ≡ true
    → Strange s levels → state_of s (kept s levels d) ≡ state_of s d
state_of_kept s levels d h strange =
    ap (λ o. o >>= λ deleted. result_ok (fields_beside mark (kept s levels d))
    >>= valid_state s deleted) (mark_kept s levels d h)
    ∙ same (mark_at d)
  where
    same : (o : Option Bool)
        → (o >>= λ deleted. result_ok (fields_beside mark (kept s levels d))
        >>= valid_state s deleted)
        ≡ (o >>= λ deleted. result_ok (fields_beside mark d) >>= valid_state s deleted)
    same None = refl
    same (Some deleted) = fields_at s levels deleted d strange

state_if_kept : (s : Shape) (o : Option Data)
    → is_state_if (option_map (kept s 1) o) ≡ is_state_if o
state_if_kept s None = refl
state_if_kept s (Some d) = is_state_kept s 1 d refl

maybe_state_kept : (s : Shape) (o : Option Data)
    → maybe_state s (option_map (kept s 1) o) ≡ maybe_state s o
maybe_state_kept s None = refl
maybe_state_kept s (Some d) =
    ap (λ o. o >>= λ state. Some (Some state)) (state_of_kept s 1 d refl (strange_one s))

is_row_kept : (s : Shape) (d : Data) → is_row (kept s 2 d) ≡ is_row d
is_row_kept s d =
    with (with (ap (λ a b c. is_some a && b && is_none c)
    (at_kept s 2 (codes "new") mark_at d refl (λ e. mark_kept s 1 e refl)))
    (ap is_state_if (get_kept s 2 (codes "assumed") d refl)
    ∙ state_if_kept s (get (codes "assumed") d)))
    (unexpected_kept s 2 (codes "new" ∷ []) (codes "assumed" ∷ []) d (refl, tt) (refl, tt))

row_kept : (s : Shape) (d : Data) → row_of s (kept s 2 d) ≡ row_of s d
row_kept s d =
    ap₂ (λ a b. a >>= λ new. b >>= λ assumed.
    only_if (has_key new.key assumed) (Some (record { assumed = assumed; new = new })))
    (at_kept s 2 (codes "new") (state_of s) d refl
    (λ e. state_of_kept s 1 e refl (strange_one s)))
    (ap (maybe_state s) (get_kept s 2 (codes "assumed") d refl)
    ∙ maybe_state_kept s (get (codes "assumed") d))

-- ---- lists

-- a list that is short enough is kept whole
few_kept : (s : Shape) (most : ℕ) (ds : Items) → items_len ds ≤ most
    → items_len (kept_items s most 2 ds) ≡ items_len ds
few_kept s most no_items h = refl
few_kept s zero (item d ds) h = absurd (omega (arith, h))
few_kept s (suc most) (item d ds) h = ap suc (few_kept s most ds (omega (arith, h)))

-- and of a longer one as much as there is room for
many_kept : (s : Shape) (most : ℕ) (ds : Items) → most ≤ items_len ds
    → items_len (kept_items s most 2 ds) ≡ most
many_kept s zero no_items h = refl
many_kept s (suc most) no_items h = absurd (omega (arith, h))
many_kept s zero (item d ds) h = refl
many_kept s (suc most) (item d ds) h = ap suc (many_kept s most ds (omega (arith, h)))

-- the items of a short list pass the test that they passed
tests_kept : (s : Shape) (test : Data → Bool) → ((d : Data) → test (kept s 2 d) ≡ test d)
    → (most : ℕ) (ds : Items) → items_len ds ≤ most
    → all_items test (kept_items s most 2 ds) ≡ all_items test ds
tests_kept s test same most no_items h = refl
tests_kept s test same zero (item d ds) h = absurd (omega (arith, h))
tests_kept s test same (suc most) (item d ds) h =
    ap₂ (λ a b. a && b) (same d) (tests_kept s test same most ds (omega (arith, h)))

-- and are read as they were
after_kept : {X : Type 0} (s : Shape) (read : Data → Option X) (key : X → List ℕ)
    → ((d : Data) → read (kept s 2 d) ≡ read d)
    → (most : ℕ) (before : List X) (ds : Items) → items_len ds ≤ most
    → read_after read key before (kept_items s most 2 ds) ≡ read_after read key before ds
after_kept s read key same most before no_items h = refl
after_kept s read key same zero before (item d ds) h = absurd (omega (arith, h))
after_kept s read key same (suc most) before (item d ds) h =
    then _ _ _ _
    (ap (λ o. or_fault (fault.Invalid (length before)) (o >>= unless_twice key before)) (same d))
    (λ x. after_kept s read key same most (before ++ x ∷ []) ds (omega (arith, h)))

module _ {B : Type 0} (s : Shape) (test : Data → Bool) (least : ℕ) (e : WireFault)
    (g : Items → Result B WireFault) where
  -- a list that is refused
  no_list : (a c : Bool) (ds : Items)
      → (or_fault e (only_if (a && false && c) (Some ds)) >> g) ≡ Err e
  no_list true c ds = refl
  no_list false c ds = refl

  -- what comes after a list, where the list is one
  if_list : (b : Bool) (ds es : Items) → g ds ≡ g es
      → (or_fault e (only_if b (Some ds)) >> g) ≡ (or_fault e (only_if b (Some es)) >> g)
  if_list true ds es h = h
  if_list false ds es h = refl

  -- what follows a list is the same of what is kept of it
  list_kept : ((d : Data) → test (kept s 2 d) ≡ test d)
      → ((ds : Items) → items_len ds ≤ most_states → g (kept_items s 101 2 ds) ≡ g ds)
      → (d : Data) → (or_fault e (list_of test least (kept s 3 d)) >> g)
      ≡ (or_fault e (list_of test least d) >> g)
  list_kept same next null = refl
  list_kept same next (boolean b) = refl
  list_kept same next (number n) = refl
  list_kept same next (string s) = refl
  list_kept same next (object ms) = refl
  list_kept same next (array ds) = sized (leb (items_len ds) most_states) refl
    where
      sized : (b : Bool) → leb (items_len ds) most_states ≡ b
          → (or_fault e (list_of test least (kept s 3 (array ds))) >> g)
          ≡ (or_fault e (list_of test least (array ds)) >> g)
      sized true h =
          let few : items_len ds ≤ most_states = leb-true (items_len ds) most_states h in
          let enough : items_len ds ≤ 101 = omega (arith, few) in
          ap₂ (λ n a. or_fault e (only_if (leb least n && leb n most_states && a)
          (Some (kept_items s 101 2 ds))) >> g) (few_kept s 101 ds enough)
          (tests_kept s test same 101 ds enough)
          ∙ if_list (leb least (items_len ds) && leb (items_len ds) most_states
          && all_items test ds) (kept_items s 101 2 ds) ds (next ds few)
      sized false h =
          let many : 101 ≤ items_len ds = more (items_len ds) h in
          ap (λ n. or_fault e (only_if (leb least n && leb n most_states
          && all_items test (kept_items s 101 2 ds)) (Some (kept_items s 101 2 ds))) >> g)
          (many_kept s 101 ds many)
          ∙ no_list (leb least 101) (all_items test (kept_items s 101 2 ds)) (kept_items s 101 2 ds)
          ∙ sym (no_list (leb least (items_len ds)) (all_items test ds) ds)
          ∙ ap (λ b. or_fault e (only_if (leb least (items_len ds) && b && all_items test ds)
          (Some ds)) >> g) (sym h)
        where
          more : (n : ℕ) → leb n most_states ≡ false → 101 ≤ n
          more n h = omega (arith, leb-false n most_states h)

  -- also where there may be none
  given : ((d : Data) → test (kept s 2 d) ≡ test d)
      → ((ds : Items) → items_len ds ≤ most_states → g (kept_items s 101 2 ds) ≡ g ds)
      → (o : Option Data)
      → (or_fault e (option_map (kept s 3) o >>= list_of test least) >> g)
      ≡ (or_fault e (o >>= list_of test least) >> g)
  given same next None = refl
  given same next (Some d) = list_kept same next d

  listed : ((d : Data) → test (kept s 2 d) ≡ test d)
      → ((ds : Items) → items_len ds ≤ most_states → g (kept_items s 101 2 ds) ≡ g ds)
      → (name : List ℕ) (d : Data) → is_known s 4 name ≡ true → below 4 name ≡ 3
      → (or_fault e (get name (kept s 4 d) >>= list_of test least) >> g)
      ≡ (or_fault e (get name d >>= list_of test least) >> g)
  listed same next name d known three =
      ap (λ o. or_fault e (o >>= list_of test least) >> g)
      (get_kept s 4 name d known ∙ ap (λ n. option_map (kept s n) (get name d)) three)
      ∙ given same next (get name d)

rows_kept : (s : Shape) (ds : Items) → items_len ds ≤ most_states
    → rows_of s (kept_items s 101 2 ds) ≡ rows_of s ds
rows_kept s ds h = after_kept s (row_of s) row_key (row_kept s) 101 [] ds (omega (arith, h))

states_kept : (s : Shape) (ds : Items) → items_len ds ≤ most_states
    → states_of s (kept_items s 101 2 ds) ≡ states_of s ds
states_kept s ds h =
    after_kept s (state_of s) state_key (λ d. state_of_kept s 2 d refl (strange_two s)) 101 [] ds
    (omega (arith, h))

-- ---- messages

abbrev pulled : Result ⊤ WireFault → Result ℕ WireFault → Result ℕ WireFault → Result ℕ WireFault
    → Result (Option Place) WireFault → Result ⊤ WireFault → Result Request WireFault
pulled form batch epoch n place hash =
    form >> λ _. batch >> λ batch. epoch >> λ epoch. n >> λ n. place >> λ place. hash >> λ _.
    Ok (record { epoch = epoch; n = n; ask = Pull place batch })

abbrev pushed : ℕ → ℕ → Result ⊤ WireFault → Result (List PushRow) WireFault
    → Result Request WireFault
pushed epoch n hash rows =
    hash >> λ _. rows >> λ rows. Ok (record { epoch = epoch; n = n; ask = Push rows })

abbrev refused : Result ℕ WireFault → Result ℕ WireFault → Result (List State) WireFault
    → Result Reply WireFault
refused epoch n states =
    epoch >> λ epoch. n >> λ n. states >> λ states.
    Ok (record { epoch = epoch; n = n; body = Conflicts states })

abbrev given_docs : Result ℕ WireFault → Result ℕ WireFault → Result (Option Place) WireFault
    → Result (List State) WireFault → Result Reply WireFault
given_docs epoch n place states =
    epoch >> λ epoch. n >> λ n. place >> λ place. states >> λ states.
    Ok (record { epoch = epoch; n = n; body = Docs states place })

pull_kept : (s : Shape) (d : Data) → pull_of s (kept s 4 d) ≡ pull_of s d
pull_kept s d =
    with (with (with (with (with (ap pulled
    (form_kept s (codes "ask" ∷ codes "batch" ∷ codes "epoch" ∷ codes "n" ∷ codes "schema" ∷ [])
    (codes "place" ∷ []) d (refl, (refl, (refl, (refl, (refl, tt))))) (refl, tt)))
    (number_at_kept s (codes "batch") most_states d refl))
    (count_kept s (codes "epoch") d refl))
    (count_kept s (codes "n") d refl))
    (place_at_kept s d))
    (hash_kept s d)

push_kept : (s : Shape) (d : Data) → push_of s (kept s 4 d) ≡ push_of s d
push_kept s d =
    then _ _ _ _
    (form_kept s (codes "ask" ∷ codes "epoch" ∷ codes "n" ∷ codes "rows" ∷ codes "schema" ∷ [])
    ([]) d (refl, (refl, (refl, (refl, (refl, tt))))) tt)
    (λ _. then _ _ _ _ (count_kept s (codes "epoch") d refl)
    (λ epoch. then _ _ _ _ (count_kept s (codes "n") d refl)
    (λ n. listed s is_row 1 (fault.WrongType (codes "rows"))
    (λ items. pushed epoch n (has_hash s (kept s 4 d)) (rows_of s items)) (is_row_kept s)
    (λ ds h. ap (pushed epoch n (has_hash s (kept s 4 d))) (rows_kept s ds h))
    (codes "rows") d refl refl
    ∙ ap (λ hash. or_fault (fault.WrongType (codes "rows")) (rows_at d)
    >> λ items. pushed epoch n hash (rows_of s items)) (hash_kept s d))))

asked_kept : (s : Shape) (d : Data) (word : Option (List ℕ))
    → asked_by s (kept s 4 d) word ≡ asked_by s d word
asked_kept s d None = refl
asked_kept s d (Some word) =
    ap₂ (λ p q. cond (bytes_eq word (codes "pull")) p
    (cond (bytes_eq word (codes "push")) q (Err (fault.WrongType (codes "ask")))))
    (pull_kept s d) (push_kept s d)

-- the request is the same
pub request_kept : (s : Shape) (d : Data) → request_in s (kept s 4 d) ≡ request_in s d
request_kept s d =
    then _ _ _ _ (needed_kept s (codes "ask" ∷ []) d (refl, tt))
    (λ _. ap (asked_by s (kept s 4 d))
    (text_kept s 4 (codes "ask") d refl)
    ∙ asked_kept s d (text_at (codes "ask") d))

conflicts_kept : (s : Shape) (d : Data) → conflicts_of s (kept s 4 d) ≡ conflicts_of s d
conflicts_kept s d =
    then _ _ _ _
    (form_kept s (codes "conflicts" ∷ codes "epoch" ∷ codes "n" ∷ [])
    ([]) d (refl, (refl, (refl, tt))) tt)
    (λ _. listed s is_state 0 (fault.WrongType (codes "conflicts"))
    (λ items. refused (count_at (codes "epoch") (kept s 4 d)) (count_at (codes "n") (kept s 4 d))
    (states_of s items)) (λ e. is_state_kept s 2 e refl)
    (λ ds h.
    ap (refused (count_at (codes "epoch") (kept s 4 d)) (count_at (codes "n") (kept s 4 d)))
    (states_kept s ds h))
    (codes "conflicts") d refl refl
    ∙ ap₂ (λ epoch n. or_fault (fault.WrongType (codes "conflicts"))
    (states_at (codes "conflicts") d) >> λ items. refused epoch n (states_of s items))
    (count_kept s (codes "epoch") d refl) (count_kept s (codes "n") d refl))

docs_kept : (s : Shape) (d : Data) → docs_of s (kept s 4 d) ≡ docs_of s d
docs_kept s d =
    then _ _ _ _
    (form_kept s (codes "docs" ∷ codes "epoch" ∷ codes "n" ∷ [])
    (codes "place" ∷ []) d (refl, (refl, (refl, tt))) (refl, tt))
    (λ _. listed s is_state 0 (fault.WrongType (codes "docs"))
    (λ items. given_docs (count_at (codes "epoch") (kept s 4 d)) (count_at (codes "n") (kept s 4 d))
    (place_at (kept s 4 d)) (states_of s items)) (λ e. is_state_kept s 2 e refl)
    (λ ds h.
    ap (given_docs (count_at (codes "epoch") (kept s 4 d)) (count_at (codes "n") (kept s 4 d))
    (place_at (kept s 4 d))) (states_kept s ds h))
    (codes "docs") d refl refl
    ∙ with (with (ap (λ epoch n place. or_fault (fault.WrongType (codes "docs"))
    (states_at (codes "docs") d) >> λ items. given_docs epoch n place (states_of s items))
    (count_kept s (codes "epoch") d refl)) (count_kept s (codes "n") d refl)) (place_at_kept s d))

-- and so is the reply
pub reply_kept : (s : Shape) (d : Data) → reply_in s (kept s 4 d) ≡ reply_in s d
reply_kept s d =
    with (with (ap (λ b p q. cond b p q)
    (ap is_some (get_kept s 4 (codes "conflicts") d refl)
    ∙ some_mapped (get (codes "conflicts") d)))
    (conflicts_kept s d)) (docs_kept s d)
  where
    some_mapped : (o : Option Data) → is_some (option_map (kept s 3) o) ≡ is_some o
    some_mapped None = refl
    some_mapped (Some e) = refl

-- ---- lines

kept_then : {B E : Type 0} (s : Shape) (r : Result Data E) (f : Data → Result B E)
    → ((d : Data) → f (kept s 4 d) ≡ f d) → (r >> f) ≡ (r >> (λ d. Ok (kept s 4 d)) >> f)
kept_then s (Ok d) f same = sym (same d)
kept_then s (Err e) f same = refl

-- what is kept of the object that a line is
pub object_told : (s : Shape) (line : List ℕ) (d v : Data) → length line ≤ longest_line
    → IsUtf8 line
    → read line ≡ Some d → v ≡ kept s 4 d → is_some (as_object v) ≡ true
    → kept_object s line ≡ Ok v
object_told s line d v h utf8 e is there =
    ap (λ r. r >> λ d. Ok (kept s 4 d))
    (object_there line d h utf8 e
    (sym (object_kept s 4 d) ∙ ap (λ v. is_some (as_object v)) (sym is) ∙ there))
    ∙ ap Ok (sym is)

-- or of a line that is another value
pub missing_told : (s : Shape) (line : List ℕ) (d v : Data) → length line ≤ longest_line
    → IsUtf8 line
    → read line ≡ Some d → v ≡ kept s 4 d → is_some (as_object v) ≡ false
    → kept_object s line ≡ Err fault.NotObject
missing_told s line d v h utf8 e is there =
    ap (λ r. r >> λ d. Ok (kept s 4 d))
    (object_missing line d h utf8 e
    (sym (object_kept s 4 d) ∙ ap (λ v. is_some (as_object v)) (sym is) ∙ there))

-- or of one that is none
pub no_json_told : (s : Shape) (line : List ℕ) → length line ≤ longest_line
    → (IsUtf8 line → read line ≡ None) → kept_object s line ≡ Err fault.NotJson
no_json_told s line h none = ap (λ r. r >> λ d. Ok (kept s 4 d)) (not_json line h none)

-- a request is told by what is kept of its line
pub request_told : (s : Shape) (line : List ℕ) → request_of s line ≡ kept_request s line
request_told s line =
    kept_then s (object_of line)
    (λ d. request_in s d >> λ request. if_spelt (request_text s request) line request)
    (λ d. ap (λ r. r >> λ request. if_spelt (request_text s request) line request)
    (request_kept s d))

-- and a reply
pub reply_told : (s : Shape) (line : List ℕ) → reply_of s line ≡ kept_reply s line
reply_told s line =
    kept_then s (object_of line)
    (λ d. reply_in s d >> λ reply. if_spelt (reply_text reply) line reply)
    (λ d. ap (λ r. r >> λ reply. if_spelt (reply_text reply) line reply) (reply_kept s d))

-- what was read is lawful
pub request_lawful_if : (s : Shape) (line : List ℕ) (r : Result Request WireFault)
    → Due fault.Memory r (request_of s line) → IfOk r (IsRequest s)
request_lawful_if s line (Ok request) h = request_lawful s line request h
request_lawful_if s line (Err e) h = tt

pub reply_lawful_if : (s : Shape) (line : List ℕ) (r : Result Reply WireFault)
    → Due fault.Memory r (reply_of s line) → IfOk r (IsReply s)
reply_lawful_if s line (Ok reply) h = reply_lawful s line reply h
reply_lawful_if s line (Err e) h = tt
