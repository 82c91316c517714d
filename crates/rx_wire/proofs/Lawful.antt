-- What was read is lawful.
use Rattle.std.proofs.Common.{◌≡◌, ℕ, ◌≤◌, ◌+◌, leb, Bool, true, false, cond, ◌&&◌, List, [], ◌∷◌, ◌++◌, map, length, length-append, Option, Some, None, is_none, is_some, Ok, Err, IfSome, codes, refl, sym, ap, ◌∙◌, subst, arith}
use Rattle.std.proofs.lemmas.Bool.{and_parts, leb-true}
use Rattle.std.proofs.lemmas.Cmp.{nat_list_eq_equiv}
use Rattle.std.proofs.lemmas.List.{map-append}
use Rattle.std.proofs.lemmas.Map.Keys.{IsDistinct-push}
use Rattle.std.proofs.lemmas.Slice.Eq.{bytes_eq-Decides}
use Rattle.std.specs.List.{AllByRecursion, IsDistinct, list_any, common_prefix_len}
use Rattle.std.specs.Prelude.{nat_eq}
use Rattle.std.specs.Result.{result_ok}
use Rattle.std.specs.Str.{bytes_eq}
use Rattle.serde_json.specs.Data.{Data, Items, no_items, item}
use Rattle.serde_json.specs.Events.{items_len}
use Rattle.serde_json.specs.Find.{get, as_number, as_u64, as_array}
use Rattle.rx_value.specs.Due.{◌>>=◌, only_if, or_fault}
use Rattle.rx_value.specs.Form.{text_at, whole_within, unexpected}
use Rattle.rx_value.specs.Named.{named}
use Rattle.rx_value.specs.Reading.{fields_beside}
use Rattle.rx_value.specs.State.{mark}
use Rattle.rx_value.specs.Value.{largest, text_of}
use Rattle.rx_value.specs.declared.state.State.{State}
use Rattle.rx_value.specs.declared.value.Value.{Value}
use Rattle.rx_value.specs.declared.value.Value.TheVariants.{Text}
use Rattle.rx_value.proofs.Outcomes.{ok_then, some_then, some_of, none_is}
use Rattle.rx_value.proofs.Lists.{all_push}
use Rattle.rx_document.specs.declared.place.Place.{Place}
use Rattle.rx_schema.specs.Validity.{first_fault}
use Rattle.rx_schema.specs.declared.shape.Shape.{Shape}
use Rattle.rx_wire.specs.Form.{has_needed, has_form, number_at, count_at, place_of, maybe_place}
use Rattle.rx_wire.specs.Lawful.{IsState, IsRow, AreRows, AreStates, IsPlace, IsRequest, IsReply}
use Rattle.rx_wire.specs.Limits.{most_states, IsCount}
use Rattle.rx_wire.specs.Reading.{has_hash, pull_of, push_of, asked_by, request_in, conflicts_of, docs_of, reply_in, object_of}
use Rattle.rx_wire.specs.Spelling.{if_spelt, request_of, reply_of}
use Rattle.rx_wire.specs.States.{mark_at, is_state, is_row, all_items, list_of, states_at, rows_at, state_of, maybe_state, has_key, row_of, row_key, state_key, unless_twice, read_after, rows_of, states_of}
use Rattle.rx_wire.specs.Writing.{request_text, reply_text}
use Rattle.rx_wire.specs.declared.message.AskKind.TheVariants.{Push, Pull}
use Rattle.rx_wire.specs.declared.message.Body.TheVariants.{Conflicts, Docs}
use Rattle.rx_wire.specs.declared.message.PushRow.{PushRow}
use Rattle.rx_wire.specs.declared.message.Reply.{Reply}
use Rattle.rx_wire.specs.declared.message.Request.{Request}
use Rattle.rx_wire.specs.declared.fault.WireFault.TheVariants.{WrongType, Invalid, Spelling}

-- ---- numbers and places

-- what passed a test
passed : {A : Type 0} (b : Bool) (o : Option A) (x : A) → only_if b o ≡ Some x
    → (b ≡ true) × (o ≡ Some x)
passed true o x h = (refl, h)
passed false o x h = cc

-- a number within its bounds
within : (name : List ℕ) (least most : ℕ) (d : Data) (n : ℕ)
    → whole_within name least most d ≡ Some n → (least ≤ n) × (n ≤ most)
within name least most d n h =
    let found = some_then (get name d >>= as_number >>= as_u64)
    (λ m. only_if (leb least m && leb m most) (Some m)) n h in
    let m = found.0 in
    let tested = passed (leb least m && leb m most) (Some m) n found.2 in
    let same : m ≡ n = cc (tested.1) in
    let both = and_parts (leb least m) (leb m most) tested.0 in
    subst (λ k. (least ≤ k) × (k ≤ most)) same
    (leb-true least m both.0, leb-true m most both.1)

-- a number of a message
number_within : (name : List ℕ) (most : ℕ) (d : Data) (n : ℕ) → number_at name most d ≡ Ok n
    → (1 ≤ n) × (n ≤ most)
number_within name most d n h =
    within name 1 most d n (some_of _ (whole_within name 1 most d) n h)

is_count : (name : List ℕ) (d : Data) (n : ℕ) → count_at name d ≡ Ok n → IsCount n
is_count name d n h =
    let bounds = number_within name largest d n h in record { low = bounds.0; high = bounds.1 }

-- the time of a place
is_place : (d : Data) (p : Place) → place_of d ≡ Some p → IsPlace p
is_place d p h =
    let id = some_then (text_at (codes "id") d) _ p h in
    let lwt = some_then (whole_within (codes "lwt") 1 largest d) _ p id.2 in
    let read : Place = record { lwt = lwt.0; id = id.0 } in
    let known = passed (is_none (unexpected (codes "id" ∷ codes "lwt" ∷ []) [] d)) (Some read) p
    lwt.2 in
    let same : lwt.0 ≡ p.lwt = cc (known.1) in
    let bounds = within (codes "lwt") 1 largest d lwt.0 lwt.1 in
    subst IsCount same (record { low = bounds.0; high = bounds.1 })

-- of a place that may be missing
is_place_if : (o : Option Data) (place : Option Place) → maybe_place o ≡ Ok place
    → IfSome place IsPlace
is_place_if None None h = tt
is_place_if None (Some p) h = cc
is_place_if (Some d) None h =
    let found = ok_then (or_fault _ (place_of d)) (λ p. Ok (Some p)) None h in cc (found.2)
is_place_if (Some d) (Some p) h =
    let found = ok_then (or_fault _ (place_of d)) (λ p. Ok (Some p)) (Some p) h in
    let same : found.0 ≡ p = cc (found.2) in
    is_place d p (some_of _ (place_of d) found.0 found.1 ∙ ap Some same)

-- ---- states and rows

-- a text that is there
text_there : (o : Option Value) (key : List ℕ) → text_of o ≡ Some key → o ≡ Some (Text key)
text_there (Some (Text t)) key h = let same : t ≡ key = cc in ap (λ s. Some (Text s)) same
text_there (Some _) key h = cc
text_there None key h = cc

-- a state that was read
is_state_read : (s : Shape) (d : Data) (state : State) → state_of s d ≡ Some state → IsState s state
is_state_read s d state h =
    let deleted = some_then (mark_at d) _ state h in
    let fields = some_then (result_ok (fields_beside mark d)) _ state deleted.2 in
    let tested = passed (is_none (first_fault s fields.0)) _ state fields.2 in
    let key = some_then (text_of (named fields.0 s.primary)) _ state tested.1 in
    let same : record { key = key.0; fields = fields.0; deleted = deleted.0 } ≡ state =
    cc (key.2) in
    subst (IsState s) same (record {
      valid = none_is (first_fault s fields.0) tested.0;
      carried = text_there (named fields.0 s.primary) key.0 key.1;
    })

-- an assumed state that was read
is_assumed : (s : Shape) (o : Option Data) (assumed : Option State) → maybe_state s o ≡ Some assumed
    → IfSome assumed (IsState s)
is_assumed s o None h = tt
is_assumed s None (Some state) h = cc
is_assumed s (Some d) (Some state) h =
    let read = some_then (state_of s d) (λ state. Some (Some state)) (Some state) h in
    let same : read.0 ≡ state = cc (read.2) in
    is_state_read s d state (read.1 ∙ ap Some same)

-- an assumed state with the key
has_one_key : (key : List ℕ) (assumed : Option State) → has_key key assumed ≡ true
    → IfSome assumed (λ state. state.key ≡ key)
has_one_key key None h = tt
has_one_key key (Some state) h = (bytes_eq-Decides state.key key).0 h

-- a row that was read
is_row_read : (s : Shape) (d : Data) (row : PushRow) → row_of s d ≡ Some row → IsRow s row
is_row_read s d row h =
    let new = some_then (get (codes "new") d >>= state_of s) _ row h in
    let state = some_then (get (codes "new") d) (state_of s) new.0 new.1 in
    let assumed = some_then (maybe_state s (get (codes "assumed") d)) _ row new.2 in
    let tested = passed (has_key new.0.key assumed.0) _ row assumed.2 in
    let same : record { assumed = assumed.0; new = new.0 } ≡ row = cc (tested.1) in
    subst (IsRow s) same (record {
      new = is_state_read s state.0 new.0 state.2;
      assumed = is_assumed s (get (codes "assumed") d) assumed.0 assumed.1;
      one_key = has_one_key new.0.key assumed.0 tested.0;
    })

-- one whose key stood nowhere before
first_of_key : {X : Type 0} (key : X → List ℕ) (before : List X) (y x : X) (b : Bool)
    → list_any (bytes_eq (key y)) (map key before) ≡ b → cond b None (Some y) ≡ Some x
    → (y ≡ x) × (list_any (bytes_eq (key y)) (map key before) ≡ false)
first_of_key key before y x true is h = cc
first_of_key key before y x false is h = let same : y ≡ x = cc in (same, is)

-- with distinct keys
abbrev pub Keyed : {X : Type 0} → (X → List ℕ) → (X → Type 0) → List X → Type 0
Keyed key P xs = AllByRecursion P xs × IsDistinct bytes_eq (map key xs)

-- items that were read, behind those before them
read_keyed : {X : Type 0} (P : X → Type 0) (read : Data → Option X) (key : X → List ℕ)
    → ((d : Data) (x : X) → read d ≡ Some x → P x)
    → (before : List X) (items : Items) (xs : List X) → Keyed key P before
    → read_after read key before items ≡ Ok xs
    → Keyed key P xs × (length xs ≡ length before + items_len items)
read_keyed P read key holds before no_items xs kept h =
    let same : before ≡ xs = cc in
    subst (λ ys. Keyed key P ys × (length ys ≡ length before + 0)) same (kept, omega arith)
read_keyed P read key holds before (item d items) xs kept h =
    let one = ok_then (or_fault (Invalid (length before)) (read d >>= unless_twice key before))
    (λ x. read_after read key (before ++ x ∷ []) items) xs h in
    let x = one.0 in
    let found = some_then (read d) (unless_twice key before) x
    (some_of _ (read d >>= unless_twice key before) x one.1) in
    let first = first_of_key key before found.0 x _ refl found.2 in
    let fresh : list_any (bytes_eq (key x)) (map key before) ≡ false =
    ap (λ y. list_any (bytes_eq (key y)) (map key before)) (sym first.0) ∙ first.1 in
    let more : Keyed key P (before ++ x ∷ []) = (
      all_push P before x kept.0 (holds d x (found.1 ∙ ap Some first.0)),
      subst (IsDistinct bytes_eq) (sym (map-append key before (x ∷ [])))
          (IsDistinct-push nat_list_eq_equiv (map key before) (key x) kept.1 fresh),
    ) in
    let rest = read_keyed P read key holds (before ++ x ∷ []) items xs more one.2 in
    (rest.0, rest.1 ∙ ap (λ n. n + items_len items) (length-append before (x ∷ [])) ∙ omega arith)

-- no keys are distinct
none_keyed : {X : Type 0} (P : X → Type 0) (key : X → List ℕ) → Keyed key P []
unfolding IsDistinct
none_keyed P key = (tt, tt)

-- how many items a list has
counted : (test : Data → Bool) (least : ℕ) (d : Data) (items : Items)
    → list_of test least d ≡ Some items
    → (least ≤ items_len items) × (items_len items ≤ most_states)
counted test least d items h =
    let found = some_then (as_array d) _ items h in
    let ds = found.0 in
    let tested = passed
    (leb least (items_len ds) && leb (items_len ds) most_states && all_items test ds) (Some ds)
    items found.2 in
    let same : ds ≡ items = cc (tested.1) in
    let outer = and_parts (leb least (items_len ds) && leb (items_len ds) most_states) _ tested.0 in
    let both = and_parts (leb least (items_len ds)) (leb (items_len ds) most_states) outer.0 in
    subst (λ is. (least ≤ items_len is) × (items_len is ≤ most_states)) same
    (leb-true least (items_len ds) both.0, leb-true (items_len ds) most_states both.1)

-- rows that were read
are_rows : (s : Shape) (d : Data) (items : Items) (rows : List PushRow) → rows_at d ≡ Some items
    → rows_of s items ≡ Ok rows → AreRows s rows
are_rows s d items rows at h =
    let list = some_then (get (codes "rows") d) (list_of is_row 1) items at in
    let count = counted is_row 1 list.0 items list.2 in
    let read = read_keyed (IsRow s) (row_of s) row_key (is_row_read s) [] items rows
    (none_keyed (IsRow s) row_key) h in
    record {
      some = omega (arith, count.0, read.1);
      few = omega (arith, count.1, read.1);
      each = read.0.0;
      distinct = read.0.1;
    }

-- states that were read
are_states : (s : Shape) (name : List ℕ) (d : Data) (items : Items) (states : List State)
    → states_at name d ≡ Some items → states_of s items ≡ Ok states → AreStates s states
are_states s name d items states at h =
    let list = some_then (get name d) (list_of is_state 0) items at in
    let count = counted is_state 0 list.0 items list.2 in
    let read = read_keyed (IsState s) (state_of s) state_key (is_state_read s) [] items states
    (none_keyed (IsState s) state_key) h in
    record { few = omega (arith, count.1, read.1); each = read.0.0; distinct = read.0.1 }

-- ---- messages

-- what was spelt as it is written
spelt_so : {X : Type 0} (text line : List ℕ) (x y : X) → if_spelt text line x ≡ Ok y → x ≡ y
spelt_so text line x y h = either (bytes_eq text line) h
  where
    either : (b : Bool)
        → cond b (Ok x) (Err (Spelling (common_prefix_len nat_eq text line))) ≡ Ok y → x ≡ y
    either true h = cc
    either false h = cc

-- a pull that was read
is_pull : (s : Shape) (d : Data) (r : Request) → pull_of s d ≡ Ok r → IsRequest s r
is_pull s d r h =
    let form = ok_then
    (has_form
    (codes "ask" ∷ codes "batch" ∷ codes "epoch" ∷ codes "n" ∷ codes "schema" ∷ [])
    (codes "place" ∷ []) d) _ r h in
    let batch = ok_then (number_at (codes "batch") most_states d) _ r form.2 in
    let epoch = ok_then (count_at (codes "epoch") d) _ r batch.2 in
    let n = ok_then (count_at (codes "n") d) _ r epoch.2 in
    let place = ok_then (maybe_place (get (codes "place") d)) _ r n.2 in
    let hash = ok_then (has_hash s d) _ r place.2 in
    let bounds = number_within (codes "batch") most_states d batch.0 batch.1 in
    let same : record { epoch = epoch.0; n = n.0; ask = Pull place.0 batch.0 } ≡ r = cc (hash.2) in
    subst (IsRequest s) same (record {
      epoch = is_count (codes "epoch") d epoch.0 epoch.1;
      n = is_count (codes "n") d n.0 n.1;
      ask = record {
        above = is_place_if (get (codes "place") d) place.0 place.1;
        some = bounds.0;
        few = bounds.1;
      };
    })

-- a push that was read
is_push : (s : Shape) (d : Data) (r : Request) → push_of s d ≡ Ok r → IsRequest s r
is_push s d r h =
    let form = ok_then
    (has_form (codes "ask" ∷ codes "epoch" ∷ codes "n" ∷ codes "rows" ∷ codes "schema" ∷ []) [] d)
    _ r h in
    let epoch = ok_then (count_at (codes "epoch") d) _ r form.2 in
    let n = ok_then (count_at (codes "n") d) _ r epoch.2 in
    let items = ok_then (or_fault (WrongType (codes "rows")) (rows_at d)) _ r n.2 in
    let hash = ok_then (has_hash s d) _ r items.2 in
    let rows = ok_then (rows_of s items.0) _ r hash.2 in
    let same : record { epoch = epoch.0; n = n.0; ask = Push rows.0 } ≡ r = cc (rows.2) in
    subst (IsRequest s) same (record {
      epoch = is_count (codes "epoch") d epoch.0 epoch.1;
      n = is_count (codes "n") d n.0 n.1;
      ask = are_rows s d items.0 rows.0
          (some_of (WrongType (codes "rows")) (rows_at d) items.0 items.1) rows.1;
    })

-- what was asked
is_asked : (s : Shape) (d : Data) (word : Option (List ℕ)) (r : Request) → asked_by s d word ≡ Ok r
    → IsRequest s r
is_asked s d None r h = cc
is_asked s d (Some word) r h =
    is_either (bytes_eq word (codes "pull")) (bytes_eq word (codes "push")) h
  where
    is_either : (pull push : Bool)
        → cond pull (pull_of s d) (cond push (push_of s d) (Err (WrongType (codes "ask")))) ≡ Ok r
        → IsRequest s r
    is_either true push h = is_pull s d r h
    is_either false true h = is_push s d r h
    is_either false false h = cc

-- a request that was read
pub request_lawful : (s : Shape) (line : List ℕ) (r : Request) → request_of s line ≡ Ok r
    → IsRequest s r
request_lawful s line r h =
    let object = ok_then (object_of line) _ r h in
    let read = ok_then (request_in s object.0) _ r object.2 in
    let spelt = spelt_so (request_text s read.0) line read.0 r read.2 in
    let needed = ok_then (has_needed (codes "ask" ∷ []) object.0)
    (λ _. asked_by s object.0 (text_at (codes "ask") object.0)) read.0 read.1 in
    subst (IsRequest s) spelt (is_asked s object.0 (text_at (codes "ask") object.0) read.0 needed.2)

-- conflicts that were read
are_conflicts : (s : Shape) (d : Data) (r : Reply) → conflicts_of s d ≡ Ok r → IsReply s r
are_conflicts s d r h =
    let form = ok_then (has_form (codes "conflicts" ∷ codes "epoch" ∷ codes "n" ∷ []) [] d) _ r h in
    let items = ok_then (or_fault (WrongType (codes "conflicts")) (states_at (codes "conflicts") d))
    _ r form.2 in
    let epoch = ok_then (count_at (codes "epoch") d) _ r items.2 in
    let n = ok_then (count_at (codes "n") d) _ r epoch.2 in
    let states = ok_then (states_of s items.0) _ r n.2 in
    let same : record { epoch = epoch.0; n = n.0; body = Conflicts states.0 } ≡ r =
    cc (states.2) in
    subst (IsReply s) same (record {
      epoch = is_count (codes "epoch") d epoch.0 epoch.1;
      n = is_count (codes "n") d n.0 n.1;
      body = are_states s (codes "conflicts") d items.0 states.0
          (some_of (WrongType (codes "conflicts")) (states_at (codes "conflicts") d) items.0
          items.1)
          states.1;
    })

-- documents that were read
are_docs : (s : Shape) (d : Data) (r : Reply) → docs_of s d ≡ Ok r → IsReply s r
are_docs s d r h =
    let form = ok_then
    (has_form (codes "docs" ∷ codes "epoch" ∷ codes "n" ∷ []) (codes "place" ∷ []) d) _ r h in
    let items = ok_then (or_fault (WrongType (codes "docs")) (states_at (codes "docs") d)) _ r
    form.2 in
    let epoch = ok_then (count_at (codes "epoch") d) _ r items.2 in
    let n = ok_then (count_at (codes "n") d) _ r epoch.2 in
    let place = ok_then (maybe_place (get (codes "place") d)) _ r n.2 in
    let states = ok_then (states_of s items.0) _ r place.2 in
    let same : record { epoch = epoch.0; n = n.0; body = Docs states.0 place.0 } ≡ r =
    cc (states.2) in
    subst (IsReply s) same (record {
      epoch = is_count (codes "epoch") d epoch.0 epoch.1;
      n = is_count (codes "n") d n.0 n.1;
      body = record {
        given = are_states s (codes "docs") d items.0 states.0
            (some_of (WrongType (codes "docs")) (states_at (codes "docs") d) items.0 items.1)
            states.1;
        last = is_place_if (get (codes "place") d) place.0 place.1;
      };
    })

-- of either kind
is_answered : (s : Shape) (d : Data) (r : Reply) (conflicts : Bool)
    → cond conflicts (conflicts_of s d) (docs_of s d) ≡ Ok r → IsReply s r
is_answered s d r true h = are_conflicts s d r h
is_answered s d r false h = are_docs s d r h

-- a reply that was read
pub reply_lawful : (s : Shape) (line : List ℕ) (r : Reply) → reply_of s line ≡ Ok r → IsReply s r
reply_lawful s line r h =
    let object = ok_then (object_of line) _ r h in
    let read = ok_then (reply_in s object.0) _ r object.2 in
    let spelt = spelt_so (reply_text read.0) line read.0 r read.2 in
    subst (IsReply s) spelt
    (is_answered s object.0 read.0 (is_some (get (codes "conflicts") object.0)) read.1)
