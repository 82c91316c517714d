-- The object of a lawful message is read as that message.
use Rattle.std.proofs.Common.{◌≡◌, ℕ, ◌≤◌, suc, leb, Bool, true, false, ◌&&◌, List, [], ◌∷◌, ◌++◌, map, length, Option, Some, None, Ok, refl, sym, ap, ◌∙◌, subst, append-nil, append_assoc, arith}
use Rattle.std.proofs.lemmas.Bool.{le-leb}
use Rattle.std.proofs.lemmas.Cmp.{nat_list_eq_equiv}
use Rattle.std.proofs.lemmas.List.{map-append}
use Rattle.std.proofs.lemmas.Slice.Eq.{bytes_eq-Decides}
use Rattle.std.specs.List.{AllByRecursion, IsDistinct, list_any}
use Rattle.std.specs.Str.{bytes_eq}
use Rattle.serde_json.proofs.Views.{get_member-put}
use Rattle.serde_json.specs.Data.{Data, boolean, array}
use Rattle.serde_json.specs.Events.{items_len}
use Rattle.serde_json.specs.View.{items_of}
use Rattle.rx_value.specs.Due.{only_if}
use Rattle.rx_value.specs.Fields.{AreFields}
use Rattle.rx_value.specs.Named.{named}
use Rattle.rx_value.specs.Reading.{fields_beside, members_fields}
use Rattle.rx_value.specs.State.{mark, state_data}
use Rattle.rx_value.specs.Value.{largest}
use Rattle.rx_value.specs.Writing.{pairs_members}
use Rattle.rx_value.specs.declared.state.State.{State}
use Rattle.rx_value.proofs.Written.{without-put, without_none, pairs_again}
use Rattle.rx_value.proofs.Lists.{all_both}
use Rattle.rx_value.proofs.Bytes.{bytes_itself}
use Rattle.rx_document.specs.declared.place.Place.{Place}
use Rattle.rx_schema.specs.Reading.{schema_of}
use Rattle.rx_schema.specs.Writing.{hash_text}
use Rattle.rx_schema.specs.declared.shape.Shape.{Shape}
use Rattle.rx_wire.specs.Form.{place_of}
use Rattle.rx_wire.specs.Lawful.{IsState, IsRow, AreRows, AreStates, IsPlace, IsAsk, IsBody, IsRequest, IsReply}
use Rattle.rx_wire.specs.Limits.{most_states, IsCount}
use Rattle.rx_wire.specs.Printing.{HasFields, RowHasFields, AskHasFields, BodyHasFields}
use Rattle.rx_wire.specs.Reading.{request_in, reply_in}
use Rattle.rx_wire.specs.States.{is_state, is_row, all_items, list_of, state_of, row_of, row_key, state_key, read_after, rows_of, states_of}
use Rattle.rx_wire.specs.Writing.{place_data, row_data, rows_items, states_items, request_data, reply_data}
use Rattle.rx_wire.specs.declared.message.AskKind.{AskKind}
use Rattle.rx_wire.specs.declared.message.AskKind.TheVariants.{Push, Pull}
use Rattle.rx_wire.specs.declared.message.Body.{Body}
use Rattle.rx_wire.specs.declared.message.Body.TheVariants.{Conflicts, Docs}
use Rattle.rx_wire.specs.declared.message.PushRow.{PushRow}
use Rattle.rx_wire.specs.declared.message.Reply.{Reply}
use Rattle.rx_wire.specs.declared.message.Request.{Request}
use Rattle.rx_wire.proofs.Unmarked.{unmarked}

-- ---- states and rows

-- the fields of a state's object
fields_again : (state : State) → AreFields state.fields → named state.fields mark ≡ None
    → fields_beside mark (state_data state) ≡ Ok state.fields
fields_again state fields none =
    ap members_fields
    (without-put mark (boolean state.deleted) (pairs_members state.fields)
    ∙ without_none mark state.fields none)
    ∙ pairs_again state.fields fields.in_range

-- what stands alike in several lemmas: a schema that some JSON says
module _ (d : Data) (s : Shape) (said : schema_of d ≡ Ok s) where
  -- a state
  state_again : (state : State) → IsState s state → HasFields state
      → state_of s (state_data state) ≡ Some state
  state_again state lawful fields =
      rw (
        get_member-put mark (boolean state.deleted) (pairs_members state.fields),
        fields_again state fields (unmarked d s state.fields said lawful.valid),
        lawful.valid,
        lawful.carried,
      ) refl

  -- a row
  row_of_parts : (assumed : Option State) (new : State)
      → IsRow s (record { assumed = assumed; new = new })
      → RowHasFields (record { assumed = assumed; new = new })
      → row_of s (row_data (record { assumed = assumed; new = new }))
      ≡ Some (record { assumed = assumed; new = new })
  row_of_parts None new lawful fields = rw (state_again new lawful.new fields.new) refl
  row_of_parts (Some state) new lawful fields =
      rw (
        state_again new lawful.new fields.new,
        state_again state lawful.assumed fields.assumed,
        (bytes_eq-Decides state.key new.key).1 lawful.one_key,
      ) refl

  row_again : (row : PushRow) → IsRow s row → RowHasFields row → row_of s (row_data row) ≡ Some row
  row_again row lawful fields = row_of_parts row.assumed row.new lawful fields

-- ---- lists

-- a key that differs from all before it
unseen : (ks : List (List ℕ)) (k : List ℕ) (more : List (List ℕ))
    → IsDistinct bytes_eq (ks ++ k ∷ more) → list_any (bytes_eq k) ks ≡ false
unfolding IsDistinct
unseen [] k more h = refl
unseen (l ∷ ks) k more h =
    rw (nat_list_eq_equiv.symm k l ∙ differs l ks k more h.0) (unseen ks k more h.1)
  where
    differs : (l : List ℕ) (ks : List (List ℕ)) (k : List ℕ) (more : List (List ℕ))
        → AllByRecursion (λ y. bytes_eq l y ≡ false) (ks ++ k ∷ more) → bytes_eq l k ≡ false
    differs l [] k more all = all.0
    differs l (x ∷ ks) k more all = differs l ks k more all.1

-- the items of things that are each read again, behind those before them
items_again : {X : Type 0} (P : X → Type 0) (read : Data → Option X) (key : X → List ℕ)
    (data_of : X → Data) → ((x : X) → P x → read (data_of x) ≡ Some x)
    → (before xs : List X) → AllByRecursion P xs → IsDistinct bytes_eq (map key (before ++ xs))
    → read_after read key before (items_of (map data_of xs)) ≡ Ok (before ++ xs)
items_again P read key data_of again before [] all distinct = ap Ok (sym (append-nil before))
items_again P read key data_of again before (x ∷ xs) all distinct =
    let fresh = unseen (map key before) (key x) (map key xs)
    (subst (IsDistinct bytes_eq) (map-append key before (x ∷ xs)) distinct) in
    let next = append_assoc before (x ∷ []) xs in
    rw (again x all.0, fresh)
    (items_again P read key data_of again (before ++ x ∷ []) xs all.1
    (subst (λ ys. IsDistinct bytes_eq (map key ys)) (sym next) distinct)
    ∙ ap Ok next)

-- items that each pass a test
items_pass : {X : Type 0} (test : Data → Bool) (data_of : X → Data)
    → ((x : X) → test (data_of x) ≡ true) → (xs : List X)
    → all_items test (items_of (map data_of xs)) ≡ true
items_pass test data_of passes [] = refl
items_pass test data_of passes (x ∷ xs) = rw (passes x) (items_pass test data_of passes xs)

-- as many items as things
items_count : {X : Type 0} (data_of : X → Data) (xs : List X)
    → items_len (items_of (map data_of xs)) ≡ length xs
items_count data_of [] = refl
items_count data_of (x ∷ xs) = ap suc (items_count data_of xs)

-- a list that is neither too short nor too long
list_again : {X : Type 0} (test : Data → Bool) (data_of : X → Data)
    → ((x : X) → test (data_of x) ≡ true) → (least : ℕ) (xs : List X) → least ≤ length xs
    → length xs ≤ most_states
    → list_of test least (array (items_of (map data_of xs))) ≡ Some (items_of (map data_of xs))
list_again test data_of passes least xs some few =
    rw (
      items_count data_of xs,
      le-leb least (length xs) some,
      le-leb (length xs) most_states few,
      items_pass test data_of passes xs,
    ) refl

-- nothing is below 0
zero_least : (n : ℕ) → 0 ≤ n
zero_least n = omega arith

-- the object of a state has the form of one
state_form : (state : State) → is_state (state_data state) ≡ true
state_form state =
    rw (get_member-put mark (boolean state.deleted) (pairs_members state.fields)) refl

-- so a list of states has
states_list : (states : List State) → length states ≤ most_states
    → list_of is_state 0 (array (states_items states)) ≡ Some (states_items states)
states_list states few =
    list_again is_state state_data state_form 0 states (zero_least (length states)) few

-- and so has that of a row
row_form : (row : PushRow) → is_row (row_data row) ≡ true
row_form row = of_parts row.assumed row.new
  where
    of_parts : (assumed : Option State) (new : State)
        → is_row (row_data (record { assumed = assumed; new = new })) ≡ true
    of_parts None new = rw (state_form new) refl
    of_parts (Some state) new = rw (state_form new, state_form state) refl

-- ---- messages

-- a number within its bounds
number_again : (n most : ℕ) → 1 ≤ n → n ≤ most → only_if (leb 1 n && leb n most) (Some n) ≡ Some n
number_again n most low high = rw (le-leb 1 n low, le-leb n most high) refl

-- a count
count_again : (n : ℕ) → IsCount n → only_if (leb 1 n && leb n largest) (Some n) ≡ Some n
count_again n h = number_again n largest h.low h.high

place_again : (p : Place) → IsPlace p → place_of (place_data p) ≡ Some p
place_again p h = rw (count_again p.lwt h) refl

module _ (d : Data) (s : Shape) (said : schema_of d ≡ Ok s) where
  rows_again : (rows : List PushRow) → AreRows s rows → AllByRecursion RowHasFields rows
      → rows_of s (rows_items rows) ≡ Ok rows
  rows_again rows lawful fields =
      items_again (λ row. IsRow s row × RowHasFields row) (row_of s) row_key row_data
      (λ row h. row_again d s said row h.0 h.1) [] rows
      (all_both (IsRow s) RowHasFields rows lawful.each fields) lawful.distinct

  states_again : (states : List State) → AreStates s states → AllByRecursion HasFields states
      → states_of s (states_items states) ≡ Ok states
  states_again states lawful fields =
      items_again (λ state. IsState s state × HasFields state) (state_of s) state_key state_data
      (λ state h. state_again d s said state h.0 h.1) [] states
      (all_both (IsState s) HasFields states lawful.each fields) lawful.distinct

  ask_again : (epoch n : ℕ) (ask : AskKind) → IsCount epoch → IsCount n → IsAsk s ask
      → AskHasFields ask
      → request_in s (request_data s (record { epoch = epoch; n = n; ask = ask }))
      ≡ Ok (record { epoch = epoch; n = n; ask = ask })
  ask_again epoch n (Pull None batch) e m lawful fields =
      rw (
        number_again batch most_states lawful.some lawful.few,
        count_again epoch e,
        count_again n m,
        bytes_itself (hash_text s),
      ) refl
  ask_again epoch n (Pull (Some p) batch) e m lawful fields =
      rw (
        number_again batch most_states lawful.some lawful.few,
        count_again epoch e,
        count_again n m,
        place_again p lawful.above,
        bytes_itself (hash_text s),
      ) refl
  ask_again epoch n (Push rows) e m lawful fields =
      rw (
        count_again epoch e,
        count_again n m,
        list_again is_row row_data row_form 1 rows lawful.some lawful.few,
        bytes_itself (hash_text s),
        rows_again rows lawful fields,
      ) refl

  pub request_again : (r : Request) → IsRequest s r → AskHasFields r.ask
      → request_in s (request_data s r) ≡ Ok r
  request_again r lawful fields =
      ask_again r.epoch r.n r.ask lawful.epoch lawful.n lawful.ask fields

  body_again : (epoch n : ℕ) (body : Body) → IsCount epoch → IsCount n → IsBody s body
      → BodyHasFields body
      → reply_in s (reply_data (record { epoch = epoch; n = n; body = body }))
      ≡ Ok (record { epoch = epoch; n = n; body = body })
  body_again epoch n (Conflicts states) e m lawful fields =
      rw (
        states_list states lawful.few,
        count_again epoch e,
        count_again n m,
        states_again states lawful fields,
      ) refl
  body_again epoch n (Docs states None) e m lawful fields =
      rw (
        states_list states lawful.given.few,
        count_again epoch e,
        count_again n m,
        states_again states lawful.given fields,
      ) refl
  body_again epoch n (Docs states (Some p)) e m lawful fields =
      rw (
        states_list states lawful.given.few,
        count_again epoch e,
        count_again n m,
        place_again p lawful.last,
        states_again states lawful.given fields,
      ) refl

  pub reply_again : (r : Reply) → IsReply s r → BodyHasFields r.body
      → reply_in s (reply_data r) ≡ Ok r
  reply_again r lawful fields =
      body_again r.epoch r.n r.body lawful.epoch lawful.n lawful.body fields
