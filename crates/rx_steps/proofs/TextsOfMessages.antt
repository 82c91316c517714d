-- How long the text of a lawful message is.
use Rattle.std.proofs.Common.{◌≡◌, ℕ, ◌+◌, ◌*◌, ◌<◌, ◌≤◌, true, false, List, [], ◌∷◌, length, map, codes, Option, Some, None, IfSome, refl, arith, length-append}
use Rattle.std.specs.List.{AllByRecursion}
use Rattle.std.proofs.lemmas.Fmt.{length-decimal-le}
use Rattle.hex.proofs.HexLemmas.{length-encode_with}
use Rattle.hex.specs.Hex.{lower_digits}
use Rattle.serde_json.specs.Data.{Data, string, array, object, Items, no_items, item, Members, no_members, member}
use Rattle.serde_json.specs.View.{items_of}
use Rattle.serde_json.specs.Written.{compact_text, items_text}
use Rattle.sha2.proofs.Facts256.{length-sha256}
use Rattle.sha2.specs.Sha256.{sha256}
use Rattle.rx_value.specs.State.{state_data}
use Rattle.rx_value.specs.Value.{largest}
use Rattle.rx_value.specs.declared.state.State.{State}
use Rattle.rx_value.proofs.Lists.{all_both}
use Rattle.rx_document.specs.declared.place.Place.{Place}
use Rattle.rx_schema.specs.Writing.{canonical_text, hash_text}
use Rattle.rx_schema.specs.declared.shape.Shape.{Shape}
use Rattle.rx_wire.specs.Lawful.{IsSaid, IsState, IsRow, IsPlace, IsAsk, IsBody, IsRequest, IsReply}
use Rattle.rx_wire.specs.Limits.{longest_line, most_states, IsCount}
use Rattle.rx_wire.specs.Writing.{whole, place_data, with_place, row_data, rows_items, states_items, ask_members, body_members, request_text, reply_text}
use Rattle.rx_wire.specs.declared.message.AskKind.{AskKind}
use Rattle.rx_wire.specs.declared.message.AskKind.TheVariants.{Push, Pull}
use Rattle.rx_wire.specs.declared.message.Body.{Body}
use Rattle.rx_wire.specs.declared.message.Body.TheVariants.{Conflicts, Docs}
use Rattle.rx_wire.specs.declared.message.PushRow.{PushRow}
use Rattle.rx_wire.specs.declared.message.Reply.{Reply}
use Rattle.rx_wire.specs.declared.message.Request.{Request}
use Rattle.rx_steps.specs.Texts.{IsWellFormed, RowIsWellFormed, HasShortKey, AskIsWellFormed, BodyIsWellFormed, asked_place, given_place}
use Rattle.rx_steps.proofs.TextsEscaped.{quoted_least, quoted_short}
use Rattle.rx_steps.proofs.TextsOfStates.{members_size, member_size, members_none, members_more, members_first, members_rest, member_short, object_least, object_size, states_short}

-- ---- items

-- the bytes of items behind others, with the closing bracket
items_size : Items → ℕ
items_size ds = length (items_text true ds)

items_none : items_size no_items ≡ 1
unfolding items_size
items_none = refl

items_more : (d : Data) (ds : Items)
    → items_size (item d ds) ≡ length (compact_text d) + items_size ds + 1
unfolding items_size
items_more d ds = omega (arith, length-append (compact_text d) (items_text true ds))

-- items that are the first
first_items : (ds : Items) → length (items_text false ds) ≤ items_size ds
unfolding items_size
first_items no_items = omega arith
first_items (item d ds) = omega arith

array_size : (ds : Items) → length (compact_text (array ds)) ≤ items_size ds + 1
array_size ds = omega (arith, first_items ds)

-- the most bytes of an item: two states and what is around
abbrev longest_item : ℕ
longest_item = 2097300

items_short : {X : Type 0} (P : X → Type 0) (data_of : X → Data)
    → ((x : X) → P x → length (compact_text (data_of x)) ≤ longest_item)
    → (xs : List X) → AllByRecursion P xs
    → items_size (items_of (map data_of xs)) ≤ 2097301 * length xs + 1
items_short P data_of short [] all = omega (arith, items_none)
items_short P data_of short (x ∷ xs) all =
    omega (
      arith,
      items_more (data_of x) (items_of (map data_of xs)),
      short x all.0,
      items_short P data_of short xs all.1,
    )

-- ---- members

-- a text
string_short : (k t : List ℕ) → member_size k (string t) ≤ 6 * length k + 6 * length t + 6
string_short k t = omega (arith, member_short k (string t), quoted_short t)

-- a count
count_short : (k : List ℕ) (n : ℕ) → n ≤ largest → member_size k (whole n) ≤ 6 * length k + 20
count_short k n h =
    omega (
      arith,
      member_short k (whole n),
      length-decimal-le 16 n (omega arith) (omega arith) (omega arith),
    )

-- a list
list_short : (k : List ℕ) (ds : Items)
    → member_size k (array ds) ≤ 6 * length k + items_size ds + 5
list_short k ds = omega (arith, member_short k (array ds), array_size ds)

-- an object
record_short : (k : List ℕ) (ms : Members)
    → member_size k (object ms) ≤ 6 * length k + members_size ms + 5
record_short k ms = omega (arith, member_short k (object ms), object_size ms)

-- a place, perhaps before others
place_short : (place : Option Place) (ms : Members) → IfSome place IsPlace
    → IfSome place HasShortKey → members_size (with_place place ms) ≤ members_size ms + 3145900
place_short None ms lawful short = omega arith
place_short (Some p) ms lawful short =
    let lwt = member (codes "lwt") (whole p.lwt) no_members in
    omega (
      arith,
      members_more (codes "place") (place_data p) ms,
      record_short (codes "place") (member (codes "id") (string p.id) lwt),
      members_more (codes "id") (string p.id) lwt,
      string_short (codes "id") p.id,
      short,
      members_more (codes "lwt") (whole p.lwt) no_members,
      count_short (codes "lwt") p.lwt lawful.high,
      members_none,
    )

-- ---- states and rows

state_short : (s : Shape) → IsSaid s → (state : State) → (IsState s state × IsWellFormed state)
    → length (compact_text (state_data state)) ≤ longest_item
state_short s said state h = omega (arith, states_short s state said h.0 h.1)

row_short : (s : Shape) → IsSaid s → (row : PushRow) → (IsRow s row × RowIsWellFormed row)
    → length (compact_text (row_data row)) ≤ longest_item
row_short s said row h = of_parts row.assumed row.new h
  where
    of_parts : (assumed : Option State) (new : State)
        → (IsRow s (record { assumed = assumed; new = new })
        × RowIsWellFormed (record { assumed = assumed; new = new }))
        → length (compact_text (row_data (record { assumed = assumed; new = new })))
        ≤ longest_item
    of_parts None new h =
        omega (
          arith,
          object_size (member (codes "new") (state_data new) no_members),
          members_more (codes "new") (state_data new) no_members,
          member_short (codes "new") (state_data new),
          states_short s new said h.0.new h.1.new,
          members_none,
        )
    of_parts (Some state) new h =
        let rest = member (codes "new") (state_data new) no_members in
        omega (
          arith,
          object_size (member (codes "assumed") (state_data state) rest),
          members_more (codes "assumed") (state_data state) rest,
          member_short (codes "assumed") (state_data state),
          states_short s state said h.0.assumed h.1.assumed,
          members_more (codes "new") (state_data new) no_members,
          member_short (codes "new") (state_data new),
          states_short s new said h.0.new h.1.new,
          members_none,
        )

-- ---- messages

hash_length : (s : Shape) → length (hash_text s) ≡ 64
hash_length s =
    omega (
      arith,
      length-encode_with lower_digits (sha256 (canonical_text s)),
      length-sha256 (canonical_text s),
    )

ask_short : (s : Shape) (hash : List ℕ) (epoch n : ℕ) (ask : AskKind) → IsSaid s
    → length hash ≡ 64 → IsCount epoch → IsCount n → IsAsk s ask → AskIsWellFormed ask
    → IfSome (asked_place ask) HasShortKey
    → members_size (ask_members hash epoch n ask) + 1 ≤ longest_line
ask_short s hash epoch n (Pull place batch) said h e m lawful parts short =
    let end = member (codes "schema") (string hash) no_members in
    let placed = with_place place end in
    let numbered = member (codes "n") (whole n) placed in
    let timed = member (codes "epoch") (whole epoch) numbered in
    let batched = member (codes "batch") (whole batch) timed in
    omega (
      arith,
      members_more (codes "ask") (string (codes "pull")) batched,
      string_short (codes "ask") (codes "pull"),
      members_more (codes "batch") (whole batch) timed,
      count_short (codes "batch") batch (omega (arith, lawful.few)),
      members_more (codes "epoch") (whole epoch) numbered,
      count_short (codes "epoch") epoch e.high,
      members_more (codes "n") (whole n) placed,
      count_short (codes "n") n m.high,
      place_short place end lawful.above short,
      members_more (codes "schema") (string hash) no_members,
      string_short (codes "schema") hash,
      h,
      members_none,
    )
ask_short s hash epoch n (Push rows) said h e m lawful parts short =
    let end = member (codes "schema") (string hash) no_members in
    let listed = member (codes "rows") (array (rows_items rows)) end in
    let numbered = member (codes "n") (whole n) listed in
    let timed = member (codes "epoch") (whole epoch) numbered in
    omega (
      arith,
      members_more (codes "ask") (string (codes "push")) timed,
      string_short (codes "ask") (codes "push"),
      members_more (codes "epoch") (whole epoch) numbered,
      count_short (codes "epoch") epoch e.high,
      members_more (codes "n") (whole n) listed,
      count_short (codes "n") n m.high,
      members_more (codes "rows") (array (rows_items rows)) end,
      list_short (codes "rows") (rows_items rows),
      items_short (λ row. IsRow s row × RowIsWellFormed row) row_data (row_short s said) rows
          (all_both (IsRow s) RowIsWellFormed rows lawful.each parts),
      lawful.few,
      members_more (codes "schema") (string hash) no_members,
      string_short (codes "schema") hash,
      h,
      members_none,
    )

states_fit : (s : Shape) (states : List State) → IsSaid s → length states ≤ most_states
    → AllByRecursion (IsState s) states → AllByRecursion IsWellFormed states
    → items_size (states_items states) ≤ 209730101
states_fit s states said few lawful parts =
    omega (
      arith,
      items_short (λ state. IsState s state × IsWellFormed state) state_data (state_short s said)
          states (all_both (IsState s) IsWellFormed states lawful parts),
      few,
    )

body_short : (s : Shape) (epoch n : ℕ) (body : Body) → IsSaid s → IsCount epoch → IsCount n
    → IsBody s body → BodyIsWellFormed body → IfSome (given_place body) HasShortKey
    → members_size (body_members epoch n body) + 1 ≤ longest_line
body_short s epoch n (Conflicts states) said e m lawful parts short =
    let numbered = member (codes "n") (whole n) no_members in
    let timed = member (codes "epoch") (whole epoch) numbered in
    omega (
      arith,
      members_more (codes "conflicts") (array (states_items states)) timed,
      list_short (codes "conflicts") (states_items states),
      states_fit s states said lawful.few lawful.each parts,
      members_more (codes "epoch") (whole epoch) numbered,
      count_short (codes "epoch") epoch e.high,
      members_more (codes "n") (whole n) no_members,
      count_short (codes "n") n m.high,
      members_none,
    )
body_short s epoch n (Docs states place) said e m lawful parts short =
    let placed = with_place place no_members in
    let numbered = member (codes "n") (whole n) placed in
    let timed = member (codes "epoch") (whole epoch) numbered in
    omega (
      arith,
      members_more (codes "docs") (array (states_items states)) timed,
      list_short (codes "docs") (states_items states),
      states_fit s states said lawful.given.few lawful.given.each parts.given,
      members_more (codes "epoch") (whole epoch) numbered,
      count_short (codes "epoch") epoch e.high,
      members_more (codes "n") (whole n) placed,
      count_short (codes "n") n m.high,
      place_short place no_members lawful.last short,
      members_none,
    )

pub requests_short : (s : Shape) (r : Request) → IsSaid s → IsRequest s r
    → AskIsWellFormed r.ask → IfSome (asked_place r.ask) HasShortKey
    → length (request_text s r) ≤ longest_line
requests_short s r said lawful parts short =
    let hash = hash_text s in
    omega (
      arith,
      object_size (ask_members hash r.epoch r.n r.ask),
      ask_short s hash r.epoch r.n r.ask said (hash_length s) lawful.epoch lawful.n lawful.ask
          parts short,
    )

pub replies_short : (s : Shape) (r : Reply) → IsSaid s → IsReply s r → BodyIsWellFormed r.body
    → IfSome (given_place r.body) HasShortKey → length (reply_text r) ≤ longest_line
replies_short s r said lawful parts short =
    omega (
      arith,
      object_size (body_members r.epoch r.n r.body),
      body_short s r.epoch r.n r.body said lawful.epoch lawful.n lawful.body parts short,
    )

-- ---- long keys

pub long_keys : (s : Shape) (epoch n batch : ℕ) (place : Place) → longest_line ≤ length place.id
    → longest_line
    < length (request_text s (record { epoch = epoch; n = n; ask = Pull (Some place) batch }))
long_keys s epoch n batch place long =
    let lwt = member (codes "lwt") (whole place.lwt) no_members in
    let key = member (codes "id") (string place.id) lwt in
    let end = member (codes "schema") (string (hash_text s)) no_members in
    let placed = member (codes "place") (place_data place) end in
    let numbered = member (codes "n") (whole n) placed in
    let timed = member (codes "epoch") (whole epoch) numbered in
    let batched = member (codes "batch") (whole batch) timed in
    let all = member (codes "ask") (string (codes "pull")) batched in
    omega (
      arith,
      long,
      quoted_least place.id,
      members_first (codes "id") (string place.id) lwt,
      object_least key,
      members_first (codes "place") (place_data place) end,
      members_rest (codes "n") (whole n) placed,
      members_rest (codes "epoch") (whole epoch) numbered,
      members_rest (codes "batch") (whole batch) timed,
      members_rest (codes "ask") (string (codes "pull")) batched,
      object_least all,
    )
