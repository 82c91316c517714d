-- What a lawful message is written as is UTF-8, and is read as that message.
use Rattle.std.proofs.Common.{◌≡◌, ℕ, zero, suc, ◌-◌, ◌/◌, ◌%◌, ◌^◌, ◌<◌, ◌≤◌, pos, negsuc, int_le, Bool, true, false, ◌&&◌, nat_lt, List, [], ◌∷◌, ◌++◌, length, map, slice_index, decimal, codes, IsUtf8, Option, Some, None, IfSome, Ok, refl, sym, ap, ◌∙◌, arith}
use Rattle.std.specs.Char.{is_ascii_alphabetic}
use Rattle.std.specs.Fmt.{signed_decimal}
use Rattle.std.specs.List.{AllByRecursion, list_all}
use Rattle.std.specs.Ordering.{match_ordering}
use Rattle.std.specs.declared.cmp.Ordering.{Ordering}
use Rattle.std.specs.declared.cmp.Ordering.TheVariants.{Less, Equal, Greater}
use Rattle.std.proofs.lemmas.Bool.{and_parts, leb-true}
use Rattle.std.proofs.lemmas.Fmt.{IsAscii-decimal, IsAscii-signed}
use Rattle.std.proofs.lemmas.Str.{IsUtf8-append, IsUtf8-from_ascii}
use Rattle.hex.specs.Hex.{encode_with, lower_digits}
use Rattle.json.proofs.Printed.Decimals.{IsNumber-decimal, IsNumber-signed_decimal}
use Rattle.json.proofs.Printed.Tokens.{tokens-print}
use Rattle.json.proofs.Printed.Utf8.{are_ascii, IsUtf8-are_ascii, IsUtf8-quoted, IsUtf8-boolean}
use Rattle.json.specs.Lex.{tokens}
use Rattle.json.specs.Print.{quoted, ArePrintable}
use Rattle.json.specs.Token.{Token}
use Rattle.json.specs.Tree.{json_tokens, items_tokens, members_tokens}
use Rattle.serde_json.proofs.Texts.{print-outline}
use Rattle.serde_json.specs.Data.{Num, unsigned, negative, float, Data, null, boolean, number, string, array, object, Items, no_items, item, Members, no_members, member, put}
use Rattle.serde_json.specs.View.{items_of}
use Rattle.serde_json.specs.Written.{number_text, outline, items_outline, members_outline, compact_text, items_text, members_text, comma_if}
use Rattle.sha2.specs.Sha256.{sha256}
use Rattle.rx_value.specs.Fields.{Pairs}
use Rattle.rx_value.specs.Name.{is_field_name, is_field_byte, longest_name}
use Rattle.rx_value.specs.Order.{text_cmp}
use Rattle.rx_value.specs.State.{mark, state_data}
use Rattle.rx_value.specs.Value.{is_value, largest}
use Rattle.rx_value.specs.Writing.{value_data, pairs_members}
use Rattle.rx_value.specs.declared.state.State.{State}
use Rattle.rx_value.specs.declared.value.Value.{Value}
use Rattle.rx_value.specs.declared.value.Value.TheVariants as value
use Rattle.rx_value.proofs.Lists.{all_both, all_weaker}
use Rattle.rx_document.specs.declared.place.Place.{Place}
use Rattle.rx_schema.specs.Writing.{canonical_text, hash_text}
use Rattle.rx_schema.specs.declared.shape.Shape.{Shape}
use Rattle.rx_wire.specs.Lawful.{IsSaid, IsState, IsRow, IsPlace, IsAsk, IsBody, IsRequest, IsReply}
use Rattle.rx_wire.specs.Limits.{IsCount}
use Rattle.rx_wire.specs.Printing.{HasFields, RowHasFields, AskHasFields, BodyHasFields}
use Rattle.rx_wire.specs.Spelling.{request_of, reply_of}
use Rattle.rx_wire.specs.Writing.{with_place, row_data, states_items, ask_members, body_members, request_data, reply_data, request_text, reply_text}
use Rattle.rx_wire.specs.declared.message.AskKind.{AskKind}
use Rattle.rx_wire.specs.declared.message.AskKind.TheVariants.{Push, Pull}
use Rattle.rx_wire.specs.declared.message.Body.{Body}
use Rattle.rx_wire.specs.declared.message.Body.TheVariants.{Conflicts, Docs}
use Rattle.rx_wire.specs.declared.message.PushRow.{PushRow}
use Rattle.rx_wire.specs.declared.message.Reply.{Reply}
use Rattle.rx_wire.specs.declared.message.Request.{Request}
use Rattle.rx_wire.proofs.Texts.{request_text_read, reply_text_read}
use Rattle.rx_steps.specs.Texts.{HasText, IsWellFormed, RowIsWellFormed, PlaceIsText, HasShortKey, AskIsWellFormed, BodyIsWellFormed, asked_place, given_place}
use Rattle.rx_steps.proofs.TextsOfStates.{names_of}
use Rattle.rx_steps.proofs.TextsOfMessages.{requests_short, replies_short}

-- ---- JSON of texts and whole numbers

-- a number that fits 64 bits
abbrev IsSmall : Num → Type 0
IsSmall (unsigned n) = n < 2 ^ 64
IsSmall (negative (pos n)) = n < 2 ^ 63
IsSmall (negative (negsuc n)) = n < 2 ^ 63
IsSmall (float x) = ⊥

-- such numbers alone, and each text is UTF-8
abbrev mutual
  pub IsPlain : Data → Type 0
  IsPlain null = Unit {0}
  IsPlain (boolean b) = Unit {0}
  IsPlain (number n) = IsSmall n
  IsPlain (string s) = IsUtf8 s
  IsPlain (array ds) = ArePlain ds
  IsPlain (object ms) = HasPlain ms

  pub ArePlain : Items → Type 0
  ArePlain no_items = Unit {0}
  ArePlain (item d ds) = IsPlain d × ArePlain ds

  pub HasPlain : Members → Type 0
  HasPlain no_members = Unit {0}
  HasPlain (member k d ms) = IsUtf8 k × (IsPlain d) × HasPlain ms

-- ---- its text is UTF-8

ascii_utf8 : (xs ys : List ℕ) → are_ascii xs ≡ true → IsUtf8 ys → IsUtf8 (xs ++ ys)
ascii_utf8 xs ys h u = IsUtf8-append xs ys (IsUtf8-are_ascii xs h) u

number_utf8 : (n : Num) → IsSmall n → IsUtf8 (number_text n)
number_utf8 (unsigned n) h = IsUtf8-from_ascii (decimal n) (IsAscii-decimal n h)
number_utf8 (negative (pos n)) h =
    IsUtf8-from_ascii (signed_decimal (pos n)) (IsAscii-signed (pos n) h)
number_utf8 (negative (negsuc n)) h =
    IsUtf8-from_ascii (signed_decimal (negsuc n)) (IsAscii-signed (negsuc n) h)
number_utf8 (float x) h = absurd h

comma_utf8 : (later : Bool) (xs : List ℕ) → IsUtf8 xs → IsUtf8 (comma_if later ++ xs)
comma_utf8 true xs u = ascii_utf8 (44 ∷ []) xs refl u
comma_utf8 false xs u = u

mutual
  text_utf8 : (d : Data) → IsPlain d → IsUtf8 (compact_text d)
  text_utf8 null h = IsUtf8-are_ascii _ refl
  text_utf8 (boolean b) h = IsUtf8-boolean b
  text_utf8 (number n) h = number_utf8 n h
  text_utf8 (string s) h = IsUtf8-quoted s h
  text_utf8 (array ds) h = ascii_utf8 (91 ∷ []) (items_text false ds) refl (items_utf8 false ds h)
  text_utf8 (object ms) h =
      ascii_utf8 (123 ∷ []) (members_text false ms) refl (members_utf8 false ms h)

  items_utf8 : (later : Bool) (ds : Items) → ArePlain ds → IsUtf8 (items_text later ds)
  items_utf8 later no_items h = IsUtf8-are_ascii (93 ∷ []) refl
  items_utf8 later (item d ds) h =
      comma_utf8 later (compact_text d ++ items_text true ds)
      (IsUtf8-append (compact_text d) (items_text true ds) (text_utf8 d h.0)
      (items_utf8 true ds h.1))

  members_utf8 : (later : Bool) (ms : Members) → HasPlain ms → IsUtf8 (members_text later ms)
  members_utf8 later no_members h = IsUtf8-are_ascii (125 ∷ []) refl
  members_utf8 later (member k d ms) h =
      let rest = compact_text d ++ members_text true ms in
      comma_utf8 later (quoted k ++ 58 ∷ rest)
      (IsUtf8-append (quoted k) (58 ∷ rest) (IsUtf8-quoted k h.0)
      (ascii_utf8 (58 ∷ []) rest refl
      (IsUtf8-append (compact_text d) (members_text true ms) (text_utf8 d h.1)
      (members_utf8 true ms h.2))))

-- ---- its text has its tokens

printable_both : (ts us : List Token) → ArePrintable ts → ArePrintable us → ArePrintable (ts ++ us)
unfolding ArePrintable
printable_both [] us h g = g
printable_both (t ∷ ts) us h g = (h.0, printable_both ts us h.1 g)

number_printable : (n : Num) → IsSmall n → ArePrintable (Token.number (number_text n) ∷ [])
unfolding ArePrintable
number_printable (unsigned n) h = (IsNumber-decimal n h, tt)
number_printable (negative (pos n)) h = (IsNumber-signed_decimal (pos n) h, tt)
number_printable (negative (negsuc n)) h = (IsNumber-signed_decimal (negsuc n) h, tt)
number_printable (float x) h = absurd h

mutual
  unfolding ArePrintable

  printable : (d : Data) → IsPlain d → ArePrintable (json_tokens (outline d))
  printable null h = (tt, tt)
  printable (boolean b) h = (tt, tt)
  printable (number n) h = number_printable n h
  printable (string s) h = (tt, tt)
  printable (array ds) h = (tt, items_printable ds h)
  printable (object ms) h = (tt, members_printable ms h)

  items_printable : (ds : Items) → ArePlain ds → ArePrintable (items_tokens (items_outline ds))
  items_printable no_items h = (tt, tt)
  items_printable (item d ds) h =
      printable_both (json_tokens (outline d)) (items_tokens (items_outline ds))
      (printable d h.0) (items_printable ds h.1)

  members_printable : (ms : Members) → HasPlain ms
      → ArePrintable (members_tokens (members_outline ms))
  members_printable no_members h = (tt, tt)
  members_printable (member k d ms) h = (
    tt,
    printable_both (json_tokens (outline d)) (members_tokens (members_outline ms))
        (printable d h.1) (members_printable ms h.2),
  )

text_tokens : (d : Data) → IsPlain d → tokens (compact_text d) ≡ json_tokens (outline d)
text_tokens d h =
    ap tokens (sym (print-outline d)) ∙ tokens-print (json_tokens (outline d)) (printable d h)

-- ---- states

put_plain : (k : List ℕ) (d : Data) (ms : Members) → IsUtf8 k → IsPlain d → HasPlain ms
    → HasPlain (put k d ms)
put_plain k d no_members u h rest = (u, h, tt)
put_plain k d (member l e ms) u h rest =
    one (text_cmp k l) (put_plain k d ms u h rest.2)
  where
    one : (o : Ordering) → HasPlain (put k d ms)
        → HasPlain (match_ordering o (member k d (member l e ms)) (member l d ms)
        (member l e (put k d ms)))
    one Less more = (u, h, rest)
    one Equal more = (rest.0, h, rest.2)
    one Greater more = (rest.0, rest.1, more)

value_plain : (v : Value) → is_value v ≡ true → HasText v → IsPlain (value_data v)
value_plain (value.Flag b) h text = tt
value_plain (value.Int (pos n)) h text =
    let high =
    (and_parts (int_le (negsuc (largest - 1)) (pos n)) (int_le (pos n) (pos largest)) h).1 in
    omega (arith, leb-true n largest high)
value_plain (value.Int (negsuc n)) h text =
    let low =
    (and_parts (int_le (negsuc (largest - 1)) (negsuc n)) (int_le (negsuc n) (pos largest)) h).0 in
    omega (arith, leb-true n (largest - 1) low)
value_plain (value.Text t) h text = text

-- a field's name is ASCII
letter_ascii : (c : ℕ) → is_field_byte c ≡ true → nat_lt c 128 ≡ true
letter_ascii c h = grind arith

letters_ascii : (cs : List ℕ) → list_all is_field_byte cs ≡ true → are_ascii cs ≡ true
letters_ascii [] h = refl
letters_ascii (c ∷ cs) h =
    let a = and_parts (is_field_byte c) (list_all is_field_byte cs) h in
    rw (letter_ascii c a.0, letters_ascii cs a.1) refl

first_ascii : (c : ℕ) → is_ascii_alphabetic c ≡ true → nat_lt c 128 ≡ true
first_ascii c h = grind arith

name_utf8 : (k : List ℕ) → is_field_name k ≡ true → IsUtf8 k
name_utf8 [] h = IsUtf8-are_ascii [] refl
name_utf8 (c ∷ cs) h =
    let a = and_parts (is_ascii_alphabetic c && nat_lt (length cs) longest_name)
    (list_all is_field_byte cs) h in
    let b = and_parts (is_ascii_alphabetic c) (nat_lt (length cs) longest_name) a.0 in
    IsUtf8-are_ascii (c ∷ cs) (rw (first_ascii c b.0, letters_ascii cs a.1) refl)

pairs_plain : (ps : Pairs) → AllByRecursion (λ p. is_field_name p.0 ≡ true) ps
    → AllByRecursion (λ p. is_value p.1 ≡ true) ps → AllByRecursion (λ p. HasText p.1) ps
    → HasPlain (pairs_members ps)
pairs_plain [] names within texts = tt
pairs_plain (p ∷ ps) names within texts = (
  name_utf8 p.0 names.0,
  value_plain p.1 within.0 texts.0,
  pairs_plain ps names.1 within.1 texts.1,
)

state_plain : (s : Shape) → IsSaid s → (state : State) → (IsState s state × IsWellFormed state)
    → IsPlain (state_data state)
state_plain s said state h =
    put_plain mark (boolean state.deleted) (pairs_members state.fields)
    (IsUtf8-are_ascii mark refl) tt
    (pairs_plain state.fields (names_of s state said h.0 h.1) h.1.fields.in_range h.1.texts)

row_plain : (s : Shape) → IsSaid s → (row : PushRow) → (IsRow s row × RowIsWellFormed row)
    → IsPlain (row_data row)
row_plain s said row h = of_parts row.assumed row.new h
  where
    of_parts : (assumed : Option State) (new : State)
        → (IsRow s (record { assumed = assumed; new = new })
        × RowIsWellFormed (record { assumed = assumed; new = new }))
        → IsPlain (row_data (record { assumed = assumed; new = new }))
    of_parts None new h =
        (IsUtf8-are_ascii (codes "new") refl, state_plain s said new (h.0.new, h.1.new), tt)
    of_parts (Some state) new h = (
      IsUtf8-are_ascii (codes "assumed") refl,
      state_plain s said state (h.0.assumed, h.1.assumed),
      (IsUtf8-are_ascii (codes "new") refl, state_plain s said new (h.0.new, h.1.new), tt),
    )

items_plain : {X : Type 0} (P : X → Type 0) (data_of : X → Data)
    → ((x : X) → P x → IsPlain (data_of x)) → (xs : List X) → AllByRecursion P xs
    → ArePlain (items_of (map data_of xs))
items_plain P data_of plain [] all = tt
items_plain P data_of plain (x ∷ xs) all =
    (plain x all.0, items_plain P data_of plain xs all.1)

-- ---- messages

count_plain : (n : ℕ) → n ≤ largest → n < 2 ^ 64
count_plain n h = omega (arith, h)

place_plain : (place : Option Place) (ms : Members) → IfSome place IsPlace
    → IfSome place PlaceIsText → HasPlain ms → HasPlain (with_place place ms)
place_plain None ms lawful parts rest = rest
place_plain (Some p) ms lawful parts rest = (
  IsUtf8-are_ascii (codes "place") refl,
  (
    IsUtf8-are_ascii (codes "id") refl,
    parts,
    (IsUtf8-are_ascii (codes "lwt") refl, count_plain p.lwt lawful.high, tt),
  ),
  rest,
)

-- digits by their index, and 0 past them
digit_below : (t : List ℕ) (i : ℕ) → are_ascii t ≡ true → nat_lt (slice_index t i) 128 ≡ true
digit_below [] i h = refl
digit_below (c ∷ t) zero h = (and_parts (nat_lt c 128) (are_ascii t) h).0
digit_below (c ∷ t) (suc i) h =
    digit_below t i (and_parts (nat_lt c 128) (are_ascii t) h).1

hex_ascii : (bytes : List ℕ) → are_ascii (encode_with lower_digits bytes) ≡ true
unfolding encode_with
hex_ascii [] = refl
hex_ascii (b ∷ bytes) =
    rw (
      digit_below lower_digits (b / 16) refl,
      digit_below lower_digits (b % 16) refl,
      hex_ascii bytes,
    ) refl

hash_utf8 : (s : Shape) → IsUtf8 (hash_text s)
hash_utf8 s = IsUtf8-are_ascii (hash_text s) (hex_ascii (sha256 (canonical_text s)))

ask_plain : (s : Shape) (hash : List ℕ) (epoch n : ℕ) (ask : AskKind) → IsSaid s → IsUtf8 hash
    → IsCount epoch → IsCount n → IsAsk s ask → AskIsWellFormed ask
    → HasPlain (ask_members hash epoch n ask)
ask_plain s hash epoch n (Pull place batch) said u e m lawful parts = (
  IsUtf8-are_ascii (codes "ask") refl,
  IsUtf8-are_ascii (codes "pull") refl,
  (
    IsUtf8-are_ascii (codes "batch") refl,
    count_plain batch (omega (arith, lawful.few)),
    (
      IsUtf8-are_ascii (codes "epoch") refl,
      count_plain epoch e.high,
      (
        IsUtf8-are_ascii (codes "n") refl,
        count_plain n m.high,
        place_plain place (member (codes "schema") (string hash) no_members) lawful.above parts
            (IsUtf8-are_ascii (codes "schema") refl, u, tt),
      ),
    ),
  ),
)
ask_plain s hash epoch n (Push rows) said u e m lawful parts = (
  IsUtf8-are_ascii (codes "ask") refl,
  IsUtf8-are_ascii (codes "push") refl,
  (
    IsUtf8-are_ascii (codes "epoch") refl,
    count_plain epoch e.high,
    (
      IsUtf8-are_ascii (codes "n") refl,
      count_plain n m.high,
      (
        IsUtf8-are_ascii (codes "rows") refl,
        items_plain (λ row. IsRow s row × RowIsWellFormed row) row_data (row_plain s said) rows
            (all_both (IsRow s) RowIsWellFormed rows lawful.each parts),
        (IsUtf8-are_ascii (codes "schema") refl, u, tt),
      ),
    ),
  ),
)

states_plain : (s : Shape) (states : List State) → IsSaid s → AllByRecursion (IsState s) states
    → AllByRecursion IsWellFormed states → ArePlain (states_items states)
states_plain s states said lawful parts =
    items_plain (λ state. IsState s state × IsWellFormed state) state_data (state_plain s said)
    states (all_both (IsState s) IsWellFormed states lawful parts)

body_plain : (s : Shape) (epoch n : ℕ) (body : Body) → IsSaid s → IsCount epoch → IsCount n
    → IsBody s body → BodyIsWellFormed body → HasPlain (body_members epoch n body)
body_plain s epoch n (Conflicts states) said e m lawful parts = (
  IsUtf8-are_ascii (codes "conflicts") refl,
  states_plain s states said lawful.each parts,
  (
    IsUtf8-are_ascii (codes "epoch") refl,
    count_plain epoch e.high,
    (IsUtf8-are_ascii (codes "n") refl, count_plain n m.high, tt),
  ),
)
body_plain s epoch n (Docs states place) said e m lawful parts = (
  IsUtf8-are_ascii (codes "docs") refl,
  states_plain s states said lawful.given.each parts.given,
  (
    IsUtf8-are_ascii (codes "epoch") refl,
    count_plain epoch e.high,
    (
      IsUtf8-are_ascii (codes "n") refl,
      count_plain n m.high,
      place_plain place no_members lawful.last parts.last tt,
    ),
  ),
)

-- ---- read again

row_fields : (row : PushRow) → RowIsWellFormed row → RowHasFields row
row_fields row h = of_parts row.assumed row.new h.assumed h.new
  where
    of_parts : (assumed : Option State) (new : State) → IfSome assumed IsWellFormed
        → IsWellFormed new → RowHasFields (record { assumed = assumed; new = new })
    of_parts None new old is = record { new = is.fields; assumed = tt }
    of_parts (Some state) new old is = record { new = is.fields; assumed = old.fields }

ask_fields : (ask : AskKind) → AskIsWellFormed ask → AskHasFields ask
ask_fields (Pull place batch) h = tt
ask_fields (Push rows) h = all_weaker RowIsWellFormed RowHasFields row_fields rows h

body_fields : (body : Body) → BodyIsWellFormed body → BodyHasFields body
body_fields (Conflicts states) h =
    all_weaker IsWellFormed HasFields (λ state formed. formed.fields) states h
body_fields (Docs states place) h =
    all_weaker IsWellFormed HasFields (λ state formed. formed.fields) states h.given

pub requests_again : (s : Shape) (r : Request) → IsSaid s → IsRequest s r
    → AskIsWellFormed r.ask → IfSome (asked_place r.ask) HasShortKey
    → request_of s (request_text s r) ≡ Ok r
requests_again s r said lawful parts short =
    let plain : IsPlain (request_data s r) =
    ask_plain s (hash_text s) r.epoch r.n r.ask said (hash_utf8 s) lawful.epoch lawful.n lawful.ask
    parts in
    request_text_read said.0 s r (request_text s r) said.1 lawful (ask_fields r.ask parts) refl
    (text_utf8 (request_data s r) plain) (text_tokens (request_data s r) plain)
    (requests_short s r said lawful parts short)

pub replies_again : (s : Shape) (r : Reply) → IsSaid s → IsReply s r → BodyIsWellFormed r.body
    → IfSome (given_place r.body) HasShortKey → reply_of s (reply_text r) ≡ Ok r
replies_again s r said lawful parts short =
    let plain : IsPlain (reply_data r) =
    body_plain s r.epoch r.n r.body said lawful.epoch lawful.n lawful.body parts in
    reply_text_read said.0 s r (reply_text r) said.1 lawful (body_fields r.body parts) refl
    (text_utf8 (reply_data r) plain) (text_tokens (reply_data r) plain)
    (replies_short s r said lawful parts short)
