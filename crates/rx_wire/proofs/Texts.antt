-- The text of a lawful message is read as that message.
use Rattle.std.proofs.Common.{◌≡◌, ℕ, ◌≤◌, List, [], ◌∷◌, length, Option, Some, None, IfSome, Ok, refl, sym, arith}
use Rattle.std.proofs.lemmas.Slice.Eq.{bytes_eq-Decides}
use Rattle.std.specs.List.{AllByRecursion}
use Rattle.std.specs.Prelude.{decimal}
use Rattle.std.specs.Str.{IsUtf8}
use Rattle.json.specs.Lex.{tokens}
use Rattle.json.specs.Tree as tree
use Rattle.json.specs.Tree.{json_tokens}
use Rattle.serde_json.proofs.Numbers.{number_of-decimal}
use Rattle.serde_json.specs.Data.{Data, object, unsigned}
use Rattle.serde_json.specs.Read.{number_of, of_json, of_items, max_depth}
use Rattle.serde_json.specs.Written.{outline, items_outline}
use Rattle.rx_value.specs.declared.state.State.{State}
use Rattle.rx_schema.specs.Reading.{schema_of}
use Rattle.rx_schema.specs.Writing.{hash_text}
use Rattle.rx_schema.specs.declared.shape.Shape.{Shape}
use Rattle.rx_wire.specs.Lawful.{IsAsk, IsBody, IsRequest, IsReply}
use Rattle.rx_wire.specs.Limits.{longest_line, IsCount}
use Rattle.rx_wire.specs.Printing.{HasFields, RowHasFields, AskHasFields, BodyHasFields}
use Rattle.rx_wire.specs.Spelling.{request_of, reply_of}
use Rattle.rx_wire.specs.Writing.{row_data, rows_items, states_items, ask_members, body_members, request_data, reply_data, request_text, reply_text}
use Rattle.rx_wire.specs.declared.message.AskKind.{AskKind}
use Rattle.rx_wire.specs.declared.message.AskKind.TheVariants.{Push, Pull}
use Rattle.rx_wire.specs.declared.message.Body.{Body}
use Rattle.rx_wire.specs.declared.message.Body.TheVariants.{Conflicts, Docs}
use Rattle.rx_wire.specs.declared.message.PushRow.{PushRow}
use Rattle.rx_wire.specs.declared.message.Reply.{Reply}
use Rattle.rx_wire.specs.declared.message.Request.{Request}
use Rattle.rx_wire.proofs.Again.{request_again, reply_again}
use Rattle.rx_wire.proofs.Lines.{object_there}
use Rattle.rx_wire.proofs.Parsed.{state_parsed, state_depth, text_read}

-- ---- what is printed parses

-- a number
count_parsed : (n : ℕ) → IsCount n → number_of (decimal n) ≡ Some (unsigned n)
count_parsed n h = number_of-decimal n (omega (arith, h.high))

-- a row
row_parsed : (row : PushRow) → RowHasFields row
    → of_json (outline (row_data row)) ≡ Some (row_data row)
row_parsed row fields = of_parts row.assumed row.new fields.assumed fields.new
  where
    of_parts : (assumed : Option State) (new : State) → IfSome assumed HasFields → HasFields new
        → of_json (outline (row_data (record { assumed = assumed; new = new })))
        ≡ Some (row_data (record { assumed = assumed; new = new }))
    of_parts None new old fields = rw (state_parsed new fields) refl
    of_parts (Some state) new old fields = rw (state_parsed new fields, state_parsed state old) refl

rows_parsed : (rows : List PushRow) → AllByRecursion RowHasFields rows
    → of_items (items_outline (rows_items rows)) ≡ Some (rows_items rows)
rows_parsed [] fields = refl
rows_parsed (row ∷ rows) fields = rw (row_parsed row fields.0, rows_parsed rows fields.1) refl

states_parsed : (states : List State) → AllByRecursion HasFields states
    → of_items (items_outline (states_items states)) ≡ Some (states_items states)
states_parsed [] fields = refl
states_parsed (state ∷ states) fields =
    rw (state_parsed state fields.0, states_parsed states fields.1) refl

-- a request
ask_parsed : (s : Shape) (hash : List ℕ) (epoch n : ℕ) (ask : AskKind) → IsCount epoch → IsCount n
    → IsAsk s ask → AskHasFields ask
    → of_json (outline (object (ask_members hash epoch n ask)))
    ≡ Some (object (ask_members hash epoch n ask))
ask_parsed s hash epoch n (Pull None batch) e m lawful fields =
    rw (
      number_of-decimal batch (omega (arith, lawful.few)),
      count_parsed epoch e,
      count_parsed n m,
    ) refl
ask_parsed s hash epoch n (Pull (Some p) batch) e m lawful fields =
    rw (
      number_of-decimal batch (omega (arith, lawful.few)),
      count_parsed epoch e,
      count_parsed n m,
      count_parsed p.lwt lawful.above,
    ) refl
ask_parsed s hash epoch n (Push rows) e m lawful fields =
    rw (count_parsed epoch e, count_parsed n m, rows_parsed rows fields) refl

-- a reply
body_parsed : (s : Shape) (epoch n : ℕ) (body : Body) → IsCount epoch → IsCount n → IsBody s body
    → BodyHasFields body
    → of_json (outline (object (body_members epoch n body)))
    ≡ Some (object (body_members epoch n body))
body_parsed s epoch n (Conflicts states) e m lawful fields =
    rw (states_parsed states fields, count_parsed epoch e, count_parsed n m) refl
body_parsed s epoch n (Docs states None) e m lawful fields =
    rw (states_parsed states fields, count_parsed epoch e, count_parsed n m) refl
body_parsed s epoch n (Docs states (Some p)) e m lawful fields =
    rw (
      states_parsed states fields,
      count_parsed epoch e,
      count_parsed n m,
      count_parsed p.lwt lawful.last,
    ) refl

-- ---- and is shallow

row_depth : (assumed : Option State) (new : State)
    → tree.depth (outline (row_data (record { assumed = assumed; new = new }))) ≤ 2
row_depth None new = omega (arith, state_depth new)
row_depth (Some state) new = omega (arith, state_depth new, state_depth state)

rows_depth : (rows : List PushRow) → tree.items_depth (items_outline (rows_items rows)) ≤ 2
rows_depth [] = omega arith
rows_depth (row ∷ rows) = omega (arith, row_depth row.assumed row.new, rows_depth rows)

states_depth : (states : List State) → tree.items_depth (items_outline (states_items states)) ≤ 1
states_depth [] = omega arith
states_depth (state ∷ states) = omega (arith, state_depth state, states_depth states)

ask_depth : (hash : List ℕ) (epoch n : ℕ) (ask : AskKind)
    → tree.depth (outline (object (ask_members hash epoch n ask))) ≤ max_depth
ask_depth hash epoch n (Pull None batch) = omega arith
ask_depth hash epoch n (Pull (Some p) batch) = omega arith
ask_depth hash epoch n (Push rows) = omega (arith, rows_depth rows)

body_depth : (epoch n : ℕ) (body : Body)
    → tree.depth (outline (object (body_members epoch n body))) ≤ max_depth
body_depth epoch n (Conflicts states) = omega (arith, states_depth states)
body_depth epoch n (Docs states None) = omega (arith, states_depth states)
body_depth epoch n (Docs states (Some p)) = omega (arith, states_depth states)

-- ---- texts

-- the text of a request
pub request_text_read : (d : Data) (s : Shape) (r : Request) (t : List ℕ) → schema_of d ≡ Ok s
    → IsRequest s r → AskHasFields r.ask → t ≡ request_text s r → IsUtf8 t
    → tokens t ≡ json_tokens (outline (request_data s r)) → length t ≤ longest_line
    → request_of s t ≡ Ok r
request_text_read d s r t said lawful fields is utf8 printed short =
    let shallow = ask_depth (hash_text s) r.epoch r.n r.ask in
    let parsed =
    ask_parsed s (hash_text s) r.epoch r.n r.ask lawful.epoch lawful.n lawful.ask fields in
    rw (
      object_there t (request_data s r) short utf8
          (text_read t (request_data s r) printed shallow parsed) refl,
      request_again d s said r lawful fields,
      (bytes_eq-Decides (request_text s r) t).1 (sym is),
    ) refl

-- the text of a reply
pub reply_text_read : (d : Data) (s : Shape) (r : Reply) (t : List ℕ) → schema_of d ≡ Ok s
    → IsReply s r → BodyHasFields r.body → t ≡ reply_text r → IsUtf8 t
    → tokens t ≡ json_tokens (outline (reply_data r)) → length t ≤ longest_line
    → reply_of s t ≡ Ok r
reply_text_read d s r t said lawful fields is utf8 printed short =
    let shallow = body_depth r.epoch r.n r.body in
    let parsed = body_parsed s r.epoch r.n r.body lawful.epoch lawful.n lawful.body fields in
    rw (
      object_there t (reply_data r) short utf8
          (text_read t (reply_data r) printed shallow parsed) refl,
      reply_again d s said r lawful fields,
      (bytes_eq-Decides (reply_text r) t).1 (sym is),
    ) refl
