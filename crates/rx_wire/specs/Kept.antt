-- What is kept of an object while it is read: what a message may have, and of whatever else is
-- there enough to tell the first fault, so that no line takes more memory for its form than a
-- message.
use Rattle.std.specs.Prelude.{ℕ, suc, zero, ◌-◌, List, [], ◌∷◌, codes, Bool, ◌&&◌, ◌||◌, nat_eq, is_some, if◌then◌else◌, Option, Some, None, Result, Ok}
use Rattle.std.specs.Ordering.{match_ordering}
use Rattle.serde_json.specs.Data.{Data, null, boolean, number, string, array, object, Items, no_items, item, Members, no_members, member, put}
use Rattle.rx_value.specs.Due.{◌>>◌}
use Rattle.rx_value.specs.Form.{is_among}
use Rattle.rx_value.specs.Named.{named}
use Rattle.rx_value.specs.Order.{text_cmp}
use Rattle.rx_value.specs.State.{mark}
use Rattle.rx_schema.specs.Writing.{kinds_of}
use Rattle.rx_schema.specs.declared.shape.Shape.{Shape}
use Rattle.rx_wire.specs.Limits.{most_states}
use Rattle.rx_wire.specs.Reading.{object_of, request_in, reply_in}
use Rattle.rx_wire.specs.Spelling.{if_spelt}
use Rattle.rx_wire.specs.Writing.{request_text, reply_text}
use Rattle.rx_wire.specs.declared.message.Reply.{Reply}
use Rattle.rx_wire.specs.declared.message.Request.{Request}
use Rattle.rx_wire.specs.declared.fault.WireFault.{WireFault}

-- a message nests so deep: itself, a list or a place, a row or a state, a state of a row
abbrev pub message_depth : ℕ
message_depth = 4

-- of a list at such a place one more item than a message may have, and none of one elsewhere
abbrev pub room : ℕ → ℕ
room levels = if nat_eq levels 3 then suc most_states else 0

-- the members of the form of an object that has so many levels left
abbrev pub form_names : ℕ → List (List ℕ)
form_names levels =
    if nat_eq levels 4 then
    codes "ask" ∷ codes "batch" ∷ codes "conflicts" ∷ codes "docs" ∷ codes "epoch" ∷ codes "n"
    ∷ codes "place" ∷ codes "rows" ∷ codes "schema" ∷ []
    else if nat_eq levels 3 then codes "id" ∷ codes "lwt" ∷ []
    else if nat_eq levels 2 then mark ∷ codes "assumed" ∷ codes "new" ∷ []
    else if nat_eq levels 1 then mark ∷ []
    else []

-- the fields of a state are of the schema
abbrev pub is_field : Shape → ℕ → List ℕ → Bool
is_field s levels name =
    (nat_eq levels 1 || nat_eq levels 2) && is_some (named (kinds_of s.properties) name)

-- a name that an object at such a place may have
abbrev pub is_known : Shape → ℕ → List ℕ → Bool
is_known s levels name = is_among (form_names levels) name || is_field s levels name

-- the levels that are left for the value of a name
abbrev pub below : ℕ → List ℕ → ℕ
below levels name = if is_among (form_names levels) name then levels - 1 else 0

-- what is kept of a value that has so many levels left
abbrev mutual
  pub kept : Shape → ℕ → Data → Data
  kept s levels null = null
  kept s levels (boolean b) = boolean b
  kept s levels (number n) = number n
  kept s levels (string t) = string t
  kept s levels (array ds) = array (kept_items s (room levels) (levels - 1) ds)
  kept s levels (object ms) = object (kept_members s levels ms)

  -- of the items, the first ones
  pub kept_items : Shape → ℕ → ℕ → Items → Items
  kept_items s most levels no_items = no_items
  kept_items s zero levels (item d ds) = no_items
  kept_items s (suc most) levels (item d ds) =
      item (kept s levels d) (kept_items s most levels ds)

  -- of the members, those with a known name, and of the first other one the name
  pub kept_members : Shape → ℕ → Members → Members
  kept_members s levels no_members = no_members
  kept_members s levels (member name d ms) =
      if is_known s levels name then member name (kept s (below levels name) d)
      (kept_members s levels ms)
      else member name null (known_members s levels ms)

  -- of the members, those with a known name
  pub known_members : Shape → ℕ → Members → Members
  known_members s levels no_members = no_members
  known_members s levels (member name d ms) =
      if is_known s levels name then member name (kept s (below levels name) d)
      (known_members s levels ms)
      else known_members s levels ms

-- the lesser of a name and perhaps another one
abbrev pub lesser : List ℕ → Option (List ℕ) → List ℕ
lesser k None = k
lesser k (Some o) = match_ordering (text_cmp k o) k o o

-- members with perhaps a name besides, whose value doesn't matter
abbrev pub with_name : Option (List ℕ) → Members → Members
with_name None ms = ms
with_name (Some k) ms = put k null ms

-- what is kept of the object that a line is
abbrev pub kept_object : Shape → List ℕ → Result Data WireFault
kept_object s line = object_of line >> λ d. Ok (kept s message_depth d)

-- the request that this is, or its first fault
abbrev pub kept_request : Shape → List ℕ → Result Request WireFault
kept_request s line =
    kept_object s line >> λ d. request_in s d >> λ request.
    if_spelt (request_text s request) line request

-- the reply that this is, or its first fault
abbrev pub kept_reply : Shape → List ℕ → Result Reply WireFault
kept_reply s line =
    kept_object s line >> λ d. reply_in s d >> λ reply.
    if_spelt (reply_text reply) line reply
