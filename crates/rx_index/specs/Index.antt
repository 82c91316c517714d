-- Indexes as their callers see them, and the documents that they hold.
use Rattle.std.specs.Prelude.{◌≡◌, ℕ, Bool, true, false, not, ◌&&◌, List, map, filter, Option, Some, None, IfSome}
use Rattle.std.specs.Bool.{beq}
use Rattle.std.specs.Borrow.{Bor}
use Rattle.std.specs.List.{list_all, list_any}
use Rattle.std.specs.Ordering.{is_eq}
use Rattle.rx_value.specs.Fields.{Pairs}
use Rattle.rx_value.specs.Named.{named}
use Rattle.rx_value.specs.Order.{order_of}
use Rattle.rx_document.specs.Documents.{Documents}
use Rattle.rx_document.specs.declared.stored.Stored.{Stored}
use Rattle.rx_index.specs.Position.{Position, position_cmp, precedes, key_of, id_of}

-- its fields, and the positions before its keys, which rise
pub record Indexed : Type 0 where
  pub fields : List (List ℕ)
  pub keys : List Position

-- with these keys
abbrev pub indexed_by : List (List ℕ) → List Position → Indexed
indexed_by fields keys = record { fields = fields; keys = keys }

-- the key is among those
abbrev pub has_key : List Position → Position → Bool
has_key keys k = list_any (λ key. is_eq (position_cmp k key)) keys

-- there is a document, and this is its key
abbrev pub is_key_of : List (List ℕ) → Option Stored → Position → Bool
is_key_of fields None k = false
is_key_of fields (Some d) k = is_eq (position_cmp (key_of fields d) k)

-- among the positions that pass the test, its keys are exactly those of the documents
abbrev pub HoldsWhere : (Position → Bool) → Indexed → Documents → Type 0
HoldsWhere test i documents =
    (k : Position) → test k ≡ true
    → has_key i.keys k ≡ is_key_of i.fields (named documents (id_of k)) k

-- its keys are exactly those of the documents
abbrev pub Holds : Indexed → Documents → Type 0
Holds = HoldsWhere (λ k. true)

-- the index holds documents among which the old one, if there is one, has the key of the new one
pub record Replaces (i : Indexed) (documents : Documents) (old : Option Stored) (new : Stored)
    : Type 0 where
  pub held : Holds i documents
  pub old_one : named documents new.state.key ≡ old
  pub keyed : IfSome old (λ d. d.state.key ≡ new.state.key)

-- at each of the names both have the same
abbrev pub has_same_fields : List (List ℕ) → Pairs → Pairs → Bool
has_same_fields names x y =
    list_all (λ name. is_eq (order_of (named x name) (named y name))) names

-- two documents of one primary key have one key
abbrev pub has_same_key : List (List ℕ) → Stored → Stored → Bool
has_same_key fields d e =
    beq d.state.deleted e.state.deleted && has_same_fields fields d.state.fields e.state.fields

-- the low bound precedes it, and the high one doesn't
abbrev pub is_between : Position → Position → Position → Bool
is_between low high k = precedes low k && not (precedes high k)

-- the primary keys of the keys between the bounds, in order
abbrev pub ids_between : Position → Position → List Position → List (List ℕ)
ids_between low high keys = map id_of (filter (is_between low high) keys)

-- a lent text as its bytes
abbrev pub lent_bytes : Bor (List ℕ) → List ℕ
lent_bytes text = text.now
