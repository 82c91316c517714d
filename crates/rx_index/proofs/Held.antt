-- What an index holds after a document is put.
use Rattle.std.proofs.Common.{◌≡◌, ℕ, Bool, true, false, cond, ◌&&◌, List, [], ◌∷◌, ◌++◌, map, Option, Some, None, refl, sym, ap, ◌∙◌}
use Rattle.std.proofs.lemmas.Bool.{false≢true, and_parts}
use Rattle.std.proofs.lemmas.List.{same_from_push}
use Rattle.std.proofs.lemmas.Slice.Eq.{bytes_eq-Decides}
use Rattle.std.specs.Bool.{beq}
use Rattle.std.specs.Cmp.{Equal-is, booleans_Decides}
use Rattle.std.specs.List.{list_all}
use Rattle.std.specs.Ordering.{is_eq}
use Rattle.std.specs.Str.{bytes_eq}
use Rattle.rx_value.proofs.Named.{named-put_in_order}
use Rattle.rx_value.proofs.Ordered.{order_ties}
use Rattle.rx_value.specs.Fields.{Pairs}
use Rattle.rx_value.specs.Named.{named, put_in_order}
use Rattle.rx_value.specs.Order.{order_of}
use Rattle.rx_value.specs.declared.value.Value.TheVariants.{Flag, Text}
use Rattle.rx_document.specs.Documents.{Documents}
use Rattle.rx_document.specs.declared.stored.Stored.{Stored}
use Rattle.rx_index.specs.Index.{indexed_by, has_key, is_key_of, has_same_key, Holds}
use Rattle.rx_index.specs.Position.{Position, position_with, position_cmp, key_values, key_of, id_of}
use Rattle.rx_index.proofs.Positions.{position_eq-Decides, id_of-tied}

-- ---- one key or two

same_values : (x y : Pairs) (fields : List (List ℕ))
    → list_all (λ field. is_eq (order_of (named x field) (named y field))) fields ≡ true
    → map (λ field. named x field) fields ≡ map (λ field. named y field) fields
same_values x y [] h = refl
same_values x y (f ∷ fs) h =
    (elim (is_eq (order_of (named x f) (named y f)))
    as (λ b. is_eq (order_of (named x f) (named y f)) ≡ b
    → (b && list_all (λ field. is_eq (order_of (named x field) (named y field))) fs) ≡ true
    → map (λ field. named x field) (f ∷ fs) ≡ map (λ field. named y field) (f ∷ fs)) [
      | true ↦ (λ is rest.
          let first : named x f ≡ named y f =
          (order_ties (named x f) (named y f)).0
          ((Equal-is (order_of (named x f) (named y f))).0 is) in
          let others = same_values x y fs rest in
          λ i. first i ∷ others i)
      | false ↦ (λ is rest. absurd (false≢true rest))
    ]) refl h

same_tests : (x y : Pairs) (fields : List (List ℕ))
    → map (λ field. named x field) fields ≡ map (λ field. named y field) fields
    → list_all (λ field. is_eq (order_of (named x field) (named y field))) fields ≡ true
same_tests x y [] h = refl
same_tests x y (f ∷ fs) h =
    let first : named x f ≡ named y f = cc in
    let others : map (λ field. named x field) fs ≡ map (λ field. named y field) fs = cc in
    let is : is_eq (order_of (named x f) (named y f)) ≡ true =
    (Equal-is (order_of (named x f) (named y f))).1
    ((order_ties (named x f) (named y f)).1 first) in
    ap (λ b. b && list_all (λ field. is_eq (order_of (named x field) (named y field))) fs) is
    ∙ same_tests x y fs others

-- documents of one primary key that pass the test have one key
pub one_key : (fields : List (List ℕ)) (d e : Stored) → has_same_key fields d e ≡ true
    → d.state.key ≡ e.state.key → key_of fields d ≡ key_of fields e
one_key fields d e h same =
    let parts = and_parts (beq d.state.deleted e.state.deleted) _ h in
    let marks : d.state.deleted ≡ e.state.deleted =
    (booleans_Decides d.state.deleted e.state.deleted).0 parts.0 in
    let values = same_values d.state.fields e.state.fields fields parts.1 in
    λ i. position_with (Some (Flag (marks i)) ∷ (values i ++ Some (Text (same i)) ∷ [])) false

-- and others have two
pub two_keys : (fields : List (List ℕ)) (d e : Stored) → has_same_key fields d e ≡ false
    → key_of fields d ≡ key_of fields e → ⊥
two_keys fields d e h same =
    let all : key_values fields d ≡ key_values fields e = ap (λ p. p.values) same in
    let mark : d.state.deleted ≡ e.state.deleted = cc in
    let rest : map (λ field. named d.state.fields field) fields ++ Some (Text d.state.key) ∷ []
    ≡ map (λ field. named e.state.fields field) fields ++ Some (Text e.state.key) ∷ [] = cc in
    let values = (same_from_push (map (λ field. named d.state.fields field) fields)
    (map (λ field. named e.state.fields field) fields) (Some (Text d.state.key))
    (Some (Text e.state.key)) rest).0 in
    let yes : has_same_key fields d e ≡ true =
    ap (λ b. b && list_all
    (λ field. is_eq (order_of (named d.state.fields field) (named e.state.fields field))) fields)
    ((booleans_Decides d.state.deleted e.state.deleted).1 mark)
    ∙ same_tests d.state.fields e.state.fields fields values in
    false≢true (sym h ∙ yes)

-- ---- which keys there are

-- the key of what is chosen
key_if : (fields : List (List ℕ)) (b : Bool) (d : Stored) (o : Option Stored) (k : Position)
    → is_key_of fields (cond b (Some d) o) k
    ≡ cond b (is_eq (position_cmp (key_of fields d) k)) (is_key_of fields o k)
key_if fields true d o k = refl
key_if fields false d o k = refl

-- ---- a document in the place of the one with its key

-- where the old one has the same key
kept : (b w z : Bool) → (b ≡ true → z ≡ w) → z ≡ cond b w z
kept true w z h = h refl
kept false w z h = refl

-- where there was none
fresh : (b w z : Bool) → (w ≡ true → b ≡ true) → (b ≡ true → z ≡ false)
    → cond w true z ≡ cond b w z
fresh true true z own none = refl
fresh true false z own none = refl ∙ none refl
fresh false true z own none = absurd (false≢true (own refl))
fresh false false z own none = refl

-- where the old one has another key
moved : (b v w z : Bool) → (v ≡ true → b ≡ true) → (w ≡ true → b ≡ true) → (b ≡ true → z ≡ v)
    → (v ≡ true → w ≡ false) → cond v false (cond w true z) ≡ cond b w z
moved true true w z old own here apart = sym (apart refl)
moved true false true z old own here apart = refl
moved true false false z old own here apart = here refl
moved false true w z old own here apart = absurd (false≢true (old refl))
moved false false true z old own here apart = absurd (false≢true (own refl))
moved false false false z old own here apart = refl

module _ (fields : List (List ℕ)) (documents : Documents) (new : Stored) (before : List Position)
    (held : Holds (indexed_by fields before) documents) where
  abbrev key : List ℕ
  key = new.state.key

  -- what is named then
  named_then : (k : Position)
      → is_key_of fields (named (put_in_order documents key new) (id_of k)) k
      ≡ cond (bytes_eq (id_of k) key) (is_eq (position_cmp (key_of fields new) k))
      (has_key before k)
  named_then k =
      ap (λ o. is_key_of fields o k) (named-put_in_order documents key (id_of k) new)
      ∙ key_if fields (bytes_eq (id_of k) key) new (named documents (id_of k)) k
      ∙ ap (cond (bytes_eq (id_of k) key) (is_eq (position_cmp (key_of fields new) k)))
      (sym (held k refl))

  -- a key of the primary key is that of the one named so
  at_key : (k : Position) (o : Option Stored) → named documents key ≡ o
      → bytes_eq (id_of k) key ≡ true → has_key before k ≡ is_key_of fields o k
  at_key k o is here =
      held k refl
      ∙ ap (λ q. is_key_of fields (named documents q) k) ((bytes_eq-Decides (id_of k) key).0 here)
      ∙ ap (λ o. is_key_of fields o k) is

  -- the new key is one of the primary key
  own : (d : Stored) (k : Position) → d.state.key ≡ key
      → is_eq (position_cmp (key_of fields d) k) ≡ true → bytes_eq (id_of k) key ≡ true
  own d k same h = (bytes_eq-Decides (id_of k) key).1 (id_of-tied fields d k h ∙ same)

  pub held_same : (old : Stored) → named documents key ≡ Some old → old.state.key ≡ key
      → has_same_key fields old new ≡ true
      → Holds (indexed_by fields before) (put_in_order documents key new)
  held_same old is same alike k _ =
      kept (bytes_eq (id_of k) key) (is_eq (position_cmp (key_of fields new) k)) (has_key before k)
      (λ here. at_key k (Some old) is here
      ∙ ap (λ p. is_eq (position_cmp p k)) (one_key fields old new alike same))
      ∙ sym (named_then k)

  pub held_fresh : named documents key ≡ None → (after : List Position)
      → ((k : Position) → has_key after k
      ≡ cond (is_eq (position_cmp (key_of fields new) k)) true (has_key before k))
      → Holds (indexed_by fields after) (put_in_order documents key new)
  held_fresh none after adds k _ =
      adds k
      ∙ fresh (bytes_eq (id_of k) key) (is_eq (position_cmp (key_of fields new) k))
      (has_key before k) (own new k refl) (at_key k None none)
      ∙ sym (named_then k)

  pub held_moved : (old : Stored) → named documents key ≡ Some old → old.state.key ≡ key
      → has_same_key fields old new ≡ false → (after last : List Position)
      → ((k : Position) → has_key after k
      ≡ cond (is_eq (position_cmp (key_of fields new) k)) true (has_key before k))
      → ((k : Position) → has_key last k
      ≡ cond (is_eq (position_cmp (key_of fields old) k)) false (has_key after k))
      → Holds (indexed_by fields last) (put_in_order documents key new)
  held_moved old is same differ after last adds takes k _ =
      takes k
      ∙ ap (cond (is_eq (position_cmp (key_of fields old) k)) false) (adds k)
      ∙ moved (bytes_eq (id_of k) key) (is_eq (position_cmp (key_of fields old) k))
      (is_eq (position_cmp (key_of fields new) k)) (has_key before k) (own old k same)
      (own new k refl) (at_key k (Some old) is)
      (λ h. elim (is_eq (position_cmp (key_of fields new) k))
      as (λ b. is_eq (position_cmp (key_of fields new) k) ≡ b → b ≡ false) [
        | true ↦ (λ here. absurd (two_keys fields old new differ
            ((position_eq-Decides (key_of fields old) k).0 h
            ∙ sym ((position_eq-Decides (key_of fields new) k).0 here))))
        | false ↦ (λ _. refl)
      ] refl)
      ∙ sym (named_then k)
