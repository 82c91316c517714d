-- The index by the primary key holds the documents of its collection.
use Rattle.std.proofs.Common.{◌≡◌, ℕ, Bool, true, false, cond, ◌||◌, List, [], ◌∷◌, ◌++◌, Option, Some, None, is_some, refl, sym, ap, ◌∙◌}
use Rattle.std.proofs.lemmas.Bool.{false≢true}
use Rattle.std.proofs.lemmas.Slice.Eq.{bytes_eq-Decides}
use Rattle.std.specs.Ordering.{is_eq}
use Rattle.std.specs.Str.{bytes_eq}
use Rattle.rx_value.specs.Named.{named}
use Rattle.rx_document.specs.Documents.{live}
use Rattle.rx_document.specs.declared.stored.Stored.{Stored}
use Rattle.rx_runs.specs.Marked.{Marked}
use Rattle.rx_collection.proofs.Named.{at_name}
use Rattle.rx_collection.specs.Held.{Held}
use Rattle.rx_collection.specs.Lawful.{IsHeldAt, IsLawful}
use Rattle.rx_collection.specs.Marks.{AreMarked, is_tombstone}
use Rattle.rx_index.proofs.Positions.{position_eq-Decides}
use Rattle.rx_index.specs.ByKey.{by_key, mark_key, mark_keys}
use Rattle.rx_index.specs.Index.{has_key, is_key_of, Holds}
use Rattle.rx_index.specs.Position.{Position, key_of, id_of, position_cmp}

-- ---- tests

both_ways : (a b : Bool) → (a ≡ true → b ≡ true) → (b ≡ true → a ≡ true) → a ≡ b
both_ways true b there back = sym (there refl)
both_ways false true there back = back refl
both_ways false false there back = refl

one_of : (a b : Bool) (P : Type 0) → (a || b) ≡ true → (a ≡ true → P) → (b ≡ true → P) → P
one_of true b P is first second = first refl
one_of false b P is first second = second is

first_of : (a b : Bool) → a ≡ true → (a || b) ≡ true
first_of true b is = refl
first_of false b is = absurd (false≢true is)

second_of : (a b : Bool) → b ≡ true → (a || b) ≡ true
second_of true b is = refl
second_of false b is = is

or_assoc : (a b c : Bool) → (a || (b || c)) ≡ ((a || b) || c)
or_assoc true b c = refl
or_assoc false b c = refl

has_either : (ps qs : List Position) (k : Position)
    → has_key (ps ++ qs) k ≡ (has_key ps k || has_key qs k)
has_either [] qs k = refl
has_either (p ∷ ps) qs k =
    ap (λ b. is_eq (position_cmp k p) || b) (has_either ps qs k)
    ∙ or_assoc (is_eq (position_cmp k p)) (has_key ps k) (has_key qs k)

-- ---- one side

-- a key of names is that of one of them
record IsMarkKey (deleted : Bool) (es : List (List ℕ × ℕ)) (k : Position) : Type 0 where
  id : List ℕ
  is : k ≡ mark_key deleted id
  there : is_some (named es id) ≡ true

named_too : (e : List ℕ × ℕ) (es : List (List ℕ × ℕ)) (id : List ℕ)
    → is_some (named es id) ≡ true → is_some (named (e ∷ es) id) ≡ true
named_too e es id there =
    elim (bytes_eq id e.0) as (λ b. is_some (cond b (Some e.1) (named es id)) ≡ true)
    [ true ↦ refl | false ↦ there ]

mark_has : (deleted : Bool) (es : List (List ℕ × ℕ)) (k : Position)
    → has_key (mark_keys deleted es) k ≡ true → IsMarkKey deleted es k
mark_has deleted [] k has = absurd (false≢true has)
mark_has deleted (e ∷ es) k has =
    one_of (is_eq (position_cmp k (mark_key deleted e.0))) (has_key (mark_keys deleted es) k)
    (IsMarkKey deleted (e ∷ es) k) has
    (λ tie. record {
      id = e.0;
      is = (position_eq-Decides k (mark_key deleted e.0)).0 tie;
      there = ap (λ b. is_some (cond b (Some e.1) (named es e.0)))
          ((bytes_eq-Decides e.0 e.0).1 refl);
    })
    (λ rest.
    let m = mark_has deleted es k rest in
    record { id = m.id; is = m.is; there = named_too e es m.id m.there })

has_mark : (deleted : Bool) (es : List (List ℕ × ℕ)) (id : List ℕ)
    → is_some (named es id) ≡ true → has_key (mark_keys deleted es) (mark_key deleted id) ≡ true
has_mark deleted [] id there = absurd (false≢true there)
has_mark deleted (e ∷ es) id there =
    elim (bytes_eq id e.0)
    as (λ b. bytes_eq id e.0 ≡ b → is_some (cond b (Some e.1) (named es id)) ≡ true
    → has_key (mark_keys deleted (e ∷ es)) (mark_key deleted id) ≡ true) [
      | true ↦ (λ is h.
          first_of (is_eq (position_cmp (mark_key deleted id) (mark_key deleted e.0)))
          (has_key (mark_keys deleted es) (mark_key deleted id))
          ((position_eq-Decides (mark_key deleted id) (mark_key deleted e.0)).1
          (ap (mark_key deleted) ((bytes_eq-Decides id e.0).0 is))))
      | false ↦ (λ is h.
          second_of (is_eq (position_cmp (mark_key deleted id) (mark_key deleted e.0)))
          (has_key (mark_keys deleted es) (mark_key deleted id))
          (has_mark deleted es id h))
    ] refl there

-- ---- both

-- a document of a mark
record IsMarked (deleted : Bool) (o : Option Stored) : Type 0 where
  document : Stored
  is : o ≡ Some document
  marked : document.state.deleted ≡ deleted

is_live : (o : Option Stored) → is_some (live o) ≡ true → IsMarked false o
is_live None some = absurd (false≢true some)
is_live (Some d) some =
    elim d.state.deleted
    as (λ b. d.state.deleted ≡ b → is_some (cond b None (Some d.state.fields)) ≡ true
    → IsMarked false (Some d)) [
      | true ↦ (λ is h. absurd (false≢true h))
      | false ↦ (λ is h. record { document = d; is = refl; marked = is })
    ] refl some

is_gone : (o : Option Stored) → is_tombstone o ≡ true → IsMarked true o
is_gone None some = absurd (false≢true some)
is_gone (Some d) some = record { document = d; is = refl; marked = some }

module _ (c : Held) (m : Marked) (lawful : IsLawful c) (are : AreMarked c.documents m) where
  -- a document's key has its mark and its primary key
  key_is : (deleted : Bool) (id : List ℕ) (k : Position) → k ≡ mark_key deleted id
      → IsMarked deleted (named c.documents id)
      → is_key_of [] (named c.documents (id_of k)) k ≡ true
  key_is deleted id k is found =
      let d = found.document in
      let key : d.state.key ≡ id =
      (at_name (IsHeldAt c.schema.primary) c.documents id d lawful.each found.is).keyed in
      let same : key_of [] d ≡ k = (λ i. mark_key (found.marked i) (key i)) ∙ sym is in
      ap (λ p. is_key_of [] (named c.documents (id_of p)) k) is
      ∙ ap (λ o. is_key_of [] o k) found.is ∙ (position_eq-Decides (key_of [] d) k).1 same

  there : (k : Position) → has_key (by_key m).keys k ≡ true
      → is_key_of [] (named c.documents (id_of k)) k ≡ true
  there k has =
      one_of (has_key (mark_keys false m.plain) k) (has_key (mark_keys true m.marked) k)
      (is_key_of [] (named c.documents (id_of k)) k ≡ true)
      (sym (has_either (mark_keys false m.plain) (mark_keys true m.marked) k) ∙ has)
      (λ plain.
      let key = mark_has false m.plain k plain in
      key_is false key.id k key.is
      (is_live (named c.documents key.id) (sym (are.plain key.id) ∙ key.there)))
      (λ marked.
      let key = mark_has true m.marked k marked in
      key_is true key.id k key.is
      (is_gone (named c.documents key.id) (sym (are.marked key.id) ∙ key.there)))

  -- the key of a document is on the side of its mark
  on_side : (d : Stored) → named c.documents d.state.key ≡ Some d → (deleted : Bool)
      → d.state.deleted ≡ deleted
      → has_key (by_key m).keys (mark_key deleted d.state.key) ≡ true
  on_side d at true is =
      let key = mark_key true d.state.key in
      has_either (mark_keys false m.plain) (mark_keys true m.marked) key
      ∙ second_of (has_key (mark_keys false m.plain) key) (has_key (mark_keys true m.marked) key)
      (has_mark true m.marked d.state.key (are.marked d.state.key ∙ ap is_tombstone at ∙ is))
  on_side d at false is =
      let key = mark_key false d.state.key in
      has_either (mark_keys false m.plain) (mark_keys true m.marked) key
      ∙ first_of (has_key (mark_keys false m.plain) key) (has_key (mark_keys true m.marked) key)
      (has_mark false m.plain d.state.key
      (are.plain d.state.key ∙ ap (λ o. is_some (live o)) at
      ∙ ap (λ b. is_some (cond b None (Some d.state.fields))) is))

  back : (k : Position) (o : Option Stored) → named c.documents (id_of k) ≡ o
      → is_key_of [] o k ≡ true → has_key (by_key m).keys k ≡ true
  back k None at is = absurd (false≢true is)
  back k (Some d) at is =
      let same : key_of [] d ≡ k = (position_eq-Decides (key_of [] d) k).0 is in
      let id : id_of k ≡ d.state.key = ap id_of (sym same) in
      ap (has_key (by_key m).keys) (sym same)
      ∙ on_side d (ap (named c.documents) (sym id) ∙ at) d.state.deleted refl

  pub keys_held : Holds (by_key m) c.documents
  keys_held k always =
      both_ways (has_key (by_key m).keys k) (is_key_of [] (named c.documents (id_of k)) k)
      (there k) (back k (named c.documents (id_of k)) refl)
