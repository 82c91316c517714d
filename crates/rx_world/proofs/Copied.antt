-- Rows of a part may be written, one after another, and stay valid; so do known states.
use Rattle.std.proofs.Common.{◌≡◌, ℕ, ◌≤◌, ◌&&◌, ◌||◌, ◌==◌, Bool, true, false, true≢false, cond, not, List, [], ◌∷◌, length, take, filter, Option, Some, None, is_none, is_some, nat_lt, nat_le, Less, Equal, Greater, refl, sym, ap, ◌∙◌, subst, arith, leb-true}
use Rattle.std.proofs.lemmas.Bool.{and_parts, or_parts, not-true}
use Rattle.std.specs.FinMap.Entries.{put, by_order}
use Rattle.std.specs.List.{AllByRecursion, list_any}
use Rattle.std.specs.Borrow.{Bor}
use Rattle.std.specs.Map.{values_of}
use Rattle.std.specs.Map.Iter.{TakesFirst, deref}
use Rattle.std.specs.Ordering.{is_lt}
use Rattle.std.specs.Str.{bytes_eq}
use Rattle.rx_value.specs.Named.{named, put_in_order}
use Rattle.rx_value.specs.declared.state.State.{State}
use Rattle.rx_value.proofs.Orderings.{rises}
use Rattle.rx_value.proofs.Outcomes.{none_is, not_none}
use Rattle.rx_schema.specs.Validity.{first_fault}
use Rattle.rx_document.specs.Documents.{Documents}
use Rattle.rx_document.specs.Place.{place_cmp, place_total}
use Rattle.rx_document.specs.declared.place.Place.{Place}
use Rattle.rx_document.specs.declared.stored.Stored.{Stored}
use Rattle.rx_document.proofs.Places.{place_ties}
use Rattle.rx_collection.specs.Commit.{AllBelow, AreNext, IsNext, IsNextHeight, with_row}
use Rattle.rx_collection.specs.Held.{Held}
use Rattle.rx_collection.specs.Lawful.{IsHeldAt, IsLawful}
use Rattle.rx_collection.specs.Since.{place_of, by_place, is_above, since}
use Rattle.rx_collection.specs.Time.{most_lwt}
use Rattle.rx_collection.specs.declared.holder.Plain.{Plain}
use Rattle.rx_collection.proofs.Lawful.{lawful_put}
use Rattle.rx_collection.proofs.Named.{all_put}
use Rattle.rx_collection.proofs.Placed.{place_tie}
use Rattle.rx_meta.specs.Side.{is_above_known}
use Rattle.rx_record.specs.PartRows.{row_place}
use Rattle.rx_record.specs.declared.record.PartRow.{PartRow}
use Rattle.rx_replication.specs.Known.{KnownStates, with_learnt}
use Rattle.rx_world.specs.Copy.{part_stored, part_rows, with_part, none_above, is_copied_row, are_copied_rows, takes_part, is_copied_state, are_copied_states}
use Rattle.rx_world.specs.Holders.{IsWhole}
use Rattle.rx_world.specs.Step.{IsValidState, is_valid_state}
use Rattle.rx_world.specs.Valid.{AreValid}
use Rattle.rx_world.proofs.States.{state_carries, state_valid}
use Rattle.rx_world.proofs.Turns.{lawful_rows, with_rows-name}

-- ---- no document above a place

module _ (f : Place → Bool) where
  -- where the first that passes isn't there, none passes
  first_none : (es : List (Place × Stored)) → take 1 (values_of (filter (λ e. f e.0) es)) ≡ []
      → list_any (λ e. f e.0) es ≡ false
  first_none [] is = refl
  first_none (e ∷ es) is =
      elim (f e.0) as (λ b.
      take 1 (values_of (cond b (e ∷ filter (λ e. f e.0) es) (filter (λ e. f e.0) es))) ≡ []
      → (b || list_any (λ e. f e.0) es) ≡ false)
      [ true ↦ (λ some. absurd (cc)) | false ↦ (λ later. first_none es later) ] is

  first_some : (es : List (Place × Stored)) (d : Stored) (ds : List Stored)
      → take 1 (values_of (filter (λ e. f e.0) es)) ≡ d ∷ ds → list_any (λ e. f e.0) es ≡ true
  first_some [] d ds is = absurd (cc)
  first_some (e ∷ es) d ds is =
      elim (f e.0) as (λ b.
      take 1 (values_of (cond b (e ∷ filter (λ e. f e.0) es) (filter (λ e. f e.0) es))) ≡ d ∷ ds
      → (b || list_any (λ e. f e.0) es) ≡ true)
      [ true ↦ (λ some. refl) | false ↦ (λ later. first_some es d ds later) ] is

  twice : (b c : Bool) → (b || c) ≡ (b || (b || c))
  twice true c = refl
  twice false c = refl

  turned : (a b c : Bool) → (a || (b || c)) ≡ (b || (a || c))
  turned true true c = refl
  turned true false c = refl
  turned false true c = refl
  turned false false c = refl

  -- a place passes among the others
  any_put : (p : Place) (d : Stored) (es : List (Place × Stored))
      → list_any (λ e. f e.0) (put place_cmp p d es) ≡ (f p || list_any (λ e. f e.0) es)
  any_put p d [] = refl
  any_put p d (e ∷ es) =
      elim (place_cmp p e.0) as (λ r. place_cmp p e.0 ≡ r → list_any (λ e. f e.0)
      (by_order r ((p, d) ∷ e ∷ es) ((e.0, d) ∷ es) (e ∷ put place_cmp p d es))
      ≡ (f p || (f e.0 || list_any (λ e. f e.0) es))) [
        | Less ↦ (λ is. refl)
        | Equal ↦ (λ is.
            twice (f e.0) (list_any (λ e. f e.0) es)
            ∙ ap (λ b. b || (f e.0 || list_any (λ e. f e.0) es))
            (ap f (sym ((place_ties p e.0).0 is))))
        | Greater ↦ (λ is.
            ap (λ b. f e.0 || b) (any_put p d es) ∙ turned (f e.0) (f p) (list_any (λ e. f e.0) es))
      ] refl

  -- the places of documents
  any_by_place : (es : Documents)
      → list_any (λ e. f e.0) (by_place es) ≡ list_any (λ e. f (place_of e.1)) es
  any_by_place [] = refl
  any_by_place (e ∷ es) =
      any_put (place_of e.1) e.1 (by_place es) ∙ ap (λ b. f (place_of e.1) || b) (any_by_place es)

-- a page above a place tells whether a document is there
pub page_none : (es : Documents) (p : Place) → since es (Some p) 1 ≡ [] → none_above es p ≡ true
page_none es p is =
    ap not (sym (any_by_place (is_above (Some p)) es)
    ∙ first_none (is_above (Some p)) (by_place es) is)

pub page_some : (es : Documents) (p : Place) (d : Stored) (ds : List Stored)
    → since es (Some p) 1 ≡ d ∷ ds → none_above es p ≡ false
page_some es p d ds is =
    ap not (sym (any_by_place (is_above (Some p)) es)
    ∙ first_some (is_above (Some p)) (by_place es) d ds is)

pub none_where : {X : Type 0} (b : Bool) (o : Option X) → not b ≡ is_some o → b ≡ is_none o
none_where true None is = refl
none_where true (Some x) is = absurd (true≢false (sym is))
none_where false None is = absurd (true≢false is)
none_where false (Some x) is = refl

pub page_tells : (es : Documents) (p : Place) (s t : List Stored) (r : Option (Bor Stored))
    → s ≡ since es (Some p) 1 → TakesFirst deref s r t → is_none r ≡ none_above es p
page_tells es p s t None at takes = sym (page_none es p (sym at ∙ takes.0))
page_tells es p s t (Some x) at takes = sym (page_some es p x.now t (sym at ∙ takes))

-- the place of a key that isn't held is then above all
one_below : (primary key : List ℕ) (d : Stored) (p : Place) → IsHeldAt primary key d
    → bytes_eq p.id key ≡ false → is_above (Some p) (place_of d) ≡ false
    → place_cmp (place_of d) p ≡ Less
one_below primary key d p held other above =
    let apart : bytes_eq p.id d.state.key ≡ false = ap (bytes_eq p.id) held.keyed ∙ other in
    rises (place_cmp (place_of d) p) (sym (ap is_lt (place_total.antisymm p (place_of d))) ∙ above)
    (place_tie (place_of d) p ∙ ap (λ b. (d.lwt == p.lwt) && b) apart
    ∙ (elim (d.lwt == p.lwt) as (λ b. (b && false) ≡ false) [ true ↦ refl | false ↦ refl ]))

all_under : (primary : List ℕ) (es : Documents) (p : Place)
    → AllByRecursion (λ e. IsHeldAt primary e.0 e.1) es → named es p.id ≡ None
    → list_any (λ e. is_above (Some p) (place_of e.1)) es ≡ false → AllBelow es p
all_under primary [] p held free none = tt
all_under primary (e ∷ es) p held free none =
    let both = or_parts (is_above (Some p) (place_of e.1))
    (list_any (λ e. is_above (Some p) (place_of e.1)) es) none in
    elim (bytes_eq p.id e.0)
    as (λ b. bytes_eq p.id e.0 ≡ b → cond b (Some e.1) (named es p.id) ≡ None
    → AllBelow (e ∷ es) p) [
      | true ↦ (λ is no_thing. not_none (sym no_thing))
      | false ↦ (λ is later. (
        one_below primary e.0 e.1 p held.0 is both.0,
        all_under primary es p held.1 later both.1,
      ))
    ] refl free

-- ---- rows

-- what a row of a part is asked
pub record IsCopied (c : Held) (row : PartRow) : Type 0 where
  pub free : named c.documents row.state.key ≡ None
  pub top : none_above c.documents (row_place row) ≡ true
  pub counted : 1 ≤ row.height
  pub lower : row.height ≤ row.lwt
  pub in_range : row.lwt ≤ most_lwt
  pub valid : IsValidState c.schema row.state

pub copied_parts : (c : Held) (row : PartRow) → is_copied_row c row ≡ true → IsCopied c row
copied_parts c row is =
    let a = is_none (named c.documents row.state.key) in
    let b = none_above c.documents (row_place row) in
    let d = nat_le 1 row.height in
    let e = nat_le row.height row.lwt in
    let g = nat_le row.lwt most_lwt in
    let h = is_valid_state c.schema row.state in
    let five = and_parts (a && b && d && e && g) h is in
    let four = and_parts (a && b && d && e) g five.0 in
    let three = and_parts (a && b && d) e four.0 in
    let two = and_parts (a && b) d three.0 in
    let one = and_parts a b two.0 in
    record {
      free = none_is (named c.documents row.state.key) one.0;
      top = one.1;
      counted = leb-true 1 row.height two.1;
      lower = leb-true row.height row.lwt three.1;
      in_range = leb-true row.lwt most_lwt four.1;
      valid = five.1;
    }

-- it may be written next
pub copied_next : (c : Held) (row : PartRow) → IsLawful c → is_copied_row c row ≡ true
    → IsNext c (part_stored c.name row)
copied_next c row lawful is =
    let p = copied_parts c row is in
    let counted = p.counted in
    let lower = p.lower in
    record {
      above = all_under c.schema.primary c.documents (row_place row) lawful.each p.free
          (not-true
          (list_any (λ e. is_above (Some (row_place row)) (place_of e.1)) c.documents) p.top);
      written = omega arith;
      in_range = p.in_range;
      height = subst (λ (o : Option Stored). IsNextHeight o row.lwt row.height) (sym p.free)
          (counted, lower);
      carried = state_carries c.schema row.state p.valid;
    }

-- all of them may, in turn
pub rows_next : (written : List PartRow) (c : Held) → IsLawful c
    → are_copied_rows written c ≡ true → AreNext c (part_rows c.name written)
rows_next [] c lawful is = tt
rows_next (row ∷ rows) c lawful is =
    let new = part_stored c.name row in
    let both = and_parts (is_copied_row c row) (are_copied_rows rows (with_row c new)) is in
    let next = copied_next c row lawful both.0 in
    (next, rows_next rows (with_row c new) (lawful_put c new lawful next) both.1)

pub part_lawful : (written : List PartRow) (c : Held) → IsLawful c
    → are_copied_rows written c ≡ true → IsLawful (with_part written c)
part_lawful written c lawful is =
    lawful_rows c (part_rows c.name written) lawful (rows_next written c lawful is)

-- a holder stays whole
pub whole_part : (name : List ℕ) (old new : Plain) (written : List PartRow)
    → IsWhole (λ (p : Plain). p.collection) (λ (p : Plain). p.broken) name old
    → takes_part written old.collection ≡ true → new.collection ≡ with_part written old.collection
    → new.broken ≡ old.broken
    → IsWhole (λ (p : Plain). p.collection) (λ (p : Plain). p.broken) name new
whole_part name old new written whole is rows same =
    let taken =
    (and_parts (nat_lt 0 (length written)) (are_copied_rows written old.collection) is).1 in
    record {
      unbroken = same ∙ whole.unbroken;
      called = ap (λ (c : Held). c.name) rows
          ∙ with_rows-name old.collection (part_rows old.collection.name written) ∙ whole.called;
      lawful = subst IsLawful (sym rows) (part_lawful written old.collection whole.lawful taken);
    }

-- and leave valid documents
pub part_valid : (written : List PartRow) (c : Held) → AreValid c
    → are_copied_rows written c ≡ true → AreValid (with_part written c)
part_valid [] c valid is = valid
part_valid (row ∷ rows) c valid is =
    let new = part_stored c.name row in
    let both = and_parts (is_copied_row c row) (are_copied_rows rows (with_row c new)) is in
    part_valid rows (with_row c new)
    (all_put (λ k d. first_fault c.schema d.state.fields ≡ None) c.documents row.state.key new
    (state_valid c.schema row.state (copied_parts c row both.0).valid) valid) both.1

-- ---- known states

pub states_valid : (fork : Held) (ss : List State) (known : KnownStates)
    → are_copied_states ss known fork ≡ true
    → AllByRecursion (λ e. IsValidState fork.schema e.1) known
    → AllByRecursion (λ e. IsValidState fork.schema e.1) (with_learnt known ss)
states_valid fork [] known is all = all
states_valid fork (s ∷ ss) known is all =
    let both = and_parts (is_copied_state fork known s)
    (are_copied_states ss (put_in_order known s.key s) fork) is in
    let here : IsValidState fork.schema s =
    (and_parts (is_valid_state fork.schema s) (is_some (named fork.documents s.key))
    (and_parts (is_valid_state fork.schema s && is_some (named fork.documents s.key))
    (is_above_known known s.key) both.0).0).0 in
    states_valid fork ss (put_in_order known s.key s) both.1
    (all_put (λ k t. IsValidState fork.schema t) known s.key s here all)
