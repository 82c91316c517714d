-- The documents of a collection, by rising place, may be put into it as it is without them, in any
-- parts, and make it.
use Rattle.std.proofs.Common.{◌≡◌, ◌≢◌, ℕ, true, false, cond, not, List, [], ◌∷◌, ◌++◌, map, length, filter, Option, Some, None, is_none, nat_lt, Less, Greater, refl, sym, ap, ◌∙◌, inl, inr, subst, arith}
use Rattle.std.proofs.lemmas.Bool.{and_parts, le-leb, lt-ltb}
use Rattle.std.proofs.lemmas.Cmp.{tied_itself}
use Rattle.std.specs.Cmp.Derive.{both_true}
use Rattle.std.specs.List.{AllByRecursion, list_any, flat_map}
use Rattle.std.specs.Ordering.{ordering_reverse}
use Rattle.std.specs.Str.{bytes_eq}
use Rattle.rx_value.specs.Named.{named, put_in_order}
use Rattle.rx_value.proofs.Bytes.{bytes_same}
use Rattle.rx_value.proofs.Lists.{all_weaker}
use Rattle.rx_value.proofs.Named.{named-put_in_order}
use Rattle.rx_value.proofs.Outcomes.{some_same}
use Rattle.rx_schema.specs.Validity.{first_fault}
use Rattle.rx_document.specs.Documents.{Documents}
use Rattle.rx_document.specs.Place.{place_cmp, place_total}
use Rattle.rx_document.specs.declared.stored.Stored.{Stored}
use Rattle.rx_collection.specs.Commit.{with_row, with_rows}
use Rattle.rx_collection.specs.Held.{Held, held_with}
use Rattle.rx_collection.specs.Lawful.{IsHeldAt, IsLawful}
use Rattle.rx_collection.specs.Since.{place_of, is_above, since}
use Rattle.rx_collection.specs.Time.{most_lwt}
use Rattle.rx_collection.proofs.Changes.{with_row-named}
use Rattle.rx_collection.proofs.Named.{at_name, all_put}
use Rattle.rx_record.specs.declared.record.PartRow.{PartRow}
use Rattle.rx_replication.specs.Member.{Member}
use Rattle.rx_replication.specs.Write.{AreByKey}
use Rattle.rx_replication.proofs.Commits.{lawful-by_key, key_at}
use Rattle.rx_replication.proofs.Learning.{rising_same}
use Rattle.rx_replication.proofs.Pages.{placed, Rise, from_placed, to_placed, rise-placed, stands_above, above-placed}
use Rattle.rx_replication.proofs.Walk.{since-all}
use Rattle.rx_world.specs.Copy.{part_stored, part_rows, with_part, none_above, is_copied_row, are_copied_rows}
use Rattle.rx_world.specs.Valid.{AreValid}
use Rattle.rx_world.proofs.Copied.{part_lawful}
use Rattle.rx_world.proofs.Links.{with_rows-schema}
use Rattle.rx_world.proofs.States.{valid_state}
use Rattle.rx_world.proofs.Turns.{lawful_new, with_rows-name}
use Rattle.rx_compact.specs.Laws.{IsTokened}
use Rattle.rx_compact.specs.Making.{emptied, with_parts, TakeParts}
use Rattle.rx_compact.specs.Plan.{part_row, rows_in}

-- ---- parts, and all their rows

-- rows in two parts
rows_joined : (xs ys : List PartRow) (c : Held)
    → with_part (xs ++ ys) c ≡ with_part ys (with_part xs c)
rows_joined [] ys c = refl
rows_joined (x ∷ xs) ys c = rows_joined xs ys (with_row c (part_stored c.name x))

rows_split : (xs ys : List PartRow) (c : Held) → are_copied_rows (xs ++ ys) c ≡ true
    → (are_copied_rows xs c ≡ true) × (are_copied_rows ys (with_part xs c) ≡ true)
rows_split [] ys c is = (refl, is)
rows_split (x ∷ xs) ys c is =
    let next = with_row c (part_stored c.name x) in
    let both = and_parts (is_copied_row c x) (are_copied_rows (xs ++ ys) next) is in
    let rest = rows_split xs ys next both.1 in
    (both_true both.0 rest.0, rest.1)

has_length : (xs : List PartRow) → xs ≢ [] → nat_lt 0 (length xs) ≡ true
has_length [] some = absurd (some refl)
has_length (x ∷ xs) some = lt-ltb 0 (length (x ∷ xs)) (omega arith)

-- parts are taken where their rows may be copied in turn, and leave what the rows do
parts_by_rows : (ps : List (List PartRow)) (c : Held) → AllByRecursion (λ p. p ≢ []) ps
    → are_copied_rows (flat_map (λ p. p) ps) c ≡ true
    → TakeParts ps c × (with_parts ps c ≡ with_part (flat_map (λ p. p) ps) c)
parts_by_rows [] c some is = (tt, refl)
parts_by_rows (p ∷ ps) c some is =
    let more = flat_map (λ p. p) ps in
    let both = rows_split p more c is in
    let rest = parts_by_rows ps (with_part p c) some.1 both.1 in (
      (both_true (has_length p some.0) both.0, rest.0),
      rest.1 ∙ sym (rows_joined p more c),
    )

-- ---- the documents of a collection

-- none is left out where there is no place to be above
all_above : (ds : List Stored) → filter (stands_above None) ds ≡ ds
all_above [] = refl
all_above (d ∷ ds) = ap (λ es. d ∷ es) (all_above ds)

module _ (c : Held) (lawful : IsLawful c) (valid : AreValid c) (tokened : IsTokened c) where
  abbrev by_key : AreByKey c.documents
  by_key = lawful-by_key c lawful

  -- a page as long as they are is all of them, by place
  since_is : since c.documents None (length c.documents) ≡ placed c.documents
  since_is =
      since-all c.documents None (length c.documents) by_key (omega arith)
      ∙ above-placed c.documents by_key None ∙ all_above (placed c.documents)

  -- these are held
  abbrev AreHeld : List Stored → Type 0
  AreHeld ds = (d : Stored) → Member d ds → named c.documents d.state.key ≡ Some d

  -- a document's row is stored as the document
  stored_again : (d : Stored) → named c.documents d.state.key ≡ Some d
      → part_stored c.name (part_row d) ≡ d
  stored_again d at =
      let token = at_name (λ k x. x.rev.token ≡ c.name) c.documents d.state.key d tokened at in
      λ i. record {
        state = d.state;
        rev = record { height = d.rev.height; token = sym token i };
        lwt = d.lwt;
      }

  all_again : (ds : List Stored) → AreHeld ds → part_rows c.name (map part_row ds) ≡ ds
  all_again [] held = refl
  all_again (d ∷ ds) held =
      let here = stored_again d (held d (inl refl)) in
      let rest = all_again ds (λ e m. held e (inr m)) in
      λ i. here i ∷ rest i

  -- ---- each row in turn

  -- a document that is put before those: it is held, and stands below them
  record IsBefore (ds : List Stored) (k : List ℕ) (d : Stored) : Type 0 where
    pub held : named c.documents k ≡ Some d
    pub below : (e : Stored) → Member e ds → place_cmp (place_of d) (place_of e) ≡ Less

  -- the key of the next one isn't there
  is_free : (d : Stored) (ds : List Stored) (docs : Documents)
      → named c.documents d.state.key ≡ Some d
      → AllByRecursion (λ e. IsBefore (d ∷ ds) e.0 e.1) docs
      → (o : Option Stored) → named docs d.state.key ≡ o → o ≡ None
  is_free d ds docs held before None at = refl
  is_free d ds docs held before (Some x) at =
      let b = at_name (IsBefore (d ∷ ds)) docs d.state.key x before at in
      let same : x ≡ d = some_same (sym b.held ∙ held) in
      let less : place_cmp (place_of d) (place_of d) ≡ Less =
      ap (λ z. place_cmp (place_of z) (place_of d)) (sym same) ∙ b.below d (inl refl) in
      let tie = tied_itself place_total (place_of d) in
      absurd (cc)

  -- none stands above its place
  is_top : (d : Stored) (ds : List Stored) (docs : Documents)
      → AllByRecursion (λ e. IsBefore (d ∷ ds) e.0 e.1) docs
      → list_any (λ e. is_above (Some (place_of d)) (place_of e.1)) docs ≡ false
  is_top d ds [] before = refl
  is_top d ds (e ∷ docs) before =
      let turned : place_cmp (place_of d) (place_of e.1) ≡ Greater =
      place_total.antisymm (place_of d) (place_of e.1)
      ∙ ap ordering_reverse (before.0.below d (inl refl)) in
      rw turned (is_top d ds docs before.1)

  -- what a row is asked
  may_come : (d : Stored) (ds : List Stored) (docs : Documents)
      → named c.documents d.state.key ≡ Some d
      → AllByRecursion (λ e. IsBefore (d ∷ ds) e.0 e.1) docs
      → is_copied_row (held_with c.name c.schema docs) (part_row d) ≡ true
  may_come d ds docs held before =
      let h = at_name (IsHeldAt c.schema.primary) c.documents d.state.key d lawful.each held in
      let fits = at_name (λ k x. first_fault c.schema x.state.fields ≡ None) c.documents
      d.state.key d valid held in
      let free : is_none (named docs d.state.key) ≡ true =
      ap is_none (is_free d ds docs held before (named docs d.state.key) refl) in
      let top : none_above docs (place_of d) ≡ true = ap not (is_top d ds docs before) in
      both_true (both_true (both_true (both_true (both_true free top)
      (le-leb 1 d.rev.height h.counted)) (le-leb d.rev.height d.lwt h.lower))
      (le-leb d.lwt most_lwt h.in_range)) (valid_state c.schema d.state fits h.carried)

  rows_come : (ds : List Stored) (docs : Documents) → AreHeld ds → Rise ds
      → AllByRecursion (λ e. IsBefore ds e.0 e.1) docs
      → are_copied_rows (map part_row ds) (held_with c.name c.schema docs) ≡ true
  rows_come [] docs held rise before = refl
  rows_come (d ∷ ds) docs held rise before =
      let here = held d (inl refl) in
      let earlier = all_weaker (λ (e : List ℕ × Stored). IsBefore (d ∷ ds) e.0 e.1)
      (λ (e : List ℕ × Stored). IsBefore ds e.0 e.1)
      (λ e b. record { held = b.held; below = λ z m. b.below z (inr m) }) docs before in
      let own : IsBefore ds d.state.key d = record { held = here; below = rise.0 } in
      let rest = rows_come ds (put_in_order docs d.state.key d) (λ e m. held e (inr m)) rise.1
      (all_put (IsBefore ds) docs d.state.key d own earlier) in
      both_true (may_come d ds docs here before)
      (ap (λ x. are_copied_rows (map part_row ds) (with_row (held_with c.name c.schema docs) x))
      (stored_again d here) ∙ rest)

  -- ---- what they leave

  -- what a key finds as in the whole, it does after documents of the whole
  stays : (ds : List Stored) (now : Held) (k : List ℕ) → AreHeld ds
      → named now.documents k ≡ named c.documents k
      → named (with_rows now ds).documents k ≡ named c.documents k
  stays [] now k held at = at
  stays (d ∷ ds) now k held at =
      stays ds (with_row now d) k (λ e m. held e (inr m))
      (named-put_in_order now.documents d.state.key k d
      ∙ elim (bytes_eq k d.state.key) as (λ b. bytes_eq k d.state.key ≡ b
      → cond b (Some d) (named now.documents k) ≡ named c.documents k) [
        | true ↦ (λ is.
            sym (ap (named c.documents) (bytes_same k d.state.key is) ∙ held d (inl refl)))
        | false ↦ (λ is. at)
      ] refl)

  -- and so it does after the one of that key
  comes : (ds : List Stored) (now : Held) (x : Stored) → AreHeld ds → Member x ds
      → named (with_rows now ds).documents x.state.key ≡ named c.documents x.state.key
  comes [] now x held m = absurd m
  comes (d ∷ ds) now x held (inl is) =
      stays ds (with_row now d) x.state.key (λ e m. held e (inr m))
      (ap (λ (y : Stored). named (with_row now d).documents y.state.key) is
      ∙ with_row-named now d ∙ sym (held d (inl refl))
      ∙ ap (λ (y : Stored). named c.documents y.state.key) (sym is))
  comes (d ∷ ds) now x held (inr m) = comes ds (with_row now d) x (λ e n. held e (inr n)) m

  -- all of them leave what each key finds in the whole
  abbrev all_held : AreHeld (placed c.documents)
  all_held d m = from_placed c.documents d by_key m

  found : (k : List ℕ) (o : Option Stored) → named c.documents k ≡ o
      → named (with_rows (emptied c) (placed c.documents)).documents k ≡ named c.documents k
  found k None at = stays (placed c.documents) (emptied c) k all_held (sym at)
  found k (Some d) at =
      subst (λ l. named (with_rows (emptied c) (placed c.documents)).documents l
      ≡ named c.documents l) (key_at c.documents k d by_key at)
      (comes (placed c.documents) (emptied c) d all_held (to_placed c.documents k d by_key at))

  -- ---- the collection

  rows_are : rows_in c ≡ map part_row (placed c.documents)
  rows_are = ap (map part_row) since_is

  all_come : are_copied_rows (rows_in c) (emptied c) ≡ true
  all_come =
      ap (λ rows. are_copied_rows rows (emptied c)) rows_are
      ∙ rows_come (placed c.documents) [] all_held (rise-placed c.documents by_key) tt

  made_by : with_part (rows_in c) (emptied c) ≡ with_rows (emptied c) (placed c.documents)
  made_by =
      ap (with_rows (emptied c)) (ap (part_rows c.name) rows_are
      ∙ all_again (placed c.documents) all_held)

  all_make : with_part (rows_in c) (emptied c) ≡ c
  all_make =
      let made = with_rows (emptied c) (placed c.documents) in
      let put : IsLawful made =
      subst IsLawful made_by
      (part_lawful (rows_in c) (emptied c) (lawful_new c.name c.schema) all_come) in
      let documents : made.documents ≡ c.documents =
      rising_same made.documents c.documents put.rising lawful.rising
      (λ k. found k (named c.documents k) refl) in
      let name = with_rows-name (emptied c) (placed c.documents) in
      let schema = with_rows-schema (emptied c) (placed c.documents) in
      made_by ∙ λ i. record { name = name i; schema = schema i; documents = documents i }

-- in any parts the rows may come, and make the collection
pub rows_make : (c : Held) → IsLawful c → AreValid c → IsTokened c → (ps : List (List PartRow))
    → flat_map (λ p. p) ps ≡ rows_in c → AllByRecursion (λ p. p ≢ []) ps
    → TakeParts ps (emptied c) × (with_parts ps (emptied c) ≡ c)
rows_make c lawful valid tokened ps rows some =
    let both = parts_by_rows ps (emptied c) some
    (ap (λ rs. are_copied_rows rs (emptied c)) rows ∙ all_come c lawful valid tokened) in (
      both.0,
      both.1 ∙ ap (λ rs. with_part rs (emptied c)) rows ∙ all_make c lawful valid tokened,
    )
