-- What the table's action makes of rows from scratch.
use Rattle.std.proofs.Common.{◌≡◌, ◌≢◌, ℕ, Bool, true, false, cond, ◌||◌, List, [], Option, Some, None, option_map, refl, sym, ap, ◌∙◌, subst}
use Rattle.std.proofs.lemmas.Bool.{false≢true, or_parts}
use Rattle.std.proofs.lemmas.Option.{same_Some}
use Rattle.std.specs.Prelude.{IfSome}
use Rattle.rx_document.specs.Change.{change_of, DifferAt}
use Rattle.rx_document.specs.Documents.{Documents}
use Rattle.rx_document.specs.declared.change.Change.{Change}
use Rattle.rx_table.specs.Counts.{is_full, counted}
use Rattle.rx_table.specs.Rows.{table_of}
use Rattle.rx_table.specs.declared.action.Action.{Action}
use Rattle.rx_table.specs.declared.action.Action.TheVariants.{DoNothing, RunFullQueryAgain}
use Rattle.rx_table.specs.declared.counts.Counts.{Counts}
use Rattle.rx_query.proofs.Numbers.{table_of-number_of}
use Rattle.rx_query.specs.After.{after, AreThere}
use Rattle.rx_query.specs.QuerySpec.{QuerySpec}
use Rattle.rx_query.specs.Result.{fresh_rows, IsCollection}
use Rattle.rx_query.specs.States.{bits_of, state_of, OnlyMatchingInside}
use Rattle.rx_query.specs.declared.results.Row.{Row}
use Rattle.rx_actions.proofs.TheTable.{table_right, rows_match}
use Rattle.rx_actions.specs.Right as right
use Rattle.rx_observe.specs.Applied.{answer_for, changes_rows}
use Rattle.rx_observe.specs.Laws.{FreshRowsAreReady}
use Rattle.rx_observe.specs.Watched.{Watched, unknown, action_at, asked_at, counted_at, rows_after, applied, IsReady, StaysFresh}
use Rattle.rx_observe.specs.declared.observed.Applied.TheVariants.{Patched}

-- a cold query runs in full
pub cold_full : (q : QuerySpec) (c : Change) → action_at q c None ≡ RunFullQueryAgain
cold_full q c = table_of-number_of (state_of q (unknown c) [])

-- another action is none that runs in full
pub not_full : (a : Action) → is_full a ≡ false → a ≢ RunFullQueryAgain
not_full a is same = false≢true (sym is ∙ ap is_full same)

-- and this one is
pub full_run : (a : Action) → is_full a ≡ true → a ≡ RunFullQueryAgain
full_run RunFullQueryAgain is = refl
full_run _ is = absurd (false≢true is)

-- unless it runs in full, the action is right
abbrev pub ActsRightly : QuerySpec → Change → Documents → List Row → Type 0
ActsRightly q c new rows = table_of (bits_of q c rows) ≢ RunFullQueryAgain
    → right.IsRight (table_of (bits_of q c rows)) q c new rows

module _ (q : QuerySpec) (limited : q.limit ≢ Some 0) (c : Change) (old new : Documents)
    (col : IsCollection q.primary old) (col' : IsCollection q.primary new)
    (differ : DifferAt c.id old new) (change : c ≡ change_of c.id old new) where
  -- on rows from scratch
  pub acts_rightly : ActsRightly q c new (fresh_rows q old)
  acts_rightly =
      subst (λ x. ActsRightly q x new (fresh_rows q old)) (sym change)
      (table_right q c.id old new (fresh_rows q old) limited col col' differ refl)

  -- which are ready for the change
  pub ready : IsReady q c (fresh_rows q old)
  ready = record {
    there = λ known. (acts_rightly known).there;
    inside = subst (λ x. OnlyMatchingInside q x (fresh_rows q old)) (sym change)
        (rows_match q c.id old new (fresh_rows q old) limited col refl);
  }

  -- and gives rows from scratch
  pub gives_fresh : table_of (bits_of q c (fresh_rows q old)) ≢ RunFullQueryAgain
      → after (table_of (bits_of q c (fresh_rows q old))) q c (fresh_rows q old) ≡ fresh_rows q new
  gives_fresh known = (acts_rightly known).from_scratch

  -- which are kept, unless the query runs in full
  kept_fresh : (a : Action) → a ≡ table_of (bits_of q c (fresh_rows q old)) → (rows : List Row)
      → rows_after a q c (Some (fresh_rows q old)) ≡ Some rows → rows ≡ fresh_rows q new
  kept_fresh a is rows at =
      elim (is_full a) as (λ b. is_full a ≡ b
      → cond b None (Some (after a q c (fresh_rows q old))) ≡ Some rows → rows ≡ fresh_rows q new) [
        | true ↦ (λ full h. cc)
        | false ↦ (λ full h.
            let known = subst (λ x. x ≢ RunFullQueryAgain) is (not_full a full) in
            sym (same_Some (after a q c (fresh_rows q old)) rows h)
            ∙ ap (λ x. after x q c (fresh_rows q old)) is ∙ gives_fresh known)
      ] refl at

-- rows from scratch are ready
pub fresh_ready : FreshRowsAreReady
fresh_ready q c old new limited col col' differ change =
    ready q limited c old new col col' differ change

-- rows from scratch stay so
pub stays_fresh : (q : QuerySpec) → q.limit ≢ Some 0 → (c : Change) (rows : Option (List Row))
    → StaysFresh q c rows (rows_after (action_at q c rows) q c rows)
stays_fresh q limited c rows old new col col' differ change is after at =
    let Goal : Option (List Row) → Type 0 = λ x. rows_after (action_at q c x) q c x ≡ Some after
    → after ≡ fresh_rows q new in
    subst Goal (sym is)
    (kept_fresh q limited c old new col col' differ change
    (table_of (bits_of q c (fresh_rows q old))) refl after) at

-- ---- what `apply` leaves, where the query needn't run in full

-- such an action answers so
pub answer_patched : (a : Action) → a ≢ RunFullQueryAgain → Patched ≡ answer_for a
answer_patched RunFullQueryAgain known = absurd (known refl)
answer_patched _ known = refl

-- and leaves the rows that it gives
pub rows_patched : (a : Action) → a ≢ RunFullQueryAgain → (q : QuerySpec) (c : Change)
    (rows : Option (List Row)) → option_map (after a q c) rows ≡ rows_after a q c rows
rows_patched RunFullQueryAgain known q c rows = absurd (known refl)
rows_patched _ known q c rows = refl

module _ (w now : Watched) (c : Change) (a : Action) (asked : ℕ) (rows : Option (List Row))
    (counts : Counts) (same : w ≡ now) (is : a ≡ action_at now.query c now.rows)
    (asked_is : asked ≡ asked_at now.query c now.rows)
    (counts_is : counts ≡ counted a asked w.counts) where
  -- the action is the query's own
  own : a ≡ action_at w.query c w.rows
  own = is ∙ ap (λ (x : Watched). action_at x.query c x.rows) (sym same)

  -- and so are the counts
  own_counts : counts ≡ counted_at w.query c w.rows w.counts
  own_counts =
      let own_asked = asked_is ∙ ap (λ (x : Watched). asked_at x.query c x.rows) (sym same) in
      counts_is ∙ ap (λ x. counted x asked w.counts) own
      ∙ ap (λ n. counted (action_at w.query c w.rows) n w.counts) own_asked

  -- so the query is as after a change
  pub applied_is : rows ≡ rows_after a w.query c w.rows
      → (let x : Watched = record {
        query = w.query;
        rows = rows;
        emitted = w.emitted;
        counts = counts;
      }
      in x ≡ applied c now)
  applied_is rows_is =
      let patched = rows_is ∙ ap (λ x. rows_after x w.query c w.rows) own in
      (λ i. record {
        query = w.query;
        rows = patched i;
        emitted = w.emitted;
        counts = own_counts i;
      })
      ∙ ap (applied c) same

  -- where the action gave the rows
  pub patched_is : a ≢ RunFullQueryAgain → rows ≡ option_map (after a w.query c) w.rows
      → (let x : Watched = record {
        query = w.query;
        rows = rows;
        emitted = w.emitted;
        counts = counts;
      }
      in x ≡ applied c now)
  patched_is known rows_is = applied_is (rows_is ∙ rows_patched a known w.query c w.rows)

  -- fresh rows stay fresh
  pub patched_fresh : w.query.limit ≢ Some 0 → a ≢ RunFullQueryAgain
      → rows ≡ option_map (after a w.query c) w.rows → StaysFresh now.query c now.rows rows
  patched_fresh limited known rows_is =
      subst (StaysFresh now.query c now.rows)
      (sym (ap (λ (x : Watched). x.rows) (patched_is known rows_is)))
      (stays_fresh now.query (subst (λ (x : Watched). x.query.limit ≢ Some 0) same limited) c
      now.rows)

  -- where the query runs in full there are none
  pub full_is : a ≡ RunFullQueryAgain → rows ≡ None
      → (let x : Watched = record {
        query = w.query;
        rows = rows;
        emitted = w.emitted;
        counts = counts;
      }
      in x ≡ applied c now)
  full_is full none =
      applied_is (none ∙ ap (λ x. rows_after x w.query c w.rows) (sym full))

-- an action that changes no rows leaves them
still_rows : (a : Action) (q : QuerySpec) (c : Change) (rows : Option (List Row))
    → changes_rows a ≡ false → option_map (after a q c) rows ≡ rows
still_rows DoNothing q c None is = refl
still_rows DoNothing q c (Some rows) is = refl
still_rows _ q c rows is = absurd (false≢true (sym is))

-- rows that weren't touched are those emitted last
pub untouched : (t n : Bool) (a : Action) (q : QuerySpec) (c : Change)
    (old rows emitted : Option (List Row)) → n ≡ changes_rows a
    → rows ≡ option_map (after a q c) old
    → (t ≡ false → (r : List Row) → old ≡ Some r → emitted ≡ Some r) → (t || n) ≡ false
    → (r : List Row) → rows ≡ Some r → emitted ≡ Some r
untouched t n a q c old rows emitted is rows_is before none r at =
    let never = or_parts t n none in
    before never.0 r (sym (still_rows a q c old (sym is ∙ never.1)) ∙ sym rows_is ∙ at)

-- the rows that the action needs are there
pub there_for : (a : Action) (c : Change) (q : QuerySpec) (old rows : Option (List Row)) → rows
    ≡ old
    → a ≢ RunFullQueryAgain → a ≡ action_at q c old → IfSome old (IsReady q c)
    → IfSome rows (AreThere a c)
there_for a c q old None same known is given = tt
there_for a c q old (Some rows) same known is given =
    let Ready : Option (List Row) → Type 0 = λ o. IfSome o (IsReady q c) in
    let ready' : IsReady q c rows = subst Ready (sym same) given in
    let is' : a ≡ table_of (bits_of q c rows) = is ∙ ap (action_at q c) (sym same) in
    subst (λ x. AreThere x c rows) (sym is')
    (ready'.there (subst (λ x. x ≢ RunFullQueryAgain) is' known))

-- ---- a cold query

module _ (w : Watched) (c x : Change) (is : x ≡ unknown c) (none : w.rows ≡ None) where
  -- it is told no more
  pub cold_action : action_at w.query x w.rows ≡ action_at w.query c w.rows
  cold_action =
      ap (action_at w.query x) none ∙ ap (λ y. action_at w.query y None) is
      ∙ ap (action_at w.query c) (sym none)

  -- and is after that as after the change
  pub cold_applied : applied x w ≡ applied c w
  cold_applied =
      let Goal : Option (List Row) → Type 0 = λ rows.
      (let v : Watched = record {
        query = w.query;
        rows = rows;
        emitted = w.emitted;
        counts = w.counts;
      }
      in applied x v ≡ applied c v) in
      subst Goal (sym none)
      (ap (λ y. applied y (record {
        query = w.query;
        rows = None;
        emitted = w.emitted;
        counts = w.counts;
      })) is)
