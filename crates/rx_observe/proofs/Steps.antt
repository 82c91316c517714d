-- One observed query after a change, and all of them.
use Rattle.std.proofs.Common.{◌≡◌, ◌≢◌, false, option_map, Option, Some, None, List, [], ◌∷◌, refl, sym, ap, ◌∙◌, subst}
use Rattle.std.proofs.lemmas.Option.{same_Some}
use Rattle.std.specs.Prelude.{IfSome, is_some}
use Rattle.rx_value.specs.Named.{named}
use Rattle.rx_document.specs.Change.{before_of}
use Rattle.rx_document.specs.Documents.{live}
use Rattle.rx_document.specs.declared.change.Change.{Change}
use Rattle.rx_document.specs.declared.stored.Stored.{Stored}
use Rattle.rx_table.specs.Rows.{table_of}
use Rattle.rx_table.specs.declared.action.Action.{Action}
use Rattle.rx_table.specs.declared.action.Action.TheVariants.{RunFullQueryAgain}
use Rattle.rx_query.specs.QuerySpec.{QuerySpec}
use Rattle.rx_query.specs.Result.{fresh_rows, IsCollection}
use Rattle.rx_query.specs.States.{bits_of}
use Rattle.rx_query.specs.declared.results.Row.{Row}
use Rattle.rx_collection.specs.Commit.{IsNext, with_row}
use Rattle.rx_collection.specs.Held.{Held}
use Rattle.rx_collection.specs.Lawful.{IsLawful}
use Rattle.rx_collection.proofs.Changes.{with_row-differs, with_row-named}
use Rattle.rx_collection.proofs.Lawful.{lawful_put}
use Rattle.rx_observe.specs.Applied.{answer_for}
use Rattle.rx_observe.specs.declared.observed.Applied.TheVariants.{Patched, NeedsFull}
use Rattle.rx_observe.specs.Following.{Becomes, Follows, AllFollow}
use Rattle.rx_observe.specs.Front.{IsFront, AreFronts, StaysFront}
use Rattle.rx_observe.specs.Observing.{Queries, AllRight, each, change_by}
use Rattle.rx_observe.specs.Watched.{Watched, action_at, counted_at, rows_after, applied, IsReady, stepped, kept}
use Rattle.rx_observe.specs.declared.front.Front.{Front}
use Rattle.rx_observe.proofs.Applying.{cold_full, ready, gives_fresh, rows_patched}
use Rattle.rx_observe.proofs.Fresh.{is_collection_for}

-- an answer tells the action
known_patched : (a : Action) → answer_for a ≡ Patched → a ≢ RunFullQueryAgain
known_patched a answer run = let bad : NeedsFull ≡ Patched = ap answer_for (sym run) ∙ answer in cc

full_rows : (a : Action) → answer_for a ≡ NeedsFull → (q : QuerySpec) (c : Change)
    (rows : Option (List Row)) → rows_after a q c rows ≡ None
full_rows RunFullQueryAgain answer q c rows = refl
full_rows _ answer q c rows = cc

-- a cold query isn't patched
cold_needs_full : (q : QuerySpec) (c : Change) → answer_for (action_at q c None) ≡ NeedsFull
cold_needs_full q c = ap answer_for (cold_full q c)

-- a query that keeps no rows is cold
pub no_rows : {Y : Type 0} (shown : Y → List Row) (rows : Option (List Row)) (lent : Option Y)
    → option_map shown lent ≡ rows → is_some lent ≡ false → rows ≡ None
no_rows shown rows None same none = sym same
no_rows shown rows (Some y) same none = cc

-- ---- a query that was right

module _ (q : QuerySpec) (limited : q.limit ≢ Some 0) (c : Change) (old new : Held)
    (becomes : Becomes c old new) (keyed : q.primary ≡ old.schema.primary) where
  col : IsCollection q.primary old.documents
  col = is_collection_for q.primary old keyed becomes.lawful_old

  pub keyed_new : q.primary ≡ new.schema.primary
  keyed_new = keyed ∙ ap (λ s. s.primary) (sym becomes.schema)

  col' : IsCollection q.primary new.documents
  col' = is_collection_for q.primary new keyed_new becomes.lawful_new

  pub ready_at : (rows emitted : Option (List Row))
      → kept rows emitted ≡ Some (fresh_rows q old.documents) → IfSome rows (IsReady q c)
  ready_at None emitted right = tt
  ready_at (Some rows) emitted right =
      subst (IsReady q c) (sym (same_Some rows (fresh_rows q old.documents) right))
      (ready q limited c old.documents new.documents col col' becomes.differ becomes.change)

  rows_at : (rows emitted : Option (List Row))
      → kept rows emitted ≡ Some (fresh_rows q old.documents)
      → answer_for (action_at q c rows) ≡ Patched
      → rows_after (action_at q c rows) q c rows ≡ Some (fresh_rows q new.documents)
  rows_at None emitted right answer =
      let bad : NeedsFull ≡ Patched = sym (cold_needs_full q c) ∙ answer in cc
  rows_at (Some rows) emitted right answer =
      let is = same_Some rows (fresh_rows q old.documents) right in
      let Goal : List Row → Type 0 = λ r. answer_for (table_of (bits_of q c r)) ≡ Patched
      → rows_after (table_of (bits_of q c r)) q c (Some r) ≡ Some (fresh_rows q new.documents) in
      subst Goal (sym is) (λ answer.
      let known = known_patched (table_of (bits_of q c (fresh_rows q old.documents))) answer in
      sym (rows_patched (table_of (bits_of q c (fresh_rows q old.documents))) known q c
      (Some (fresh_rows q old.documents)))
      ∙ ap (λ r. Some r) (gives_fresh q limited c old.documents new.documents col col'
      becomes.differ
      becomes.change known)) answer

module _ (c : Change) (w : Watched) (x : Front) (new : Held) (f : Follows c w x new) where
  -- the action's rows are there
  pub ready_for : IfSome w.rows (IsReady w.query c)
  ready_for =
      ready_at w.query f.right.limited c f.old new f.becomes f.right.keyed w.rows w.emitted
      f.right.from_scratch

  -- it goes by the primary key
  pub keyed_after : w.query.primary ≡ new.schema.primary
  keyed_after = f.right.keyed ∙ ap (λ s. s.primary) (sym f.becomes.schema)

  -- its front stays one
  pub front_for : (y : Front) → StaysFront w.query c x y → IsFront w.query new.documents y
  front_for y stays =
      stays f.old.documents new.documents
      (is_collection_for w.query.primary f.old f.right.keyed f.becomes.lawful_old)
      (is_collection_for w.query.primary new
      (keyed_new w.query f.right.limited c f.old new f.becomes f.right.keyed)
      f.becomes.lawful_new) f.becomes.differ f.becomes.change f.front

  -- patched, it is as it is to be
  pub patched : answer_for (action_at w.query c w.rows) ≡ Patched
      → applied c w ≡ stepped new.documents c w
  patched answer =
      let rows = rows_at w.query f.right.limited c f.old new f.becomes f.right.keyed w.rows
      w.emitted
      f.right.from_scratch answer in
      (λ i. record {
        query = w.query;
        rows = rows i;
        emitted = w.emitted;
        counts = counted_at w.query c w.rows w.counts;
      })

  -- and so it is where it has run in full
  module _ (now : Watched) (value : now ≡ applied c w) where
    pub is_cold : answer_for (action_at w.query c w.rows) ≡ NeedsFull → now.rows ≡ None
    is_cold answer =
        ap (λ (v : Watched). v.rows) value
        ∙ full_rows (action_at w.query c w.rows) answer w.query c w.rows

    pub filled : (rows : List Row) → rows ≡ fresh_rows now.query new.documents
        → (let v : Watched = record now { rows = Some rows } in v ≡ stepped new.documents c w)
    filled rows rows_is =
        let rows' = rows_is ∙ ap (λ (v : Watched). fresh_rows v.query new.documents) value in
        (λ i. record {
          query = (value i).query;
          rows = Some (rows' i);
          emitted = (value i).emitted;
          counts = (value i).counts;
        })

-- ---- all queries, after a row

-- the change that a row makes, by its parts
pub change_is : (c : Held) (row : Stored)
    → (let x : Change = record {
      id = row.state.key;
      before = before_of (live (named c.documents row.state.key));
      after = live (Some row);
    } in x ≡ change_by c row)
change_is c row = (λ i. record {
  id = row.state.key;
  before = before_of (live (named c.documents row.state.key));
  after = live (sym (with_row-named c row) i);
})

-- the queries were right before it
pub all_follow : (c new : Held) (row : Stored) (qs : Queries) (fs : List Front) (x : Change)
    → IsLawful c → IsNext c row → AllRight c qs → AreFronts c qs fs → x ≡ change_by c row
    → new ≡ with_row c row → AllFollow x qs fs new
all_follow c new row qs fs x lawful next right fronts is new_is =
    subst (λ y. AllFollow y qs fs new) (sym is)
    (subst (λ d. AllFollow (change_by c row) qs fs d) (sym new_is) (record {
      old = c;
      becomes = record {
        differ = with_row-differs c row;
        change = refl;
        schema = refl;
        lawful_old = lawful;
        lawful_new = lawful_put c row lawful next;
      };
      right = right;
      fronts = fronts;
    }))

-- and are right after it
pub right_after : (old c : Held) (x : Change) (qs : Queries) → old.schema ≡ c.schema
    → AllRight old qs → AllRight c (each (stepped c.documents x) qs)
right_after old c x [] same all = tt
right_after old c x (q ∷ qs) same all = (
  record {
    limited = all.0.limited;
    keyed = all.0.keyed ∙ ap (λ s. s.primary) same;
    from_scratch = refl;
  },
  right_after old c x qs same all.1,
)
