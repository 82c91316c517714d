-- Conflicts, gone through beside the rows of their push.
use Rattle.std.proofs.Common.{◌≡◌, ℕ, ◌+◌, true, false, Bool, cond, not, List, [], ◌∷◌, map, filter, Some, None, refl, sym, ap, ◌∙◌}
use Rattle.std.proofs.lemmas.Iterator.Adapters.{position_from-zero}
use Rattle.std.specs.List.{AllByRecursion, IsDistinct, position_from}
use Rattle.std.specs.Prelude.{position}
use Rattle.std.specs.Str.{bytes_eq}
use Rattle.rx_value.specs.Equal.{state_eq}
use Rattle.rx_value.specs.declared.state.State.{State}
use Rattle.rx_value.proofs.Bytes.{bytes_same}
use Rattle.rx_wire.specs.declared.message.PushRow.{PushRow}
use Rattle.rx_replication.specs.Taking.{Resolve, conflict_at, real_or, real_state, resolutions}
use Rattle.rx_replication.proofs.Distinct.{RowKeysDiffer}
use Rattle.rx_fork.specs.BadReply.{has_row, first_foreign}
use Rattle.rx_fork.specs.Conflicts.{conflicts_left}

-- ---- whether each conflict has a row

none_from : {X : Type 0} (test : X → Bool) (xs : List X) (i j : ℕ)
    → position_from test i xs ≡ None → position_from test j xs ≡ None
none_from test [] i j none = refl
none_from test (x ∷ xs) i j none =
    elim (test x) as (λ b. cond b (Some i) (position_from test (i + 1) xs) ≡ None
    → cond b (Some j) (position_from test (j + 1) xs) ≡ None) [
      | true ↦ (λ h. absurd (cc))
      | false ↦ (λ h. none_from test xs (i + 1) (j + 1) h)
    ] none

one_more : {X : Type 0} (test : X → Bool) (x : X) (xs : List X) → test x ≡ false
    → position test xs ≡ None → position test (x ∷ xs) ≡ None
one_more test x xs fails none =
    position_from-zero test (x ∷ xs)
    ∙ ap (λ b. cond b (Some 0) (position_from test (0 + 1) xs)) fails
    ∙ none_from test xs 0 (0 + 1) (sym (position_from-zero test xs) ∙ none)

-- a conflict of a row's key is none that no row has
pub left_foreign : (rows : List PushRow) (cs : List State) (row : PushRow)
    → has_row rows row.new.key ≡ true → first_foreign rows (conflicts_left cs row) ≡ None
    → first_foreign rows cs ≡ None
left_foreign rows [] row there none = none
left_foreign rows (s ∷ cs) row there none =
    elim (bytes_eq s.key row.new.key) as (λ b. bytes_eq s.key row.new.key ≡ b
    → first_foreign rows (cond b cs (s ∷ cs)) ≡ None → first_foreign rows (s ∷ cs) ≡ None) [
      | true ↦ (λ is h. one_more (λ (s : State). not (has_row rows s.key)) s cs
          (ap not (ap (has_row rows) (bytes_same s.key row.new.key is) ∙ there)) h)
      | false ↦ (λ is h. h)
    ] refl none

-- ---- the real states of the rows behind one

-- the conflict of another key says nothing of a row
other_key : (s : State) (cs : List State) (row : PushRow) → bytes_eq s.key row.new.key ≡ false
    → real_state (s ∷ cs) row ≡ real_state cs row
other_key s cs row differs =
    ap (λ b. real_or (cond b (Some s) (conflict_at row.new.key cs)) row.new) differs

left_real : (cs : List State) (row other : PushRow) → bytes_eq row.new.key other.new.key ≡ false
    → real_state (conflicts_left cs row) other ≡ real_state cs other
left_real [] row other differs = refl
left_real (s ∷ cs) row other differs =
    elim (bytes_eq s.key row.new.key) as (λ b. bytes_eq s.key row.new.key ≡ b
    → real_state (cond b cs (s ∷ cs)) other ≡ real_state (s ∷ cs) other) [
      | true ↦ (λ is. sym (other_key s cs other
          (ap (λ k. bytes_eq k other.new.key) (bytes_same s.key row.new.key is) ∙ differs)))
      | false ↦ (λ is. refl)
    ] refl

-- the conflicts say the same of all of them
abbrev AreAlike : List State → List State → List PushRow → Type 0
AreAlike left cs rows = AllByRecursion (λ other. real_state left other ≡ real_state cs other) rows

all_left : (cs : List State) (row : PushRow) (rows : List PushRow)
    → AllByRecursion (λ k. bytes_eq row.new.key k ≡ false) (map (λ (r : PushRow). r.new.key) rows)
    → AreAlike (conflicts_left cs row) cs rows
all_left cs row [] all = tt
all_left cs row (other ∷ rows) all =
    (left_real cs row other all.0, all_left cs row rows all.1)

left_apart : (cs : List State) (row : PushRow) (rows : List PushRow) → RowKeysDiffer (row ∷ rows)
    → AreAlike (conflicts_left cs row) cs rows
unfolding IsDistinct
left_apart cs row rows apart = all_left cs row rows apart.0

pub rest_differ : (row : PushRow) (rows : List PushRow) → RowKeysDiffer (row ∷ rows)
    → RowKeysDiffer rows
unfolding IsDistinct
rest_differ row rows apart = apart.1

same_reals : (left cs : List State) (rows : List PushRow)
    → AreAlike left cs rows
    → map (real_state left) rows ≡ map (real_state cs) rows
same_reals left cs [] all = refl
same_reals left cs (row ∷ rows) all = λ i. all.0 i ∷ same_reals left cs rows all.1 i

pub left_reals : (cs : List State) (row : PushRow) (rows : List PushRow)
    → RowKeysDiffer (row ∷ rows)
    → map (real_state (conflicts_left cs row)) rows ≡ map (real_state cs) rows
left_reals cs row rows apart =
    same_reals (conflicts_left cs row) cs rows (left_apart cs row rows apart)

-- ---- the handler's answers

module _ (by : Resolve) where
  -- with the one of a row, where its real state is another
  abbrev pub with_answer : State → PushRow → List State → List State
  with_answer real row rest = cond (not (state_eq real row.new)) (by real row.new ∷ rest) rest

  pub answers_first : (cs : List State) (row : PushRow) (rows : List PushRow)
      → resolutions by cs (row ∷ rows)
      ≡ with_answer (real_state cs row) row (resolutions by cs rows)
  answers_first cs row rows =
      let real = real_state cs row in
      let f = λ (r : PushRow). by (real_state cs r) r.new in
      let others = filter (λ (r : PushRow). not (state_eq (real_state cs r) r.new)) rows in
      elim (state_eq real row.new) as (λ b. map f (cond (not b) (row ∷ others) others)
      ≡ cond (not b) (by real row.new ∷ map f others) (map f others))
      [ true ↦ refl | false ↦ refl ]

  same_answers : (left cs : List State) (rows : List PushRow)
      → AreAlike left cs rows
      → resolutions by left rows ≡ resolutions by cs rows
  same_answers left cs [] all = refl
  same_answers left cs (row ∷ rows) all =
      answers_first left row rows
      ∙ ap (λ real. with_answer real row (resolutions by left rows)) all.0
      ∙ ap (with_answer (real_state cs row) row) (same_answers left cs rows all.1)
      ∙ sym (answers_first cs row rows)

  pub left_answers : (cs : List State) (row : PushRow) (rows : List PushRow)
      → RowKeysDiffer (row ∷ rows)
      → resolutions by (conflicts_left cs row) rows ≡ resolutions by cs rows
  left_answers cs row rows apart =
      same_answers (conflicts_left cs row) cs rows (left_apart cs row rows apart)
