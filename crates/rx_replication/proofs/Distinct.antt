-- Keys that come once.
use Rattle.std.proofs.Common.{◌≡◌, ◌≢◌, ℕ, Bool, true, false, cond, not, List, [], ◌∷◌, map, filter, Option, Some, None, is_none, refl, sym, ap, ◌∙◌, inl, inr, subst, true≢false, Less}
use Rattle.std.specs.List.{AllByRecursion, IsDistinct, filter_map, cons_option}
use Rattle.std.specs.Str.{bytes_eq}
use Rattle.rx_value.specs.Equal.{state_eq}
use Rattle.rx_value.specs.Named.{named}
use Rattle.rx_value.specs.declared.state.State.{State}
use Rattle.rx_value.proofs.Bytes.{bytes_itself, bytes_apart}
use Rattle.rx_value.proofs.Outcomes.{some_same}
use Rattle.rx_document.specs.Documents.{Documents}
use Rattle.rx_document.specs.Place.{place_cmp}
use Rattle.rx_document.specs.declared.place.Place.{Place}
use Rattle.rx_document.specs.declared.stored.Stored.{Stored}
use Rattle.rx_collection.specs.Since.{place_of, since}
use Rattle.rx_wire.specs.declared.message.PushRow.{PushRow}
use Rattle.rx_replication.specs.Known.{KnownStates, is_state, is_pending}
use Rattle.rx_replication.specs.Master.{conflict_of, conflicts, writes}
use Rattle.rx_replication.specs.Member.{Member}
use Rattle.rx_replication.specs.Request.{push_row}
use Rattle.rx_replication.specs.Taking.{Resolve, KeepsKey, real_state, resolutions, differences}
use Rattle.rx_replication.specs.Write.{state_at, AreByKey}
use Rattle.rx_replication.proofs.Handled.{Agree, states_of, conflict_key}
use Rattle.rx_replication.proofs.Lists.{from_filter, from_filter_map}
use Rattle.rx_replication.proofs.Orders.{not_below_itself}
use Rattle.rx_replication.proofs.Pages.{Rise, page, page_held, page_rises, stands_above, since-page}
use Rattle.rx_replication.proofs.Taken.{pushed, rows_of, real_state-key}

-- no two of them have one key
abbrev pub KeysDiffer : List State → Type 0
KeysDiffer ss = IsDistinct bytes_eq (map (λ s. s.key) ss)

abbrev pub RowKeysDiffer : List PushRow → Type 0
RowKeysDiffer rows = IsDistinct bytes_eq (map (λ row. row.new.key) rows)

-- ---- lists with keys

module _ {A : Type 0} (key : A → List ℕ) where
  -- by recursion over the things themselves
  abbrev pub Differ : List A → Type 0
  Differ xs = IsDistinct bytes_eq (map key xs)

  all_keys : (k : List ℕ) (xs : List A) → ((x : A) → Member x xs → k ≢ key x)
      → AllByRecursion (λ y. bytes_eq k y ≡ false) (map key xs)
  all_keys k [] each = tt
  all_keys k (x ∷ xs) each = (
    bytes_apart k (key x) (each x (inl refl)),
    all_keys k xs (λ y m. each y (inr m)),
  )

  not_key : (k : List ℕ) (xs : List A) → AllByRecursion (λ y. bytes_eq k y ≡ false) (map key xs)
      → (x : A) → Member x xs → k ≢ key x
  not_key k [] all x m same = m
  not_key k (y ∷ ys) all x (inl is) same =
      true≢false (sym (bytes_itself k) ∙ ap (bytes_eq k) (same ∙ ap key is) ∙ all.0)
  not_key k (y ∷ ys) all x (inr m) same = not_key k ys all.1 x m same

  -- things of one key are one thing
  pub differ-one : (xs : List A) → Differ xs → (x y : A) → Member x xs → Member y xs
      → key x ≡ key y → x ≡ y
  unfolding IsDistinct
  differ-one [] apart x y m n same = absurd m
  differ-one (z ∷ zs) apart x y (inl is) (inl js) same = is ∙ sym js
  differ-one (z ∷ zs) apart x y (inl is) (inr n) same =
      absurd (not_key (key z) zs apart.0 y n (ap key (sym is) ∙ same))
  differ-one (z ∷ zs) apart x y (inr m) (inl js) same =
      absurd (not_key (key z) zs apart.0 x m (ap key (sym js) ∙ sym same))
  differ-one (z ∷ zs) apart x y (inr m) (inr n) same = differ-one zs apart.1 x y m n same

  -- what passes a test differs too
  pub differ-filter : (test : A → Bool) (xs : List A) → Differ xs → Differ (filter test xs)
  unfolding IsDistinct
  differ-filter test [] apart = tt
  differ-filter test (x ∷ xs) apart =
      let rest = differ-filter test xs apart.1 in
      elim (test x) as (λ b. Differ (cond b (x ∷ filter test xs) (filter test xs))) [
        | true ↦ (
          all_keys (key x) (filter test xs) (λ y m.
              not_key (key x) xs apart.0 y (from_filter test xs y m).0),
          rest,
        )
        | false ↦ rest
      ]

  module _ {B : Type 0} (key' : B → List ℕ) where
    -- what is made of each with its key
    pub differ-map : (f : A → B) → ((x : A) → key' (f x) ≡ key x) → (xs : List A) → Differ xs
        → IsDistinct bytes_eq (map key' (map f xs))
    differ-map f keeps xs apart = subst (IsDistinct bytes_eq) (same xs) apart
      where
        same : (xs : List A) → map key xs ≡ map key' (map f xs)
        same [] = refl
        same (x ∷ xs) = λ i. sym (keeps x) i ∷ same xs i

    -- and of some
    pub differ-filter_map : (f : A → Option B) → ((x : A) (y : B) → f x ≡ Some y → key' y ≡ key x)
        → (xs : List A) → Differ xs → IsDistinct bytes_eq (map key' (filter_map f xs))
    unfolding IsDistinct
    differ-filter_map f keeps [] apart = tt
    differ-filter_map f keeps (x ∷ xs) apart =
        let rest = differ-filter_map f keeps xs apart.1 in
        elim (f x) as (λ o. f x ≡ o
        → IsDistinct bytes_eq (map key' (cons_option o (filter_map f xs)))) [
          | None ↦ (λ is. rest)
          | Some y ↦ (λ is. (all_made y (keeps x y is), rest))
        ] refl
      where
        all_made : (y : B) → key' y ≡ key x
            → AllByRecursion (λ k. bytes_eq (key' y) k ≡ false) (map key' (filter_map f xs))
        all_made y same = each (filter_map f xs) (λ z m.
            let w = from_filter_map f xs z m in
            λ e. not_key (key x) xs apart.0 w.0 w.1 (sym same ∙ e ∙ keeps w.0 z w.2))
          where
            each : (ys : List B) → ((z : B) → Member z ys → key' y ≢ key' z)
                → AllByRecursion (λ k. bytes_eq (key' y) k ≡ false) (map key' ys)
            each [] apart = tt
            each (z ∷ zs) apart = (
              bytes_apart (key' y) (key' z) (apart z (inl refl)),
              each zs (λ u m. apart u (inr m)),
            )

-- states of one key are one state
pub differ-agree : (ss : List State) → KeysDiffer ss → Agree ss
differ-agree ss apart s t m n same = differ-one (λ s. s.key) ss apart s t m n same

-- ---- documents, rows and states of replication

-- documents in rising order that are held
held_differ : (documents : Documents) (ds : List Stored) → Rise ds
    → ((d : Stored) → Member d ds → named documents d.state.key ≡ Some d)
    → IsDistinct bytes_eq (map (λ (d : Stored). d.state.key) ds)
unfolding IsDistinct
held_differ documents [] rise held = tt
held_differ documents (d ∷ ds) rise held = (
  all_keys (λ (d : Stored). d.state.key) d.state.key ds (λ e m same.
      let is : e ≡ d =
      some_same (sym (held e (inr m)) ∙ ap (named documents) (sym same) ∙ held d (inl refl)) in
      not_below_itself (place_of d)
      (subst (λ (z : Stored). place_cmp (place_of d) (place_of z) ≡ Less) is (rise.0 e m))),
  held_differ documents ds rise.1 (λ e m. held e (inr m)),
)

page_differ : (documents : Documents) (test : Stored → Bool) (n : ℕ) → AreByKey documents
    → IsDistinct bytes_eq (map (λ (d : Stored). d.state.key) (page documents test n))
page_differ documents test n by_key =
    held_differ documents (page documents test n) (page_rises documents by_key test n)
    (λ d m. (page_held documents by_key test n d m).0)

-- the rows of a push
pub rows_differ : (fork : Documents) (known : KnownStates) (n : ℕ) → AreByKey fork
    → RowKeysDiffer (rows_of known (pushed fork known n))
rows_differ fork known n by_key =
    differ-map (λ (d : Stored). d.state.key) (λ (row : PushRow). row.new.key) (push_row known)
    (λ d. refl) (pushed fork known n) (page_differ fork (is_pending known) n by_key)

-- the states of a page
pub since_differ : (documents : Documents) (p : Option Place) (n : ℕ) → AreByKey documents
    → KeysDiffer (states_of (since documents p n))
since_differ documents p n by_key =
    subst (λ (ds : List Stored). KeysDiffer (states_of ds)) (sym (since-page documents by_key p n))
    (differ-map (λ (d : Stored). d.state.key) (λ (s : State). s.key) (λ (d : Stored). d.state)
    (λ d. refl) (page documents (stands_above p) n)
    (page_differ documents (stands_above p) n by_key))

-- what a master writes, and the conflicts that it answers
pub writes_differ : (master : Documents) (rows : List PushRow) → RowKeysDiffer rows
    → KeysDiffer (writes master rows)
writes_differ master rows apart =
    differ-map (λ (row : PushRow). row.new.key) (λ (s : State). s.key) (λ (row : PushRow). row.new)
    (λ row. refl) (filter (λ row. is_none (conflict_of master row)) rows)
    (differ-filter (λ (row : PushRow). row.new.key) (λ row. is_none (conflict_of master row)) rows
    apart)

pub conflicts_differ : (master : Documents) (rows : List PushRow) → AreByKey master
    → RowKeysDiffer rows → KeysDiffer (conflicts master rows)
conflicts_differ master rows by_key apart =
    differ-filter_map (λ (row : PushRow). row.new.key) (λ (s : State). s.key) (conflict_of master)
    (λ row s is. conflict_key master by_key rows row s is) rows apart

-- what a fork writes
pub resolutions_differ : (resolve : Resolve) → KeepsKey resolve → (cs : List State)
    (rows : List PushRow) → RowKeysDiffer rows → KeysDiffer (resolutions resolve cs rows)
resolutions_differ resolve law cs rows apart =
    differ-map (λ (row : PushRow). row.new.key) (λ (s : State). s.key)
    (λ row. resolve (real_state cs row) row.new)
    (λ row. law (real_state cs row) row.new (real_state-key cs row))
    (filter (λ row. not (state_eq (real_state cs row) row.new)) rows)
    (differ-filter (λ (row : PushRow). row.new.key)
    (λ row. not (state_eq (real_state cs row) row.new)) rows apart)

pub differences_differ : (fork : Documents) (ss : List State) → KeysDiffer ss
    → KeysDiffer (differences fork ss)
differences_differ fork ss apart =
    differ-filter (λ (s : State). s.key) (λ s. not (is_state (state_at fork s.key) s)) ss apart

-- what becomes known of a push
pub real_states_differ : (cs : List State) (rows : List PushRow) → RowKeysDiffer rows
    → KeysDiffer (map (real_state cs) rows)
real_states_differ cs rows apart =
    differ-map (λ (row : PushRow). row.new.key) (λ (s : State). s.key) (real_state cs)
    (real_state-key cs) rows apart
