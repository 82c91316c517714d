-- Which keys a write leaves, and how many.
use Rattle.std.proofs.Common.{◌≡◌, ℕ, suc, ◌+◌, ◌≤◌, Bool, true, false, cond, List, [], ◌∷◌, filter, length, Option, Some, None, is_none, option_map, refl, sym, ap, ◌∙◌, inl, inr, subst, arith, true≢false, Less, Equal, Greater}
use Rattle.std.proofs.lemmas.Map.Text.{is_eq-slice_cmp}
use Rattle.std.proofs.lemmas.Map.Entries.{length-keys_of}
use Rattle.std.specs.List.{AllByRecursion}
use Rattle.std.specs.List.Sorted.{IsStrictlySortedBy}
use Rattle.std.specs.Map.{keys_of, values_of}
use Rattle.std.specs.Ordering.{is_eq, match_ordering}
use Rattle.std.specs.Str.{bytes_eq}
use Rattle.rx_value.specs.Named.{named, put_in_order, AreRising}
use Rattle.rx_value.specs.Order.{text_cmp}
use Rattle.rx_value.specs.declared.state.State.{State}
use Rattle.rx_value.proofs.Named.{named-put_in_order, put_in_order-rising}
use Rattle.rx_value.proofs.Ordered.{text_total}
use Rattle.rx_value.proofs.Bytes.{bytes_itself, bytes_same}
use Rattle.rx_value.proofs.Outcomes.{some_same, not_none}
use Rattle.rx_document.specs.Documents.{Documents}
use Rattle.rx_document.specs.declared.stored.Stored.{Stored}
use Rattle.rx_collection.specs.Commit.{by_key, row_of, rows_of, with_row, with_rows}
use Rattle.rx_collection.specs.Held.{Held}
use Rattle.rx_collection.specs.Time.{stamp}
use Rattle.rx_collection.proofs.Named.{all_named, all_put}
use Rattle.rx_replication.specs.Member.{Member}
use Rattle.rx_replication.specs.Write.{write}
use Rattle.rx_replication.proofs.Lists.{all_at, from_map, from_values_of}
use Rattle.rx_replication.proofs.Sides.{Holds}

module _ {X : Type 0} where
  -- each entry is named
  pub entry_named : (es : List (List ℕ × X)) (e : List ℕ × X) → AreRising es → Member e es
      → named es e.0 ≡ Some e.1
  entry_named es e rising m =
      all_at (λ e. named es e.0 ≡ Some e.1) es e
      (all_named (λ k x. named es k ≡ Some x) es rising (λ k x at. at)) m

  pub key_among : (es : List (List ℕ × X)) (k : List ℕ) (x : X) → named es k ≡ Some x
      → Member k (keys_of es)
  key_among [] k x at = not_none at
  key_among (e ∷ es) k x at =
      elim (bytes_eq k e.0)
      as (λ b. bytes_eq k e.0 ≡ b → cond b (Some e.1) (named es k) ≡ Some x
      → Member k (keys_of (e ∷ es))) [
        | true ↦ (λ h is. inl (bytes_same k e.0 h))
        | false ↦ (λ h is. inr (key_among es k x is))
      ] refl at

  -- a key that comes before rising keys isn't among them
  not_before : (k l : List ℕ) (es : List (List ℕ × X)) (x : X) → text_cmp k l ≡ Less
      → AllByRecursion (λ y. text_cmp l y ≡ Less) (keys_of es) → named es k ≡ Some x → ⊥
  not_before k l [] x less all at = not_none at
  not_before k l (e ∷ es) x less all at =
      elim (bytes_eq k e.0)
      as (λ b. bytes_eq k e.0 ≡ b → cond b (Some e.1) (named es k) ≡ Some x → ⊥) [
        | true ↦ (λ h is.
            let below : text_cmp k e.0 ≡ Less = text_total.trans k l e.0 less all.0 in
            true≢false (sym (is_eq-slice_cmp k e.0 ∙ h) ∙ ap is_eq below))
        | false ↦ (λ h is. not_before k l es x less all.1 is)
      ] refl at

  -- to put at a key that is there leaves the keys
  pub keys-put : (es : List (List ℕ × X)) (k : List ℕ) (v x : X) → AreRising es
      → named es k ≡ Some x → keys_of (put_in_order es k v) ≡ keys_of es
  unfolding IsStrictlySortedBy
  keys-put [] k v x rising at = not_none at
  keys-put (e ∷ es) k v x rising at =
      elim (text_cmp k e.0) as (λ o. text_cmp k e.0 ≡ o → bytes_eq k e.0 ≡ is_eq o
      → keys_of (match_ordering o ((k, v) ∷ e ∷ es) ((e.0, v) ∷ es) (e ∷ put_in_order es k v))
      ≡ keys_of (e ∷ es)) [
        | Less ↦ (λ is t. absurd (not_before k e.0 es x is rising.0
            (ap (λ b. cond b (Some e.1) (named es k)) (sym t) ∙ at)))
        | Equal ↦ (λ is t. refl)
        | Greater ↦ (λ is t. ap (λ ks. e.0 ∷ ks)
            (keys-put es k v x rising.1 (ap (λ b. cond b (Some e.1) (named es k)) (sym t) ∙ at)))
      ] refl (sym (is_eq-slice_cmp k e.0))

  pub length-put : (es : List (List ℕ × X)) (k : List ℕ) (v : X)
      → length (put_in_order es k v) ≤ suc (length es)
  length-put [] k v = omega arith
  length-put (e ∷ es) k v =
      let rest = length-put es k v in
      elim (text_cmp k e.0) as (λ o.
      length (match_ordering o ((k, v) ∷ e ∷ es) ((e.0, v) ∷ es) (e ∷ put_in_order es k v))
      ≤ suc (suc (length es)))
      [ Less ↦ omega arith | Equal ↦ omega arith | Greater ↦ omega arith ]

-- ---- the keys of a commit

row_among : (c : Held) (ss : List State) (lwt : ℕ) (row : Stored) → Member row (rows_of c ss lwt)
    → Member row.state ss
row_among c ss lwt row m =
    let x = from_map (row_of c lwt) (values_of (by_key ss)) row m in
    let e = from_values_of (by_key ss) x.0 x.1 in
    subst (λ (s : State). Member s ss) (sym (ap (λ (d : Stored). d.state) x.2 ∙ e.2))
    (all_at (λ e. Member e.1 ss) (by_key ss) e.0 (each ss (λ s h. h)) e.1)
  where
    each : (ts : List State) → ((s : State) → Member s ts → Member s ss)
        → AllByRecursion (λ e. Member e.1 ss) (by_key ts)
    each [] sub = tt
    each (t ∷ ts) sub =
        all_put (λ k s. Member s ss) (by_key ts) t.key t (sub t (inl refl))
        (each ts (λ s h. sub s (inr h)))

holds_put : (documents : Documents) (row : Stored) (k : List ℕ) → Holds documents k
    → Holds (put_in_order documents row.state.key row) k
holds_put documents row k h =
    elim (bytes_eq k row.state.key) as (λ b. bytes_eq k row.state.key ≡ b
    → Holds (put_in_order documents row.state.key row) k) [
      | true ↦ (λ t. (
        row,
        named-put_in_order documents row.state.key k row
            ∙ ap (λ b. cond b (Some row) (named documents k)) t,
      ))
      | false ↦ (λ t. (
        h.0,
        named-put_in_order documents row.state.key k row
            ∙ ap (λ b. cond b (Some row) (named documents k)) t ∙ h.1,
      ))
    ] refl

keys-rows : (c : Held) (rows : List Stored) → AreRising c.documents
    → ((row : Stored) → Member row rows → Holds c.documents row.state.key)
    → keys_of (with_rows c rows).documents ≡ keys_of c.documents
keys-rows c [] rising held = refl
keys-rows c (row ∷ rows) rising held =
    let here = held row (inl refl) in
    keys-rows (with_row c row) rows
    (put_in_order-rising c.documents row.state.key row rising)
    (λ r m. holds_put c.documents row r.state.key (held r (inr m)))
    ∙ keys-put c.documents row.state.key row here.0 rising here.1

keys_by : (c : Held) (ss : List State) (new : Held) (o : Option ℕ) → AreRising c.documents
    → ((s : State) → Member s ss → Holds c.documents s.key)
    → option_map (λ lwt. with_rows c (rows_of c ss lwt)) o ≡ Some new
    → keys_of new.documents ≡ keys_of c.documents
keys_by c ss new None rising held e = not_none e
keys_by c ss new (Some lwt) rising held e =
    ap (λ (z : Held). keys_of z.documents) (sym (some_same e))
    ∙ keys-rows c (rows_of c ss lwt) rising
    (λ row m. held row.state (row_among c ss lwt row m))

-- a write of keys that are held leaves the keys
pub keys-write : (c : Held) (ss : List State) (now : ℕ) (new : Held) → AreRising c.documents
    → ((s : State) → Member s ss → Holds c.documents s.key) → write c ss now ≡ Some new
    → keys_of new.documents ≡ keys_of c.documents
keys-write c [] now new rising held e =
    ap (λ (z : Held). keys_of z.documents) (sym (some_same e))
keys-write c (s ∷ ss) now new rising held e =
    keys_by c (s ∷ ss) new (stamp c.documents now) rising held e

-- ---- how many keys

-- the keys that the documents lack
abbrev pub lacking : Documents → List (List ℕ) → List (List ℕ)
lacking documents ks = filter (λ key. is_none (named documents key)) ks

-- a test that fails where another does, and once more
fewer : {A : Type 0} (p q : A → Bool) (xs : List A) → ((x : A) → q x ≡ true → p x ≡ true)
    → length (filter q xs) ≤ length (filter p xs)
fewer p q [] sub = omega arith
fewer p q (x ∷ xs) sub =
    let rest = fewer p q xs sub in
    elim (p x) as (λ b. p x ≡ b
    → length (filter q (x ∷ xs)) ≤ length (cond b (x ∷ filter p xs) (filter p xs))) [
      | true ↦ (λ h. elim (q x) as (λ b.
          length (cond b (x ∷ filter q xs) (filter q xs)) ≤ suc (length (filter p xs)))
          [ true ↦ omega arith | false ↦ omega arith ])
      | false ↦ (λ h. elim (q x) as (λ b. q x ≡ b →
          length (cond b (x ∷ filter q xs) (filter q xs)) ≤ length (filter p xs)) [
            | true ↦ (λ g. absurd (true≢false (sym (sub x g) ∙ h)))
            | false ↦ (λ g. rest)
          ] refl)
    ] refl

one_fewer : {A : Type 0} (p q : A → Bool) (xs : List A) (y : A)
    → ((x : A) → q x ≡ true → p x ≡ true) → Member y xs → p y ≡ true → q y ≡ false
    → length (filter q xs) + 1 ≤ length (filter p xs)
one_fewer p q [] y sub m passes fails = absurd m
one_fewer p q (x ∷ xs) y sub (inl is) passes fails =
    let rest = fewer p q xs sub in
    let a : length (filter q (x ∷ xs)) ≡ length (filter q xs) =
    ap (λ b. length (cond b (x ∷ filter q xs) (filter q xs))) (ap q (sym is) ∙ fails) in
    let b : length (filter p (x ∷ xs)) ≡ suc (length (filter p xs)) =
    ap (λ b. length (cond b (x ∷ filter p xs) (filter p xs))) (ap p (sym is) ∙ passes) in
    omega arith
one_fewer p q (x ∷ xs) y sub (inr m) passes fails =
    let rest = one_fewer p q xs y sub m passes fails in
    elim (p x) as (λ b. p x ≡ b
    → length (filter q (x ∷ xs)) + 1 ≤ length (cond b (x ∷ filter p xs) (filter p xs))) [
      | true ↦ (λ h. elim (q x) as (λ b.
          length (cond b (x ∷ filter q xs) (filter q xs)) + 1 ≤ suc (length (filter p xs)))
          [ true ↦ omega arith | false ↦ omega arith ])
      | false ↦ (λ h. elim (q x) as (λ b. q x ≡ b →
          length (cond b (x ∷ filter q xs) (filter q xs)) + 1 ≤ length (filter p xs)) [
            | true ↦ (λ g. absurd (true≢false (sym (sub x g) ∙ h)))
            | false ↦ (λ g. rest)
          ] refl)
    ] refl

none_if_put : (b : Bool) (v : Stored) (o : Option Stored)
    → is_none (cond b (Some v) o) ≡ true → is_none o ≡ true
none_if_put true v o e = absurd (true≢false (sym e))
none_if_put false v o e = e

-- to put at one of the keys makes documents and lacking keys no more
count-put : (documents : Documents) (row : Stored) (ks : List (List ℕ)) → AreRising documents
    → Member row.state.key ks
    → length (put_in_order documents row.state.key row)
    + length (lacking (put_in_order documents row.state.key row) ks)
    ≤ length documents + length (lacking documents ks)
count-put documents row ks rising m =
    let k : List ℕ = row.state.key in
    let put : Documents = put_in_order documents k row in
    let sub : (q : List ℕ) → is_none (named put q) ≡ true → is_none (named documents q) ≡ true =
    λ q e. none_if_put (bytes_eq q k) row (named documents q)
    (ap is_none (sym (named-put_in_order documents k q row)) ∙ e) in
    elim (named documents k) as (λ o. named documents k ≡ o
    → length put + length (lacking put ks) ≤ length documents + length (lacking documents ks)) [
      | Some d ↦ (λ at.
          let same : length put ≡ length documents =
          sym (length-keys_of put) ∙ ap length (keys-put documents k row d rising at)
          ∙ length-keys_of documents in
          let less = fewer (λ q. is_none (named documents q)) (λ q. is_none (named put q)) ks sub in
          omega arith)
      | None ↦ (λ at.
          let more = length-put documents k row in
          let fails : is_none (named put k) ≡ false =
          ap is_none (named-put_in_order documents k k row
          ∙ ap (λ b. cond b (Some row) (named documents k)) (bytes_itself k)) in
          let less = one_fewer (λ q. is_none (named documents q)) (λ q. is_none (named put q)) ks k
          sub m (ap is_none at) fails in
          omega arith)
    ] refl

count-rows : (c : Held) (rows : List Stored) (ks : List (List ℕ)) → AreRising c.documents
    → ((row : Stored) → Member row rows → Member row.state.key ks)
    → length (with_rows c rows).documents + length (lacking (with_rows c rows).documents ks)
    ≤ length c.documents + length (lacking c.documents ks)
count-rows c [] ks rising among = omega arith
count-rows c (row ∷ rows) ks rising among =
    let first = count-put c.documents row ks rising (among row (inl refl)) in
    let rest = count-rows (with_row c row) rows ks
    (put_in_order-rising c.documents row.state.key row rising) (λ r m. among r (inr m)) in
    omega arith

count_by : (c : Held) (ss : List State) (new : Held) (ks : List (List ℕ)) (o : Option ℕ)
    → AreRising c.documents → ((s : State) → Member s ss → Member s.key ks)
    → option_map (λ lwt. with_rows c (rows_of c ss lwt)) o ≡ Some new
    → length new.documents + length (lacking new.documents ks)
    ≤ length c.documents + length (lacking c.documents ks)
count_by c ss new ks None rising among e = not_none e
count_by c ss new ks (Some lwt) rising among e =
    subst (λ (z : Held). length z.documents + length (lacking z.documents ks)
    ≤ length c.documents + length (lacking c.documents ks)) (some_same e)
    (count-rows c (rows_of c ss lwt) ks rising
    (λ row m. among row.state (row_among c ss lwt row m)))

-- so a write at some of the keys does
pub count-write : (c : Held) (ss : List State) (now : ℕ) (new : Held) (ks : List (List ℕ))
    → AreRising c.documents → ((s : State) → Member s ss → Member s.key ks)
    → write c ss now ≡ Some new
    → length new.documents + length (lacking new.documents ks)
    ≤ length c.documents + length (lacking c.documents ks)
count-write c [] now new ks rising among e =
    subst (λ (z : Held). length z.documents + length (lacking z.documents ks)
    ≤ length c.documents + length (lacking c.documents ks)) (some_same e) (omega arith)
count-write c (s ∷ ss) now new ks rising among e =
    count_by c (s ∷ ss) new ks (stamp c.documents now) rising among e
