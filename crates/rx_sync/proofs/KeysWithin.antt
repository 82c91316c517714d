-- A turn brings no key that neither its fork nor its master holds, so few exchanges are enough.
use Rattle.std.proofs.Common.{◌≡◌, ◌≢◌, ◌∙◌, ℕ, suc, ◌+◌, ◌*◌, ◌≤◌, Bool, true, false, cond, ◌||◌, not, List, [], ◌∷◌, ◌++◌, filter, length, Some, None, is_none, refl, sym, ap, subst, arith, inl, inr, Less, Equal, Greater, is_lt, true≢false}
use Rattle.std.proofs.lemmas.Cmp.{tied_itself}
use Rattle.std.proofs.lemmas.Bool.{false≢true, or_cases, or_left, or_right}
use Rattle.std.proofs.lemmas.List.{length-append}
use Rattle.std.proofs.lemmas.Map.Entries.{length-keys_of}
use Rattle.std.proofs.lemmas.Slice.Eq.{bytes_eq-Decides}
use Rattle.std.specs.FinMap.Entries.{put, by_order}
use Rattle.std.specs.List.{AllByRecursion, list_any}
use Rattle.std.specs.List.Sorted.{IsStrictlySortedBy}
use Rattle.std.specs.Map.{keys_of, values_of}
use Rattle.std.specs.Str.{bytes_eq}
use Rattle.rx_value.specs.Named.{AreRising, named}
use Rattle.rx_value.specs.Order.{text_cmp}
use Rattle.rx_value.specs.declared.state.State.{State}
use Rattle.rx_value.proofs.Ordered.{text_total}
use Rattle.rx_value.proofs.Outcomes.{none_is, not_none}
use Rattle.rx_document.specs.Documents.{Documents}
use Rattle.rx_document.specs.Place.{place_cmp}
use Rattle.rx_document.specs.declared.place.Place.{Place}
use Rattle.rx_document.specs.declared.stored.Stored.{Stored}
use Rattle.rx_collection.specs.Since.{by_place, place_of, since}
use Rattle.rx_collection.proofs.Named.{all_named}
use Rattle.rx_wire.specs.declared.message.PushRow.{PushRow}
use Rattle.rx_replication.specs.Exchange.{Exchange, IsLink, Link, exchange_over_link}
use Rattle.rx_replication.specs.Known.{is_pending, is_state}
use Rattle.rx_replication.specs.Left.{key_count}
use Rattle.rx_replication.specs.Master.{conflicts, writes}
use Rattle.rx_replication.specs.Member.{Member}
use Rattle.rx_replication.specs.Taking.{KeepsKey, Resolve, differences, resolutions}
use Rattle.rx_replication.specs.Write.{state_at}
use Rattle.rx_replication.proofs.Bound.{IsPullTo, IsPushTo, exchange_is}
use Rattle.rx_replication.proofs.Commits.{Wrote, write_wrote}
use Rattle.rx_replication.proofs.Handled.{from_writes, states_of}
use Rattle.rx_replication.proofs.Keys.{lacking}
use Rattle.rx_replication.proofs.Lists.{from_filter, from_map, length-filter}
use Rattle.rx_replication.proofs.Pages.{page_held, placed, since-page, stands_above}
use Rattle.rx_replication.proofs.Taken.{from_resolutions, pushed, resolution-key, row_doc, rows_of}
use Rattle.rx_sync.specs.Bound.{enough}
use Rattle.rx_sync.proofs.Forks.{apart_left}
use Rattle.rx_tree.proofs.Walks.{AreApart, all_both}

-- ---- lists

-- without the first one that is equal
without : List ℕ → List (List ℕ) → List (List ℕ)
without x [] = []
without x (y ∷ ys) = cond (bytes_eq x y) ys (y ∷ without x ys)

-- is one of them
abbrev IsAmong : List (List ℕ) → List ℕ → Type 0
IsAmong ys x = list_any (bytes_eq x) ys ≡ true

one_fewer : (x : List ℕ) (ys : List (List ℕ)) → IsAmong ys x
    → length ys ≡ suc (length (without x ys))
unfolding without
one_fewer x [] is = absurd (false≢true is)
one_fewer x (y ∷ ys) is =
    elim (bytes_eq x y) as (λ b. (b || list_any (bytes_eq x) ys) ≡ true
    → suc (length ys) ≡ suc (length (cond b ys (y ∷ without x ys)))) [
      | true ↦ (λ found. refl)
      | false ↦ (λ found. ap suc (one_fewer x ys found))
    ] is

-- and another one stays
stays_among : (x z : List ℕ) (ys : List (List ℕ)) → z ≢ x → IsAmong ys z → IsAmong (without x ys) z
unfolding without
stays_among x z [] other is = is
stays_among x z (y ∷ ys) other is =
    elim (bytes_eq x y) as (λ b. bytes_eq x y ≡ b → IsAmong (cond b ys (y ∷ without x ys)) z) [
      | true ↦ (λ same. elim (or_cases (bytes_eq z y) (list_any (bytes_eq z) ys) is) [
        | inl here ↦
            absurd (other ((bytes_eq-Decides z y).0 here ∙ sym ((bytes_eq-Decides x y).0 same)))
        | inr later ↦ later
      ])
      | false ↦ (λ apart. elim (or_cases (bytes_eq z y) (list_any (bytes_eq z) ys) is) [
        | inl here ↦ or_left (bytes_eq z y) (list_any (bytes_eq z) (without x ys)) here
        | inr later ↦ or_right (bytes_eq z y) (list_any (bytes_eq z) (without x ys))
            (stays_among x z ys other later)
      ])
    ] refl

all_stay : (x : List ℕ) (xs ys : List (List ℕ)) → AllByRecursion (λ z. z ≢ x) xs
    → AllByRecursion (IsAmong ys) xs → AllByRecursion (IsAmong (without x ys)) xs
all_stay x [] ys others all = tt
all_stay x (z ∷ xs) ys others all =
    (stays_among x z ys others.0 all.0, all_stay x xs ys others.1 all.1)

-- no more than there are, where no two are equal
no_more : (xs ys : List (List ℕ)) → AreApart xs → AllByRecursion (IsAmong ys) xs
    → length xs ≤ length ys
no_more [] ys apart all = omega arith
no_more (x ∷ xs) ys apart all =
    let fewer = one_fewer x ys all.0 in
    let rest = no_more xs (without x ys) apart.1 (all_stay x xs ys apart.0 all.1) in
    omega (arith, fewer, rest)

-- ---- keys

-- each key that is held is one of them
abbrev pub HoldsWithin : List (List ℕ) → Documents → Type 0
HoldsWithin keys documents =
    (k : List ℕ) (d : Stored) → named documents k ≡ Some d → IsAmong keys k

-- so it is after a write of states whose keys are
wrote_within : (keys : List (List ℕ)) (old new : Documents) (ss : List State) → Wrote old ss new
    → HoldsWithin keys old → ((s : State) → Member s ss → IsAmong keys s.key)
    → HoldsWithin keys new
wrote_within keys old new ss wrote held states k d at =
    elim (wrote.at k) [
      | inl is ↦ held k d (sym is.same ∙ at)
      | inr is ↦ subst (IsAmong keys) is.key (states is.doc.state is.member)
    ]

-- rising keys are apart
module _ {X : Type 0} where
  above : (k : List ℕ) (es : List (List ℕ × X))
      → AllByRecursion (λ y. text_cmp k y ≡ Less) (keys_of es)
      → AllByRecursion (λ y. y ≢ k) (keys_of es)
  above k [] all = tt
  above k (e ∷ es) all = (
    (λ same. true≢false (ap is_lt (sym (subst (λ (y : List ℕ). text_cmp k y ≡ Less) same all.0)
        ∙ tied_itself text_total k))),
    above k es all.1,
  )

  rising_apart : (es : List (List ℕ × X)) → AreRising es → AreApart (keys_of es)
  unfolding IsStrictlySortedBy
  rising_apart [] rising = tt
  rising_apart (e ∷ es) rising = (above e.0 es rising.0, rising_apart es rising.1)

keys_within : (keys : List (List ℕ)) (es : Documents) → AreRising es → HoldsWithin keys es
    → AllByRecursion (IsAmong keys) (keys_of es)
keys_within keys es rising held =
    of_entries es (all_named (λ k (d : Stored). IsAmong keys k) es rising held)
  where
    of_entries : (ds : Documents) → AllByRecursion (λ (e : List ℕ × Stored). IsAmong keys e.0) ds
        → AllByRecursion (IsAmong keys) (keys_of ds)
    of_entries [] all = tt
    of_entries (e ∷ ds) all = (all.0, of_entries ds all.1)

-- ---- a link

-- fork and master hold no other keys
pub record IsWithinKeys (keys : List (List ℕ)) (l : Link) : Type 0 where
  pub fork : HoldsWithin keys l.fork.documents
  pub master : HoldsWithin keys l.master.documents

module _ (keys : List (List ℕ)) (resolve : Resolve) (law : KeepsKey resolve) (l : Link)
    (is_link : IsLink l) (x : Exchange) (next : Link) (within : IsWithinKeys keys l) where
  push_within : IsPushTo resolve l x next → IsWithinKeys keys next
  push_within push =
      let rows = rows_of l.known (pushed l.fork.documents l.known x.batch) in
      let cs = conflicts l.master.documents rows in
      let row_key : (row : PushRow) → Member row rows → IsAmong keys row.new.key =
      λ row h.
      let y = row_doc l.fork.documents l.known is_link.fork x.batch row h in
      within.fork row.new.key y.0 y.2 in
      subst (IsWithinKeys keys) (sym push.is) (record {
        fork = wrote_within keys l.fork.documents push.fork.documents (resolutions resolve cs rows)
            (write_wrote l.fork (resolutions resolve cs rows) x.taken push.fork push.taken)
            within.fork
            (λ s h.
            let y = from_resolutions resolve cs rows s h in
            subst (IsAmong keys)
            (sym (ap (λ (z : State). z.key) y.2 ∙ resolution-key resolve cs rows law y.0))
            (row_key y.0 y.1));
        master = wrote_within keys l.master.documents push.master.documents
            (writes l.master.documents rows)
            (write_wrote l.master
            (writes l.master.documents rows) x.handled push.master push.handled)
            within.master
            (λ s h.
            let y = from_writes l.master.documents rows s h in
            subst (IsAmong keys) (sym (ap (λ (z : State). z.key) y.2)) (row_key y.0 y.1));
      })

  pull_within : IsPullTo l x next → IsWithinKeys keys next
  pull_within pull =
      let master = l.master.documents in
      let ss = states_of (since master l.down x.batch) in
      subst (IsWithinKeys keys) (sym pull.is) (record {
        fork =
            wrote_within keys l.fork.documents pull.fork.documents (differences l.fork.documents ss)
            (write_wrote l.fork (differences l.fork.documents ss) x.taken pull.fork pull.taken)
            within.fork
            (λ s h.
            let y =
            from_filter (λ (t : State). not (is_state (state_at l.fork.documents t.key) t)) ss
            s h in
            let z = from_map (λ (d : Stored). d.state) (since master l.down x.batch) s y.0 in
            let held = page_held master is_link.master (stands_above l.down) x.batch z.0
            (subst (Member z.0) (since-page master is_link.master l.down x.batch) z.1) in
            within.master s.key z.0
            (ap (λ (t : State). named master t.key) z.2 ∙ held.0));
        master = within.master;
      })

  pub exchange_within_keys : exchange_over_link resolve l x ≡ Some next → IsWithinKeys keys next
  exchange_within_keys e =
      elim (exchange_is resolve l x next e)
      [ inl push ↦ push_within push | inr pull ↦ pull_within pull ]

-- ---- how many exchanges are enough

length-placed : (es : Documents) → length (placed es) ≤ length es
length-placed [] = omega arith
length-placed (e ∷ es) =
    omega (arith, length-placed es, length_put (place_of e.1) e.1 (by_place es))
  where
    length_put : (p : Place) (d : Stored) (es : List (Place × Stored))
        → length (values_of (put place_cmp p d es)) ≤ suc (length (values_of es))
    length_put p d [] = omega arith
    length_put p d (e ∷ es) =
        let rest = length_put p d es in
        elim (place_cmp p e.0) as (λ r.
        length (values_of (by_order r ((p, d) ∷ e ∷ es) ((e.0, d) ∷ es) (e ∷ put place_cmp p d es)))
        ≤ suc (suc (length (values_of es))))
        [ Less ↦ omega arith | Equal ↦ omega arith | Greater ↦ omega arith ]

-- keys of two
apart_both : (xs ys : List (List ℕ)) → AreApart xs → AreApart ys
    → AllByRecursion (λ y. AllByRecursion (λ x. y ≢ x) xs) ys → AreApart (xs ++ ys)
apart_both [] ys first second all = second
apart_both (x ∷ xs) ys first second all = (
  all_both (λ d. d ≢ x) xs ys first.0 (firsts ys all),
  apart_both xs ys first.1 second (rests ys all),
)
  where
    firsts : (zs : List (List ℕ)) → AllByRecursion (λ y. AllByRecursion (λ d. y ≢ d) (x ∷ xs)) zs
        → AllByRecursion (λ d. d ≢ x) zs
    firsts [] each = tt
    firsts (z ∷ zs) each = (each.0.0, firsts zs each.1)

    rests : (zs : List (List ℕ)) → AllByRecursion (λ y. AllByRecursion (λ d. y ≢ d) (x ∷ xs)) zs
        → AllByRecursion (λ y. AllByRecursion (λ d. y ≢ d) xs) zs
    rests [] each = tt
    rests (z ∷ zs) each = (each.0.1, rests zs each.1)

-- a key that isn't held is none of those that are
lacking_apart : (documents : Documents) → AreRising documents → (ks : List (List ℕ))
    → AllByRecursion (λ y. AllByRecursion (λ d. y ≢ d) (keys_of documents)) (lacking documents ks)
lacking_apart documents rising [] = tt
lacking_apart documents rising (k ∷ ks) =
    elim (is_none (named documents k)) as (λ b. is_none (named documents k) ≡ b
    → AllByRecursion (λ y. AllByRecursion (λ d. y ≢ d) (keys_of documents))
    (cond b (k ∷ lacking documents ks) (lacking documents ks))) [
      | true ↦ (λ none. (
        of_entries (none_is (named documents k) none) documents
            (all_named (λ n (d : Stored). named documents n ≡ Some d) documents rising
            (λ n d at. at)),
        lacking_apart documents rising ks,
      ))
      | false ↦ (λ some. lacking_apart documents rising ks)
    ] refl
  where
    of_entries : named documents k ≡ None → (ds : Documents)
        → AllByRecursion (λ (e : List ℕ × Stored). named documents e.0 ≡ Some e.1) ds
        → AllByRecursion (λ d. k ≢ d) (keys_of ds)
    of_entries none [] all = tt
    of_entries none (e ∷ ds) all = (
      (λ same. not_none (sym none ∙ ap (named documents) same ∙ all.0)),
      of_entries none ds all.1,
    )

left_among : (keys : List (List ℕ)) (test : List ℕ → Bool) (ks : List (List ℕ))
    → AllByRecursion (IsAmong keys) ks → AllByRecursion (IsAmong keys) (filter test ks)
left_among keys test [] all = tt
left_among keys test (k ∷ ks) all =
    elim (test k)
    as (λ b. AllByRecursion (IsAmong keys) (cond b (k ∷ filter test ks) (filter test ks)))
    [ true ↦ (all.0, left_among keys test ks all.1) | false ↦ left_among keys test ks all.1 ]

module _ (keys : List (List ℕ)) (l : Link) (is_link : IsLink l) (within : IsWithinKeys keys l) where
  fork_few : length l.fork.documents ≤ length keys
  fork_few =
      subst (λ (n : ℕ). n ≤ length keys) (length-keys_of l.fork.documents)
      (no_more (keys_of l.fork.documents) keys (rising_apart l.fork.documents is_link.fork.rising)
      (keys_within keys l.fork.documents is_link.fork.rising within.fork))

  count_few : key_count l.fork.documents l.master.documents ≤ length keys
  count_few =
      let held = keys_of l.master.documents in
      let others = lacking l.master.documents (keys_of l.fork.documents) in
      subst (λ (n : ℕ). n ≤ length keys)
      (length-append held others
      ∙ ap (λ (n : ℕ). n + length others) (length-keys_of l.master.documents))
      (no_more (held ++ others) keys
      (apart_both held others (rising_apart l.master.documents is_link.master.rising)
      (apart_left (λ k. is_none (named l.master.documents k)) (keys_of l.fork.documents)
      (rising_apart l.fork.documents is_link.fork.rising))
      (lacking_apart l.master.documents is_link.master.rising (keys_of l.fork.documents)))
      (all_both (IsAmong keys) held others
      (keys_within keys l.master.documents is_link.master.rising within.master)
      (left_among keys (λ k. is_none (named l.master.documents k)) (keys_of l.fork.documents)
      (keys_within keys l.fork.documents is_link.fork.rising within.fork))))

  -- three times as many as keys, and one
  pub few_enough : enough l ≤ 3 * length keys + 1
  few_enough =
      let some = length-filter (is_pending l.known) (placed l.fork.documents) in
      omega (arith, some, length-placed l.fork.documents, fork_few, count_few)
