-- That a queue that follows its master leaves nothing out: no document stands above its end then.
use Rattle.std.proofs.Common.{T, ◌≡◌, ◌∙◌, ℕ, zero, suc, ◌+◌, ◌<◌, ◌≤◌, Bool, true, false, cond, not, nat_le, List, [], ◌∷◌, ◌++◌, map, take, filter, length, Option, Some, None, option_map, refl, sym, ap, subst, ◌⊎◌, inl, inr, arith, true≢false, is_lt}
use Rattle.std.proofs.Math.ListN.{length-map}
use Rattle.std.proofs.lemmas.Bool.{not-false}
use Rattle.std.proofs.lemmas.Cmp.{tied_itself}
use Rattle.std.specs.FinMap.Entries.{find, is_sorted, is_sorted-put, length-put}
use Rattle.std.specs.List.{last_or}
use Rattle.std.specs.Option.{option_map_or, is_some}
use Rattle.rx_value.proofs.Orderings.{less_is}
use Rattle.rx_value.proofs.Outcomes.{some_same, not_none}
use Rattle.rx_document.specs.Documents.{Documents}
use Rattle.rx_document.specs.Place.{place_cmp, place_total}
use Rattle.rx_document.specs.declared.place.Place.{Place}
use Rattle.rx_document.specs.declared.stored.Stored.{Stored}
use Rattle.rx_collection.specs.Since.{place_of, by_place, since}
use Rattle.rx_replication.specs.Member.{Member}
use Rattle.rx_replication.specs.Write.{is_up_to, AreByKey}
use Rattle.rx_replication.proofs.Lists.{from_filter, from_take, length-filter}
use Rattle.rx_replication.proofs.Orders.{above_lower}
use Rattle.rx_replication.proofs.Pages.{page, placed, since-page, stands_above}
use Rattle.rx_stream.specs.Events.{Queue, queue_with, max_queued, max_states, event_with, next_event, queued, followed, follow}
use Rattle.rx_stream.specs.declared.event.Event.{Event}

-- ---- lists

module _ {A : Type 0} where
  no_items : (xs : List A) → length xs ≤ 0 → xs ≡ []
  no_items [] h = refl
  no_items (x ∷ xs) h = absurd (omega arith)

  last_member : (o : Option A) (xs : List A) (x : A) → last_or o xs ≡ Some x
      → (o ≡ Some x) ⊎ Member x xs
  last_member o [] x is = inl is
  last_member o (y ∷ ys) x is =
      elim (last_member (Some y) ys x is) [
        | inl same ↦ inr (inl (sym (some_same same)))
        | inr h ↦ inr (inr h)
      ]

  -- what is counted by a test is counted by a wider one
  step : (x : A) (ps qs : List A) (b c : Bool) → (b ≡ true → c ≡ true) → length ps ≤ length qs
      → length (cond b (x ∷ ps) ps) ≤ length (cond c (x ∷ qs) qs)
  step x ps qs true true wider h = omega arith
  step x ps qs true false wider h = absurd (true≢false (sym (wider refl)))
  step x ps qs false true wider h = omega arith
  step x ps qs false false wider h = h

  strict_step : (x : A) (ps qs : List A) (b c : Bool) → (b ≡ true → c ≡ true)
      → length ps < length qs → length (cond b (x ∷ ps) ps) < length (cond c (x ∷ qs) qs)
  strict_step x ps qs true true wider h = omega arith
  strict_step x ps qs true false wider h = absurd (true≢false (sym (wider refl)))
  strict_step x ps qs false true wider h = omega arith
  strict_step x ps qs false false wider h = h

  -- and one more, where it passes that one alone
  new_step : (x : A) (ps qs : List A) (b c : Bool) → b ≡ false → c ≡ true
      → length ps ≤ length qs → length (cond b (x ∷ ps) ps) < length (cond c (x ∷ qs) qs)
  new_step x ps qs true c fails passes h = absurd (true≢false fails)
  new_step x ps qs false true fails passes h = omega arith
  new_step x ps qs false false fails passes h = absurd (true≢false (sym passes))

  module _ (p q : A → Bool) (wider : (x : A) → p x ≡ true → q x ≡ true) where
    no_more : (xs : List A) → length (filter p xs) ≤ length (filter q xs)
    no_more [] = omega arith
    no_more (x ∷ xs) =
        step x (filter p xs) (filter q xs) (p x) (q x) (wider x) (no_more xs)

    fewer : (xs : List A) (x : A) → Member x xs → p x ≡ false → q x ≡ true
        → length (filter p xs) < length (filter q xs)
    fewer [] x m fails passes = absurd m
    fewer (y ∷ ys) x (inl is) fails passes =
        new_step y (filter p ys) (filter q ys) (p y) (q y) (ap p (sym is) ∙ fails)
        (ap q (sym is) ∙ passes) (no_more ys)
    fewer (y ∷ ys) x (inr m) fails passes =
        strict_step y (filter p ys) (filter q ys) (p y) (q y) (wider y) (fewer ys x m fails passes)

-- ---- the documents by place

sorted_places : (es : Documents) → T (is_sorted place_cmp (by_place es))
sorted_places [] = tt
sorted_places (e ∷ es) =
    is_sorted-put place_cmp place_total (place_of e.1) e.1 (by_place es) (sorted_places es)

one_more : (b : Bool) (n : ℕ) → cond b n (n + 1) ≤ n + 1
one_more true n = omega arith
one_more false n = omega arith

as_many : (es : Documents) → length (by_place es) ≤ length es
as_many [] = omega arith
as_many (e ∷ es) =
    let rest = as_many es in
    let put =
    length-put place_cmp place_total (place_of e.1) e.1 (by_place es) (sorted_places es) in
    let more = one_more (is_some (find place_cmp (place_of e.1) (by_place es)))
    (length (by_place es)) in
    omega arith

-- ---- what stands above the end

queued_end : (e : Event) (q : Queue) → (queued e q).end ≡ Some e.place
queued_end e q =
    elim (nat_le max_queued (length q.events)) as (λ b. (cond b
    (queue_with [] true (Some e.place))
    (queue_with (q.events ++ e ∷ []) q.mark (Some e.place))).end ≡ Some e.place)
    [ true ↦ refl | false ↦ refl ]

module _ (m : Documents) (by_key : AreByKey m) where
  abbrev above : Option Place → List Stored
  above p = filter (stands_above p) (placed m)

  above_wider : (from : Option Place) (to : Place) → is_up_to to from ≡ false → (d : Stored)
      → stands_above (Some to) d ≡ true → stands_above from d ≡ true
  above_wider from to h d is =
      not-false _ (above_lower from to (place_of d) h
      (less_is (place_cmp to (place_of d)) is))

  fewer_above : (from : Option Place) (d : Stored)
      → Member d (page m (stands_above from) max_states)
      → length (above (Some (place_of d))) < length (above from)
  fewer_above from d h =
      let x =
      from_filter (stands_above from) (placed m) d (from_take max_states (above from) d h) in
      fewer (stands_above (Some (place_of d))) (stands_above from)
      (above_wider from (place_of d) (ap not x.1)) (placed m) d x.0
      (ap is_lt (tied_itself place_total (place_of d))) x.1

  event_by : (from : Option Place) (o : Option Stored) (e : Event)
      → last_or None (since m from max_states) ≡ o
      → option_map (λ d. record {
        from = from;
        states = map (λ (d : Stored). d.state) (since m from max_states);
        place = place_of d;
      }) o ≡ Some e → length (above (Some e.place)) < length (above from)
  event_by from None e is same = not_none same
  event_by from (Some d) e is same =
      let member : Member d (since m from max_states) =
      elim (last_member None (since m from max_states) d is)
      [ inl none ↦ not_none none | inr h ↦ h ] in
      subst (λ (e : Event). length (above (Some e.place)) < length (above from)) (some_same same)
      (fewer_above from d
      (subst (λ (ds : List Stored). Member d ds) (since-page m by_key from max_states) member))

  -- the place of an event is nearer to the last one than where it is from
  nearer : (from : Option Place) (e : Event) → next_event m from ≡ Some e
      → length (above (Some e.place)) < length (above from)
  nearer from e is = event_by from (last_or None (since m from max_states)) e refl is

  none_above : (from : Option Place) → length (above from) ≤ 0 → next_event m from ≡ None
  none_above from h =
      ap (event_with from)
      (since-page m by_key from max_states ∙ ap (take max_states) (no_items (above from) h))

  followed_ends : (n : ℕ) (q : Queue) → length (above q.end) ≤ n
      → next_event m (followed n m q).end ≡ None
  followed_ends zero q h = none_above q.end h
  followed_ends (suc n) q h =
      elim (next_event m q.end) as (λ o. next_event m q.end ≡ o
      → next_event m (option_map_or (λ e. followed n m (queued e q)) o q).end ≡ None) [
        | None ↦ (λ is. is)
        | Some e ↦ (λ is.
            let less = nearer q.end e is in
            followed_ends n (queued e q)
            (subst (λ (p : Option Place). length (above p) ≤ n) (sym (queued_end e q))
            (omega arith)))
      ] refl

  -- once a queue has followed, there is no next event
  pub follow_ends : (q : Queue) → next_event m (follow m q).end ≡ None
  follow_ends q =
      let one = length-filter (stands_above q.end) (placed m) in
      let two = length-map (by_place m) (λ e. e.1) in
      let three = as_many m in
      followed_ends (length m) q (omega arith)
