-- A document between two positions, and the cuts by its first values.
use Rattle.std.proofs.Common.{◌≡◌, inl, inr, ℕ, zero, suc, ◌+◌, ◌-◌, ◌<◌, ◌≤◌, Bool, true, false, not, ◌&&◌, List, [], ◌∷◌, ◌++◌, map, filter, length, get_or, reverse, slice_get, Option, Some, None, Less, refl, sym, ap, ◌∙◌, subst, arith, append-nil}
use Rattle.std.proofs.lemmas.Bool.{false≢true, and_parts, not-true}
use Rattle.std.proofs.lemmas.List.{map-append, length-map, length-reverse, get_or-reverse, reverse-append}
use Rattle.std.proofs.lemmas.List.Kept.{IsStrictlySortedBy-filter}
use Rattle.std.proofs.lemmas.List.Sorted.{IsPermutation-sym, IsPermutation-reverse}
use Rattle.std.proofs.lemmas.Option.{get_or_from_slice_get, slice_get_within}
use Rattle.std.specs.List.Sorted.{IsStrictlySortedBy}
use Rattle.std.specs.Map.{values_of}
use Rattle.std.specs.Ordering.{ordering_reverse, is_le, is_eq}
use Rattle.rx_value.specs.Named.{named}
use Rattle.rx_value.specs.declared.value.Value.{Value}
use Rattle.rx_value.specs.declared.value.Value.TheVariants.{Flag, Text}
use Rattle.rx_document.specs.Documents.{Documents}
use Rattle.rx_document.specs.declared.stored.Stored.{Stored}
use Rattle.rx_query.proofs.Sorting.{In, in-permutation}
use Rattle.rx_query.specs.QuerySpec.{QuerySpec}
use Rattle.rx_query.specs.Result.{IsCollection}
use Rattle.rx_index.proofs.Positions.{position_eq-Decides, bounds_enclose, id_of-key_of, itself}
use Rattle.rx_index.specs.Index.{Indexed, Holds, has_key, is_key_of, is_between, ids_between}
use Rattle.rx_index.specs.Ordered.{position_total}
use Rattle.rx_index.specs.Position.{Position, position_with, position_cmp, precedes, key_of, id_of}
use Rattle.rx_planner.specs.Plan.{Names, path_of}
use Rattle.rx_planner.specs.Way.{falls, turned, keys_next, keys_left, cut_at, cut_behind, IsPivot, IsCut, IsWay}
use Rattle.rx_planner.proofs.Costs.{keys_are, fewer_part, few_first, few_last, filter_twice, in_some}
use Rattle.rx_planner.proofs.Cuts.{le_through, before_le, other_way, low_cut, high_cut, low_of, high_of, longer_after, own_end}
use Rattle.rx_planner.proofs.Members.{in_filter, from_filter}
use Rattle.rx_planner.proofs.Runs.{named_in, carried_in, in_named, has_in, in_has}
use Rattle.rx_planner.proofs.Selected.{key_with}
use Rattle.rx_planner.proofs.Ways.{front_parts}

-- ---- the document of a key

pub in_slice : {X : Type 0} (xs : List X) (k : ℕ) (z : X) → slice_get xs k ≡ Some z → In z xs
in_slice [] k z at = absurd (cc)
in_slice (x ∷ xs) zero z at = inl (let same : x ≡ z = cc in sym same)
in_slice (x ∷ xs) (suc k) z at = inr (in_slice xs k z at)

in_turned : {X : Type 0} (desc : Bool) (xs : List X) (z : X) → In z (turned desc xs) → In z xs
in_turned true xs z i =
    in-permutation (reverse xs) xs z
    (IsPermutation-sym xs (reverse xs) (IsPermutation-reverse xs)) i
in_turned false xs z i = i

slice_map : {X Y : Type 0} (f : X → Y) (xs : List X) (k : ℕ) (z : Y)
    → slice_get (map f xs) k ≡ Some z
    → (x : X) × (slice_get xs k ≡ Some x) × (z ≡ f x)
slice_map f [] k z at = absurd (cc)
slice_map f (x ∷ xs) zero z at = (x, refl, (let same : f x ≡ z = cc in sym same))
slice_map f (x ∷ xs) (suc k) z at = slice_map f xs k z at

map_reverse : {X Y : Type 0} (f : X → Y) (xs : List X) → reverse (map f xs) ≡ map f (reverse xs)
map_reverse f [] = refl
map_reverse f (x ∷ xs) =
    reverse-append (f x ∷ []) (map f xs) ∙ ap (λ zs. zs ++ f x ∷ []) (map_reverse f xs)
    ∙ sym (ap (map f) (reverse-append (x ∷ []) xs) ∙ map-append f (reverse xs) (x ∷ []))

turned_map : {X Y : Type 0} (f : X → Y) (desc : Bool) (xs : List X)
    → turned desc (map f xs) ≡ map f (turned desc xs)
turned_map f true xs = map_reverse f xs
turned_map f false xs = refl

and_false : (b : Bool) → (b && false) ≡ false
and_false true = refl
and_false false = refl

past_end : {X : Type 0} (xs : List X) (k : ℕ) → slice_get xs k ≡ None → length xs ≤ k
past_end [] k none = omega arith
past_end (x ∷ xs) zero none = absurd (cc)
past_end (x ∷ xs) (suc k) none = let m = past_end xs k none in omega (arith, m)

pub none_left : {X : Type 0} (desc : Bool) (xs : List X) (k : ℕ)
    → slice_get (turned desc xs) k ≡ None → length xs ≤ k
none_left true xs k none =
    let l = length-reverse xs in
    let m = past_end (reverse xs) k none in omega (arith, l, m)
none_left false xs k none = past_end xs k none

module _ (documents : Documents) (index : Indexed) (held : Holds index documents)
    (low high : Position) (desc : Bool) (k : ℕ) (ids : List (List ℕ)) (id : List ℕ)
    (are : ids ≡ ids_between low high index.keys)
    (at : slice_get (turned desc ids) k ≡ Some id) where
  abbrev between : List Position
  between = filter (is_between low high) index.keys

  -- the key that is met
  its_key : (p : Position) × (slice_get (turned desc between) k ≡ Some p) × (id ≡ id_of p)
  its_key =
      slice_map id_of (turned desc between) k id
      (ap (λ xs. slice_get xs k) (sym (turned_map id_of desc between))
      ∙ ap (λ xs. slice_get (turned desc xs) k) (sym are) ∙ at)

  its_place : In its_key.0 index.keys × (is_between low high its_key.0 ≡ true)
  its_place =
      from_filter (is_between low high) index.keys its_key.0
      (in_turned desc between its_key.0 (in_slice (turned desc between) k its_key.0 its_key.1))

  kept : is_key_of index.fields (named documents id) its_key.0 ≡ true
  kept =
      ap (λ i. is_key_of index.fields (named documents i) its_key.0) its_key.2
      ∙ sym (held its_key.0 refl) ∙ has_in index.keys its_key.0 its_place.0

  pub never_none : named documents id ≡ None → ⊥
  never_none none =
      false≢true (ap (λ o. is_key_of index.fields o its_key.0) (sym none) ∙ kept)

  module _ (d : Stored) (is : named documents id ≡ Some d) where
    same : key_of index.fields d ≡ its_key.0
    same =
        (position_eq-Decides (key_of index.fields d) its_key.0).0
        (ap (λ o. is_key_of index.fields o its_key.0) (sym is) ∙ kept)

    pub is_pivot : IsPivot documents index low high d
    is_pivot = record {
      stored = ap (λ p. named documents (id_of p)) same ∙ ap (named documents) (sym its_key.2) ∙ is;
      is_key = ap (has_key index.keys) same ∙ has_in index.keys its_key.0 its_place.0;
      between = ap (is_between low high) same ∙ its_place.1;
    }

    -- ---- no more keys come before it

    abbrev key : Position
    key = key_of index.fields d

    abbrev end : Position
    end = position_with key.values true

    at_key : precedes low key ≡ true
    at_key =
        (and_parts (precedes low key) (not (precedes high key))
        (ap (is_between low high) same ∙ its_place.1)).0

    -- a later one is above it
    below_all : (p : Position) → position_cmp p key ≡ Less → precedes key p ≡ false
    below_all p less = ap is_le (position_total.antisymm key p ∙ ap ordering_reverse less)

    behind : precedes end key ≡ false
    behind =
        ap (λ vs. precedes end (position_with vs false)) (sym (append-nil key.values))
        ∙ bounds_enclose end []

    behind_all : (p : Position) → position_cmp p key ≡ Less → precedes end p ≡ false
    behind_all p less =
        (elim (precedes end p) as (λ b. precedes end p ≡ b → b ≡ false) [
          | true ↦ (λ is. absurd (false≢true (sym (below_all p less)
              ∙ le_through key end p (own_end key.values) is)))
          | false ↦ (λ _. refl)
        ]) refl

    few_met : (b : Bool) → IsStrictlySortedBy position_cmp between
        → slice_get (turned b between) k ≡ Some key
        → keys_next b index.keys low high (position_with key.values b) ≤ k
    few_met true up met =
        let within : k < length between =
        (let l = length-reverse between in let w = slice_get_within (reverse between) k key met in
        omega (arith, l, w)) in
        let m = length between - 1 - k in
        let it : get_or between m key ≡ key =
        sym (get_or-reverse between k key within)
        ∙ get_or_from_slice_get (reverse between) k key key met in
        let p = is_between end high in
        let all = keys_are index.keys end high in
        let twice = ap length (filter_twice p (is_between low high)
        (λ z h. let parts = and_parts (precedes end z) (not (precedes high z)) h in
        ap (λ b. b && not (precedes high z))
        (le_through low end z (le_through low key end at_key (own_end key.values)) parts.0)
        ∙ parts.1) index.keys) in
        let few = few_last p between m key (omega (arith, within)) up
        (ap p it ∙ ap (λ b. b && not (precedes high key)) behind)
        (λ z less. ap (λ b. b && not (precedes high z))
        (behind_all z (ap (position_cmp z) (sym it) ∙ less))) in
        omega (arith, all, twice, few, within)
    few_met false up met =
        let within : k < length between = slice_get_within between k key met in
        let it : get_or between k key ≡ key = get_or_from_slice_get between k key key met in
        let p = is_between low key in
        let all = keys_are index.keys low key in
        let high_key = other_way high key
        (not-true (precedes high key)
        (and_parts (precedes low key) (not (precedes high key))
        (ap (is_between low high) same ∙ its_place.1)).1) in
        let twice = ap length (filter_twice p (is_between low high)
        (λ z h. let parts = and_parts (precedes low z) (not (precedes key z)) h in
        ap (λ b. b && not (precedes high z)) parts.0
        ∙ ap not (before_le key high z high_key (not-true (precedes key z) parts.1))) index.keys) in
        let few = few_first p between k key within up
        (ap p it ∙ ap (λ o. precedes low key && not (is_le o)) (itself key)
        ∙ and_false (precedes low key))
        (λ z less. ap (λ o. precedes low z && not (is_le o))
        (ap (λ q. position_cmp q z) (sym it) ∙ less) ∙ and_false (precedes low z)) in
        omega (arith, all, twice, few)

    pub few_before : IsStrictlySortedBy position_cmp index.keys
        → keys_next desc index.keys low high (position_with key.values desc) ≤ k
    few_before up =
        few_met desc (IsStrictlySortedBy-filter position_cmp (is_between low high) index.keys up)
        (its_key.1 ∙ ap Some (sym same))

-- ---- the cuts by its first values

pub due_pivot : (q : QuerySpec) (documents : Documents) (index : Indexed)
    → IsCollection q.primary documents → Holds index documents → (low high : Position) (d : Stored)
    → In d (values_of documents) → is_between low high (key_of index.fields d) ≡ true
    → IsPivot documents index low high d
due_pivot q documents index collection held low high d i stands =
    let at = in_named documents collection.rising collection.keyed d i in
    let k = key_of index.fields d in
    let here : named documents (id_of k) ≡ Some d =
    ap (named documents) (id_of-key_of index.fields d) ∙ at in
    record {
      stored = here;
      is_key =
          held k refl ∙ ap (λ o. is_key_of index.fields o k) here
          ∙ ap (λ o. is_eq o) (itself k);
      between = stands;
    }

module _ (q : QuerySpec) (documents : Documents) (index : Indexed) (names : Names)
    (way : IsWay q documents index names) (low high : Position) (d : Stored)
    (pivot : IsPivot documents index low high d) where
  abbrev its : Position
  its = key_of index.fields d

  abbrev at : List ℕ → Option Value
  at f = named d.state.fields f

  abbrev pub values : List (Option Value)
  values = Some (Flag d.state.deleted) ∷ map at names

  carried : named d.state.fields q.primary ≡ Some (Text d.state.key)
  carried =
      carried_in q.primary documents way.collection.carried d
      (named_in documents (id_of its) d pivot.stored)

  -- its key begins with them
  pub begins : (rest : List (Option Value)) × (its ≡ position_with (values ++ rest) false)
  begins =
      let path = path_of q index.fields in
      let parts = front_parts q path in (
        map at parts.0,
        key_with q index.fields d carried
            ∙ ap (λ fs. position_with (Some (Flag d.state.deleted) ∷ map at fs) false)
            (parts.1 ∙ ap (λ fs. fs ++ parts.0) (sym way.front))
            ∙ ap (λ vs. position_with (Some (Flag d.state.deleted) ∷ vs) false)
            (map-append at names parts.0),
      )

  pub stands : (precedes low its ≡ true) × (precedes high its ≡ false)
  stands =
      let parts = and_parts (precedes low its) (not (precedes high its)) pivot.between in
      (parts.0, not-true (precedes high its) parts.1)

  pub long : length values ≡ length names + 1
  long = let many = length-map names at in omega (arith, many)

  -- it lies before a cut behind its values and behind one before them
  pub encloses : (b : Bool) → precedes (cut_at names b d) its ≡ not b
  encloses b =
      ap (precedes (cut_at names b d)) begins.1 ∙ bounds_enclose (cut_at names b d) begins.0

  module _ (low_long : length low.values ≤ length names + 1)
      (high_long : length high.values ≤ length names + 1) where
    pub above : (b : Bool) → precedes low (cut_at names b d) ≡ true
    above b =
        low_cut low.values low.after values begins.0 b (omega (arith, long, low_long))
        (ap (precedes low) (sym begins.1) ∙ stands.0)

    pub below : (b : Bool) → precedes (cut_at names b d) high ≡ true
    below b =
        high_cut high.values high.after values begins.0 b (omega (arith, long, high_long))
        (ap (precedes high) (sym begins.1) ∙ stands.1)

-- where nothing comes before the first values of one, no other one begins with nearer ones
none_nearer : (q : QuerySpec) (documents : Documents) (index : Indexed) (names : Names)
    (way : IsWay q documents index names) (low high : Position) (d e : Stored)
    → IsPivot documents index low high d → IsPivot documents index low high e → (b : Bool)
    → keys_next b index.keys low high (cut_at names b d) ≡ 0
    → keys_left b index.keys low high (cut_at names (not b) e)
    ≤ keys_left b index.keys low high (cut_at names (not b) d)
none_nearer q documents index names way low high d e pivot other true none =
    let near = cut_at names true d in
    let k = key_of index.fields e in
    let its = begins q documents index names way low high e other in
    let sides = stands q documents index names way low high e other in
    let before : precedes near k ≡ false =
    (elim (precedes near k) as (λ b. precedes near k ≡ b → b ≡ false) [
      | false ↦ (λ _. refl)
      | true ↦ (λ at.
          let many = keys_are index.keys near high in
          let some = in_some (filter (is_between near high) index.keys) k
          (in_filter (is_between near high) index.keys k (in_has index.keys k other.is_key)
          (ap (λ c. c && not (precedes high k)) at ∙ ap not sides.1)) in
          absurd (omega (arith, many, some, none)))
    ]) refl in
    let long_d = long q documents index names way low high d pivot in
    let long_e = long q documents index names way low high e other in
    (fewer_part index.keys low high (cut_at names false e) (cut_at names false d)
    (low_of near.values (cut_at names false e).values its.0 (omega (arith, long_d, long_e))
    (ap (precedes near) (sym its.1) ∙ before))).1
none_nearer q documents index names way low high d e pivot other false none =
    let near = cut_at names false d in
    let k = key_of index.fields e in
    let its = begins q documents index names way low high e other in
    let sides = stands q documents index names way low high e other in
    let at : precedes near k ≡ true =
    (elim (precedes near k) as (λ b. precedes near k ≡ b → b ≡ true) [
      | true ↦ (λ _. refl)
      | false ↦ (λ before.
          let many = keys_are index.keys low near in
          let some = in_some (filter (is_between low near) index.keys) k
          (in_filter (is_between low near) index.keys k (in_has index.keys k other.is_key)
          (ap (λ c. c && not (precedes near k)) sides.0 ∙ ap not before)) in
          absurd (omega (arith, many, some, none)))
    ]) refl in
    let long_d = long q documents index names way low high d pivot in
    let long_e = long q documents index names way low high e other in
    (fewer_part index.keys low high (cut_at names true d) (cut_at names true e)
    (high_of near.values (cut_at names true e).values its.0 (omega (arith, long_d, long_e))
    (ap (precedes near) (sym its.1) ∙ at))).0

module _ (q : QuerySpec) (documents : Documents) (index : Indexed) (names : Names)
    (way : IsWay q documents index names) (low high : Position) (d : Stored)
    (pivot : IsPivot documents index low high d)
    (low_long : length low.values ≤ length names + 1)
    (high_long : length high.values ≤ length names + 1) where
  abbrev key_is : Position
  key_is = key_of index.fields d

  -- a cut before its first values
  pub near_cut : (most : ℕ)
      → keys_next (falls q) index.keys low high (position_with key_is.values (falls q)) ≤ most
      → 0 < keys_next (falls q) index.keys low high (cut_at names (falls q) d)
      → IsCut q documents index names most low high (cut_at names (falls q) d)
  near_cut most few some = record {
    long = long q documents index names way low high d pivot;
    above = above q documents index names way low high d pivot low_long high_long (falls q);
    below = below q documents index names way low high d pivot low_long high_long (falls q);
    some = some;
    reach = inl (let less = fewer (falls q) in omega (arith, less, few));
  }
    where
      fewer : (b : Bool) → keys_next b index.keys low high (cut_at names b d)
          ≤ keys_next b index.keys low high (position_with key_is.values b)
      fewer true =
          (fewer_part index.keys low high (position_with key_is.values true) (cut_at names true d)
          (ap (λ (p : Position). precedes (position_with p.values true) (cut_at names true d))
          (begins q documents index names way low high d pivot).1
          ∙ longer_after (cut_at names true d).values
          (begins q documents index names way low high d pivot).0)).0
      fewer false =
          (fewer_part index.keys low high (cut_at names false d) (position_with key_is.values false)
          (encloses q documents index names way low high d pivot false)).1

  -- a cut behind them, where nothing comes before them
  pub far_cut : (most : ℕ) → keys_next (falls q) index.keys low high (cut_at names (falls q) d) ≡ 0
      → IsCut q documents index names most low high (cut_behind q names d)
  far_cut most none = record {
    long = long q documents index names way low high d pivot;
    above = above q documents index names way low high d pivot low_long high_long (not (falls q));
    below = below q documents index names way low high d pivot low_long high_long (not (falls q));
    some = in_next (falls q);
    reach = inr (λ e other.
        none_nearer q documents index names way low high d e pivot other (falls q) none);
  }
    where
      keyed : In key_is index.keys
      keyed = in_has index.keys key_is pivot.is_key

      in_next : (b : Bool) → 0 < keys_next b index.keys low high (cut_at names (not b) d)
      in_next true =
          let cut = cut_at names false d in
          let many = keys_are index.keys cut high in
          let some = in_some (filter (is_between cut high) index.keys) key_is
          (in_filter (is_between cut high) index.keys key_is keyed
          (ap (λ c. c && not (precedes high key_is)) (encloses q documents index names way low high
          d pivot false) ∙ ap not (stands q documents index names way low high d pivot).1)) in
          omega (arith, many, some)
      in_next false =
          let cut = cut_at names true d in
          let many = keys_are index.keys low cut in
          let some = in_some (filter (is_between low cut) index.keys) key_is
          (in_filter (is_between low cut) index.keys key_is keyed
          (ap (λ c. c && not (precedes cut key_is)) (stands q documents index names way low high d
          pivot).0 ∙ ap not (encloses q documents index names way low high d pivot true))) in
          omega (arith, many, some)

  module _ (most n : ℕ) (desc : Bool) (near : Position) (way_is : desc ≡ falls q)
      (at : near ≡ cut_at names desc d) (count : n ≡ keys_next desc index.keys low high near) where
    counted_so : n ≡ keys_next (falls q) index.keys low high (cut_at names (falls q) d)
    counted_so =
        let same = at ∙ ap (λ b. cut_at names b d) way_is in
        count ∙ (λ i. keys_next (way_is i) index.keys low high (same i))

    pub near_is : 0 < n
        → keys_next desc index.keys low high (position_with key_is.values desc) ≤ most
        → IsCut q documents index names most low high near
    near_is some few =
        subst (IsCut q documents index names most low high)
        (sym (at ∙ ap (λ b. cut_at names b d) way_is))
        (near_cut most
        (subst (λ b. keys_next b index.keys low high (position_with key_is.values b) ≤ most) way_is
        few)
        (subst (λ m. 0 < m) counted_so some))

    pub far_is : n ≤ 0 → (far : Position) → far ≡ cut_at names (not desc) d
        → IsCut q documents index names most low high far
    far_is none far is =
        let zero_so : n ≡ 0 = omega (arith, none) in
        subst (IsCut q documents index names most low high)
        (sym (is ∙ ap (λ b. cut_at names (not b) d) way_is))
        (far_cut most (sym counted_so ∙ zero_so))
