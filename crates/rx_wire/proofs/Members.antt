-- What is kept of members: those with a known name, and of the first other one the name.
use Rattle.std.proofs.Common.{◌≡◌, ℕ, Bool, true, false, true≢false, cond, not, ◌&&◌, ◌||◌, List, [], ◌∷◌, Option, Some, None, option_map, Ordering, Less, Equal, Greater, refl, sym, ap, ap₂, ◌∙◌}
use Rattle.std.proofs.lemmas.Slice.Eq.{bytes_eq-Decides}
use Rattle.std.specs.List.{AllByRecursion}
use Rattle.std.specs.Ordering.{match_ordering, ordering_reverse}
use Rattle.std.specs.Prelude.{⊤}
use Rattle.std.specs.Str.{bytes_eq}
use Rattle.serde_json.specs.Data.{Data, null, Members, no_members, member, put}
use Rattle.serde_json.specs.Find.{get_member}
use Rattle.rx_value.proofs.Outcomes.{some_same}
use Rattle.rx_value.proofs.Ordered.{text_total, text_ties}
use Rattle.rx_value.specs.Form.{is_among, members_unexpected}
use Rattle.rx_value.specs.Order.{text_cmp}
use Rattle.rx_schema.specs.declared.shape.Shape.{Shape}
use Rattle.rx_wire.specs.Kept.{is_known, below, kept, kept_members, known_members, lesser, with_name}

-- ---- members by rising name

-- every name is above this one
abbrev pub Above : List ℕ → Members → Type 0
Above k no_members = ⊤
Above k (member l d ms) = (text_cmp k l ≡ Less) × Above k ms

-- the names rise
abbrev pub Rising : Members → Type 0
Rising no_members = ⊤
Rising (member l d ms) = Above l ms × Rising ms

above_trans : (k l : List ℕ) (ms : Members) → text_cmp k l ≡ Less → Above l ms → Above k ms
above_trans k l no_members h a = tt
above_trans k l (member m d ms) h a = (text_total.trans k l m h a.0, above_trans k l ms h a.1)

flip : (k l : List ℕ) → text_cmp k l ≡ Greater → text_cmp l k ≡ Less
flip k l h = text_total.antisymm l k ∙ ap ordering_reverse h

flop : (k l : List ℕ) → text_cmp k l ≡ Less → text_cmp l k ≡ Greater
flop k l h = text_total.antisymm l k ∙ ap ordering_reverse h

above_put : (l k : List ℕ) (d : Data) (ms : Members) → text_cmp l k ≡ Less → Above l ms
    → Above l (put k d ms)
above_put l k d no_members h a = (h, tt)
above_put l k d (member m e ms) h a = by (text_cmp k m) (above_put l k d ms h a.1)
  where
    by : (o : Ordering) → Above l (put k d ms)
        → Above l (match_ordering o (member k d (member m e ms)) (member m d ms)
        (member m e (put k d ms)))
    by Less rest = (h, a)
    by Equal rest = a
    by Greater rest = (a.0, rest)

pub rising_put : (k : List ℕ) (d : Data) (ms : Members) → Rising ms → Rising (put k d ms)
rising_put k d no_members r = (tt, tt)
rising_put k d (member l e ms) r = by (text_cmp k l) refl (rising_put k d ms r.1)
  where
    by : (o : Ordering) → text_cmp k l ≡ o → Rising (put k d ms)
        → Rising (match_ordering o (member k d (member l e ms)) (member l d ms)
        (member l e (put k d ms)))
    by Less h rest = ((h, above_trans k l ms h r.0), r)
    by Equal h rest = r
    by Greater h rest = (above_put l k d ms (flip k l h) r.0, rest)

-- what is put below the others comes first
put_first : (k : List ℕ) (x : Data) (ms : Members) → Above k ms → put k x ms ≡ member k x ms
put_first k x no_members a = refl
put_first k x (member l e ms) a =
    ap (λ o. match_ordering o (member k x (member l e ms)) (member l x ms)
    (member l e (put k x ms))) a.0

-- and above the first one behind it
put_behind : (k l : List ℕ) (x e : Data) (ms : Members) → text_cmp k l ≡ Greater
    → put k x (member l e ms) ≡ member l e (put k x ms)
put_behind k l x e ms h =
    ap (λ o. match_ordering o (member k x (member l e ms)) (member l x ms)
    (member l e (put k x ms))) h

-- or in its place
put_there : (k l : List ℕ) (x e : Data) (ms : Members) → text_cmp k l ≡ Equal
    → put k x (member l e ms) ≡ member l x ms
put_there k l x e ms h =
    ap (λ o. match_ordering o (member k x (member l e ms)) (member l x ms)
    (member l e (put k x ms))) h

-- by the order of two names
by_order : {G : Type 0} (o : Ordering) → (o ≡ Less → G) → (o ≡ Equal → G) → (o ≡ Greater → G) → G
by_order Less a b c = a refl
by_order Equal a b c = b refl
by_order Greater a b c = c refl

-- by a test
pub by_test : {G : Type 0} (b : Bool) → (b ≡ true → G) → (b ≡ false → G) → G
by_test true x y = x refl
by_test false x y = y refl

module _ (s : Shape) (levels : ℕ) where
  abbrev value : List ℕ → Data → Data
  value k d = kept s (below levels k) d

  abbrev known : List ℕ → Bool
  known = is_known s levels

  abbrev only : Members → Members
  only = known_members s levels

  -- the first name that isn't known
  abbrev pub foreign : Members → Option (List ℕ)
  foreign no_members = None
  foreign (member k d ms) = cond (is_known s levels k) (foreign ms) (Some k)

  only_one : (k : List ℕ) (d : Data) (ms : Members) → known k ≡ true
      → only (member k d ms) ≡ member k (value k d) (only ms)
  only_one k d ms h = ap (λ b. cond b (member k (value k d) (only ms)) (only ms)) h

  only_more : (k : List ℕ) (d : Data) (ms : Members) → known k ≡ false
      → only (member k d ms) ≡ only ms
  only_more k d ms h = ap (λ b. cond b (member k (value k d) (only ms)) (only ms)) h

  pub kept_one : (k : List ℕ) (d : Data) (ms : Members) → known k ≡ true
      → kept_members s levels (member k d ms)
      ≡ member k (value k d) (kept_members s levels ms)
  kept_one k d ms h =
      ap (λ b. cond b (member k (value k d) (kept_members s levels ms)) (member k null (only ms))) h

  pub kept_more : (k : List ℕ) (d : Data) (ms : Members) → known k ≡ false
      → kept_members s levels (member k d ms) ≡ member k null (only ms)
  kept_more k d ms h =
      ap (λ b. cond b (member k (value k d) (kept_members s levels ms)) (member k null (only ms))) h

  pub foreign_more : (k : List ℕ) (d : Data) (ms : Members) → known k ≡ true
      → foreign (member k d ms) ≡ foreign ms
  foreign_more k d ms h = ap (λ b. cond b (foreign ms) (Some k)) h

  pub foreign_one : (k : List ℕ) (d : Data) (ms : Members) → known k ≡ false
      → foreign (member k d ms) ≡ Some k
  foreign_one k d ms h = ap (λ b. cond b (foreign ms) (Some k)) h

  only_above : (k : List ℕ) (ms : Members) → Above k ms → Above k (only ms)
  only_above k no_members a = tt
  only_above k (member l d ms) a = by (known l) (only_above k ms a.1)
    where
      by : (b : Bool) → Above k (only ms)
          → Above k (cond b (member l (value l d) (only ms)) (only ms))
      by true rest = (a.0, rest)
      by false rest = rest

  -- a known member is kept
  pub only_known : (k : List ℕ) (d : Data) (ms : Members) → known k ≡ true → Rising ms
      → only (put k d ms) ≡ put k (value k d) (only ms)
  only_known k d no_members h r = only_one k d no_members h
  only_known k d (member l e ms) h r =
      by_order (text_cmp k l)
      (λ o. ap only (put_first k d (member l e ms) (o, above_trans k l ms o r.0))
      ∙ only_one k d (member l e ms) h
      ∙ sym (put_first k (value k d) (only (member l e ms))
      (only_above k (member l e ms) (o, above_trans k l ms o r.0))))
      (λ o.
      let same : k ≡ l = text_ties k l o in
      let there : known l ≡ true = sym (ap known same) ∙ h in
      ap only (put_there k l d e ms o) ∙ only_one l d ms there
      ∙ ap (λ n. member l (value n d) (only ms)) (sym same)
      ∙ sym (put_there k l (value k d) (value l e) (only ms) o)
      ∙ ap (put k (value k d)) (sym (only_one l e ms there)))
      (λ o. ap only (put_behind k l d e ms o)
      ∙ by_test (known l)
      (λ there. only_one l e (put k d ms) there
      ∙ ap (member l (value l e)) (only_known k d ms h r.1)
      ∙ sym (put_behind k l (value k d) (value l e) (only ms) o)
      ∙ ap (put k (value k d)) (sym (only_one l e ms there)))
      (λ not. only_more l e (put k d ms) not ∙ only_known k d ms h r.1
      ∙ ap (put k (value k d)) (sym (only_more l e ms not))))

  -- another one isn't
  pub only_foreign : (k : List ℕ) (d : Data) (ms : Members) → known k ≡ false
      → Rising ms → only (put k d ms) ≡ only ms
  only_foreign k d no_members h r = only_more k d no_members h
  only_foreign k d (member l e ms) h r =
      by_order (text_cmp k l)
      (λ o. ap only (put_first k d (member l e ms) (o, above_trans k l ms o r.0))
      ∙ only_more k d (member l e ms) h)
      (λ o.
      let none : known l ≡ false = sym (ap known (text_ties k l o)) ∙ h in
      ap only (put_there k l d e ms o) ∙ only_more l d ms none ∙ sym (only_more l e ms none))
      (λ o. ap only (put_behind k l d e ms o)
      ∙ by_test (known l)
      (λ there. only_one l e (put k d ms) there
      ∙ ap (member l (value l e)) (only_foreign k d ms h r.1) ∙ sym (only_one l e ms there))
      (λ not. only_more l e (put k d ms) not ∙ only_foreign k d ms h r.1
      ∙ sym (only_more l e ms not)))

  -- a known name leaves the first other one
  pub foreign_known : (k : List ℕ) (d : Data) (ms : Members) → known k ≡ true → Rising ms
      → foreign (put k d ms) ≡ foreign ms
  foreign_known k d no_members h r = foreign_more k d no_members h
  foreign_known k d (member l e ms) h r =
      by_order (text_cmp k l)
      (λ o. ap foreign (put_first k d (member l e ms) (o, above_trans k l ms o r.0))
      ∙ foreign_more k d (member l e ms) h)
      (λ o.
      let there : known l ≡ true = sym (ap known (text_ties k l o)) ∙ h in
      ap foreign (put_there k l d e ms o) ∙ foreign_more l d ms there
      ∙ sym (foreign_more l e ms there))
      (λ o. ap foreign (put_behind k l d e ms o)
      ∙ by_test (known l)
      (λ there. foreign_more l e (put k d ms) there ∙ foreign_known k d ms h r.1
      ∙ sym (foreign_more l e ms there))
      (λ not. foreign_one l e (put k d ms) not ∙ sym (foreign_one l e ms not)))

  lesser_above : (k : List ℕ) (ms : Members) → Above k ms → lesser k (foreign ms) ≡ k
  lesser_above k no_members a = refl
  lesser_above k (member l e ms) a =
      by_test (known l)
      (λ there. ap (lesser k) (foreign_more l e ms there) ∙ lesser_above k ms a.1)
      (λ not. ap (lesser k) (foreign_one l e ms not)
      ∙ ap (λ o. match_ordering o k l l) a.0)

  -- and another one comes first where it is below
  pub foreign_foreign : (k : List ℕ) (d : Data) (ms : Members) → known k ≡ false → Rising ms
      → foreign (put k d ms) ≡ Some (lesser k (foreign ms))
  foreign_foreign k d no_members h r = foreign_one k d no_members h
  foreign_foreign k d (member l e ms) h r =
      by_order (text_cmp k l)
      (λ o.
      let above : Above k (member l e ms) = (o, above_trans k l ms o r.0) in
      ap foreign (put_first k d (member l e ms) above) ∙ foreign_one k d (member l e ms) h
      ∙ ap Some (sym (lesser_above k (member l e ms) above)))
      (λ o.
      let none : known l ≡ false = sym (ap known (text_ties k l o)) ∙ h in
      ap foreign (put_there k l d e ms o) ∙ foreign_one l d ms none
      ∙ ap Some (sym (ap (lesser k) (foreign_one l e ms none)
      ∙ ap (λ o. match_ordering o k l l) o)))
      (λ o. ap foreign (put_behind k l d e ms o)
      ∙ by_test (known l)
      (λ there. foreign_more l e (put k d ms) there ∙ foreign_foreign k d ms h r.1
      ∙ ap (λ f. Some (lesser k f)) (sym (foreign_more l e ms there)))
      (λ not. foreign_one l e (put k d ms) not
      ∙ ap Some (sym (ap (lesser k) (foreign_one l e ms not)
      ∙ ap (λ o. match_ordering o k l l) o))))

  foreign_above : (l k : List ℕ) (ms : Members) → Above l ms → foreign ms ≡ Some k
      → text_cmp l k ≡ Less
  foreign_above l k no_members a h = cc
  foreign_above l k (member m e ms) a h =
      by_test (known m)
      (λ there. foreign_above l k ms a.1 (sym (foreign_more m e ms there) ∙ h))
      (λ not.
      let same : m ≡ k = some_same (sym (foreign_one m e ms not) ∙ h) in
      ap (text_cmp l) (sym same) ∙ a.0)

  -- what is kept is what is known, and the first other name
  pub kept_is : (ms : Members) → Rising ms
      → with_name (foreign ms) (only ms) ≡ kept_members s levels ms
  kept_is no_members r = refl
  kept_is (member l e ms) r =
      by_test (known l)
      (λ there. ap₂ with_name (foreign_more l e ms there) (only_one l e ms there)
      ∙ behind (foreign ms) refl
      ∙ ap (member l (value l e)) (kept_is ms r.1)
      ∙ sym (ap (λ b. cond b (member l (value l e) (kept_members s levels ms))
      (member l null (only ms))) there))
      (λ not. ap₂ with_name (foreign_one l e ms not) (only_more l e ms not)
      ∙ put_first l null (only ms) (only_above l ms r.0)
      ∙ sym (ap (λ b. cond b (member l (value l e) (kept_members s levels ms))
      (member l null (only ms))) not))
    where
      behind : (f : Option (List ℕ)) → foreign ms ≡ f
          → with_name f (member l (value l e) (only ms))
          ≡ member l (value l e) (with_name f (only ms))
      behind None h = refl
      behind (Some k) h =
          put_behind k l null (value l e) (only ms) (flop l k (foreign_above l k ms r.0 h))

  -- ---- look-ups

  get_there : (k l : List ℕ) (d e : Data) (ms ns : Members) → known k ≡ true
      → get_member k ns ≡ option_map (value k) (get_member k ms)
      → e ≡ value l d
      → get_member k (member l e ns) ≡ option_map (value k) (get_member k (member l d ms))
  get_there k l d e ms ns h rest is = by (text_cmp k l) refl
    where
      by : (o : Ordering) → text_cmp k l ≡ o
          → match_ordering o (get_member k ns) (Some e) (get_member k ns)
          ≡ option_map (value k)
          (match_ordering o (get_member k ms) (Some d) (get_member k ms))
      by Less o = rest
      by Equal o = ap Some (is ∙ ap (λ n. value n d) (sym (text_ties k l o)))
      by Greater o = rest

  get_past : (k l : List ℕ) (d : Data) (ms : Members) → known k ≡ true → known l ≡ false
      → get_member k (member l d ms) ≡ get_member k ms
  get_past k l d ms h not = by (text_cmp k l) refl
    where
      by : (o : Ordering) → text_cmp k l ≡ o
          → match_ordering o (get_member k ms) (Some d) (get_member k ms) ≡ get_member k ms
      by Less o = refl
      by Equal o = absurd (true≢false (sym h ∙ ap known (text_ties k l o) ∙ not))
      by Greater o = refl

  get_only : (k : List ℕ) (ms : Members) → known k ≡ true
      → get_member k (only ms) ≡ option_map (value k) (get_member k ms)
  get_only k no_members h = refl
  get_only k (member l d ms) h =
      by_test (known l)
      (λ there. ap (get_member k) (only_one l d ms there)
      ∙ get_there k l d (value l d) ms (only ms) h (get_only k ms h) refl)
      (λ not. ap (get_member k) (only_more l d ms not) ∙ get_only k ms h
      ∙ ap (option_map (value k)) (sym (get_past k l d ms h not)))

  -- a known name leads to what is kept of its value
  pub get_known : (k : List ℕ) (ms : Members) → known k ≡ true
      → get_member k (kept_members s levels ms) ≡ option_map (value k) (get_member k ms)
  get_known k no_members h = refl
  get_known k (member l d ms) h =
      by_test (known l)
      (λ there. ap (get_member k) (kept_one l d ms there)
      ∙ get_there k l d (value l d) ms (kept_members s levels ms) h (get_known k ms h) refl)
      (λ not. ap (get_member k) (kept_more l d ms not)
      ∙ get_past k l null (only ms) h not ∙ get_only k ms h
      ∙ ap (option_map (value k)) (sym (get_past k l d ms h not)))

  -- names that are known
  abbrev pub AreKnown : List (List ℕ) → Type 0
  AreKnown = AllByRecursion (λ k. is_known s levels k ≡ true)

  among_known : (names : List (List ℕ)) (k : List ℕ) → AreKnown names → is_among names k ≡ true
      → known k ≡ true
  among_known [] k all h = absurd (true≢false (sym h))
  among_known (name ∷ names) k all h =
      by (bytes_eq name k) refl h (among_known names k all.1)
    where
      by : (b : Bool) → bytes_eq name k ≡ b → (b || is_among names k) ≡ true
          → (is_among names k ≡ true → known k ≡ true) → known k ≡ true
      by true e i rest = ap known (sym ((bytes_eq-Decides name k).0 e)) ∙ all.0
      by false e i rest = rest i

  -- the first unexpected member is the same
  pub unexpected_known : (needed optional : List (List ℕ)) (ms : Members)
      → AreKnown needed → AreKnown optional
      → members_unexpected needed optional (kept_members s levels ms)
      ≡ members_unexpected needed optional ms
  unexpected_known needed optional no_members h g = refl
  unexpected_known needed optional (member l d ms) h g =
      by_test (known l)
      (λ there. ap (members_unexpected needed optional) (kept_one l d ms there)
      ∙ ap (λ o. cond (not (is_among needed l) && not (is_among optional l)) (Some l) o)
      (unexpected_known needed optional ms h g))
      (λ none. ap (members_unexpected needed optional) (kept_more l d ms none)
      ∙ stranger (is_among needed l) (is_among optional l) none (among_known needed l h)
      (among_known optional l g) _ _)
    where
      stranger : (a b : Bool) → known l ≡ false → (a ≡ true → known l ≡ true)
          → (b ≡ true → known l ≡ true) → (o p : Option (List ℕ))
          → cond (not a && not b) (Some l) o ≡ cond (not a && not b) (Some l) p
      stranger true b none h g o p = absurd (true≢false (sym (h refl) ∙ none))
      stranger false true none h g o p = absurd (true≢false (sym (g refl) ∙ none))
      stranger false false none h g o p = refl

  -- the first other name is kept
  pub foreign_kept : (ms : Members) → foreign (kept_members s levels ms) ≡ foreign ms
  foreign_kept no_members = refl
  foreign_kept (member l d ms) =
      by_test (known l)
      (λ there. ap foreign (kept_one l d ms there)
      ∙ foreign_more l (value l d) (kept_members s levels ms) there ∙ foreign_kept ms
      ∙ sym (foreign_more l d ms there))
      (λ none. ap foreign (kept_more l d ms none) ∙ foreign_one l null (only ms) none
      ∙ sym (foreign_one l d ms none))

  -- ---- a turn

  -- one more member is kept where its name is known
  pub one_kept : (k : List ℕ) (d : Data) (old found : Members) (e : Data) (b : Bool)
      (new : Members) → b ≡ known k → found ≡ only old → Rising old → e ≡ value k d
      → new ≡ cond b (put k e found) found → new ≡ only (put k d old)
  one_kept k d old found e true new is so_far r h after =
      after ∙ ap₂ (put k) h so_far ∙ sym (only_known k d old (sym is) r)
  one_kept k d old found e false new is so_far r h after =
      after ∙ so_far ∙ sym (only_foreign k d old (sym is) r)

  -- or it may be the first other name
  pub one_other : (k : List ℕ) (d : Data) (old : Members) (other : Option (List ℕ)) (b : Bool)
      (new : Option (List ℕ)) → b ≡ known k → other ≡ foreign old → Rising old
      → new ≡ cond b other (Some (lesser k other)) → new ≡ foreign (put k d old)
  one_other k d old other true new is so_far r after =
      after ∙ so_far ∙ sym (foreign_known k d old (sym is) r)
  one_other k d old other false new is so_far r after =
      after ∙ ap (λ o. Some (lesser k o)) so_far ∙ sym (foreign_foreign k d old (sym is) r)

  -- at the end it is put among the members
  pub all_kept : (old found : Members) (other : Option (List ℕ)) (new : Members)
      → found ≡ only old → other ≡ foreign old → Rising old → new ≡ with_name other found
      → new ≡ kept_members s levels old
  all_kept old found other new so_far first r after =
      after ∙ ap₂ with_name first so_far ∙ kept_is old r
