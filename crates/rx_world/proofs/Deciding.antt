-- Tests that decide whether replications are sound.
use Rattle.std.proofs.Common.{◌≡◌, ◌↔◌, ℕ, ◌||◌, not, Bool, true, false, true≢false, cond, List, [], ◌∷◌, Option, Some, is_some, String, Global, refl, sym, ap, ◌∙◌, inl, inr, subst}
use Rattle.std.proofs.lemmas.Bool.{and_parts, or_cases, or_left, or_right, not-true}
use Rattle.std.specs.Bool.{Decides}
use Rattle.std.specs.Cmp.Derive.{both_true}
use Rattle.std.specs.List.{AllByRecursion, list_all, list_any}
use Rattle.std.specs.Map.{values_of}
use Rattle.std.specs.Ordering.{is_lt}
use Rattle.std.specs.Str.{bytes_eq}
use Rattle.rx_value.specs.Named.{named, by_bytes, AreRising}
use Rattle.rx_value.specs.declared.state.State.{State}
use Rattle.rx_value.proofs.Outcomes.{some_is, not_none}
use Rattle.rx_document.specs.Documents.{Documents}
use Rattle.rx_document.specs.Place.{place_cmp}
use Rattle.rx_document.specs.declared.place.Place.{Place}
use Rattle.rx_document.specs.declared.stored.Stored.{Stored}
use Rattle.rx_collection.specs.Held.{Held}
use Rattle.rx_collection.specs.Lawful.{IsLawful}
use Rattle.rx_collection.specs.Since.{place_of}
use Rattle.rx_collection.proofs.Named.{at_name, all_named}
use Rattle.rx_meta.specs.Side.{AreKnownByKey}
use Rattle.rx_replication.specs.Known.{KnownStates, is_state}
use Rattle.rx_replication.specs.Sound.{AreKnownUpTo, HoldKnown, IsSoundSide, Reach}
use Rattle.rx_replication.proofs.Commits.{lawful-by_key, key_at}
use Rattle.rx_replication.proofs.Orders.{is_state-some, is_state-itself}

-- ---- tests of all things, and of one of them

module _ {X : Type 0} (test : X → Bool) where
  passes_all : (es : List (List ℕ × X)) → AllByRecursion (λ e. test e.1 ≡ true) es
      → list_all test (values_of es) ≡ true
  passes_all [] all = refl
  passes_all (e ∷ es) all = both_true all.0 (passes_all es all.1)

  all_pass : (es : List (List ℕ × X)) → list_all test (values_of es) ≡ true
      → AllByRecursion (λ e. test e.1 ≡ true) es
  all_pass [] is = tt
  all_pass (e ∷ es) is =
      let both = and_parts (test e.1) (list_all test (values_of es)) is in
      (both.0, all_pass es both.1)

  -- what passes as a whole is what is named
  named_pass : (es : List (List ℕ × X)) → list_all test (values_of es) ≡ true → (k : List ℕ) (x : X)
      → named es k ≡ Some x → test x ≡ true
  named_pass es is k x at = at_name (λ k x. test x ≡ true) es k x (all_pass es is) at

  each_pass : (es : List (List ℕ × X)) → AreRising es
      → ((k : List ℕ) (x : X) → named es k ≡ Some x → test x ≡ true)
      → list_all test (values_of es) ≡ true
  each_pass es rising each = passes_all es (all_named (λ k x. test x ≡ true) es rising each)

  named_any : (es : List (List ℕ × X)) (k : List ℕ) (x : X) → named es k ≡ Some x → test x ≡ true
      → list_any test (values_of es) ≡ true
  named_any [] k x at is = not_none at
  named_any (e ∷ es) k x at is =
      elim (bytes_eq k e.0) as (λ b. cond b (Some e.1) (named es k) ≡ Some x
      → list_any test (values_of (e ∷ es)) ≡ true) [
        | true ↦ (λ here.
            let same : e.1 ≡ x = cc in
            or_left (test e.1) (list_any test (values_of es)) (ap test same ∙ is))
        | false ↦ (λ there.
            or_right (test e.1) (list_any test (values_of es)) (named_any es k x there is))
      ] at

-- what passes among rising things is named
module _ {X : Type 0} (test : X → Bool) where
  any_named : (es : List (List ℕ × X)) → AreRising es → list_any test (values_of es) ≡ true
      → (k : List ℕ) × (x : X) × (named es k ≡ Some x) × (test x ≡ true)
  any_named es rising is =
      find_in es (λ k x at. at) (all_named (λ k x. named es k ≡ Some x) es rising (λ k x at. at)) is
    where
      find_in : (fs : List (List ℕ × X))
          → ((k : List ℕ) (x : X) → named es k ≡ Some x → named es k ≡ Some x)
          → AllByRecursion (λ e. named es e.0 ≡ Some e.1) fs → list_any test (values_of fs) ≡ true
          → (k : List ℕ) × (x : X) × (named es k ≡ Some x) × (test x ≡ true)
      find_in [] same all is = absurd (true≢false (sym is))
      find_in (f ∷ fs) same all is =
          elim (or_cases (test f.1) (list_any test (values_of fs)) is) [
            | inl here ↦ (f.0, f.1, all.0, here)
            | inr there ↦ find_in fs same all.1 there
          ]

-- ---- a side

-- each known key is held
pub decides_held : (c : Held) (known : KnownStates) → AreKnownByKey known → (b : Bool)
    → b ≡ list_all (λ (s : State). is_some (named c.documents s.key)) (values_of known)
    → Decides b (HoldKnown c.documents known)
decides_held c known by_key b is = (
  λ yes. λ k s at.
      let own : s.key ≡ k = at_name (λ k s. s.key ≡ k) known k s by_key.keyed at in
      let there = some_is (named c.documents s.key)
      (named_pass (λ (s : State). is_some (named c.documents s.key)) known (sym is ∙ yes) k s at) in
      (there.0, ap (named c.documents) (sym own) ∙ there.1),
  λ holds. is
      ∙ each_pass (λ (s : State). is_some (named c.documents s.key)) known by_key.rising (λ k s at.
      let own : s.key ≡ k = at_name (λ k s. s.key ≡ k) known k s by_key.keyed at in
      let there = holds k s at in
      ap (λ o. is_some o) (ap (named c.documents) own ∙ there.1)),
)

-- a place isn't above the last one
pub decides_reach : (c : Held) → IsLawful c → (p : Place) (b : Bool)
    → b ≡ list_any (λ (d : Stored). not (is_lt (place_cmp (place_of d) p))) (values_of c.documents)
    → Decides b (Reach c.documents (Some p))
decides_reach c lawful p b is = (
  λ yes. any_named (λ (d : Stored). not (is_lt (place_cmp (place_of d) p))) c.documents
      lawful.rising (sym is ∙ yes),
  λ reach. is ∙ named_any (λ (d : Stored). not (is_lt (place_cmp (place_of d) p))) c.documents
      reach.0 reach.1 reach.2 reach.3,
)

-- each document at or below a place is known
pub decides_known : (c : Held) → IsLawful c → (known : KnownStates) (p : Place) (b : Bool)
    → b ≡ list_all (λ (d : Stored).
    is_lt (place_cmp p (place_of d)) || is_state (named known d.state.key) d.state)
    (values_of c.documents)
    → Decides b (AreKnownUpTo c.documents known (Some p))
decides_known c lawful known p b is = (
  λ yes. λ k d at below.
      let own : d.state.key ≡ k = key_at c.documents k d (lawful-by_key c lawful) at in
      let above : is_lt (place_cmp p (place_of d)) ≡ false =
      not-true (is_lt (place_cmp p (place_of d))) below in
      elim (or_cases (is_lt (place_cmp p (place_of d))) (is_state (named known d.state.key) d.state)
      (named_pass test c.documents (sym is ∙ yes) k d at)) [
        | inl over ↦ absurd (true≢false (sym over ∙ above))
        | inr same ↦ ap (named known) (sym own)
            ∙ is_state-some (named known d.state.key) d.state same
      ],
  λ settled. is ∙ each_pass test c.documents lawful.rising (λ k d at.
      let own : d.state.key ≡ k = key_at c.documents k d (lawful-by_key c lawful) at in
      elim (is_lt (place_cmp p (place_of d))) as (λ b. is_lt (place_cmp p (place_of d)) ≡ b
      → (b || is_state (named known d.state.key) d.state) ≡ true) [
        | true ↦ (λ over. refl)
        | false ↦ (λ below. is_state-itself (named known d.state.key) d.state
            (ap (named known) own ∙ settled k d at (ap not below)))
      ] refl),
)
  where
    test : Stored → Bool
    test d = is_lt (place_cmp p (place_of d)) || is_state (named known d.state.key) d.state

-- one with a checkpoint that isn't above the last place
pub decides_some : (documents : Documents) (known : KnownStates) (p : Place)
    (o : Option Place) (b : Bool)
    → o ≡ Some p → HoldKnown documents known → Reach documents (Some p)
    → Decides b (AreKnownUpTo documents known (Some p)) → Decides b (IsSoundSide documents known o)
decides_some documents known p o b is holds reached settled =
    subst (λ x. Decides b (IsSoundSide documents known x)) (sym is) (
      λ yes. record { settled = settled.0 yes; holds = holds; reached = reached },
      λ side. settled.1 side.settled,
    )

-- ---- replications by name

-- one that is sound, or isn't, in front of others
pub turn_sound : {X : Type 0} (P : X → Type 0) (it all : List X) (x : X) (rest : List X)
    → it ≡ x ∷ rest → P x
    → (AllByRecursion P it ↔ AllByRecursion P all) → AllByRecursion P rest ↔ AllByRecursion P all
turn_sound P it all x rest is here so = (
  λ each. so.0 (subst (AllByRecursion P) (sym is) (here, each)),
  λ each. (subst (AllByRecursion P) is (so.1 each)).1,
)

pub turn_not : {X : Type 0} (P : X → Type 0) (it all : List X) (x : X) (rest : List X)
    → it ≡ x ∷ rest → (P x → ⊥)
    → (AllByRecursion P it ↔ AllByRecursion P all) → AllByRecursion P all → ⊥
turn_not P it all x rest is not so each = not (subst (AllByRecursion P) is (so.1 each)).0

pub turn_ended : {X : Type 0} (P : X → Type 0) (it all : List X) → it ≡ []
    → (AllByRecursion P it ↔ AllByRecursion P all) → AllByRecursion P all
turn_ended P it all is so = so.0 (subst (AllByRecursion P) (sym is) tt)

pub all_by_bytes : {X : Type 0} (P : X → Type 0) (es : List (String Global × X))
    → AllByRecursion P (values_of es) ↔ AllByRecursion (λ e. P e.1) (by_bytes es)
all_by_bytes P [] = (λ all. tt, λ all. tt)
all_by_bytes P (e ∷ es) =
    let rest = all_by_bytes P es in
    (λ all. (all.0, rest.0 all.1), λ all. (all.0, rest.1 all.1))
