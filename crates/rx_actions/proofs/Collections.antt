-- The matching rows in order, of a collection and of its documents without one key.
use Rattle.std.proofs.Common.{◌≡◌, Bool, true, false, not, cond, List, [], ◌∷◌, filter, refl, sym, ap, ◌∙◌, subst, Option, Some, None}
use Rattle.std.proofs.lemmas.Bool.{false≢true, cond_both}
use Rattle.std.specs.List.{AllByRecursion}
use Rattle.rx_value.proofs.Lists.{all_passed}
use Rattle.rx_query.specs.Lists.{insert_in_order, sorted}
use Rattle.rx_actions.proofs.Changes.{Query, Keys, has_key, held, others_of, IsCollection, IsLawful}
use Rattle.rx_actions.proofs.Ranks.{Ordered, NoneIs, Stands}
use Rattle.rx_actions.proofs.Readings.{Others}

-- what holds of each row holds of each kept row, and of the rows in order
module _ {X : Type 0} (P : X → Type 0) where
  -- with one more
  pub all-placed : (before : X → X → Bool) (x : X) (xs : List X) → P x → AllByRecursion P xs
      → AllByRecursion P (insert_in_order before x xs)
  all-placed before x [] h all = (h, tt)
  all-placed before x (y ∷ ys) h all =
      cond_both (before x y) (x ∷ y ∷ ys) (y ∷ insert_in_order before x ys) (AllByRecursion P)
      (λ _. (h, all)) (λ _. (all.0, all-placed before x ys h all.1))

  -- in another order
  pub all-sorted : (before : X → X → Bool) (xs : List X) → AllByRecursion P xs
      → AllByRecursion P (sorted before xs)
  all-sorted before [] h = tt
  all-sorted before (x ∷ xs) h = all-placed before x (sorted before xs) h.0
      (all-sorted before xs h.1)

module _ {X : Type 0} (before : X → X → Bool)
    (trans : (x y z : X) → before x y ≡ true → before y z ≡ true → before x z ≡ true) where
  -- of two rows just one precedes the other
  abbrev pub Apart : X → X → Type 0
  Apart x y = before y x ≡ not (before x y)

  -- what precedes a row precedes all that this precedes
  precedes_all : (x y : X) (ys : List X) → before x y ≡ true
      → AllByRecursion (λ z. before y z ≡ true) ys → AllByRecursion (λ z. before x z ≡ true) ys
  precedes_all x y [] h all = tt
  precedes_all x y (z ∷ zs) h all = (trans x y z h all.0, precedes_all x y zs h all.1)

  -- a row put in its place leaves the rows in order
  pub ordered-placed : (x : X) (xs : List X) → AllByRecursion (Apart x) xs → Ordered before xs
      → Ordered before (insert_in_order before x xs)
  ordered-placed x [] apart up = (tt, tt)
  ordered-placed x (y ∷ ys) apart up =
      cond_both (before x y) (x ∷ y ∷ ys) (y ∷ insert_in_order before x ys) (Ordered before)
      (λ e. ((e, precedes_all x y ys e up.0), up))
      (λ e. (
        all-placed (λ z. before y z ≡ true) before x ys (apart.0 ∙ ap not e) up.0,
        ordered-placed x ys apart.1 up.1,
      ))

  -- two rows may go in in either order
  pub placed-placed : (x y : X) (xs : List X) → Apart x y
      → insert_in_order before x (insert_in_order before y xs)
      ≡ insert_in_order before y (insert_in_order before x xs)
  placed-placed x y [] apart =
      (elim (before x y) as (λ b. before y x ≡ not b
      → cond b (x ∷ y ∷ []) (y ∷ x ∷ []) ≡ cond (before y x) (y ∷ x ∷ []) (x ∷ y ∷ []))
      [ true ↦ (λ e. rw e refl) | false ↦ (λ e. rw e refl) ]) apart
  placed-placed x y (z ∷ zs) apart = go (before x y) (before x z) (before y z) refl refl refl
      (placed-placed x y zs apart)
    where
      go : (a b c : Bool) → before x y ≡ a → before x z ≡ b → before y z ≡ c
          → insert_in_order before x (insert_in_order before y zs)
          ≡ insert_in_order before y (insert_in_order before x zs)
          → insert_in_order before x (insert_in_order before y (z ∷ zs))
          ≡ insert_in_order before y (insert_in_order before x (z ∷ zs))
      go true true true p q r ih = simp (apart, p, q, r)
      go true true false p q r ih = simp (apart, p, q, r)
      go true false true p q r ih = absurd (false≢true (sym q ∙ trans x y z p r))
      go true false false p q r ih = simp (apart, p, q, r, ih)
      go false true true p q r ih = simp (apart, p, q, r)
      go false true false p q r ih = absurd (false≢true (sym r ∙ trans y x z (apart ∙ ap not p) q))
      go false false true p q r ih = simp (apart, p, q, r)
      go false false false p q r ih = simp (apart, p, q, r, ih)

  -- the rows of a list whose keys differ are in order
  abbrev pub EachApart : List X → Type 0
  EachApart [] = Unit {0}
  EachApart (x ∷ xs) = AllByRecursion (Apart x) xs × EachApart xs

  -- so are all rows put in their places
  pub ordered-sorted : (xs : List X) → EachApart xs → Ordered before (sorted before xs)
  ordered-sorted [] h = tt
  ordered-sorted (x ∷ xs) h = ordered-placed x (sorted before xs)
      (all-sorted (Apart x) before xs h.0) (ordered-sorted xs h.1)

  -- so do those of a part
  pub apart-filter : (p : X → Bool) (xs : List X) → EachApart xs → EachApart (filter p xs)
  apart-filter p [] h = tt
  apart-filter p (x ∷ xs) h =
      cond_both (p x) (x ∷ filter p xs) (filter p xs) EachApart
      (λ _. (all_passed (Apart x) p xs h.0, apart-filter p xs h.1)) (λ _. apart-filter p xs h.1)

-- no other document has the key
pub none-others : {X : Type 0} (mine : X → Bool) (xs : List X) → NoneIs mine (others_of mine xs)
none-others mine [] = tt
none-others mine (x ∷ xs) =
    (elim (mine x) as (λ b. mine x ≡ b
    → NoneIs mine (cond (not b) (x ∷ others_of mine xs) (others_of mine xs)))
    [ true ↦ (λ e. none-others mine xs) | false ↦ (λ e. (e, none-others mine xs)) ]) refl

module _ {X K : Type 0} (keys : Keys X K) (q : Query X) (law : IsLawful keys q) where
  -- one document stands apart from those of other keys
  all_apart : (x : X) (xs : List X) → AllByRecursion (λ y. has_key keys (keys.key x) y ≡ false) xs
      → AllByRecursion (Apart q.before law.trans x) xs
  all_apart x [] h = tt
  all_apart x (y ∷ ys) h = (law.either y x h.0, all_apart x ys h.1)

  -- documents of distinct keys stand apart
  pub each_apart : (xs : List X) → IsCollection keys xs → EachApart q.before law.trans xs
  each_apart [] h = tt
  each_apart (x ∷ xs) h = (all_apart x xs h.0, each_apart xs h.1)

  module _ (k : K) where
    -- the document has the key
    abbrev mine : X → Bool
    mine = has_key keys k

    -- a document of the key stands apart from all others
    pub stands : (x : X) → mine x ≡ true → Stands q.before mine x
    stands x e = record {
      is_mine = e;
      either =
          λ y n. law.either y x (ap (keys.same (keys.key y)) (law.same_eq (keys.key x) k e) ∙ n);
    }

    -- the matching rows of all other documents, in order
    abbrev pub rest_of : List X → List X
    rest_of docs = sorted q.before (filter q.matches (others_of mine docs))

    -- they are in order, and none has the key
    pub others_rest : (docs : List X) → IsCollection keys docs → Others q.before mine (rest_of docs)
    others_rest docs c = record {
      order = record { trans = law.trans };
      up = ordered-sorted q.before law.trans (filter q.matches (others_of mine docs))
          (apart-filter q.before law.trans q.matches (others_of mine docs)
          (apart-filter q.before law.trans (λ x. not (mine x)) docs (each_apart docs c)));
      none = all-sorted (λ y. mine y ≡ false) q.before (filter q.matches (others_of mine docs))
          (all_passed (λ y. mine y ≡ false) q.matches (others_of mine docs)
          (none-others mine docs));
    }

    -- the document of the key, put in its place among the others, where it matches
    abbrev pub with_held : Option X → List X → List X
    with_held None rows = rows
    with_held (Some x) rows = cond (q.matches x) (insert_in_order q.before x rows) rows

    -- the document of the key has it
    pub held_is_mine : (docs : List X) (x : X) → held mine docs ≡ Some x → mine x ≡ true
    held_is_mine [] x e = cc
    held_is_mine (y ∷ ys) x e =
        (elim (mine y) as (λ b. mine y ≡ b → cond b (Some y) (held mine ys) ≡ Some x
        → mine x ≡ true)
        [ true ↦ (λ m e. cc) | false ↦ (λ m e. held_is_mine ys x e) ]) refl e

    -- without the document of the key nothing changes where no document has it
    others_none : (docs : List X) → NoneIs mine docs → others_of mine docs ≡ docs
    others_none [] h = refl
    others_none (y ∷ ys) h = rw (h.0) (ap (λ zs. y ∷ zs) (others_none ys h.1))

    -- another document may go in before it or after it
    placed-with_held : (y : X) → mine y ≡ false → (docs rows : List X) (o : Option X)
        → held mine docs ≡ o → insert_in_order q.before y (with_held o rows) ≡ with_held o
        (insert_in_order q.before y rows)
    placed-with_held y n docs rows None e = refl
    placed-with_held y n docs rows (Some x) e =
        let s = stands x (held_is_mine docs x e) in
        elim (q.matches x) as
        (λ b. insert_in_order q.before y (cond b (insert_in_order q.before x rows) rows) ≡ cond
        b (insert_in_order q.before x (insert_in_order q.before y rows))
        (insert_in_order q.before y rows))
        [ true ↦ sym (placed-placed q.before law.trans x y rows (s.either y n)) | false ↦ refl ]

    -- all matching rows in order are the others, with the document of the key in its place
    pub sorted_is : (docs : List X) → IsCollection keys docs
        → sorted q.before (filter q.matches docs) ≡ with_held (held mine docs) (rest_of docs)
    sorted_is [] c = refl
    sorted_is (y ∷ ys) c =
        (elim (mine y) as
        (λ b. mine y ≡ b → sorted q.before (filter q.matches (y ∷ ys)) ≡ with_held
        (cond b (Some y) (held mine ys))
        (sorted q.before (filter q.matches
        (cond (not b) (y ∷ others_of mine ys) (others_of mine ys))))) [
          | true ↦ (λ m.
              let none : NoneIs mine ys = subst (λ l. AllByRecursion (λ z. has_key keys l z ≡ false)
              ys) (law.same_eq (keys.key y) k m) c.0 in
              rw (others_none ys none)
              (elim (q.matches y) as (λ b. sorted q.before
              (cond b (y ∷ filter q.matches ys) (filter q.matches ys)) ≡ cond b
              (insert_in_order q.before y (sorted q.before (filter q.matches ys)))
              (sorted q.before (filter q.matches ys)))
              [ true ↦ refl | false ↦ refl ]))
          | false ↦ (λ n.
              elim (q.matches y) as (λ b. sorted q.before
              (cond b (y ∷ filter q.matches ys) (filter q.matches ys)) ≡ with_held
              (held mine ys) (sorted q.before
              (cond b (y ∷ filter q.matches (others_of mine ys))
              (filter q.matches (others_of mine ys))))) [
                | true ↦ ap (insert_in_order q.before y) (sorted_is ys c.1)
                    ∙ placed-with_held y n ys (rest_of ys) (held mine ys) refl
                | false ↦ sorted_is ys c.1
              ])
        ]) refl
