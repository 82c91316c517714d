-- What a word may be.
use Rattle.std.proofs.Common.{◌≡◌, ◌∙◌, refl, sym, ap, subst, ℕ, ◌<◌, [], ◌∷◌, ◌++◌, ◌==◌, ◌⊎◌, inl, inr, Bool, true, false, true≢false, length, take, drop, get_or, arith}
use Rattle.std.specs.List.{before_first, after_first, position_or_len}
use Rattle.std.specs.Str.{bytes_eq}
use Rattle.std.proofs.lemmas.Bool.{eqb-true}
use Rattle.std.proofs.lemmas.Bool.Decides.{leb_tells}
use Rattle.std.proofs.lemmas.List.{take_all, take-append-drop}
use Rattle.std.proofs.lemmas.List.Sums.{passes_at_first, split_at_first}
use Rattle.std.proofs.lemmas.Slice.Eq.{bytes_eq-Decides}
use Rattle.clap.specs.Walk.{Text}
use Rattle.rx_words.specs.Given.{is_joined, option}
use Rattle.rx_words.specs.Parsed.{is_fair, is_long, limit_id}

-- what stands before `=`
abbrev pub name_in : Text → Text
name_in = before_first (λ x. x == 61)

pub data Kind (word : Text) : Type 0 where
  value : (b : ℕ) (bs : Text) → word ≡ b ∷ bs → (b == 45) ≡ false → Kind word
  alone : word ≡ option → Kind word
  joined : (t : Text) → word ≡ option ++ 61 ∷ t → Kind word
  other : (c : ℕ) (cs : Text) → word ≡ 45 ∷ 45 ∷ c ∷ cs
      → bytes_eq limit_id (name_in (c ∷ cs)) ≡ false → Kind word

-- a text is its name, or goes on with `=`
cut : (xs : Text) → (xs ≡ name_in xs) ⊎ ((t : Text) × (xs ≡ name_in xs ++ 61 ∷ t))
cut xs =
    let n = position_or_len (λ (x : ℕ). x == 61) xs in
    elim (leb_tells (length xs) n) [
      | inl w ↦ inl (sym (take_all n xs (omega (arith, w.1))))
      | inr w ↦
          let inside : n < length xs = omega (arith, w.1) in
          let is : get_or xs n 0 ≡ 61 = eqb-true (get_or xs n 0) 61
          (passes_at_first (λ (x : ℕ). x == 61) xs 0 inside) in
          inr (
            after_first (λ (x : ℕ). x == 61) xs,
            split_at_first (λ (x : ℕ). x == 61) xs 0 inside
                ∙ ap (λ (x : ℕ). name_in xs ++ x ∷ after_first (λ (x : ℕ). x == 61) xs) is,
          )
    ]

named : (c : ℕ) (cs : Text) → limit_id ≡ name_in (c ∷ cs) → Kind (45 ∷ 45 ∷ c ∷ cs)
named c cs is = elim (cut (c ∷ cs)) [
  | inl same ↦ alone (ap (λ (x : Text). 45 ∷ 45 ∷ x) (same ∙ sym is))
  | inr more ↦ joined more.0
      (ap (λ (x : Text). 45 ∷ 45 ∷ x) (more.1 ∙ ap (λ (x : Text). x ++ 61 ∷ more.0) (sym is)))
]

long_kind : (c : ℕ) (cs : Text) → Kind (45 ∷ 45 ∷ c ∷ cs)
long_kind c cs = go (bytes_eq limit_id (name_in (c ∷ cs))) refl
  where
    go : (t : Bool) → bytes_eq limit_id (name_in (c ∷ cs)) ≡ t → Kind (45 ∷ 45 ∷ c ∷ cs)
    go true e = named c cs ((bytes_eq-Decides limit_id (name_in (c ∷ cs))).0 e)
    go false e = other c cs refl e

dashed : (b : ℕ) (bs : Text) → b ≡ 45 → is_long (b ∷ bs) ≡ true → Kind (b ∷ bs)
dashed b [] is h = absurd (true≢false (sym h))
dashed b (a ∷ []) is h = absurd (true≢false (sym h))
dashed b (a ∷ c ∷ cs) is h = go (a == 45) refl
  where
    go : (t : Bool) → (a == 45) ≡ t → Kind (b ∷ a ∷ c ∷ cs)
    go true e =
        subst (λ (x : ℕ). Kind (x ∷ a ∷ c ∷ cs)) (sym is)
        (subst (λ (x : ℕ). Kind (45 ∷ x ∷ c ∷ cs)) (sym (eqb-true a 45 e)) (long_kind c cs))
    go false e = absurd (true≢false (sym (sym (rw (is, e) refl) ∙ h)))

pub kind_of : (word : Text) → is_fair word ≡ true → Kind word
kind_of [] h = absurd (true≢false (sym h))
kind_of (b ∷ bs) h = go (b == 45) refl
  where
    go : (t : Bool) → (b == 45) ≡ t → Kind (b ∷ bs)
    go true e = dashed b bs (eqb-true b 45 e) (rw e at h)
    go false e = value b bs refl e

-- another long word is neither the option nor the option with what follows `=`
pub not_alone : (c : ℕ) (cs : Text) → bytes_eq limit_id (name_in (c ∷ cs)) ≡ false
    → bytes_eq (45 ∷ 45 ∷ c ∷ cs) option ≡ false
not_alone c cs e = go (bytes_eq (45 ∷ 45 ∷ c ∷ cs) option) refl
  where
    go : (t : Bool) → bytes_eq (45 ∷ 45 ∷ c ∷ cs) option ≡ t
        → bytes_eq (45 ∷ 45 ∷ c ∷ cs) option ≡ false
    go false k = k
    go true k =
        let is : 45 ∷ 45 ∷ c ∷ cs ≡ option = (bytes_eq-Decides (45 ∷ 45 ∷ c ∷ cs) option).0 k in
        absurd (true≢false (ap (λ (x : Text). bytes_eq limit_id (name_in (drop 2 x))) (sym is) ∙ e))

pub not_joined : (c : ℕ) (cs : Text) → bytes_eq limit_id (name_in (c ∷ cs)) ≡ false
    → is_joined (45 ∷ 45 ∷ c ∷ cs) ≡ false
not_joined c cs e = go (is_joined (45 ∷ 45 ∷ c ∷ cs)) refl
  where
    go : (t : Bool) → is_joined (45 ∷ 45 ∷ c ∷ cs) ≡ t → is_joined (45 ∷ 45 ∷ c ∷ cs) ≡ false
    go false k = k
    go true k =
        let word : Text = 45 ∷ 45 ∷ c ∷ cs in
        let front : take 14 word ≡ option ++ 61
        ∷ [] = (bytes_eq-Decides (take 14 word) (option ++ 61 ∷ [])).0 k in
        let is : (option ++ 61 ∷ []) ++ drop 14 word ≡ word =
        ap (λ (x : Text). x ++ drop 14 word) (sym front) ∙ take-append-drop 14 word in
        absurd (true≢false (ap (λ (x : Text). bytes_eq limit_id (name_in (drop 2 x))) is ∙ e))
