-- Fields that are gone through one after another.
use Rattle.std.proofs.Common.{◌≡◌, ℕ, ◌+◌, ◌&&◌, ◌||◌, not, Bool, true, false, true≢false, List, ◌∷◌, [], drop, Some, ap, sym, ◌∙◌, slice_get, cond, refl}
use Rattle.std.specs.Str.{bytes_eq}
use Rattle.std.proofs.lemmas.Slice.Eq.{bytes_eq-Decides}
use Rattle.std.proofs.lemmas.Bool.{and_parts}
use Rattle.rx_value.specs.Fields.{Pair, Pairs}
use Rattle.rx_value.specs.Named.{named, put_in_order}
use Rattle.rx_value.specs.declared.value.Value.{Value}
use Rattle.rx_value.specs.declared.value.Value.TheVariants.{Flag, Int, Text}
use Rattle.rx_value.proofs.Named.{named-put_in_order}
use Rattle.rx_value.specs.Value.{is_text}
use Rattle.rx_value.proofs.Lists.{drop_at}
use Rattle.rx_writes.specs.Documents.{keeps_key, with_fields}

module _ (primary key : List ℕ) where
  -- the pair doesn't give the primary key another value
  abbrev keeps : Pair → Bool
  keeps p = not (bytes_eq p.0 primary) || is_text key (Some p.1)

  -- one pair decides, or those behind it
  pub keeps_from : (ps : Pairs) (i : ℕ) (p : Pair) (b : Bool) → slice_get ps i ≡ Some p
      → keeps p ≡ b
      → keeps_key primary key (drop i ps) ≡ b && keeps_key primary key (drop (i + 1) ps)
  keeps_from ps i p b h is =
      ap (keeps_key primary key) (drop_at ps i p h)
      ∙ ap (λ k. k && keeps_key primary key (drop (i + 1) ps)) is

  -- a value that is the text is that text
  text_is : (v : Value) → is_text key (Some v) ≡ true → Some v ≡ Some (Text key)
  text_is (Text t) h = ap (λ s. Some (Text s)) ((bytes_eq-Decides t key).0 h)
  text_is (Flag b) h = cc
  text_is (Int z) h = cc

  -- of a pair of the primary key that keeps it, the value is the key
  given_key : (n : List ℕ) (v : Value) (b : Bool) → bytes_eq n primary ≡ b
      → not b || is_text key (Some v) ≡ true → b ≡ true → Some v ≡ Some (Text key)
  given_key n v true is keep same = text_is v keep
  given_key n v false is keep same = absurd (true≢false (sym same))

  -- a pair that keeps the key is set
  put_carries : (ps : Pairs) (n : List ℕ) (v : Value) → named ps primary ≡ Some (Text key)
      → not (bytes_eq n primary) || is_text key (Some v) ≡ true
      → named (put_in_order ps n v) primary ≡ Some (Text key)
  put_carries ps n v at keep =
      named-put_in_order ps n primary v
      ∙ elim (bytes_eq primary n)
      as (λ b. bytes_eq primary n ≡ b → cond b (Some v) (named ps primary) ≡ Some (Text key)) [
        | true ↦ (λ is.
            let same : bytes_eq n primary ≡ true =
            (bytes_eq-Decides n primary).1 (sym ((bytes_eq-Decides primary n).0 is)) in
            given_key n v (bytes_eq n primary) refl keep same)
        | false ↦ (λ is. at)
      ] refl

  -- fields that carry the key carry it with others set, where these keep it
  pub set_carries : (ps more : Pairs) → named ps primary ≡ Some (Text key)
      → keeps_key primary key more ≡ true → named (with_fields ps more) primary ≡ Some (Text key)
  set_carries ps [] at keep = at
  set_carries ps (p ∷ more) at keep =
      let h = and_parts (keeps p) (keeps_key primary key more) keep in
      set_carries (put_in_order ps p.0 p.1) more (put_carries ps p.0 p.1 at h.0) h.1
