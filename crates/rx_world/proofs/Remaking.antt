-- Holders that are made of the collections of others.
use Rattle.std.proofs.Common.{◌≡◌, ℕ, Bool, false, true≢false, cond, List, [], ◌∷◌, ◌++◌, String, Global, string_bytes, refl, sym, ap, ◌∙◌, subst}
use Rattle.std.proofs.lemmas.Slice.Eq.{bytes_eq-Decides}
use Rattle.std.specs.List.{AllByRecursion, IsDistinct}
use Rattle.std.specs.Map.{keys_of}
use Rattle.std.specs.Str.{bytes_eq}
use Rattle.rx_value.specs.Named.{by_name, put_named}
use Rattle.rx_value.proofs.Bytes.{bytes_apart}
use Rattle.rx_collection.specs.Held.{Held}
use Rattle.rx_collection.specs.Lawful.{IsLawful}
use Rattle.rx_collection.specs.declared.holder.Plain.{Plain}
use Rattle.rx_world.specs.Holders.{IsWhole}

module _ {X : Type 0} where
  -- what holds of each name holds of one in the midst
  within : (P : List ℕ → Type 0) (es rest : List (List ℕ × X)) (e : List ℕ × X)
      → AllByRecursion P (keys_of (es ++ e ∷ rest)) → P e.0
  within P [] rest e all = all.0
  within P (d ∷ es) rest e all = within P es rest e all.1

  -- where no name comes twice, the next one goes behind those before it
  pub put_behind : (es rest : List (List ℕ × X)) (k : List ℕ) (x : X)
      → IsDistinct bytes_eq (keys_of (es ++ (k, x) ∷ rest))
      → put_named es k x ++ rest ≡ es ++ (k, x) ∷ rest
  unfolding IsDistinct
  put_behind [] rest k x distinct = refl
  put_behind (e ∷ es) rest k x distinct =
      let apart : bytes_eq e.0 k ≡ false =
      within (λ y. bytes_eq e.0 y ≡ false) es rest (k, x) distinct.0 in
      let other : bytes_eq k e.0 ≡ false =
      bytes_apart k e.0
      (λ same. true≢false (sym ((bytes_eq-Decides e.0 k).1 (sym same)) ∙ apart)) in
      ap (λ b. cond b ((e.0, x) ∷ es) (e ∷ put_named es k x) ++ rest) other
      ∙ ap (λ l. e ∷ l) (put_behind es rest k x distinct.1)

-- the collection of a plain holder
abbrev pub plain_held : Plain → Held
plain_held p = p.collection

abbrev pub is_broken : Plain → Bool
is_broken p = p.broken

module _ {H : Type 0} (held : H → Held) (broken : H → Bool) where
  -- one that is made of the collection of a whole one is whole
  pub whole_again : (name : List ℕ) (p : Plain) (h : H) → IsWhole plain_held is_broken name p
      → held h ≡ p.collection → broken h ≡ false → IsWhole held broken name h
  whole_again name p h whole same unbroken = record {
    unbroken = unbroken;
    called = ap (λ (c : Held). c.name) same ∙ whole.called;
    lawful = subst IsLawful (sym same) whole.lawful;
  }

  -- and goes behind those before it
  pub held_behind : (made made' : List (String Global × H)) (e : String Global × Plain)
      (left all : List (String Global × Plain)) (h : H)
      → by_name held made ++ by_name plain_held (e ∷ left) ≡ by_name plain_held all
      → IsDistinct bytes_eq (keys_of (by_name plain_held all))
      → by_name held made' ≡ put_named (by_name held made) (string_bytes e.0) (held h)
      → held h ≡ e.1.collection
      → by_name held made' ++ by_name plain_held left ≡ by_name plain_held all
  held_behind made made' e left all h so_far distinct put same =
      ap (λ l. l ++ by_name plain_held left) put
      ∙ ap (λ c. put_named (by_name held made) (string_bytes e.0) c ++ by_name plain_held left) same
      ∙ put_behind (by_name held made) (by_name plain_held left) (string_bytes e.0) e.1.collection
      (subst (λ l. IsDistinct bytes_eq (keys_of l)) (sym so_far) distinct)
      ∙ so_far
