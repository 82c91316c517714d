-- The pair at a place of a run, by the chunks before it or behind it.
use Rattle.std.proofs.Common.{◌≡◌, ℕ, zero, suc, ◌+◌, ◌-◌, ◌<◌, List, [], ◌∷◌, ◌++◌, length, get_or, take, drop, reverse, Some, slice_get, refl, sym, ap, ◌∙◌, arith, length-append}
use Rattle.std.proofs.Math.ListN.{get_or-append}
use Rattle.std.proofs.lemmas.List.{get_or-append-add, get_or-reverse, length-reverse}
use Rattle.std.proofs.lemmas.Option.{slice_get_read}
use Rattle.rx_runs.specs.Run.{flat}
use Rattle.rx_runs.proofs.Chunks.{length_more, length_front}

module _ {A : Type 0} where
  -- the one that is read at a place from the end
  slice_back : (xs : List A) (i : ℕ) (x : A) → i < length xs
      → x ≡ get_or xs (length xs - 1 - i) x → slice_get (reverse xs) i ≡ Some x
  slice_back xs i x lt is =
      slice_get_read (reverse xs) (length xs) i x (sym (length-reverse xs)) lt
      (is ∙ sym (get_or-reverse xs i x lt))

-- ---- among chunks

module _ {X : Type 0} where
  flat_split : (n : ℕ) (cs : List (List ℕ × List (List ℕ × X)))
      → length (flat (take n cs)) + length (flat (drop n cs)) ≡ length (flat cs)
  flat_split zero cs = omega arith
  flat_split (suc n) [] = omega arith
  flat_split (suc n) (c ∷ cs) =
      let rest = flat_split n cs in
      omega (arith, rest, length-append c.1 (flat (take n cs)), length-append c.1 (flat cs))

  -- behind those of the first chunks
  place_read : (cs : List (List ℕ × List (List ℕ × X))) (k left : ℕ)
      (d : List ℕ × List (List ℕ × X)) (p : List ℕ × X)
      → k < length cs → left < length (get_or cs k d).1
      → get_or (flat cs) (length (flat (take k cs)) + left) p ≡ get_or (get_or cs k d).1 left p
  place_read [] k left d p lt inside = absurd (omega arith)
  place_read (c ∷ cs) zero left d p lt inside =
      let e : 0 + left ≡ left = omega arith in
      ap (λ n. get_or (c.1 ++ flat cs) n p) e ∙ get_or-append c.1 (flat cs) p left inside
  place_read (c ∷ cs) (suc k) left d p lt inside =
      let e : length (c.1 ++ flat (take k cs)) + left
      ≡ length c.1 + (length (flat (take k cs)) + left) =
      omega (arith, length-append c.1 (flat (take k cs))) in
      ap (λ n. get_or (c.1 ++ flat cs) n p) e
      ∙ get_or-append-add c.1 (flat cs) (length (flat (take k cs)) + left) p
      ∙ place_read cs k left d p (omega arith) inside

  pub found_in : (cs : List (List ℕ × List (List ℕ × X))) (k left i : ℕ)
      (d : List ℕ × List (List ℕ × X))
      (es : List (List ℕ × X)) (p : List ℕ × X)
      → k < length cs → es ≡ (get_or cs k d).1 → left < length es → p ≡ get_or es left p
      → i ≡ length (flat (take k cs)) + left → slice_get (flat cs) i ≡ Some p
  found_in cs k left i d es p lt are inside at is =
      let many : length es ≡ length (get_or cs k d).1 = ap length are in
      let more = length_more cs k d lt in
      let front = length_front cs (k + 1) in
      let within : i < length (flat cs) = omega (arith, many, more, front) in
      slice_get_read (flat cs) (length (flat cs)) i p refl within
      (at ∙ ap (λ xs. get_or xs left p) are
      ∙ sym (place_read cs k left d p lt (omega (arith, many)))
      ∙ ap (λ n. get_or (flat cs) n p) (sym is))

  pub found_back_in : (cs : List (List ℕ × List (List ℕ × X))) (k end left i : ℕ)
      (d : List ℕ × List (List ℕ × X))
      (es : List (List ℕ × X)) (p : List ℕ × X)
      → k < length cs → end ≡ k + 1 → es ≡ (get_or cs k d).1 → left < length es
      → p ≡ get_or es (length es - 1 - left) p
      → i ≡ length (flat (drop end cs)) + left → slice_get (reverse (flat cs)) i ≡ Some p
  found_back_in cs k end left i d es p lt next are inside at is =
      let many : length es ≡ length (get_or cs k d).1 = ap length are in
      let more = length_more cs k d lt in
      let split = flat_split (k + 1) cs in
      let same : length (flat (drop end cs)) ≡ length (flat (drop (k + 1) cs)) =
      ap (λ n. length (flat (drop n cs))) next in
      let within : i < length (flat cs) = omega (arith, many, more, split, same) in
      let place : length (flat cs) - 1 - i ≡ length (flat (take k cs)) + (length es - 1 - left) =
      omega (arith, many, more, split, same) in
      slice_back (flat cs) i p within
      (at ∙ ap (λ xs. get_or xs (length es - 1 - left) p) are
      ∙ sym (place_read cs k (length es - 1 - left) d p lt (omega (arith, many)))
      ∙ ap (λ n. get_or (flat cs) n p) (sym place))
