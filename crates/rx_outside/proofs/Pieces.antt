-- What a wire in memory gives, by the place that it reached.
use Rattle.std.proofs.Common.{◌≡◌, ℕ, ◌+◌, ◌<◌, List, ◌++◌, take, drop, length, min, sym, ap, ◌∙◌, arith}
use Rattle.std.proofs.Math.Seq.{take-add}
use Rattle.std.proofs.lemmas.List.{take-append-drop, nil_from_length, drop-drop}
use Rattle.rx_outside.specs.Source.{Gives}

none_left : (most room left n : ℕ) → 0 < most → 0 < room → n ≡ min most (min room left) → n ≡ 0
    → left ≡ 0
none_left most room left n some more is none = omega (arith, some, more, is, none)

module _
    (bytes : List ℕ) (at n : ℕ) (piece : List ℕ)
    (copied : take n piece ≡ take n (drop at bytes))
  where
    -- the next bytes, where as many as can be are copied
    pub gives_next : (most : ℕ) → 0 < most
        → n ≡ min most (min (length piece) (length (drop at bytes)))
        → Gives (drop at bytes) (drop (at + n) bytes) n piece
    gives_next most some is = record {
      front = sym (take-append-drop n (drop at bytes))
          ∙ ap (λ xs. xs ++ drop n (drop at bytes)) (sym copied)
          ∙ ap (λ xs. take n piece ++ xs) (drop-drop n at bytes);
      at_end = λ more none. nil_from_length _ (none_left _ _ _ n some more is none);
    }

    -- and all given so far
    pub joins_next : take (at + n) bytes ≡ take at bytes ++ take n piece
    joins_next = take-add at n bytes ∙ ap (λ xs. take at bytes ++ xs) (sym copied)
