-- The moments that a clock in memory gives.
use Rattle.std.proofs.Common.{◌≡◌, ℕ, zero, suc, ◌+◌, ◌<◌, ◌≤◌, List, [], ◌∷◌, ◌++◌, length, sym, ap, ◌∙◌, refl, inl, inr, ⊎_elim, arith}
use Rattle.std.proofs.lemmas.List.{length-append}
use Rattle.std.proofs.lemmas.Bool.{cases_lt}
use Rattle.rx_outside.specs.Clock.{GivesMoment}
use Rattle.rx_outside.specs.Failed.{one_more, last_count}
use Rattle.rx_outside.specs.MemoryClock.{moment_at, moments_until}

-- so many calls give so many
length-moments_until : (moments : List ℕ) (n : ℕ) → length (moments_until moments n) ≡ n
length-moments_until moments zero = refl
length-moments_until moments (suc n) =
    length-append (moments_until moments n) (moment_at moments n ∷ [])
    ∙ ap (λ k. k + 1) (length-moments_until moments n) ∙ omega arith

at_end : (count long : ℕ) → long ≡ count → last_count ≤ count → last_count ≤ long
at_end count long is end = omega (arith, is, end)

next_count : (count : ℕ) → count < last_count → one_more count ≡ suc count
next_count count less = omega (arith, less)

-- one more call gives one more
pub gives_next : (moments : List ℕ) (count moment after : ℕ) → moment ≡ moment_at moments count
    → after ≡ one_more count
    → GivesMoment (moments_until moments count) (moments_until moments after) moment
gives_next moments count moment after is next =
    ⊎_elim
    (λ less. inl (
    ap (moments_until moments) (next ∙ next_count count less)
    ∙ ap (λ m. moments_until moments count ++ m ∷ []) (sym is)
    ))
    (λ end. inr (at_end count _ (length-moments_until moments count) end))
    (cases_lt count last_count)
