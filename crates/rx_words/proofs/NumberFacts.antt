-- Digits that are no number of 64 bits are none of a range.
use Rattle.std.proofs.Common.{◌≡◌, refl, ℕ, ◌<◌, true, ◌&&◌, leb, List, length, None, Result, Err, arith, rules, inl, inr}
use Rattle.std.proofs.lemmas.Bool.Decides.{leb_tells}
use Rattle.std.proofs.lemmas.Str.Parse.{IsNumeralModel, numerals_by_value, parse_digits}
use Rattle.std.proofs.lemmas.Bool.{lt-leb}
use Rattle.std.proofs.Math.Bool.{and-false}
use Rattle.std.specs.Str.Parse.{ParsesUnsigned, digits_value}
use Rattle.rx_words.specs.Number.{are_digits, number_within}

own : IsNumeralModel (λ ds. are_digits ds ≡ true) (digits_value 10)
own = numerals_by_value _ (search rules)

too_high : (least most : ℕ) (ds : List ℕ) → most < digits_value 10 ds
    → number_within least most ds ≡ None
too_high least most ds high =
    let v = digits_value 10 ds in
    rw (lt-leb v most high)
    (rw (and-false (leb least v)) (rw (and-false (leb 1 (length ds) && are_digits ds)) refl))

pub no_number : (least most : ℕ) (E : Type 0) (ds : List ℕ) (r : Result ℕ E) (e : E)
    → most < 18446744073709551616
    → r ≡ Err e → ParsesUnsigned 64 10 ds r → are_digits ds ≡ true → number_within least most ds
    ≡ None
no_number least most E ds r e fits is parses h =
    let p = rw is at (parse_digits own 64 ds r parses h) in
    elim (leb_tells 1 (length ds)) [
      | inl w ↦ elim (leb_tells (digits_value 10 ds) most) [
        | inl v ↦ absurd (p (omega (arith, w.1), omega (arith, v.1)))
        | inr v ↦ too_high least most ds (omega (arith, v.1))
      ]
      | inr w ↦ rw w.0 refl
    ]
