-- The test of two texts by their bytes. That it decides whether they are equal is std's
-- (bytes_eq-Decides).
use Rattle.std.proofs.Common.{◌≡◌, ◌≢◌, ◌⊎◌, inl, inr, ℕ, true, false, List, refl, sym}
use Rattle.std.proofs.lemmas.Bool.Decides.{not_from_Decides}
use Rattle.std.proofs.lemmas.Slice.Eq.{bytes_eq-Decides}
use Rattle.std.specs.Bool.{one_answer}
use Rattle.std.specs.Str.{bytes_eq}
use Rattle.rx_value.specs.Equality.{decides_as}

-- a text is itself
pub bytes_itself : (k : List ℕ) → bytes_eq k k ≡ true
bytes_itself k = (bytes_eq-Decides k k).1 refl

-- texts that pass are one
pub bytes_same : (k l : List ℕ) → bytes_eq k l ≡ true → k ≡ l
bytes_same k l = (bytes_eq-Decides k l).0

-- texts that don't are two
pub bytes_differ : (k l : List ℕ) → bytes_eq k l ≡ false → k ≢ l
bytes_differ k l = not_from_Decides (bytes_eq k l) (bytes_eq-Decides k l)

-- and two texts don't pass
pub bytes_apart : (k l : List ℕ) → k ≢ l → bytes_eq k l ≡ false
bytes_apart k l apart =
    elim (bytes_eq k l) as (λ b. bytes_eq k l ≡ b → b ≡ false) [
      | true ↦ (λ h. absurd (apart (bytes_same k l h)))
      | false ↦ (λ h. refl)
    ] refl

-- the test is the same the other way round
pub bytes_turned : (k l : List ℕ) → bytes_eq k l ≡ bytes_eq l k
bytes_turned k l =
    one_answer (bytes_eq k l) (bytes_eq l k) (bytes_eq-Decides k l)
    (decides_as (bytes_eq l k) (bytes_eq-Decides l k) sym sym)

-- and so is its failing
pub bytes_apart_turned : (k l : List ℕ) → bytes_eq k l ≡ false → bytes_eq l k ≡ false
bytes_apart_turned k l h = bytes_apart l k (λ same. bytes_differ k l h (sym same))

-- two texts are one or two
pub bytes_cases : (k l : List ℕ) → (k ≡ l) ⊎ (k ≢ l)
bytes_cases k l =
    elim (bytes_eq k l) as (λ b. bytes_eq k l ≡ b → (k ≡ l) ⊎ (k ≢ l)) [
      | true ↦ (λ h. inl (bytes_same k l h))
      | false ↦ (λ h. inr (bytes_differ k l h))
    ] refl
