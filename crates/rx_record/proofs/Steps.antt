-- One part after another, and what a reading tells of the bytes.
use Rattle.std.proofs.Common.{◌≡◌, ℕ, zero, suc, ◌-◌, ◌+◌, List, [], ◌∷◌, ◌++◌, length, take, Bool, true, false, if◌then◌else◌, Ok, Err, ap, sym, refl, ◌∙◌, append-nil, arith, length-append, ◌<◌, ◌≤◌, get_or, get_or-append-add, subst, subst₂, append_assoc}
use Rattle.std.proofs.Math.Seq.{take-append_seam}
use Rattle.rx_record.specs.Reading.{Reading, ◌▸◌, read_or}

-- both parts were read
pub record Parted {A B : Type 0} (m : Reading A) (f : A → List ℕ → Reading B)
    (r : B × List ℕ) : Type 0 where
  pub part : A
  pub more : List ℕ
  pub first : m ≡ Ok (part, more)
  pub second : f part more ≡ Ok r

pub parted : {A B : Type 0} (m : Reading A) (f : A → List ℕ → Reading B) (r : B × List ℕ)
    → (m ▸ f) ≡ Ok r → Parted m f r
parted (Ok p) f r h = record { part = p.0; more = p.1; first = refl; second = h }
parted (Err left) f r h = cc

-- the test held
pub tested : {A : Type 0} (b : Bool) (m : Reading A) (left : ℕ) (r : A × List ℕ)
    → (if b then m else Err left) ≡ Ok r → (b ≡ true) × (m ≡ Ok r)
tested true m left r h = (refl, h)
tested false m left r h = cc

-- what was read stands at the front, and is read from there again whatever stands behind it
pub record IsRead {A : Type 0} (bytes : A → List ℕ) (of : List ℕ → Reading A) (bs : List ℕ) (x : A)
    (rest : List ℕ) : Type 0 where
  pub spelled : bs ≡ bytes x ++ rest
  pub again : (more : List ℕ) → of (bytes x ++ more) ≡ Ok (x, more)

-- each number is a byte
abbrev pub AreBytes : List ℕ → Type 0
AreBytes bs = (i : ℕ) → get_or bs i 0 < 256

-- so are those behind a part
pub bytes_behind : (xs rest bs : List ℕ) → bs ≡ xs ++ rest → AreBytes bs → AreBytes rest
bytes_behind xs rest bs is small i =
    subst (λ (n : ℕ). n < 256)
    (ap (λ (l : List ℕ). get_or l (length xs + i) 0) is ∙ get_or-append-add xs rest i 0)
    (small (length xs + i))

module _ {A : Type 0} {bytes : A → List ℕ} {of : List ℕ → Reading A} {bs : List ℕ} {x : A}
    {rest : List ℕ} where
  -- the bytes behind it are no more than all
  pub rest_within : IsRead bytes of bs x rest → length rest ≤ length bs
  rest_within read = omega (arith, ap length read.spelled, length-append (bytes x) rest)

  -- it is read to their end from the bytes that it took
  pub read_alone : IsRead bytes of bs x rest → of (take (length bs - length rest) bs) ≡ Ok (x, [])
  read_alone read =
      let long : length bs - length rest ≡ length (bytes x) =
      omega (arith, ap length read.spelled, length-append (bytes x) rest) in
      let front : take (length bs - length rest) bs ≡ bytes x =
      ap (λ n. take n bs) long ∙ ap (take (length (bytes x))) read.spelled
      ∙ take-append_seam (bytes x) rest in
      ap of (front ∙ sym (append-nil (bytes x))) ∙ read.again []

-- so are those of a front
pub bytes_front : (n : ℕ) (bs : List ℕ) → AreBytes bs → AreBytes (take n bs)
bytes_front zero bs small i = omega arith
bytes_front (suc n) [] small i = omega arith
bytes_front (suc n) (b ∷ bs) small zero = small 0
bytes_front (suc n) (b ∷ bs) small (suc i) = bytes_front n bs (λ j. small (suc j)) i

-- this was read
abbrev pub done : {A : Type 0} → A → List ℕ → Reading A
done x rest = Ok (x, rest)

-- the bytes behind what was read, or these where there is a fault
abbrev pub behind_or : {A : Type 0} → List ℕ → Reading A → List ℕ
behind_or none (Ok p) = p.1
behind_or none (Err left) = none

-- equal results have equal parts
pub same_parts : {A : Type 0} (x y : A) (r s : List ℕ) → done x r ≡ done y s → (x ≡ y) × (r ≡ s)
same_parts x y r s h = (ap (read_or x) h, ap (behind_or r) h)

-- what was read stands in the bytes as its equal does
pub read_as : {A : Type 0} {bytes : A → List ℕ} {of : List ℕ → Reading A} {bs : List ℕ} (x y : A)
    (r s : List ℕ)
    → IsRead bytes of bs x r → done x r ≡ done y s → IsRead bytes of bs y s
read_as {bytes = bytes} {of = of} {bs = bs} x y r s read same =
    let parts = same_parts x y r s same in
    subst₂ (λ z t. IsRead bytes of bs z t) parts.0 parts.1 read

-- two parts stand one after another
pub joined : (p q rest more bs : List ℕ) → bs ≡ p ++ more → more ≡ q ++ rest → bs ≡ (p ++ q) ++ rest
joined p q rest more bs first second = first ∙ ap (λ l. p ++ l) second ∙ sym (append_assoc p q rest)
