-- Numbers in so many bytes.
use Rattle.std.proofs.Common.{◌≡◌, ℕ, ◌<◌, ◌≤◌, ◌^◌, List, ◌++◌, length, take, drop, Ok, Err, refl, ap, sym, ◌∙◌, arith, le-leb, w16, w32, w64, inl, inr, length-append, ap₂, subst}
use Rattle.std.proofs.lemmas.Bool.Decides.{leb_tells}
use Rattle.std.proofs.Math.Seq.{take-append_seam, drop-append_seam}
use Rattle.std.proofs.lemmas.List.{length-take-le, take-append-drop}
use Rattle.std.proofs.lemmas.Nat.{be_bytes_2, be_bytes_4, be_bytes_8, from_be_bytes-to_be_bytes_2, from_be_bytes-to_be_bytes_4, from_be_bytes-to_be_bytes_8}
use Rattle.std.specs.Int.{Width, byte_len, from_be_bytes}
use mir.Val.{bits}
use Rattle.rx_record.specs.Parts.{number_bytes, number_of}
use Rattle.rx_record.proofs.Steps.{IsRead, AreBytes, bytes_front, bytes_behind, same_parts}

pub number_read : (w : Width) (bs : List ℕ) → byte_len w ≤ length bs
    → number_of w bs ≡ Ok (from_be_bytes w (take (byte_len w) bs), drop (byte_len w) bs)
unfolding number_of
number_read w bs long = rw (le-leb (byte_len w) (length bs) long) refl

pub number_short : (w : Width) (bs : List ℕ) → length bs < byte_len w
    → number_of w bs ≡ Err (length bs)
unfolding number_of
number_short w bs short =
    elim (leb_tells (byte_len w) (length bs)) as (λ _. number_of w bs ≡ Err (length bs))
    [ inl t ↦ absurd (omega (arith, t.1)) | inr t ↦ rw (t.0) refl ]

-- what std says of a number's bytes at one width
pub record AreDigits (w : Width) : Type 0 where
  pub long : (n : ℕ) → length (number_bytes w n) ≡ byte_len w
  pub value : (n : ℕ) → n < 2 ^ bits w → from_be_bytes w (number_bytes w n) ≡ n
  pub digits : (bs : List ℕ) (n : ℕ) → length bs ≡ byte_len w → AreBytes bs → n ≡ from_be_bytes w bs
      → number_bytes w n ≡ bs

pub digits_16 : AreDigits w16
unfolding number_bytes
digits_16 = record {
  long = λ n. refl;
  value = from_be_bytes-to_be_bytes_2;
  digits = λ bs n long small is. be_bytes_2 bs n long small is;
}

pub digits_32 : AreDigits w32
unfolding number_bytes
digits_32 = record {
  long = λ n. refl;
  value = from_be_bytes-to_be_bytes_4;
  digits = λ bs n long small is. be_bytes_4 bs n long small is;
}

pub digits_64 : AreDigits w64
unfolding number_bytes
digits_64 = record {
  long = λ n. refl;
  value = from_be_bytes-to_be_bytes_8;
  digits = λ bs n long small is. be_bytes_8 bs n long small is;
}

-- the number that so many bytes stand for is read from the front
front_read : (w : Width) (front more : List ℕ) (n : ℕ) → length front ≡ byte_len w
    → n ≡ from_be_bytes w front
    → number_of w (front ++ more) ≡ Ok (n, more)
front_read w front more n long is =
    let within : byte_len w ≤ length (front ++ more) = omega (arith, length-append front more) in
    let cut : take (byte_len w) (front ++ more) ≡ front =
    ap (λ k. take k (front ++ more)) (sym long) ∙ take-append_seam front more in
    let left : drop (byte_len w) (front ++ more) ≡ more =
    ap (λ k. drop k (front ++ more)) (sym long) ∙ drop-append_seam front more in
    cc (number_read w (front ++ more) within, cut, left, is)

-- a number is read back
pub number_back : (w : Width) → AreDigits w → (n : ℕ) (more : List ℕ) → n < 2 ^ bits w
    → number_of w (number_bytes w n ++ more) ≡ Ok (n, more)
number_back w d n more fits =
    front_read w (number_bytes w n) more n (d.long n) (sym (d.value n fits))

-- and a number that was read stands in the bytes
pub number_is_read : (w : Width) → AreDigits w → (bs : List ℕ) (n : ℕ) (rest : List ℕ) → AreBytes bs
    → number_of w bs ≡ Ok (n, rest) → IsRead (number_bytes w) (number_of w) bs n rest
number_is_read w d bs n rest small h =
    elim (leb_tells (byte_len w) (length bs))
    as (λ _. IsRead (number_bytes w) (number_of w) bs n rest)
    [ inl t ↦ within t.1 | inr t ↦ cc (number_short w bs t.1) ]
  where
    within : byte_len w ≤ length bs → IsRead (number_bytes w) (number_of w) bs n rest
    within fits =
        let read = number_read w bs fits in
        let front : List ℕ = take (byte_len w) bs in
        let parts = same_parts n (from_be_bytes w front) rest (drop (byte_len w) bs)
        (sym h ∙ read) in
        let is = parts.0 in
        let left = parts.1 in
        let long : length front ≡ byte_len w = length-take-le (byte_len w) bs fits in
        let spelled : number_bytes w n ≡ front =
        d.digits front n long (bytes_front (byte_len w) bs small) is in
        record {
          spelled =
              sym (take-append-drop (byte_len w) bs) ∙ ap₂ (λ l r. l ++ r) (sym spelled) (sym left);
          again =
              λ more. ap (λ l. number_of w (l ++ more)) spelled ∙ front_read w front more n long is;
        }

-- eight bytes stand for a number below 2^64
pub below_64 : (bs : List ℕ) → AreBytes bs → from_be_bytes w64 bs < 2 ^ 64
below_64 bs small =
    let b0 = small 0 in let b1 = small 1 in let b2 = small 2 in let b3 = small 3 in
    let b4 = small 4 in let b5 = small 5 in let b6 = small 6 in let b7 = small 7 in
    omega arith

-- so is one that was read
pub number_below_64 : (bs : List ℕ) (n : ℕ) (rest : List ℕ) → AreBytes bs
    → number_of w64 bs ≡ Ok (n, rest) → n < 2 ^ 64
number_below_64 bs n rest small h =
    elim (leb_tells 8 (length bs)) as (λ _. n < 2 ^ 64) [
      | inl t ↦
          let is : from_be_bytes w64 (take 8 bs) ≡ n =
          (same_parts (from_be_bytes w64 (take 8 bs)) n (drop 8 bs) rest
          (sym (number_read w64 bs t.1) ∙ h)).0 in
          subst (λ k. k < 2 ^ 64) is (below_64 (take 8 bs) (bytes_front 8 bs small))
      | inr t ↦ cc (number_short w64 bs t.1)
    ]

-- what stands behind a count are bytes
pub behind_count : (bs : List ℕ) (n : ℕ) (more : List ℕ) → AreBytes bs
    → number_of w32 bs ≡ Ok (n, more) → AreBytes more
behind_count bs n more small h =
    bytes_behind (number_bytes w32 n) more bs
    (number_is_read w32 digits_32 bs n more small h).spelled small

-- four bytes stand for a number below 2^32
below_32 : (bs : List ℕ) → AreBytes bs → from_be_bytes w32 bs < 2 ^ 32
below_32 bs small =
    let b0 = small 0 in let b1 = small 1 in let b2 = small 2 in let b3 = small 3 in
    omega arith

-- so is one that was read
pub number_below_32 : (bs : List ℕ) (n : ℕ) (rest : List ℕ) → AreBytes bs
    → number_of w32 bs ≡ Ok (n, rest) → n < 2 ^ 32
number_below_32 bs n rest small h =
    elim (leb_tells 4 (length bs)) as (λ _. n < 2 ^ 32) [
      | inl t ↦
          let is : from_be_bytes w32 (take 4 bs) ≡ n =
          (same_parts (from_be_bytes w32 (take 4 bs)) n (drop 4 bs) rest
          (sym (number_read w32 bs t.1) ∙ h)).0 in
          subst (λ k. k < 2 ^ 32) is (below_32 (take 4 bs) (bytes_front 4 bs small))
      | inr t ↦ cc (number_short w32 bs t.1)
    ]
