-- Flags, values and pairs that were read.
use Rattle.std.proofs.Common.{◌≡◌, ℕ, zero, suc, ◌<◌, List, [], ◌∷◌, ◌++◌, length, Option, Ok, Err, Bool, true, false, refl, ap, sym, ◌∙◌, arith, append_assoc, w64, ne_eqb}
use Rattle.std.specs.Int.{cast_signed}
use Rattle.std.proofs.lemmas.Int.{of_z-to_z}
use Rattle.rx_value.specs.Fields.{Pair}
use Rattle.rx_value.specs.Value.{is_number}
use Rattle.rx_value.specs.declared.value.Value.{Value}
use Rattle.rx_value.specs.declared.value.Value.TheVariants.{Flag, Int, Text}
use Rattle.rx_record.specs.Parts.{number_bytes, number_of, flag_bytes, flag_of, text_bytes, text_of, text_above}
use Rattle.rx_record.specs.Fields.{value_bytes, integer_of, value_of, pair_bytes, pair_of}
use Rattle.rx_record.proofs.Steps.{parted, tested, joined, read_as, IsRead, AreBytes, bytes_behind}
use Rattle.rx_record.proofs.Numbers.{digits_64, number_is_read, number_below_64}
use Rattle.rx_record.proofs.Texts.{text_is_read, above_is_read}

-- a flag is read back
pub flag_back : (b : Bool) (more : List ℕ) → flag_of (flag_bytes b ++ more) ≡ Ok (b, more)
flag_back true more = refl
flag_back false more = refl

-- another byte is none
flag_foreign : (k : ℕ) (bs : List ℕ) → 1 < k → flag_of (k ∷ bs) ≡ Err (length (k ∷ bs))
flag_foreign k bs above = rw (ne_eqb k 0 (omega arith), ne_eqb k 1 (omega arith)) refl

-- and one that was read stands in the bytes
pub flag_is_read : (bs : List ℕ) (b : Bool) (rest : List ℕ) → flag_of bs ≡ Ok (b, rest)
    → IsRead flag_bytes flag_of bs b rest
flag_is_read [] b rest h = cc
flag_is_read (zero ∷ bs) b rest h =
    read_as false b bs rest (record { spelled = refl; again = flag_back false }) h
flag_is_read (suc zero ∷ bs) b rest h =
    read_as true b bs rest (record { spelled = refl; again = flag_back true }) h
flag_is_read (suc (suc k) ∷ bs) b rest h = cc (flag_foreign (suc (suc k)) bs (omega arith), h)

-- a number of a field
integer_is_read : (bs : List ℕ) (v : Value) (rest : List ℕ) → AreBytes bs
    → integer_of bs ≡ Ok (v, rest)
    → IsRead value_bytes value_of (1 ∷ bs) v rest
integer_is_read bs v rest small h =
    let p = parted (number_of w64 bs) _ (v, rest) h in
    let held = tested (is_number (cast_signed w64 p.part))
    (Ok (Int (cast_signed w64 p.part), p.more)) (length bs) (v, rest) p.second in
    let number = number_is_read w64 digits_64 bs p.part p.more small p.first in
    let same = of_z-to_z w64 p.part (number_below_64 bs p.part p.more small p.first) in
    read_as (Int (cast_signed w64 p.part)) v p.more rest
    (record {
      spelled =
          ap (λ l. 1 ∷ l) (number.spelled ∙ ap (λ n. number_bytes w64 n ++ p.more) (sym same));
      again = λ more. rw (same, number.again more, held.0) refl;
    })
    held.1

-- the byte of no kind
pub value_foreign : (k : ℕ) (bs : List ℕ) → 2 < k → value_of (k ∷ bs) ≡ Err (length (k ∷ bs))
value_foreign k bs above =
    rw (ne_eqb k 0 (omega arith), ne_eqb k 1 (omega arith), ne_eqb k 2 (omega arith)) refl

-- a value
pub value_is_read : (bs : List ℕ) (v : Value) (rest : List ℕ) → AreBytes bs
    → value_of bs ≡ Ok (v, rest)
    → IsRead value_bytes value_of bs v rest
value_is_read [] v rest small h = cc
value_is_read (zero ∷ bs) v rest small h =
    let p = parted (flag_of bs) _ (v, rest) h in
    let flag = flag_is_read bs p.part p.more p.first in
    read_as (Flag p.part) v p.more rest
    (record { spelled = ap (λ l. 0 ∷ l) flag.spelled; again = λ more. rw (flag.again more) refl })
    p.second
value_is_read (suc zero ∷ bs) v rest small h = integer_is_read bs v rest (λ i. small (suc i)) h
value_is_read (suc (suc zero) ∷ bs) v rest small h =
    let p = parted (text_of bs) _ (v, rest) h in
    let text = text_is_read bs p.part p.more (λ i. small (suc i)) p.first in
    read_as (Text p.part) v p.more rest
    (record { spelled = ap (λ l. 2 ∷ l) text.spelled; again = λ more. rw (text.again more) refl })
    p.second
value_is_read (suc (suc (suc k)) ∷ bs) v rest small h =
    cc (value_foreign (suc (suc (suc k))) bs (omega arith), h)

-- a name and its value are read back
pub pair_back : (last : Option (List ℕ)) (p : Pair) (more : List ℕ)
    → text_above last (text_bytes p.0 ++ (value_bytes p.1 ++ more))
    ≡ Ok (p.0, value_bytes p.1 ++ more)
    → value_of (value_bytes p.1 ++ more) ≡ Ok (p.1, more)
    → pair_of last (pair_bytes p ++ more) ≡ Ok (p, more)
pair_back last p more name value =
    rw (append_assoc (text_bytes p.0) (value_bytes p.1) more, name, value) refl

-- and those that were read stand in the bytes
pub pair_is_read : (last : Option (List ℕ)) (bs : List ℕ) (p : Pair) (rest : List ℕ) → AreBytes bs
    → pair_of last bs ≡ Ok (p, rest) → IsRead pair_bytes (pair_of last) bs p rest
pair_is_read last bs p rest small h =
    let a = parted (text_above last bs) _ (p, rest) h in
    let b = parted (value_of a.more) _ (p, rest) a.second in
    let name = above_is_read last bs a.part a.more small a.first in
    let value = value_is_read a.more b.part b.more
    (bytes_behind (text_bytes a.part) a.more bs name.spelled small) b.first in
    read_as (a.part, b.part) p b.more rest
    (record {
      spelled = joined (text_bytes a.part)
          (value_bytes b.part) b.more a.more bs name.spelled value.spelled;
      again = λ more. pair_back last (a.part, b.part) more (name.again (value_bytes b.part ++ more))
          (value.again more);
    })
    b.second
