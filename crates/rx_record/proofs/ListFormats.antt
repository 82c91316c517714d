-- Lists of parts, each of which goes by the one before, behind a count.
use Rattle.std.proofs.Common.{◌≡◌, ℕ, zero, suc, List, ◌∷◌, ◌++◌, length, Bool, true, Option, Some, None, Ok, ap, sym, ◌∙◌, subst, append_assoc, arith, w32}
use Rattle.rx_record.specs.Reading.{Reading, ◌▸◌}
use Rattle.rx_record.specs.Parts.{number_bytes}
use Rattle.rx_record.specs.Fields.{all_bytes, rising_of, list_bytes}
use Rattle.rx_record.proofs.Steps.{parted, joined, IsRead, AreBytes, bytes_behind}
use Rattle.rx_record.proofs.Lists.{PartIsRead, rising_are_read}
use Rattle.rx_record.proofs.Kept.{Chain, Keeps, chained}
use Rattle.rx_record.proofs.Within.{IsWithin, grows}
use Rattle.rx_record.proofs.Formats.{IsFormat, step_within}

module _ {A L : Type 0} (bytes : A → List ℕ) (name : A → L) (part : Option L → List ℕ → Reading A)
    (above : Option L → L → Bool) (P : A → Type 0)
    (format : (last : Option L)
    → IsFormat bytes (part last) (λ x. (above last (name x) ≡ true) × P x)) where
  pub part_is_read : PartIsRead bytes name part
  part_is_read last = (format last).read

  part_keeps : Keeps bytes name part above P
  part_keeps last = (format last).keeps

  rising_within : (n : ℕ) (last : Option L) (bs : List ℕ) → AreBytes bs
      → IsWithin (rising_of name part n last bs) (length bs)
  rising_within zero last bs small = omega arith
  rising_within (suc n) last bs small =
      step_within (part last bs)
      (λ x more. rising_of name part n (Some (name x)) more ▸ λ xs rest. Ok (x ∷ xs, rest))
      (length bs) ((format last).within bs small)
      (λ x more is less.
      step_within (rising_of name part n (Some (name x)) more)
      (λ xs rest. Ok (x ∷ xs, rest)) (length bs)
      (grows (rising_of name part n (Some (name x)) more) (length more) (length bs) less
      (rising_within n (Some (name x)) more
      (bytes_behind (bytes x) more bs ((format last).read bs x more small is).spelled small)))
      (λ xs rest was fewer. fewer))

  module _ {C : ℕ → Type 0} (count_of : List ℕ → Reading ℕ)
      (count : IsFormat (number_bytes w32) count_of C)
      (K : List A → Type 0)
      (keeps : (xs : List A) → C (length xs) → Chain bytes name part above P None xs → K xs) where
    -- the things behind a count
    abbrev listed : List ℕ → Reading (List A)
    listed bs = count_of bs ▸ λ n more. rising_of name part n None more

    listed_within : (bs : List ℕ) → AreBytes bs → IsWithin (listed bs) (length bs)
    listed_within bs small =
        step_within (count_of bs) (λ n more. rising_of name part n None more) (length bs)
        (count.within bs small)
        (λ n more is less. grows (rising_of name part n None more) (length more) (length bs) less
        (rising_within n None more
        (bytes_behind (number_bytes w32 n) more bs (count.read bs n more small is).spelled small)))

    listed_is_read : (bs : List ℕ) (xs : List A) (rest : List ℕ) → AreBytes bs
        → listed bs ≡ Ok (xs, rest)
        → IsRead (list_bytes bytes) listed bs xs rest
    listed_is_read bs xs rest small h =
        let p = parted (count_of bs) (λ n more. rising_of name part n None more) (xs, rest) h in
        let one = count.read bs p.part p.more small p.first in
        let things = rising_are_read bytes name part part_is_read p.part None p.more xs rest
        (bytes_behind (number_bytes w32 p.part) p.more bs one.spelled small) p.second in
        let many = things.many in
        record {
          spelled = joined (number_bytes w32 (length xs)) (all_bytes bytes xs) rest p.more bs
              (one.spelled ∙ ap (λ k. number_bytes w32 k ++ p.more) (sym many)) things.read.spelled;
          again = λ more.
              ap (λ l. count_of l ▸ λ n after. rising_of name part n None after)
              (append_assoc (number_bytes w32 (length xs)) (all_bytes bytes xs) more)
              ∙ ap (λ k. count_of (number_bytes w32 k ++ (all_bytes bytes xs ++ more)) ▸ λ n after.
              rising_of name part n None after) many
              ∙ ap (λ m. m ▸ λ n after. rising_of name part n None after)
              (one.again (all_bytes bytes xs ++ more))
              ∙ things.read.again more;
        }

    listed_keeps : (bs : List ℕ) (xs : List A) (rest : List ℕ) → AreBytes bs
        → listed bs ≡ Ok (xs, rest) → K xs
    listed_keeps bs xs rest small h =
        let p = parted (count_of bs) (λ n more. rising_of name part n None more) (xs, rest) h in
        let one = count.read bs p.part p.more small p.first in
        let behind = bytes_behind (number_bytes w32 p.part) p.more bs one.spelled small in
        let things = rising_are_read bytes name part part_is_read p.part None p.more xs rest
        behind p.second in
        keeps xs (subst C (sym things.many) (count.keeps bs p.part p.more small p.first))
        (chained bytes name part above P part_is_read part_keeps p.part None p.more xs rest
        behind p.second)

    pub list_format : IsFormat (list_bytes bytes) listed K
    list_format = record { within = listed_within; read = listed_is_read; keeps = listed_keeps }
