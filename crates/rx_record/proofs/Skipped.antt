-- What was passed over is lent.
use Rattle.std.proofs.Common.{◌≡◌, ℕ, ◌-◌, ◌≤◌, List, [], length, take, true, Ok, Err, None, ap, sym, ◌∙◌, w32}
use Rattle.rx_record.specs.Reading.{Reading, rest_after, read_or, is_whole}
use Rattle.rx_record.specs.Parts.{number_of}
use Rattle.rx_record.specs.Fields.{pairs_of, fields_of, fields_bytes, all_bytes}
use Rattle.rx_record.specs.Rows.{state_bytes, state_of, state_key, states_from, row_bytes, row_of, key_of, rows_from}
use Rattle.rx_record.specs.PartRows.{part_row_bytes, row_place, part_row_of, part_rows_from}
use Rattle.rx_record.specs.Steps.{steps_bytes, steps_from, steps_count_of, steps_of}
use Rattle.rx_record.proofs.Lists.{rising_are_read}
use Rattle.rx_record.proofs.PartFormats.{part_row_format}
use Rattle.rx_record.proofs.StepFormats.{steps_format}
use Rattle.rx_record.proofs.Steps.{done, IsRead, AreBytes, rest_within, read_alone}
use Rattle.rx_record.proofs.States.{fields_are_read, state_is_read, row_is_read}

-- what was passed over was read
passed : {A : Type 0} (none : A) (m : Reading A) (rest : List ℕ) → rest_after m ≡ Ok rest
    → m ≡ done (read_or none m) rest
passed none (Ok p) rest h = let e : p.1 ≡ rest = cc in ap (λ r. done p.0 r) e
passed none (Err left) rest h = cc

-- the bytes that it took show what was read
pub record IsLent {A : Type 0} (none : A) (of : List ℕ → Reading A)
    (bs rest : List ℕ) : Type 0 where
  pub within : length rest ≤ length bs
  pub exact : of bs ≡ Ok (read_or none (of (take (length bs - length rest) bs)), rest)
  pub whole : is_whole (of (take (length bs - length rest) bs)) ≡ true

lent : {A : Type 0} (none : A) (bytes : A → List ℕ) (of : List ℕ → Reading A) (bs rest : List ℕ)
    → ((x : A) → of bs ≡ Ok (x, rest) → IsRead bytes of bs x rest) → rest_after (of bs) ≡ Ok rest
    → IsLent none of bs rest
lent none bytes of bs rest law h =
    let all = passed none (of bs) rest h in
    let read = law (read_or none (of bs)) all in
    let alone = read_alone read in
    record {
      within = rest_within read;
      exact = all ∙ ap (λ x. done x rest) (sym (ap (read_or none) alone));
      whole = ap is_whole alone;
    }

-- so fields are lent by their bytes
pub fields_whole : (bs rest : List ℕ) → AreBytes bs → rest_after (fields_of bs) ≡ Ok rest
    → IsLent [] fields_of bs rest
fields_whole bs rest small h =
    lent [] fields_bytes fields_of bs rest (λ ps. fields_are_read bs ps rest small) h

-- whose count was read first
pub fields_lent : (bs pairs rest : List ℕ) (n : ℕ) → AreBytes bs → number_of w32 bs ≡ Ok (n, pairs)
    → rest_after (pairs_of n None pairs) ≡ Ok rest → IsLent [] fields_of bs rest
fields_lent bs pairs rest n small count h =
    fields_whole bs rest small (rw count h)

-- and rows
pub rows_lent : (bs rest : List ℕ) (n : ℕ) → AreBytes bs → rest_after (rows_from n None bs)
    ≡ Ok rest
    → IsLent [] (rows_from n None) bs rest
rows_lent bs rest n small h =
    lent [] (all_bytes row_bytes) (rows_from n None) bs rest
    (λ rows read.
    (rising_are_read row_bytes key_of row_of row_is_read n None bs rows rest small read).read) h

-- and states
pub states_lent : (bs rest : List ℕ) (n : ℕ) → AreBytes bs → rest_after (states_from n None bs)
    ≡ Ok rest
    → IsLent [] (states_from n None) bs rest
states_lent bs rest n small h =
    lent [] (all_bytes state_bytes) (states_from n None) bs rest
    (λ states read. (rising_are_read state_bytes state_key state_of state_is_read n None bs states
    rest small read).read) h

-- and rows of a part
pub part_rows_lent : (bs rest : List ℕ) (n : ℕ) → AreBytes bs
    → rest_after (part_rows_from n None bs)
    ≡ Ok rest
    → IsLent [] (part_rows_from n None) bs rest
part_rows_lent bs rest n small h =
    lent [] (all_bytes part_row_bytes) (part_rows_from n None) bs rest
    (λ rows read. (rising_are_read part_row_bytes row_place part_row_of
    (λ last. (part_row_format last).read) n None bs rows
    rest small read).read) h

-- and steps, by their bytes
pub steps_lent : (bs steps rest : List ℕ) (n : ℕ) → AreBytes bs → steps_count_of bs ≡ Ok (n, steps)
    → rest_after (steps_from n None steps) ≡ Ok rest → IsLent [] steps_of bs rest
steps_lent bs steps rest n small count h =
    lent [] steps_bytes steps_of bs rest (λ ss. steps_format.read bs ss rest small) (rw count h)
