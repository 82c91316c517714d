-- States and rows that were read.
use Rattle.std.proofs.Common.{◌≡◌, Bool, List, ◌++◌, ℕ, Option, Ok, refl, ap, ◌∙◌, append_assoc, w64}
use Rattle.rx_value.specs.Fields.{Pairs}
use Rattle.rx_value.specs.declared.state.State.{State}
use Rattle.rx_record.specs.Reading.{◌▸◌}
use Rattle.rx_record.specs.Parts.{number_bytes, number_of, flag_bytes, flag_of, text_bytes, text_above}
use Rattle.rx_record.specs.Fields.{fields_bytes, fields_of, pair_bytes, pair_of}
use Rattle.rx_record.specs.Rows.{state_bytes, state_of, row_bytes, row_of}
use Rattle.rx_record.specs.declared.record.RowOut.{RowOut}
use Rattle.rx_record.proofs.Steps.{parted, joined, read_as, IsRead, AreBytes, bytes_behind}
use Rattle.rx_record.proofs.Numbers.{digits_64, number_is_read}
use Rattle.rx_record.proofs.Texts.{above_is_read}
use Rattle.rx_record.proofs.Lists.{list_is_read}
use Rattle.rx_record.proofs.Values.{flag_is_read, flag_back, pair_is_read}

-- fields that were read stand in the bytes
pub fields_are_read : (bs : List ℕ) (ps : Pairs) (rest : List ℕ) → AreBytes bs
    → fields_of bs ≡ Ok (ps, rest) → IsRead fields_bytes fields_of bs ps rest
fields_are_read = list_is_read pair_bytes (λ p. p.0) pair_of pair_is_read

-- a state is read back where its key and fields are
pub state_back : (last : Option (List ℕ)) (s : State) (more : List ℕ)
    → text_above last
    (text_bytes s.key ++ (flag_bytes s.deleted ++ (fields_bytes s.fields ++ more)))
    ≡ Ok (s.key, flag_bytes s.deleted ++ (fields_bytes s.fields ++ more))
    → fields_of (fields_bytes s.fields ++ more) ≡ Ok (s.fields, more)
    → state_of last (state_bytes s ++ more) ≡ Ok (s, more)
state_back last s more key fields =
    let split : state_bytes s ++ more
    ≡ text_bytes s.key ++ (flag_bytes s.deleted ++ (fields_bytes s.fields ++ more)) =
    append_assoc (text_bytes s.key) (flag_bytes s.deleted ++ fields_bytes s.fields) more
    ∙ ap (λ l. text_bytes s.key ++ l)
    (append_assoc (flag_bytes s.deleted) (fields_bytes s.fields) more) in
    ap (state_of last) split
    ∙ rw (key, flag_back s.deleted (fields_bytes s.fields ++ more), fields) refl

-- and one that was read stands in the bytes
pub state_is_read : (last : Option (List ℕ)) (bs : List ℕ) (s : State) (rest : List ℕ) → AreBytes bs
    → state_of last bs ≡ Ok (s, rest) → IsRead state_bytes (state_of last) bs s rest
state_is_read last bs s rest small h =
    let made : List ℕ → Bool → Pairs → State =
    λ key deleted fields. record { key = key; fields = fields; deleted = deleted } in
    let a = parted (text_above last bs) _ (s, rest) h in
    let b = parted (flag_of a.more) _ (s, rest) a.second in
    let d = parted (fields_of b.more) _ (s, rest) b.second in
    let key = above_is_read last bs a.part a.more small a.first in
    let small_a = bytes_behind (text_bytes a.part) a.more bs key.spelled small in
    let deleted = flag_is_read a.more b.part b.more b.first in
    let small_b = bytes_behind (flag_bytes b.part) b.more a.more deleted.spelled small_a in
    let fields = fields_are_read b.more d.part d.more small_b d.first in
    read_as (made a.part b.part d.part) s d.more rest
    (record {
      spelled = joined (text_bytes a.part)
          (flag_bytes b.part ++ fields_bytes d.part) d.more a.more bs key.spelled
          (joined (flag_bytes b.part)
          (fields_bytes d.part) d.more b.more a.more deleted.spelled fields.spelled);
      again = λ more. state_back last (made a.part b.part d.part) more
          (key.again (flag_bytes b.part ++ (fields_bytes d.part ++ more))) (fields.again more);
    })
    d.second

-- a row is read back where its parts are
pub row_back : (last : Option (List ℕ)) (r : RowOut) (more : List ℕ)
    → number_of w64 (number_bytes w64 r.height ++ (state_bytes r.state ++ more))
    ≡ Ok (r.height, state_bytes r.state ++ more)
    → state_of last (state_bytes r.state ++ more) ≡ Ok (r.state, more)
    → row_of last (row_bytes r ++ more) ≡ Ok (r, more)
row_back last r more height state =
    ap (row_of last) (append_assoc (number_bytes w64 r.height) (state_bytes r.state) more)
    ∙ rw height (ap (λ m. m ▸ λ s rest. Ok (record { height = r.height; state = s }, rest)) state)

-- and one that was read stands in the bytes
pub row_is_read : (last : Option (List ℕ)) (bs : List ℕ) (r : RowOut) (rest : List ℕ) → AreBytes bs
    → row_of last bs ≡ Ok (r, rest) → IsRead row_bytes (row_of last) bs r rest
row_is_read last bs r rest small h =
    let made : ℕ → State → RowOut = λ height state. record { height = height; state = state } in
    let a = parted (number_of w64 bs) _ (r, rest) h in
    let b = parted (state_of last a.more) _ (r, rest) a.second in
    let height = number_is_read w64 digits_64 bs a.part a.more small a.first in
    let state = state_is_read last a.more b.part b.more
    (bytes_behind (number_bytes w64 a.part) a.more bs height.spelled small) b.first in
    read_as (made a.part b.part) r b.more rest
    (record {
      spelled = joined (number_bytes w64 a.part)
          (state_bytes b.part) b.more a.more bs height.spelled state.spelled;
      again = λ more. row_back last (made a.part b.part) more
          (height.again (state_bytes b.part ++ more)) (state.again more);
    })
    b.second
