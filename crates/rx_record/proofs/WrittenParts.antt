-- What is written of migrations and of copies is read back.
use Rattle.std.proofs.Common.{◌≡◌, ℕ, ◌≤◌, List, [], ◌∷◌, ◌++◌, length, take, ◌&&◌, Option, Some, None, true, leb, Ok, refl, ◌∙◌, subst, arith, length-append, append_assoc, le-leb, w16, w32, w64}
use Rattle.std.proofs.lemmas.List.{take_all}
use Rattle.std.specs.List.{AllByRecursion}
use Rattle.std.proofs.lemmas.Bool.{and_parts}
use Rattle.rx_value.specs.Name.{is_field_name}
use Rattle.rx_value.specs.Value.{is_value}
use Rattle.rx_value.proofs.Lists.{all_weaker}
use Rattle.rx_value.specs.declared.state.State.{State}
use Rattle.rx_value.specs.declared.value.Value.{Value}
use Rattle.rx_document.specs.Place.{place_cmp}
use Rattle.rx_document.specs.declared.place.Place.{Place}
use Rattle.rx_migrate.specs.Step.{is_step, most_by, most_steps}
use Rattle.rx_migrate.specs.declared.step.Step.{Step}
use Rattle.rx_migrate.specs.declared.step.Step.TheVariants.{Rename, Set, Unset, Scale}
use Rattle.rx_record.specs.Parts.{option_bytes, option_of, number_bytes, number_of, text_bytes, text_of, is_above, is_above_by}
use Rattle.rx_record.specs.Fields.{value_bytes, value_of, all_bytes}
use Rattle.rx_record.specs.Rows.{state_bytes, state_of, states_bytes, states_of}
use Rattle.rx_record.specs.Places.{place_bytes, read_place}
use Rattle.rx_record.specs.PartRows.{part_row_bytes, row_place, some_part_row_of, part_row_of, part_rows_bytes, part_rows_of}
use Rattle.rx_record.specs.Steps.{rename_kind, set_kind, drop_kind, scale_kind, step_bytes, field_of, factor_of, step_of, no_name, any_step_of, steps_bytes, steps_of}
use Rattle.rx_record.specs.Content.{Content, migration, part, known_part, migration_kind, part_kind, known_part_kind, content_bytes, content_of}
use Rattle.rx_record.specs.Writable.{PlacesRise, ReadsBack, ShortReadsBack}
use Rattle.rx_record.specs.declared.record.PartRow.{PartRow}
use Rattle.rx_record.proofs.Numbers.{digits_32, digits_64, number_back}
use Rattle.rx_record.proofs.StepFormats.{always_above}
use Rattle.rx_record.proofs.Written.{second_fits, AreAbove, above_each, list_reads_back, things_read_back, then, lastly, behind_byte, long_back}

-- ---- steps

-- the name of a field
field_reads_back : (t : List ℕ) → is_field_name t ≡ true → ShortReadsBack text_bytes text_of t
    → ShortReadsBack text_bytes field_of t
field_reads_back t name back fits more = rw (back fits more, name) refl

pub rename_reads_back : (field to : List ℕ) → is_step (Rename field to) ≡ true
    → ShortReadsBack text_bytes text_of field → ShortReadsBack text_bytes text_of to
    → ShortReadsBack step_bytes step_of (Rename field to)
rename_reads_back field to step field_back to_back fits =
    let names = and_parts (is_field_name field) (is_field_name to) step in
    then text_bytes field_of field _ (text_bytes to) (Rename field to)
    (field_reads_back field names.0 field_back)
    (lastly text_bytes field_of to (λ t. Rename field t) (field_reads_back to names.1 to_back))
    (behind_byte rename_kind (text_bytes field ++ text_bytes to) fits)

pub set_reads_back : (field : List ℕ) (v : Value) → is_step (Set field v) ≡ true
    → ShortReadsBack text_bytes text_of field → ShortReadsBack value_bytes value_of v
    → ShortReadsBack step_bytes step_of (Set field v)
set_reads_back field v step field_back v_back fits =
    let names = and_parts (is_field_name field) (is_value v) step in
    then text_bytes field_of field _ (value_bytes v) (Set field v)
    (field_reads_back field names.0 field_back)
    (lastly value_bytes value_of v (λ w. Set field w) v_back)
    (behind_byte set_kind (text_bytes field ++ value_bytes v) fits)

pub drop_reads_back : (field : List ℕ) → is_step (Unset field) ≡ true
    → ShortReadsBack text_bytes text_of field
    → ShortReadsBack step_bytes step_of (Unset field)
drop_reads_back field step field_back fits =
    lastly text_bytes field_of field (λ t. Unset t) (field_reads_back field step field_back)
    (behind_byte drop_kind (text_bytes field) fits)

pub scale_reads_back : (field : List ℕ) (by : ℕ) → is_step (Scale field by) ≡ true
    → ShortReadsBack text_bytes text_of field → ReadsBack (number_bytes w16) (number_of w16) by
    → ShortReadsBack step_bytes step_of (Scale field by)
scale_reads_back field by step field_back by_back fits =
    let first = and_parts (is_field_name field && leb 1 by) (leb by most_by) step in
    let names = and_parts (is_field_name field) (leb 1 by) first.0 in
    let factor : ShortReadsBack (number_bytes w16) factor_of by =
    λ _ more. rw (by_back more, names.1, first.1) refl in
    then text_bytes field_of field _ (number_bytes w16 by) (Scale field by)
    (field_reads_back field names.0 field_back)
    (lastly (number_bytes w16) factor_of by (λ n. Scale field n) factor)
    (behind_byte scale_kind (text_bytes field ++ number_bytes w16 by) fits)

abbrev pub StepReadsBack : Step → Type 0
StepReadsBack s = ShortReadsBack step_bytes step_of s

-- steps
pub steps_read_back : (ss : List Step) (i : ℕ) → length ss ≤ i → length ss ≤ most_steps
    → AllByRecursion StepReadsBack (take i ss) → ShortReadsBack steps_bytes steps_of ss
steps_read_back ss i long few back fits more =
    let all : AllByRecursion StepReadsBack ss =
    subst (AllByRecursion StepReadsBack) (take_all i ss long) back in
    let short = second_fits (number_bytes w32 (length ss)) (all_bytes step_bytes ss) fits in
    rw (
      append_assoc (number_bytes w32 (length ss)) (all_bytes step_bytes ss) more,
      number_back w32 digits_32 (length ss) (all_bytes step_bytes ss ++ more) (omega arith),
      le-leb (length ss) most_steps few,
    )
    (things_read_back step_bytes no_name any_step_of always_above ss None (any_order None ss)
    (all_weaker _ _ (λ s b last _. b) ss all) short more)
  where
    any_order : (last : Option (Unit {0})) (xs : List Step)
        → AreAbove step_bytes no_name any_step_of always_above last xs
    any_order last [] = tt
    any_order last (x ∷ xs) = (refl, any_order (Some tt) xs)

-- ---- rows of a part

-- a row is, where its place is above the last
abbrev pub PartRowReadsBack : PartRow → Type 0
PartRowReadsBack r = (last : Option Place) → is_above_by place_cmp last (row_place r) ≡ true
    → ShortReadsBack part_row_bytes (part_row_of last) r

pub part_row_reads_back : (r : PartRow) → ReadsBack (number_bytes w64) (number_of w64) r.lwt
    → ReadsBack (number_bytes w64) (number_of w64) r.height
    → ((last : Option (List ℕ)) → is_above last r.state.key ≡ true
    → ShortReadsBack state_bytes (state_of last) r.state)
    → PartRowReadsBack r
part_row_reads_back r lwt height state last above fits more =
    let behind : List ℕ = number_bytes w64 r.height ++ state_bytes r.state in
    let read : some_part_row_of (part_row_bytes r ++ more) ≡ Ok (r, more) =
    then (number_bytes w64) (number_of w64) r.lwt _ behind r (long_back r.lwt lwt)
    (then (number_bytes w64) (number_of w64) r.height _ (state_bytes r.state) r
    (long_back r.height height)
    (lastly state_bytes (state_of None) r.state
    (λ s. let row : PartRow = record { lwt = r.lwt; height = r.height; state = s } in row)
    (state None refl))) fits more in
    rw (read, above) refl

pub part_rows_read_back : (rs : List PartRow) (i : ℕ) → length rs ≤ i → PlacesRise rs
    → AllByRecursion PartRowReadsBack (take i rs) → ShortReadsBack part_rows_bytes part_rows_of rs
part_rows_read_back rs i long rising back =
    list_reads_back part_row_bytes row_place part_row_of (is_above_by place_cmp)
    (λ r. omega (
      arith,
      digits_64.long r.lwt,
      length-append (number_bytes w64 r.lwt) (number_bytes w64 r.height ++ state_bytes r.state),
    ))
    rs (above_each part_row_bytes row_place part_row_of place_cmp rs rising)
    (subst (AllByRecursion PartRowReadsBack) (take_all i rs long) back)

-- a row's parts are added one after another
pub three_more : (before front p q r o1 o2 o3 o4 : List ℕ) → o1 ≡ before ++ front → o2 ≡ o1 ++ p
    → o3 ≡ o2 ++ q → o4 ≡ o3 ++ r
    → o4 ≡ before ++ (front ++ (p ++ (q ++ r)))
three_more before front p q r o1 o2 o3 o4 e1 e2 e3 e4 =
    let all : o4 ≡ (((before ++ front) ++ p) ++ q) ++ r = cc in
    all ∙ simp append_assoc

-- ---- records

pub migration_reads_back : (name schema : List ℕ) (steps : List Step)
    → ShortReadsBack text_bytes text_of name → ShortReadsBack text_bytes text_of schema
    → ShortReadsBack steps_bytes steps_of steps
    → ShortReadsBack content_bytes content_of (migration name schema steps)
migration_reads_back name schema steps name_back schema_back steps_back fits =
    let c : Content = migration name schema steps in
    then text_bytes text_of name _ (text_bytes schema ++ steps_bytes steps) c name_back
    (then text_bytes text_of schema _ (steps_bytes steps) c schema_back
    (lastly steps_bytes steps_of steps (migration name schema) steps_back))
    (behind_byte migration_kind (text_bytes name ++ (text_bytes schema ++ steps_bytes steps)) fits)

pub part_reads_back : (name : List ℕ) (written : List PartRow)
    → ShortReadsBack text_bytes text_of name
    → ShortReadsBack part_rows_bytes part_rows_of written
    → ShortReadsBack content_bytes content_of (part name written)
part_reads_back name written name_back written_back fits =
    then text_bytes text_of name _ (part_rows_bytes written) (part name written) name_back
    (lastly part_rows_bytes part_rows_of written (part name) written_back)
    (behind_byte part_kind (text_bytes name ++ part_rows_bytes written) fits)

pub known_part_reads_back : (name : List ℕ) (known : List State) (up down : Option Place)
    → ShortReadsBack text_bytes text_of name → ShortReadsBack states_bytes states_of known
    → ShortReadsBack (option_bytes place_bytes) (option_of read_place) up
    → ShortReadsBack (option_bytes place_bytes) (option_of read_place) down
    → ShortReadsBack content_bytes content_of (known_part name known up down)
known_part_reads_back name known up down name_back known_back up_back down_back fits =
    let c : Content = known_part name known up down in
    let places : List ℕ = option_bytes place_bytes up ++ option_bytes place_bytes down in
    then text_bytes text_of name _ (states_bytes known ++ places) c name_back
    (then states_bytes states_of known _ places c known_back
    (then (option_bytes place_bytes) (option_of read_place) up _
    (option_bytes place_bytes down) c up_back
    (lastly (option_bytes place_bytes) (option_of read_place) down
    (known_part name known up) down_back)))
    (behind_byte known_part_kind (text_bytes name ++ (states_bytes known ++ places)) fits)
