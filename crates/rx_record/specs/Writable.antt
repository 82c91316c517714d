-- What reads back as it was written: the lengths fit, and the orders are those of the format.
use Rattle.std.specs.Prelude.{◌≡◌, ℕ, ◌<◌, ◌≤◌, ◌^◌, List, ◌++◌, length, map, true, Option, IfSome, Ok}
use Rattle.std.specs.List.{AllByRecursion}
use Rattle.std.specs.List.Sorted.{IsStrictlySortedBy}
use Rattle.rx_value.specs.Fields.{Pair, Pairs, AreFields}
use Rattle.rx_value.specs.Order.{text_cmp}
use Rattle.rx_value.specs.declared.state.State.{State}
use Rattle.rx_value.specs.declared.value.Value.{Value}
use Rattle.rx_value.specs.declared.value.Value.TheVariants.{Flag, Int, Text}
use Rattle.rx_document.specs.Place.{place_cmp}
use Rattle.rx_document.specs.declared.place.Place.{Place}
use Rattle.rx_migrate.specs.Step.{is_step, most_steps}
use Rattle.rx_migrate.specs.declared.step.Step.{Step}
use Rattle.rx_migrate.specs.declared.step.Step.TheVariants.{Rename, Set, Unset, Scale}
use Rattle.rx_record.specs.Content.{Content, collection, rows, replication, exchange, epoch, migration, part, known_part, end}
use Rattle.rx_record.specs.PartRows.{row_place}
use Rattle.rx_record.specs.Places.{is_time}
use Rattle.rx_record.specs.Reading.{Reading}
use Rattle.rx_record.specs.Rows.{state_key, key_of}
use Rattle.rx_record.specs.declared.record.MasterName.{MasterName}
use Rattle.rx_record.specs.declared.record.MasterName.TheVariants.{Local, Port}
use Rattle.rx_record.specs.declared.record.PartRow.{PartRow}
use Rattle.rx_record.specs.declared.record.RowOut.{RowOut}

-- the length of a text or a list has four bytes
abbrev pub Fits : {A : Type 0} → List A → Type 0
Fits xs = length xs < 2 ^ 32

-- the texts of a pair fit
abbrev pub ValueFits : Value → Type 0
ValueFits (Flag b) = Unit {0}
ValueFits (Int z) = Unit {0}
ValueFits (Text t) = Fits t

pub record PairFits (p : Pair) : Type 0 where
  pub name : Fits p.0
  pub value : ValueFits p.1

-- fields whose names rise and whose numbers are in range, as `Fields` keep them
pub record AreWritableFields (ps : Pairs) : Type 0 where
  pub count : Fits ps
  pub fields : AreFields ps
  pub pairs : AllByRecursion PairFits ps

pub record IsWritableState (s : State) : Type 0 where
  pub key : Fits s.key
  pub fields : AreWritableFields s.fields

pub record IsWritablePlace (p : Place) : Type 0 where
  pub time : is_time p.lwt ≡ true
  pub id : Fits p.id

abbrev pub MasterFits : MasterName → Type 0
MasterFits (Local name) = Fits name
MasterFits (Port port) = Unit {0}

-- the keys of states rise
abbrev pub StatesRise : List State → Type 0
StatesRise known = IsStrictlySortedBy text_cmp (map state_key known)

-- the keys of rows rise
abbrev pub KeysRise : List RowOut → Type 0
KeysRise written = IsStrictlySortedBy text_cmp (map key_of written)

-- the places of a part's rows rise
abbrev pub PlacesRise : List PartRow → Type 0
PlacesRise written = IsStrictlySortedBy place_cmp (map row_place written)

-- the place has a write time
abbrev pub HasTime : Place → Type 0
HasTime p = is_time p.lwt ≡ true

-- an exchange whose rows and known states are in order, and whose checkpoints have write times
pub record IsOrderedExchange (written : List RowOut) (known : List State) (up down : Option Place)
    : Type 0 where
  pub rows_rise : KeysRise written
  pub states_rise : StatesRise known
  pub up_has_time : IfSome up HasTime
  pub down_has_time : IfSome down HasTime

-- a part of known states that are in order, with checkpoints that have write times
pub record IsOrderedKnown (known : List State) (up down : Option Place) : Type 0 where
  pub states_rise : StatesRise known
  pub up_has_time : IfSome up HasTime
  pub down_has_time : IfSome down HasTime

-- a record whose rows and states are in order, and whose places have write times
abbrev pub IsOrdered : Content → Type 0
IsOrdered (collection name schema) = Unit {0}
IsOrdered (rows name lwt written) = KeysRise written
IsOrdered (replication name fork master handler field) = Unit {0}
IsOrdered (exchange name lwt written known up down) = IsOrderedExchange written known up down
IsOrdered (epoch number) = Unit {0}
IsOrdered (migration name schema steps) = Unit {0}
IsOrdered (part name written) = PlacesRise written
IsOrdered (known_part name known up down) = IsOrderedKnown known up down
IsOrdered (end number) = Unit {0}

-- rows whose keys rise
pub record AreWritableRows (written : List RowOut) : Type 0 where
  pub count : Fits written
  pub rising : KeysRise written
  pub states : AllByRecursion (λ row. IsWritableState row.state) written

-- states whose keys rise
pub record AreWritableStates (known : List State) : Type 0 where
  pub count : Fits known
  pub rising : StatesRise known
  pub states : AllByRecursion IsWritableState known

pub record IsWritableReplication (name fork : List ℕ) (master : MasterName) (handler : List ℕ)
    (field : Option (List ℕ)) : Type 0 where
  pub name_fits : Fits name
  pub fork_fits : Fits fork
  pub master_fits : MasterFits master
  pub handler_fits : Fits handler
  pub field_fits : IfSome field Fits

pub record IsWritableExchange (name : List ℕ) (written : List RowOut) (known : List State)
    (up down : Option Place) : Type 0 where
  pub name_fits : Fits name
  pub written_rows : AreWritableRows written
  pub known_states : AreWritableStates known
  pub up_place : IfSome up IsWritablePlace
  pub down_place : IfSome down IsWritablePlace

-- the texts of a step fit
abbrev pub StepFits : Step → Type 0
StepFits (Rename field to) = Fits field × Fits to
StepFits (Set field v) = Fits field × ValueFits v
StepFits (Unset field) = Fits field
StepFits (Scale field by) = Fits field

-- a step that a line takes
pub record IsWritableStep (s : Step) : Type 0 where
  pub step : is_step s ≡ true
  pub fits : StepFits s

-- such steps, and not too many
pub record AreWritableSteps (steps : List Step) : Type 0 where
  pub few : length steps ≤ most_steps
  pub each : AllByRecursion IsWritableStep steps

-- rows of a part, whose places rise
pub record AreWritablePartRows (written : List PartRow) : Type 0 where
  pub count : Fits written
  pub rising : PlacesRise written
  pub states : AllByRecursion (λ row. IsWritableState row.state) written

pub record IsWritableMigration (name schema : List ℕ) (steps : List Step) : Type 0 where
  pub name_fits : Fits name
  pub schema_fits : Fits schema
  pub written_steps : AreWritableSteps steps

pub record IsWritableKnown (name : List ℕ) (known : List State) (up down : Option Place)
    : Type 0 where
  pub name_fits : Fits name
  pub known_states : AreWritableStates known
  pub up_place : IfSome up IsWritablePlace
  pub down_place : IfSome down IsWritablePlace

-- a record
abbrev pub IsWritable : Content → Type 0
IsWritable (collection name schema) = Fits name × Fits schema
IsWritable (rows name lwt written) = Fits name × AreWritableRows written
IsWritable (replication name fork master handler field) =
    IsWritableReplication name fork master handler field
IsWritable (exchange name lwt written known up down) = IsWritableExchange name written known up down
IsWritable (epoch number) = Unit {0}
IsWritable (migration name schema steps) = IsWritableMigration name schema steps
IsWritable (part name written) = Fits name × AreWritablePartRows written
IsWritable (known_part name known up down) = IsWritableKnown name known up down
IsWritable (end number) = Unit {0}

-- what is written of it is read as itself, whatever stands behind
abbrev pub ReadsBack : {A : Type 0} → (A → List ℕ) → (List ℕ → Reading A) → A → Type 0
ReadsBack bytes of x = (more : List ℕ) → of (bytes x ++ more) ≡ Ok (x, more)

-- so it is if its bytes fit, and then each text and list in it does
abbrev pub ShortReadsBack : {A : Type 0} → (A → List ℕ) → (List ℕ → Reading A) → A → Type 0
ShortReadsBack bytes of x = Fits (bytes x) → ReadsBack bytes of x
