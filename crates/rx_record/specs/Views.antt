-- What lent parts show.
use Rattle.std.specs.Prelude.{ℕ, List, [], None, Result}
use Rattle.rx_value.specs.Fields.{Pair, Pairs}
use Rattle.rx_value.specs.declared.state.State.{State}
use Rattle.rx_value.specs.declared.value.Value.{Value}
use Rattle.rx_value.specs.declared.value.Value.TheVariants.{Flag, Int, Text}
use Rattle.rx_migrate.specs.declared.step.Step.{Step}
use Rattle.rx_migrate.specs.declared.step.Step.TheVariants.{Rename, Set, Unset, Scale}
use Rattle.rx_record.specs.Reading.{rest_after, read_or}
use Rattle.rx_record.specs.Fields.{pairs_of, fields_of}
use Rattle.rx_record.specs.Rows.{states_from, rows_from}
use Rattle.rx_record.specs.PartRows.{part_rows_from}
use Rattle.rx_record.specs.Steps.{steps_of}
use Rattle.rx_record.specs.declared.record.MasterName.{MasterName}
use Rattle.rx_record.specs.declared.record.MasterName.TheVariants.{Local, Port}
use Rattle.rx_record.specs.declared.record.PartRow.{PartRow}
use Rattle.rx_record.specs.declared.record.RowOut.{RowOut}
use Rattle.rx_record.specs.declared.master_view.MasterView.{MasterView}
use Rattle.rx_record.specs.declared.master_view.MasterView.TheVariants as lent_master
use Rattle.rx_record.specs.declared.pair_view.PairView.{PairView}
use Rattle.rx_record.specs.declared.pair_views.PairViews.{PairViews}
use Rattle.rx_record.specs.declared.part_view.PartView.{PartView}
use Rattle.rx_record.specs.declared.part_views.PartViews.{PartViews}
use Rattle.rx_record.specs.declared.row_view.RowView.{RowView}
use Rattle.rx_record.specs.declared.row_views.RowViews.{RowViews}
use Rattle.rx_record.specs.declared.state_view.StateView.{StateView}
use Rattle.rx_record.specs.declared.state_views.StateViews.{StateViews}
use Rattle.rx_record.specs.declared.step_view.StepView.{StepView}
use Rattle.rx_record.specs.declared.step_view.StepView.TheVariants as lent_step
use Rattle.rx_record.specs.declared.value_view.ValueView.{ValueView}
use Rattle.rx_record.specs.declared.value_view.ValueView.TheVariants as lent

-- the value
abbrev pub value_in : ValueView → Value
value_in (lent.Flag b) = Flag b
value_in (lent.Int z) = Int z
value_in (lent.Text t) = Text t.now

-- the name and the value
abbrev pub pair_in : PairView → Pair
pair_in p = (p.name.now, value_in p.value)

-- the fields that stand in bytes
abbrev pub fields_in : List ℕ → Pairs
fields_in bs = read_or [] (fields_of bs)

-- the pairs that are still to come
abbrev pub pairs_left : PairViews → Pairs
pairs_left p = read_or [] (pairs_of p.left None p.bytes.now)

-- the bytes behind them
abbrev pub end_of : PairViews → Result (List ℕ) ℕ
end_of p = rest_after (pairs_of p.left None p.bytes.now)

-- the state
abbrev pub state_in : StateView → State
state_in s = record { key = s.key.now; fields = fields_in s.fields.now; deleted = s.deleted }

-- the states that are still to come
abbrev pub states_left : StateViews → List State
states_left s = read_or [] (states_from s.left None s.bytes.now)

-- the row
abbrev pub row_in : RowView → RowOut
row_in r = record { height = r.height; state = state_in r.state }

-- the rows that are still to come
abbrev pub rows_left : RowViews → List RowOut
rows_left r = read_or [] (rows_from r.left None r.bytes.now)

-- the row of a part
abbrev pub part_row_in : PartView → PartRow
part_row_in r = record { lwt = r.lwt; height = r.height; state = state_in r.state }

-- the rows of a part that are still to come
abbrev pub part_rows_left : PartViews → List PartRow
part_rows_left r = read_or [] (part_rows_from r.left None r.bytes.now)

-- the step
abbrev pub step_in : StepView → Step
step_in (lent_step.Rename field to) = Rename field.now to.now
step_in (lent_step.Set field v) = Set field.now (value_in v)
step_in (lent_step.Unset field) = Unset field.now
step_in (lent_step.Scale field by) = Scale field.now by

-- the steps that stand in bytes
abbrev pub steps_in : List ℕ → List Step
steps_in bs = read_or [] (steps_of bs)

-- the name, or the port
abbrev pub master_in : MasterView → MasterName
master_in (lent_master.Local name) = Local name.now
master_in (lent_master.Port port) = Port port
