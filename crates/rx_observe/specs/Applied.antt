-- What `apply` answers.
use Rattle.std.specs.Prelude.{Bool, true, false}
use Rattle.rx_table.specs.declared.action.Action.{Action}
use Rattle.rx_table.specs.declared.action.Action.TheVariants.{DoNothing, RunFullQueryAgain}
use Rattle.rx_observe.specs.declared.observed.Applied.{Applied}
use Rattle.rx_observe.specs.declared.observed.Applied.TheVariants.{Patched, NeedsFull}

-- for an action
abbrev pub answer_for : Action → Applied
answer_for RunFullQueryAgain = NeedsFull
answer_for _ = Patched

-- an action may change the rows
abbrev pub changes_rows : Action → Bool
changes_rows DoNothing = false
changes_rows _ = true
