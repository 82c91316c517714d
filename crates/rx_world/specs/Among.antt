-- That rows are among others.
use Rattle.std.specs.Prelude.{◌≡◌, true, ℕ, List}
use Rattle.rx_record.specs.declared.record.RowOut.{RowOut}
use Rattle.rx_world.specs.Step.{has_key}

-- each key of these rows is one of those
abbrev pub AreAmong : List RowOut → List RowOut → Type 0
AreAmong some all = (key : List ℕ) → has_key key some ≡ true → has_key key all ≡ true
