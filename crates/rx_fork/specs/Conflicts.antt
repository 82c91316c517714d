-- Conflicts, gone through beside the rows of their push.
use Rattle.std.specs.Prelude.{List, [], ◌∷◌, if◌then◌else◌}
use Rattle.std.specs.Str.{bytes_eq}
use Rattle.rx_value.specs.declared.state.State.{State}
use Rattle.rx_wire.specs.declared.message.PushRow.{PushRow}

-- those that are left for the rows behind one: a first conflict of its key is its own
abbrev pub conflicts_left : List State → PushRow → List State
conflicts_left [] row = []
conflicts_left (s ∷ ss) row = if bytes_eq s.key row.new.key then ss else s ∷ ss
