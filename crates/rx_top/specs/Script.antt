-- The story of a script: its state is how things stand, and each line means what the engine says.
use Rattle.std.specs.Prelude.{ℕ, List, [], Bool, false, if◌then◌else◌}
use Rattle.rx_engine.specs.Meaning.{Meaning, meaning, bodies_of}
use Rattle.rx_engine.specs.Standing.{Standing}
use Rattle.rx_top.specs.Lines.{is_blank}
use Rattle.rx_top.specs.Story.{Effect, Step, any_refused, replies}

-- what a meaning does
abbrev pub effect_of : Meaning → Effect Standing
effect_of m = record {
  reply = m.reply;
  bodies = bodies_of m.records;
  refused = m.refused;
  next = m.next;
}

-- what a blank line does
abbrev pub no_effect : Standing → Effect Standing
no_effect s = record { reply = []; bodies = []; refused = false; next = s }

-- what a line does
abbrev pub line_effect : Step Standing
line_effect n line s = if is_blank line then no_effect s else effect_of (meaning n line s)

-- the replies to the lines of a script, each with the emissions after it
abbrev pub transcript : List (List ℕ) → Standing → List ℕ
transcript lines s = replies line_effect 1 lines s

-- whether a line of them is refused
abbrev pub has_refusal : List (List ℕ) → Standing → Bool
has_refusal lines s = any_refused line_effect 1 lines s
