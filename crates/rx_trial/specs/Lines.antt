-- The lines of a script.
use Rattle.std.specs.Prelude.{ℕ, zero, suc, List, [], ◌∷◌, ◌++◌, map, drop, if◌then◌else◌}
use Rattle.rx_trial.specs.Drawing.{line}
use Rattle.rx_trial.specs.Printing.{text}
use Rattle.rx_trial.specs.declared.line.Side.TheVariants.{Fork, Master}
use Rattle.rx_trial.specs.declared.line.Line.{Line}
use Rattle.rx_trial.specs.declared.line.Line.TheVariants.{Collection, Replicate, ObserveFork, ObserveMaster, LastTurn}
use Rattle.rx_trial.specs.declared.lines.Lines.{Lines}

-- two collections, one the fork of the other, and a query observed in each
abbrev pub opening : List Line
opening = Collection Master ∷ Collection Fork ∷ Replicate ∷ ObserveFork ∷ ObserveMaster ∷ []

-- so many lines, drawn from a state
abbrev pub drawn : ℕ → ℕ → List Line
drawn zero x = []
drawn (suc n) x = (line x).gives ∷ drawn n (line x).state

-- the script of a seed with so many lines of its own
abbrev pub script : ℕ → ℕ → List (List ℕ)
script seed n = map text (opening ++ (drawn n seed ++ LastTurn ∷ []))

-- the lines that are left
abbrev pub lines_left : Lines → List Line
lines_left l =
    drop l.given opening ++ (drawn l.left l.state ++ (if l.ended then [] else LastTurn ∷ []))
