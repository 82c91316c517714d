-- How far the numbers of requests go over the lines of a script.
use Rattle.std.specs.Prelude.{◌≡◌, ℕ, ◌+◌, ◌*◌, ◌≤◌, List, [], ◌∷◌, length}
use Rattle.rx_sync.specs.Asks.{asks_of, most_number}
use Rattle.rx_engine.specs.Kept.{IsInOrder}
use Rattle.rx_engine.specs.Lines.{Task, turns, calls, sweeps, delivers, task}
use Rattle.rx_engine.specs.Meaning.{meaning}
use Rattle.rx_engine.specs.Standing.{Standing}
use Rattle.rx_engine.specs.Streams.{delivered_by}
use Rattle.rx_steps.specs.History.{Lasting}
use Rattle.rx_steps.specs.Scripts.{AreInOrder, standing_behind}

-- the most requests that a line makes: a turn as many as its budget
abbrev pub most_asked : Task → ℕ
most_asked (turns u) = u.budget
most_asked (calls c) = c.budget
most_asked (sweeps v) = v.budget * length v.steps
most_asked other = 0

-- and lines one after another, the first of that number
abbrev pub most_asked_by : ℕ → List (List ℕ) → Standing → ℕ
most_asked_by n [] s = 0
most_asked_by n (line ∷ lines) s =
    most_asked (task s.kinds line s.session) + most_asked_by (n + 1) lines (meaning n line s).next

-- a line raises the number of a replication's last request by no more
abbrev pub LinesAskNoMore : Type 0
LinesAskNoMore =
    (name : List ℕ) (n : ℕ) (line : List ℕ) (s : Standing)
    → (asks_of name (meaning n line s).next.asks).n
    ≤ (asks_of name s.asks).n + most_asked (task s.kinds line s.session)

-- nor do lines together
abbrev pub ScriptsAskNoMore : Type 0
ScriptsAskNoMore =
    (name : List ℕ) (n : ℕ) (lines : List (List ℕ)) (s : Standing)
    → (asks_of name (standing_behind n lines s).asks).n
    ≤ (asks_of name s.asks).n + most_asked_by n lines s

-- a line delivers nothing to the fork of a replication
abbrev pub DeliversNothing : Lasting → Task → Standing → Type 0
DeliversNothing l (delivers d) s = d.name ≡ l.name → (delivered_by d s.session).records ≡ []
DeliversNothing l other s = Unit {0}

-- each line is in order, as a session plays it, and delivers nothing to that fork
abbrev pub ArePlayedFor : Lasting → ℕ → List (List ℕ) → Standing → Type 0
ArePlayedFor l n [] s = Unit {0}
ArePlayedFor l n (line ∷ lines) s =
    IsInOrder (task s.kinds line s.session) s.session
    × DeliversNothing l (task s.kinds line s.session) s
    × ArePlayedFor l (n + 1) lines (meaning n line s).next

-- where all that such lines may ask fits, each of their requests has a number, so they are in order
-- for the replication
abbrev pub FewRequestsHaveNumbers : Type 0
FewRequestsHaveNumbers =
    (l : Lasting) (n : ℕ) (lines : List (List ℕ)) (s : Standing)
    → (asks_of l.name s.asks).n + most_asked_by n lines s ≤ most_number
    → ArePlayedFor l n lines s → AreInOrder l n lines s
