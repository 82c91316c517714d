-- What a script draws: numbers from a state that each draw changes, and lines from numbers.
use Rattle.std.specs.Prelude.{ℕ, zero, suc, ◌+◌, ◌*◌, ◌/◌, ◌%◌, ◌^◌, ◌==◌, nat_lt, if◌then◌else◌}
use Rattle.rx_trial.specs.declared.line.Side.{Side}
use Rattle.rx_trial.specs.declared.line.Side.TheVariants.{Fork, Master}
use Rattle.rx_trial.specs.declared.line.Happening.{Happening}
use Rattle.rx_trial.specs.declared.line.Happening.TheVariants.{Fine, LosesRequest, LosesReply, Twice, Stale}
use Rattle.rx_trial.specs.declared.line.Line.{Line}
use Rattle.rx_trial.specs.declared.line.Line.TheVariants.{Upsert, Remove, Patch, Tick, Restart, LinkedTurn, Turn}

-- the state after a draw
unfoldable pub stirred : ℕ → ℕ
stirred x = (x * 6364136223846793005 + 1442695040888963407) % 2 ^ 64

-- the number below m that is drawn
unfoldable pub draw : ℕ → ℕ → ℕ
draw m x = stirred x / 2 ^ 33 % m

-- the state after k draws
abbrev pub after : ℕ → ℕ → ℕ
after zero x = x
after (suc k) x = after k (stirred x)

-- what draws gave, and the state after them
pub record Drawn (X : Type 0) : Type 0 where
  pub gives : X
  pub state : ℕ

-- a document in a collection: its key, its number, and whether it is on
abbrev pub upsert : Side → ℕ → Drawn Line
upsert side x = record {
  gives = Upsert side (draw 50 x) (draw 100 (after 1 x)) (draw 2 (after 2 x) == 1);
  state = after 3 x;
}

abbrev pub remove : Side → ℕ → Drawn Line
remove side x = record { gives = Remove side (draw 50 x); state = after 1 x }

abbrev pub patch : ℕ → Drawn Line
patch x = record { gives = Patch (draw 50 x) (draw 100 (after 1 x)); state = after 2 x }

abbrev pub tick : ℕ → Drawn Line
tick x = record { gives = Tick (draw 1000000 x); state = after 1 x }

abbrev pub happening_of : ℕ → Happening
happening_of h =
    if nat_lt h 2 then Fine else if h == 2 then LosesRequest
    else if h == 3 then LosesReply else if h == 4 then Twice else Stale

-- a turn with a batch, and three things that happen on its link
abbrev pub linked_turn : ℕ → Drawn Line
linked_turn x = record {
  gives = LinkedTurn (1 + draw 5 x) (happening_of (draw 6 (after 1 x)))
      (happening_of (draw 6 (after 2 x))) (happening_of (draw 6 (after 3 x)));
  state = after 4 x;
}

-- the line of a number below 16, with what it draws
abbrev pub line_by : ℕ → ℕ → Drawn Line
line_by c x =
    if nat_lt c 6 then upsert Fork x
    else if nat_lt c 9 then upsert Master x
    else if c == 9 then remove Fork x
    else if c == 10 then remove Master x
    else if c == 11 then patch x
    else if c == 12 then tick x
    else if c == 13 then record { gives = Restart; state = x }
    else if c == 14 then linked_turn x
    else record { gives = Turn; state = x }

-- the next line
abbrev pub line : ℕ → Drawn Line
line x = line_by (draw 16 x) (after 1 x)
