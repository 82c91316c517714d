-- What a parse holds: the rows of the two arguments, and what is pending.
use Rattle.std.proofs.Common.{◌≡◌, refl, List, [], ◌∷◌, ◌++◌, Option, None, Some, false}
use Rattle.clap.specs.Faults.{settle_fault}
use Rattle.clap.specs.Simple.{Shape, built}
use Rattle.clap.specs.Walk.{Held, Row, Rule, Text, Waiting, Walk, idle, is_empty, option, positional, settled}
use Rattle.clap.specs.declared.builder.value_parser.Reading.TheVariants.{AsWritten}
use Rattle.clap.specs.declared.parser.matches.ValueSource.TheVariants.{CommandLine}
use Rattle.rx_words.specs.Parsed.{limit_id, parser, values_id}

abbrev pub top : Shape
top = (built parser).top

abbrev pub rules : List Rule
rules = top.rules

-- the values and the limit, in the order of their first uses
pub data Layout : Type 0 where
  none : Layout
  v : List Text → Layout
  l : Text → Layout
  vl : List Text → Text → Layout
  lv : Text → List Text → Layout

abbrev pub row : Text → List Text → Row
row id values = record {
  id = id;
  values = values;
  count = None;
  source = Some CommandLine;
  reading = AsWritten;
}

abbrev pub rows : Layout → List Row
rows none = []
rows (v vs) = row values_id vs ∷ []
rows (l t) = row limit_id (t ∷ []) ∷ []
rows (vl vs t) = row values_id vs ∷ row limit_id (t ∷ []) ∷ []
rows (lv t vs) = row limit_id (t ∷ []) ∷ row values_id vs ∷ []

abbrev pub with_one_more : Layout → Text → Layout
with_one_more none w = v (w ∷ [])
with_one_more (v vs) w = v (vs ++ w ∷ [])
with_one_more (l t) w = lv t (w ∷ [])
with_one_more (vl vs t) w = vl (vs ++ w ∷ []) t
with_one_more (lv t vs) w = lv t (vs ++ w ∷ [])

abbrev pub with_its_limit : Layout → Text → Option Layout
with_its_limit none t = Some (l t)
with_its_limit (v vs) t = Some (vl vs t)
with_its_limit _ t = None

-- where a parse stands between two words
pub data At : Type 0 where
  clear : Layout → At
  -- a value is pending
  value : Layout → Text → At
  -- the option waits for its limit
  wants : Layout → At
  -- the option has its limit, and is pending
  given : Layout → Text → At

abbrev pub held_at : At → Held
held_at (clear x) = record { rows = rows x; pending = None; skip = 0 }
held_at (value x w) = record { rows = rows x; pending = Some (values_id, w ∷ []); skip = 0 }
held_at (wants x) = record { rows = rows x; pending = Some (limit_id, []); skip = 0 }
held_at (given x t) = record { rows = rows x; pending = Some (limit_id, t ∷ []); skip = 0 }

abbrev pub waiting_at : At → Waiting
waiting_at (clear x) = idle
waiting_at (value x w) = positional
waiting_at (wants x) = option limit_id
waiting_at (given x t) = idle

abbrev pub walk_at : At → Walk
walk_at at = record {
  held = held_at at;
  waiting = waiting_at at;
  position = 1;
  is_trailing = false;
  stopped = None;
}

-- what is held once nothing is pending, if what was pending may be used
abbrev pub settled_at : At → Option Layout
settled_at (clear x) = Some x
settled_at (value x w) = Some (with_one_more x w)
settled_at (wants x) = None
settled_at (given x t) = with_its_limit x t

abbrev pub SettlesTo : At → Option Layout → Type 0
SettlesTo at None = is_empty (settle_fault rules false (held_at at)) ≡ false
SettlesTo at (Some x) =
    (settle_fault rules false (held_at at) ≡ []) × (settled rules (held_at at) ≡ held_at (clear x))

pub settles : (at : At) → SettlesTo at (settled_at at)
settles (clear x) = (refl, refl)
settles (value none w) = (refl, refl)
settles (value (v vs) w) = (refl, refl)
settles (value (l t) w) = (refl, refl)
settles (value (vl vs t) w) = (refl, refl)
settles (value (lv t vs) w) = (refl, refl)
settles (wants x) = refl
settles (given none t) = (refl, refl)
settles (given (v vs) t) = (refl, refl)
settles (given (l u) t) = refl
settles (given (vl vs u) t) = refl
settles (given (lv u vs) t) = refl
