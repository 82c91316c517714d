-- What is printed of the events of a stream that came up for delivery.
use Rattle.std.specs.Prelude.{ℕ, List, [], ◌∷◌, ◌++◌, codes}
use Rattle.serde_json.specs.Data.{Data, string, object, no_members, member}
use Rattle.rx_reply.specs.Writing.{number_data, list_data, output_line}
use Rattle.rx_reply.specs.declared.given.Given.{Given}
use Rattle.rx_reply.specs.declared.given.Took.{Took}
use Rattle.rx_reply.specs.declared.given.Took.TheVariants.{Old, Pending, Gap, Clock, Taken, Lost, Later}

-- what came of an event
abbrev pub took_word : Took → List ℕ
took_word Old = codes "old"
took_word Pending = codes "pending"
took_word Gap = codes "gap"
took_word Clock = codes "clock"
took_word Taken = codes "taken"
took_word Lost = codes "lost"
took_word Later = codes "later"

-- the object of an event, which has a number and the keys of its states
abbrev pub given_data : Given → Data
given_data g = object
    (member (codes "event") (number_data g.event)
    (member (codes "rows") (list_data string g.rows)
    (member (codes "took") (string (took_word g.took)) no_members)))

-- a line for each of these, in their order
abbrev pub given_lines : List Given → List ℕ
given_lines [] = []
given_lines (g ∷ gs) = output_line (given_data g) ++ given_lines gs
