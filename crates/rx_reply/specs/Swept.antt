-- What is printed of the turns of a sweep.
use Rattle.std.specs.Prelude.{List, [], ◌∷◌, ◌++◌, codes, ℕ, length}
use Rattle.serde_json.specs.Data.{Data, string, object, no_members, member}
use Rattle.rx_reply.specs.Turn.{end_word, exchange_lines}
use Rattle.rx_reply.specs.Writing.{number_data, output_line}
use Rattle.rx_reply.specs.declared.swept.Pass.{Pass}
use Rattle.rx_reply.specs.declared.swept.Pass.TheVariants.{Up, Down}
use Rattle.rx_reply.specs.declared.swept.Swept.{Swept}

-- on which way a turn is made
abbrev pub pass_word : Pass → List ℕ
pass_word Up = codes "up"
pass_word Down = codes "down"

-- the object of a turn: how it ended, how many exchanges it made, and of which replication it was
abbrev pub swept_data : Swept → Data
swept_data t = object
    (member (codes "end") (string (end_word t.end))
    (member (codes "exchanges") (number_data (length t.exchanges))
    (member (codes "pass") (string (pass_word t.pass))
    (member (codes "replication") (string t.name) no_members))))

-- of each turn a line for each of its exchanges, numbered from 1, and then its own
abbrev pub swept_lines : List Swept → List ℕ
swept_lines [] = []
swept_lines (t ∷ ts) =
    (exchange_lines 1 t.exchanges ++ output_line (swept_data t)) ++ swept_lines ts
