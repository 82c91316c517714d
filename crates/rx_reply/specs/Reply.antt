-- The lines of output of an answer.
use Rattle.std.specs.Prelude.{ℕ, List, [], ◌++◌, length, codes, Bool, true, false, option_map}
use Rattle.serde_json.specs.Data.{Data, boolean, string, object, Members, no_members, member}
use Rattle.rx_value.specs.State.{state_data}
use Rattle.rx_value.specs.Writing.{fields_data}
use Rattle.rx_document.specs.Revision.{revision_text}
use Rattle.rx_reply.specs.Answer.{Answer, collection, insert, upsert, patch, update, remove, hook, migrate, bulk, get, find, count, observe, unobserve, explain, replicate, turn, sweep, stream, deliver, unstream, changes, tick, restart, digest, refused}
use Rattle.rx_reply.specs.Explain.{explain_data}
use Rattle.rx_reply.specs.Form.{form_of, form_data}
use Rattle.rx_reply.specs.Given.{given_lines}
use Rattle.rx_reply.specs.Swept.{swept_lines}
use Rattle.rx_reply.specs.Turn.{end_word, exchange_lines}
use Rattle.rx_reply.specs.Writing.{number_data, list_data, place_data, optional_member, output_line}
use Rattle.rx_reply.specs.declared.turn.TurnEnd.{TurnEnd}

-- the members that begin with what was done
abbrev pub ok_members : List ℕ → Members → Members
ok_members ok more = member (codes "ok") (string ok) more

-- the object whose members begin with the number of the line
abbrev pub line_object : ℕ → Members → Data
line_object line more = object (member (codes "line") (number_data line) more)

-- a document was written, and has that revision
abbrev pub written_data : ℕ → List ℕ → List ℕ → Data
written_data line ok rev =
    line_object line (ok_members ok (member (codes "rev") (string rev) no_members))

-- a turn made so many exchanges, and ended so
abbrev pub turn_data : ℕ → ℕ → TurnEnd → Data
turn_data line exchanges ended = object
    (member (codes "end") (string (end_word ended))
    (member (codes "exchanges") (number_data exchanges)
    (member (codes "line") (number_data line) (ok_members (codes "turn") no_members))))

-- a sweep made so many turns, and the last one ended so
abbrev pub sweep_data : ℕ → ℕ → TurnEnd → Data
sweep_data line turns ended = object
    (member (codes "end") (string (end_word ended))
    (member (codes "line") (number_data line)
    (ok_members (codes "sweep") (member (codes "turns") (number_data turns) no_members))))

-- events were delivered: whether the fork is level with its master, and whether it is to pull
abbrev pub deliver_data : ℕ → Bool → Bool → Data
deliver_data line level resync = object
    (member (codes "level") (boolean level)
    (member (codes "line") (number_data line)
    (ok_members (codes "deliver") (member (codes "resync") (boolean resync) no_members))))

-- the object of an answer to the line of that number
abbrev pub answer_data : ℕ → Answer → Data
answer_data line (collection new) =
    line_object line (member (codes "new") (boolean new)
    (ok_members (codes "collection") no_members))
answer_data line (insert rev) = written_data line (codes "insert") rev
answer_data line (upsert rev) = written_data line (codes "upsert") rev
answer_data line (patch rev) = written_data line (codes "patch") rev
answer_data line (update rev) = written_data line (codes "update") rev
answer_data line (remove rev) = written_data line (codes "remove") rev
answer_data line hook = line_object line (ok_members (codes "hook") no_members)
answer_data line (migrate collections) = object
    (member (codes "collections") (list_data string collections)
    (member (codes "line") (number_data line) (ok_members (codes "migrate") no_members)))
answer_data line (bulk revs) =
    line_object line (ok_members (codes "bulk")
    (member (codes "revs") (list_data string revs) no_members))
answer_data line (get doc) = object
    (member (codes "doc") (fields_data doc.state.fields)
    (member (codes "line") (number_data line)
    (member (codes "lwt") (number_data doc.lwt)
    (ok_members (codes "get") (member (codes "rev") (string (revision_text doc.rev)) no_members)))))
answer_data line (find rows) =
    line_object line (ok_members (codes "find") (member (codes "rows") (list_data fields_data rows)
    no_members))
answer_data line (count n) = object
    (member (codes "count") (number_data n)
    (member (codes "line") (number_data line) (ok_members (codes "count") no_members)))
answer_data line observe = line_object line (ok_members (codes "observe") no_members)
answer_data line unobserve = line_object line (ok_members (codes "unobserve") no_members)
answer_data line (explain counts) = explain_data line counts
answer_data line replicate = line_object line (ok_members (codes "replicate") no_members)
answer_data line (turn exchanges ended) = turn_data line (length exchanges) ended
answer_data line (sweep turns ended) = sweep_data line (length turns) ended
answer_data line stream = line_object line (ok_members (codes "stream") no_members)
answer_data line (deliver given level resync) = deliver_data line level resync
answer_data line unstream = line_object line (ok_members (codes "unstream") no_members)
answer_data line (changes states place) = object
    (member (codes "docs") (list_data state_data states)
    (member (codes "line") (number_data line)
    (ok_members (codes "changes")
    (optional_member (codes "place") (option_map place_data place) no_members))))
answer_data line tick = line_object line (ok_members (codes "tick") no_members)
answer_data line (restart epoch) = object
    (member (codes "epoch") (number_data epoch)
    (member (codes "line") (number_data line) (ok_members (codes "restart") no_members)))
answer_data line (digest n text) = object
    (member (codes "count") (number_data n)
    (member (codes "digest") (string text)
    (member (codes "line") (number_data line) (ok_members (codes "digest") no_members))))
answer_data line (refused refusal) = form_data line (form_of refusal)

-- A turn has a line for each of its exchanges before its own, numbered from 1, a sweep those of
-- each of its turns, and a delivery one for each giving of an event;
-- every other answer is one line.
abbrev pub lines_before : Answer → List ℕ
lines_before (turn exchanges ended) = exchange_lines 1 exchanges
lines_before (sweep turns ended) = swept_lines turns
lines_before (deliver given level resync) = given_lines given
lines_before _ = []

-- what is printed of an answer to the line of that number
abbrev pub answer_lines : ℕ → Answer → List ℕ
answer_lines line answer = lines_before answer ++ output_line (answer_data line answer)

-- the line changed nothing
abbrev pub is_refusal : Answer → Bool
is_refusal (refused refusal) = true
is_refusal _ = false
