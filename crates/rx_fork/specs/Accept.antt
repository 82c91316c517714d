-- What taking a reply comes to, or its first fault.
use Rattle.std.specs.Prelude.{◌==◌, ◌&&◌, List, Option, option_map, Result}
use Rattle.std.specs.Map.{values_of}
use Rattle.rx_value.specs.Due.{◌>>◌, demand, unless, or_fault}
use Rattle.rx_value.specs.declared.state.State.{State}
use Rattle.rx_document.specs.Documents.{Documents}
use Rattle.rx_document.specs.declared.place.Place.{Place}
use Rattle.rx_collection.specs.Commit.{by_key}
use Rattle.rx_collection.specs.Time.{last_lwt}
use Rattle.rx_meta.specs.Side.{Side}
use Rattle.rx_wire.specs.declared.message.AskKind.{AskKind}
use Rattle.rx_wire.specs.declared.message.Body.{Body}
use Rattle.rx_wire.specs.declared.message.Reply.{Reply}
use Rattle.rx_replication.specs.Taking.{Resolve, Taking, differences, taking}
use Rattle.rx_fork.specs.BadReply.{bad_reply}
use Rattle.rx_fork.specs.declared.accept.ExchangePlan.{ExchangePlan}
use Rattle.rx_fork.specs.declared.ask.Asked.{Asked}
use Rattle.rx_fork.specs.declared.fault.AcceptFault.{AcceptFault}
use Rattle.rx_fork.specs.declared.fault.AcceptFault.TheVariants.{Foreign, Moved, BadReply}

-- a taking as it is kept: the known states by rising key
abbrev pub plan_of : Taking → ExchangePlan
plan_of t = record {
  rows = t.rows;
  known = values_of (by_key t.known);
  up = t.up;
  down = t.down;
}

-- What a page of the master's states comes to, which leads to a place: the fork writes those that
-- it doesn't hold, and knows each of them.
abbrev pub page_plan : Documents → Side → List State → Option Place → ExchangePlan
page_plan fork side ss to = record {
  rows = differences fork ss;
  known = values_of (by_key ss);
  up = side.up;
  down = to;
}

-- what an answer comes to, unless it answers something else
abbrev pub answered : Resolve → Documents → Side → AskKind → Body → Result ExchangePlan AcceptFault
answered resolve fork side ask body =
    unless BadReply (bad_reply side.down ask body)
    (or_fault (BadReply 0) (option_map plan_of (taking resolve fork side.up side.down ask body)))

-- the same of a reply: it has the numbers of the request, and the fork wasn't written since
abbrev pub accepted : Resolve → Documents → Side → Asked → Reply → Result ExchangePlan AcceptFault
accepted resolve fork side asked reply =
    demand (reply.epoch == asked.request.epoch && reply.n == asked.request.n)
    (Foreign reply.epoch reply.n)
    >> λ _. demand (last_lwt fork == asked.lwt) (Moved asked.lwt (last_lwt fork))
    >> λ _. answered resolve fork side asked.request.ask reply.body
