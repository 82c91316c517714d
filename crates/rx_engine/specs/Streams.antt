-- The lines that open and close a stream, and the one that delivers what it has queued.
use Rattle.std.specs.Prelude.{ℕ, List, [], Option, is_none, unwrap_or, Result, Ok}
use Rattle.rx_value.specs.Due.{◌>>◌, demand, or_fault}
use Rattle.rx_value.specs.Named.{named}
use Rattle.rx_reply.specs.Answer.{stream, unstream}
use Rattle.rx_reply.specs.declared.refusal.Refusal.TheVariants.{Exists, NoReplication, NoStream, Remote}
use Rattle.rx_script.specs.declared.delivery.Delivery.{Delivery}
use Rattle.rx_session.specs.Doing.{close_stream, open_stream, with_emptied, with_kept}
use Rattle.rx_session.specs.Session.{Session, queued_in, stream_of}
use Rattle.rx_stream.specs.declared.stream.Stream.{Stream}
use Rattle.rx_sync.specs.Delivery.{Delivered, delivered}
use Rattle.rx_sync.specs.Handling.{local_name}
use Rattle.rx_world.specs.declared.replication.Replication.{Replication}
use Rattle.rx_writes.specs.declared.fault.Fault.{Fault}
use Rattle.rx_writes.specs.declared.fault.Fault.TheVariants.{Refused}
use Rattle.rx_engine.specs.Outcome.{Outcome}
use Rattle.rx_engine.specs.Turning.{written}

-- ---- opening and closing

-- the replication of a name, which is to be held
abbrev pub replication_at : List ℕ → Session → Result Replication Fault
replication_at name s = or_fault (Refused NoReplication) (named s.world.replications name)

-- a stream is opened, from a master that is to be of this journal, unless it is open
abbrev pub stream_line : List ℕ → Session → Result Outcome Fault
stream_line name s =
    replication_at name s >> λ r.
    or_fault (Refused Remote) (local_name r.master) >> λ master.
    demand (is_none (stream_of name s)) (Refused Exists) >> λ _.
    Ok (record { doing = open_stream name master; answer = stream })

-- the stream of a replication that is to be held, which is to be open
abbrev pub stream_at : List ℕ → Session → Result Stream Fault
stream_at name s = replication_at name s >> λ r. or_fault (Refused NoStream) (stream_of name s)

abbrev pub unstream_line : List ℕ → Session → Result Outcome Fault
unstream_line name s =
    stream_at name s >> λ st. Ok (record { doing = close_stream name; answer = unstream })

-- ---- delivering

-- what the stream of a name has queued is to be delivered over such a link
pub record WantedDelivery : Type 0 where
  pub name : List ℕ
  pub link : List Delivery

-- nothing is done to the events, where nothing is said of the link
abbrev pub deliver_over : List ℕ → Option (List Delivery) → WantedDelivery
deliver_over name link = record { name = name; link = unwrap_or link [] }

-- what it comes to
abbrev pub delivered_by : WantedDelivery → Session → Delivered
delivered_by d s = delivered d.name s.moment 1 d.link (queued_in d.name s) s.world

-- the session after it: the queue was taken, the records were written,
-- and what is kept was put back
abbrev pub session_delivered : WantedDelivery → Session → Session
session_delivered d s =
    let m = delivered_by d s in
    with_kept d.name m.kept (written m.records (with_emptied d.name s))
