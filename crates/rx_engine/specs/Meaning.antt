-- What a line means.
use Rattle.std.specs.Prelude.{ℕ, List, [], ◌∷◌, ◌++◌, length, map, Bool, false, Option, Some, None}
use Rattle.std.specs.List.{flat_map}
use Rattle.rx_record.specs.Content.{Content, epoch, content_bytes}
use Rattle.rx_observe.specs.declared.emission.Emission.{Emission}
use Rattle.rx_value.specs.Named.{put_named}
use Rattle.rx_reply.specs.Answer.{deliver, sweep, turn}
use Rattle.rx_reply.specs.Emission.{emission_line, rows_fields}
use Rattle.rx_reply.specs.Reply.{answer_lines, is_refusal}
use Rattle.rx_reply.specs.declared.turn.TurnEnd.{TurnEnd}
use Rattle.rx_session.specs.Doing.{Doing, write, migrate, restart, session_after}
use Rattle.rx_session.specs.Emissions.{emissions, settled_session}
use Rattle.rx_session.specs.Session.{has_lost}
use Rattle.rx_sync.specs.Asks.{Asks}
use Rattle.rx_sync.specs.Delivery.{is_level, is_resync}
use Rattle.rx_sync.specs.Exchange.{world_after}
use Rattle.rx_sync.specs.Turn.{Turned}
use Rattle.rx_engine.specs.Calling.{called, to_hear}
use Rattle.rx_engine.specs.Lines.{Task, answered, turns, calls, sweeps, delivers, task}
use Rattle.rx_engine.specs.Outcome.{Outcome}
use Rattle.rx_engine.specs.Standing.{Standing, asks_after}
use Rattle.rx_engine.specs.Streams.{WantedDelivery, delivered_by, session_delivered}
use Rattle.rx_engine.specs.Sweeping.{WantedSweep, swept}
use Rattle.rx_engine.specs.Turning.{turned, written}
use Rattle.rx_world.specs.World.{World}

-- the records, the reply with the emissions after it, how many these are, whether the line is
-- refused, how its turn or its sweep ended, if it made one, and how things stand then
pub record Meaning : Type 0 where
  pub records : List Content
  pub reply : List ℕ
  pub emissions : ℕ
  pub refused : Bool
  pub ended : Option TurnEnd
  pub next : Standing

-- the bodies of records
abbrev pub bodies_of : List Content → List (List ℕ)
bodies_of cs = map content_bytes cs

-- the records of what a line does
abbrev pub records_of : Doing → List Content
records_of (write content) = content ∷ []
records_of (migrate content) = content ∷ []
records_of (restart number) = epoch number ∷ []
records_of _ = []

-- the lines of emissions, one after another
abbrev pub lines_of : List Emission → List ℕ
lines_of es = flat_map (λ e. emission_line e.name (rows_fields e.rows)) es

-- what is remembered of requests: nothing, once the journal is opened again
abbrev pub asks_kept : Doing → World → List (List ℕ × Asks) → List (List ℕ × Asks)
asks_kept (migrate content) w asks = asks_after content w asks
asks_kept (restart number) w asks = []
asks_kept other w asks = asks

-- of an outcome
abbrev pub meaning_of : ℕ → Outcome → Standing → Meaning
meaning_of number o s = record {
  records = records_of o.doing;
  reply = answer_lines number o.answer ++ lines_of (emissions (session_after o.doing s.session));
  emissions = length (emissions (session_after o.doing s.session));
  refused = is_refusal o.answer;
  ended = None;
  next = record s {
    session = settled_session (session_after o.doing s.session);
    asks = asks_kept o.doing s.session.world s.asks;
  };
}

-- of a turn of the replication of that name, by what it comes to
abbrev pub turn_meaning : ℕ → List ℕ → Turned → Standing → Meaning
turn_meaning number name t s = record {
  records = t.records;
  reply = answer_lines number (turn t.exchanges t.ended)
      ++ lines_of (emissions (written t.records s.session));
  emissions = length (emissions (written t.records s.session));
  refused = false;
  ended = Some t.ended;
  next = record s {
    session = settled_session (written t.records s.session);
    asks = put_named s.asks name t.asks;
  };
}

-- of a sweep
abbrev pub sweep_meaning : ℕ → WantedSweep → Standing → Meaning
sweep_meaning number v s =
    let t = swept v s in
    let then = written t.records s.session in
    record {
      records = t.records;
      reply = answer_lines number (sweep t.turns t.ended) ++ lines_of (emissions then);
      emissions = length (emissions then);
      refused = false;
      ended = Some t.ended;
      next = record s { session = settled_session then; asks = t.asks };
    }

-- of a delivery
abbrev pub delivery_meaning : ℕ → WantedDelivery → Standing → Meaning
delivery_meaning number d s =
    let m = delivered_by d s.session in
    let then = session_delivered d s.session in
    record {
      records = m.records;
      reply = answer_lines number (deliver m.given
          (is_level (world_after m.records s.session.world) d.name)
          (is_resync (has_lost d.name s.session) m.given))
          ++ lines_of (emissions then);
      emissions = length (emissions then);
      refused = false;
      ended = None;
      next = record s { session = settled_session then };
    }

-- of what a line comes to
abbrev pub task_meaning : ℕ → Task → Standing → Meaning
task_meaning number (answered o) s = meaning_of number o s
task_meaning number (turns t) s = turn_meaning number t.name (turned t s) s
task_meaning number (calls c) s =
    let u = called c s in turn_meaning number c.name u.turned (to_hear u.later s)
task_meaning number (sweeps v) s = sweep_meaning number v s
task_meaning number (delivers d) s = delivery_meaning number d s

-- what a line of that number means
unfoldable pub meaning : ℕ → List ℕ → Standing → Meaning
meaning number line s = task_meaning number (task s.kinds line s.session) s
