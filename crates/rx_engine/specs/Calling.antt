-- The line that makes a turn to a master that is elsewhere.
use Rattle.std.specs.Prelude.{◌≡◌, ℕ, List, Some}
use Rattle.rx_value.specs.Named.{named}
use Rattle.rx_handler.specs.Handlers.{Kinds}
use Rattle.rx_handler.specs.declared.kind.HandlerKind.{HandlerKind}
use Rattle.rx_session.specs.Session.{Session}
use Rattle.rx_sync.specs.Remote.{Heard, RemoteTurned, remote_turn}
use Rattle.rx_sync.specs.RemoteLaws.{HasMasterElsewhere}
use Rattle.rx_sync.specs.Asks.{asks_of}
use Rattle.rx_engine.specs.Standing.{Standing}
use Rattle.rx_engine.specs.Turning.{terms}

-- exchanges of the replication of a name with its master at a port: of so many documents, so many
-- at most
pub record WantedCall : Type 0 where
  pub name : List ℕ
  pub port : ℕ
  pub batch : ℕ
  pub budget : ℕ

-- the turn that they are, by what is to be heard
abbrev pub called : WantedCall → Standing → RemoteTurned
called c s =
    remote_turn (terms c.name s.session.moment s.kinds) c.batch c.budget s.heard s.session.world
    (asks_of c.name s.asks)

-- how things stand where something else is to be heard
abbrev pub to_hear : List Heard → Standing → Standing
to_hear heard s = record s { heard = heard }

-- the replication of a name is there, its master is at a port, and its handler is there
pub record CanCall (kinds : Kinds) (s : Session) (name : List ℕ) : Type 0 where
  pub there : HasMasterElsewhere s.world name
  pub kind : HandlerKind
  pub handler : named kinds there.replication.handler ≡ Some kind
