-- A turn or a delivery that a line asks for can be made.
use Rattle.std.proofs.Common.{◌≡◌, subst, ℕ, List}
use Rattle.std.specs.Prelude.{IsSome}
use Rattle.rx_handler.specs.Handlers.{Kinds}
use Rattle.rx_session.specs.Session.{Session, stream_of}
use Rattle.rx_engine.specs.Calling.{CanCall, WantedCall}
use Rattle.rx_engine.specs.Lines.{turns, calls, delivers, task}
use Rattle.rx_engine.specs.Streams.{WantedDelivery}
use Rattle.rx_engine.specs.Turning.{CanTurn, WantedTurn}
use Rattle.rx_engine.proofs.CanDo.{CanDo, can_do}

pub can_turn : (kinds : Kinds) (line : List ℕ) (s : Session) (u : WantedTurn)
    → task kinds line s ≡ turns u → CanTurn kinds s u.name
can_turn kinds line s u is = subst (CanDo kinds s) is (can_do kinds s line)

-- one to a master elsewhere
pub can_call : (kinds : Kinds) (line : List ℕ) (s : Session) (c : WantedCall)
    → task kinds line s ≡ calls c → CanCall kinds s c.name
can_call kinds line s c is = subst (CanDo kinds s) is (can_do kinds s line)

-- the stream of a line that comes to a delivery is open
pub can_deliver : (kinds : Kinds) (line : List ℕ) (s : Session) (d : WantedDelivery)
    → task kinds line s ≡ delivers d → IsSome (stream_of d.name s)
can_deliver kinds line s d is = subst (CanDo kinds s) is (can_do kinds s line)
