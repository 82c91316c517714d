-- That a turn ends by the clock only where no write time is left.
use Rattle.std.specs.Prelude.{◌≡◌, ◌⊎◌, ℕ, List, Option, Some}
use Rattle.rx_value.specs.Due.{◌>>=◌}
use Rattle.rx_value.specs.Named.{named}
use Rattle.rx_collection.specs.Held.{Held}
use Rattle.rx_collection.specs.Time.{last_lwt, most_lwt}
use Rattle.rx_reply.specs.declared.turn.TurnEnd.TheVariants.{Clock}
use Rattle.rx_script.specs.declared.happening.Happening.{Happening}
use Rattle.rx_world.specs.World.{World}
use Rattle.rx_sync.specs.Asking.{fork_in}
use Rattle.rx_sync.specs.Asks.{Asks}
use Rattle.rx_sync.specs.Exchange.{Terms, world_after}
use Rattle.rx_sync.specs.Handling.{master_in}
use Rattle.rx_sync.specs.Remote.{Heard, remote_turn}
use Rattle.rx_sync.specs.Turn.{turn}

-- the fork of the replication of a name, and its master where it is of this journal
abbrev pub fork_of : World → List ℕ → Option Held
fork_of w name = named w.replications name >>= fork_in w

abbrev pub master_of : World → List ℕ → Option Held
master_of w name = named w.replications name >>= λ r. master_in w r.master

-- a collection is there, and its last write time is the last that there is, so that a commit to it
-- finds none
pub record HasNoTimeLeft (o : Option Held) : Type 0 where
  pub collection : Held
  pub held : o ≡ Some collection
  pub last : last_lwt collection.documents ≡ most_lwt

-- a turn that ends by the clock leaves its fork or its master so
abbrev pub EndsByClockAlone : Terms → ℕ → ℕ → List Happening → World → Asks → Type 0
EndsByClockAlone t batch budget link w a =
    let u = turn t batch budget link w a in
    u.ended ≡ Clock
    → HasNoTimeLeft (fork_of (world_after u.records w) t.name)
    ⊎ HasNoTimeLeft (master_of (world_after u.records w) t.name)

-- and one to a master elsewhere its fork
abbrev pub CallEndsByClockAlone : Terms → ℕ → ℕ → List Heard → World → Asks → Type 0
CallEndsByClockAlone t batch budget heard w a =
    let u = (remote_turn t batch budget heard w a).turned in
    u.ended ≡ Clock → HasNoTimeLeft (fork_of (world_after u.records w) t.name)
