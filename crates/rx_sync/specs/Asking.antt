-- What the fork of a replication asks.
use Rattle.std.specs.Prelude.{ℕ, length, List, Option, Some}
use Rattle.rx_value.specs.Due.{◌>>=◌}
use Rattle.rx_value.specs.Named.{named}
use Rattle.rx_collection.specs.Held.{Held}
use Rattle.rx_fork.specs.Asked.{asked_of}
use Rattle.rx_fork.specs.declared.ask.Asked.{Asked}
use Rattle.rx_replication.specs.Known.{pending}
use Rattle.rx_world.specs.World.{World}
use Rattle.rx_world.specs.declared.replication.Replication.{Replication}

-- the fork of a replication
abbrev pub fork_in : World → Replication → Option Held
fork_in w r = named w.collections r.fork

-- the request of that number which is due, of a batch
abbrev pub asked_by : World → ℕ → ℕ → Replication → Option Asked
asked_by w n batch r =
    fork_in w r >>= λ fork. Some (asked_of fork.documents r.side w.epoch n batch)

-- of the replication of a name, where it is held
abbrev pub asked_in : World → List ℕ → ℕ → ℕ → Option Asked
asked_in w name n batch = named w.replications name >>= asked_by w n batch

-- how many documents of the fork are to be pushed
abbrev pub pending_in : World → List ℕ → Option ℕ
pending_in w name =
    named w.replications name >>= λ r. fork_in w r >>= λ fork.
    Some (length (pending fork.documents r.side.known))
