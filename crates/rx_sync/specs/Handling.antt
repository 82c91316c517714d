-- What a master of a world answers to a request, and what it writes.
use Rattle.std.specs.Prelude.{ℕ, List, [], ◌∷◌, Option, Some, None, option_map}
use Rattle.rx_value.specs.Due.{◌>>=◌}
use Rattle.rx_value.specs.Named.{named}
use Rattle.rx_value.specs.declared.state.State.{State}
use Rattle.rx_collection.specs.Held.{Held}
use Rattle.rx_record.specs.Content.{Content}
use Rattle.rx_record.specs.declared.record.MasterName.{MasterName}
use Rattle.rx_record.specs.declared.record.MasterName.TheVariants.{Local, Port}
use Rattle.rx_replication.specs.Master.{body_of, writes, reply_with}
use Rattle.rx_wire.specs.declared.message.AskKind.{AskKind}
use Rattle.rx_wire.specs.declared.message.AskKind.TheVariants.{Push, Pull}
use Rattle.rx_wire.specs.declared.message.Reply.{Reply}
use Rattle.rx_wire.specs.declared.message.Request.{Request}
use Rattle.rx_world.specs.Commit.{commit_to}
use Rattle.rx_world.specs.World.{World}

-- the record of a commit, if there is one, and the reply
pub record Handled : Type 0 where
  pub records : List Content
  pub reply : Reply

-- the record that writes states, none where there is no state; nothing where no write time is left
abbrev pub written_by : List ℕ → ℕ → Held → List State → Option (List Content)
written_by name now c [] = Some []
written_by name now c (s ∷ ss) = option_map (λ r. r ∷ []) (commit_to name (s ∷ ss) now c)

-- only a push writes
abbrev pub commits_of : List ℕ → ℕ → AskKind → Held → Option (List Content)
commits_of name now (Push rows) c = written_by name now c (writes c.documents rows)
commits_of name now (Pull place batch) c = Some []

-- what a collection does as a master; nothing where no write time is left
abbrev pub handled_by : List ℕ → ℕ → Request → Held → Option Handled
handled_by name now q c =
    option_map (λ records. record {
      records = records;
      reply = reply_with q (body_of c.documents q.ask);
    })
    (commits_of name now q.ask c)

-- what the collection of a name does, where it is held
abbrev pub handled : World → List ℕ → Request → ℕ → Option Handled
handled w name q now = named w.collections name >>= handled_by name now q

-- the name of a master of the same journal
abbrev pub local_name : MasterName → Option (List ℕ)
local_name (Local name) = Some name
local_name (Port port) = None

-- the master of that name, where it is here
abbrev pub master_in : World → MasterName → Option Held
master_in w m = local_name m >>= λ name. named w.collections name

-- what the master of a replication does, where it is here
abbrev pub handled_for : World → List ℕ → Request → ℕ → Option Handled
handled_for w name q now =
    named w.replications name >>= λ r. local_name r.master >>= λ master. handled w master q now
