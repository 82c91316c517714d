-- Histories with their steps, worked out by the definitions alone.
use Rattle.std.proofs.Common.{◌≡◌, ℕ, List, [], ◌∷◌, ◌++◌, false, None, refl, pos}
use Rattle.rx_value.specs.declared.state.State.{State}
use Rattle.rx_value.specs.declared.value.Value.TheVariants.{Int}
use Rattle.rx_schema.specs.declared.shape.Shape.{Shape}
use Rattle.rx_collection.specs.Held.{held_with}
use Rattle.rx_handler.specs.Resolve.{resolve}
use Rattle.rx_handler.specs.declared.kind.HandlerKind.TheVariants.{ForkWins}
use Rattle.rx_record.specs.Content.{Content, rows, exchange, epoch}
use Rattle.rx_record.specs.declared.record.MasterName.TheVariants.{Local}
use Rattle.rx_replication.specs.Steps.{System, Step, run, start}
use Rattle.rx_replication.specs.Steps.Step.{Ask, Handle, Arrive, CommitFork, CommitMaster, Restart}
use Rattle.rx_replication.specs.Taking.{Resolve}
use Rattle.rx_script.specs.declared.happening.Happening.TheVariants as link
use Rattle.rx_sync.specs.Asks.{no_asks}
use Rattle.rx_sync.specs.Exchange.{Terms, Course, course, world_after}
use Rattle.rx_world.specs.Replicating.{new_replication}
use Rattle.rx_world.specs.World.{World}
use Rattle.rx_steps.specs.Exchanging.{exchange_steps}
use Rattle.rx_steps.specs.Records.{record_steps}
use Rattle.rx_steps.specs.Shows.{Shows}

-- the names of the master, the fork and the replication, those of a fork of the master beside it,
-- and the key of the one document
abbrev master : List ℕ
master = 109 ∷ []

abbrev fork : List ℕ
fork = 102 ∷ []

abbrev name : List ℕ
name = 114 ∷ []

abbrev above : List ℕ
above = 117 ∷ []

abbrev key : List ℕ
key = 97 ∷ []

abbrev with_number : ℕ → State
with_number n = record { key = key; fields = (110 ∷ [], Int (pos n)) ∷ []; deleted = false }

-- the record of a commit of the document
abbrev written : List ℕ → ℕ → ℕ → ℕ → Content
written to lwt height n =
    rows to lwt (record { height = height; state = with_number n } ∷ [])

module _ (schema : Shape) where
  -- both are empty, and nothing is known; the master is a fork itself
  abbrev before : World
  before = record {
    collections = (master, held_with master schema []) ∷ (fork, held_with fork schema []) ∷ [];
    replications =
        (name, new_replication name fork (Local master) (104 ∷ []) None)
        ∷ (above, new_replication above master (Local (99 ∷ [])) (104 ∷ []) None) ∷ [];
    epoch = 1;
  }

  abbrev terms : Terms
  terms = record { name = name; now = 0; kinds = (104 ∷ [], ForkWins) ∷ [] }

  abbrev by : Resolve
  by = resolve ForkWins []

  abbrev begun : System
  begun = start (held_with fork schema []) (held_with master schema []) 1

  -- ---- records

  -- a commit of the fork, of the master, by an exchange of the master with its own, and of neither
  fork_commit : record_steps fork master before (written fork 1 1 1)
      ≡ CommitFork (with_number 1 ∷ []) 1 ∷ []
  fork_commit = refl

  master_commit : record_steps fork master before (written master 1 1 1)
      ≡ CommitMaster (with_number 1 ∷ []) 1 ∷ []
  master_commit = refl

  above_commit : record_steps fork master before
      (exchange above 1 (record { height = 1; state = with_number 1 } ∷ []) [] None None)
      ≡ CommitMaster (with_number 1 ∷ []) 1 ∷ []
  above_commit = refl

  no_commit : record_steps fork master before (written (99 ∷ []) 1 1 1) ≡ []
  no_commit = refl

  restart : record_steps fork master before (epoch 2) ≡ Restart ∷ []
  restart = refl

  -- ---- both write, and the fork wins; each push comes twice, and a reply and a request are lost

  abbrev apart : World
  apart = world_after (written master 1 1 1 ∷ written fork 1 1 2 ∷ []) before

  abbrev commits : List Step
  commits = CommitMaster (with_number 1 ∷ []) 1 ∷ CommitFork (with_number 2 ∷ []) 1 ∷ []

  abbrev twice : Course
  twice = course terms 100 link.Twice apart no_asks

  abbrev twice_steps : List Step
  twice_steps = Ask 100 ∷ Handle 0 0 ∷ Handle 0 0 ∷ Arrive 1 0 ∷ []

  twice_are : exchange_steps terms 100 link.Twice twice.asks ≡ twice_steps
  twice_are = refl

  abbrev behind_twice : World
  behind_twice = world_after twice.records apart

  twice_shown : Shows twice.asks behind_twice name (run by (commits ++ twice_steps) begun)
  twice_shown = record {
    schema = schema;
    link = refl;
    epoch = refl;
    n = refl;
    remembered = 17;
    requests = refl;
  }

  -- the reply to the second push is lost: the master has its state by now
  abbrev lost : Course
  lost = course terms 100 link.LoseReply behind_twice twice.asks

  abbrev lost_steps : List Step
  lost_steps = Ask 100 ∷ Handle 0 0 ∷ []

  abbrev behind_lost : World
  behind_lost = world_after lost.records behind_twice

  lost_shown : Shows lost.asks behind_lost name
      (run by (commits ++ twice_steps ++ lost_steps) begun)
  lost_shown = record {
    schema = schema;
    link = refl;
    epoch = refl;
    n = refl;
    remembered = 17;
    requests = refl;
  }

  -- the first one comes late, before the third, whose reply is taken
  abbrev late : Course
  late = course terms 100 (link.Late 2) behind_lost lost.asks

  abbrev late_steps : List Step
  late_steps = Ask 100 ∷ Handle 2 0 ∷ Handle 0 0 ∷ Arrive 0 0 ∷ []

  late_are : exchange_steps terms 100 (link.Late 2) late.asks ≡ late_steps
  late_are = refl

  late_shown : Shows late.asks (world_after late.records behind_lost) name
      (run by (commits ++ twice_steps ++ lost_steps ++ late_steps) begun)
  late_shown = record {
    schema = schema;
    link = refl;
    epoch = refl;
    n = refl;
    remembered = 17;
    requests = refl;
  }

  -- one that isn't remembered doesn't come
  abbrev later : Course
  later = course terms 100 (link.Late 3) behind_lost lost.asks

  later_are : exchange_steps terms 100 (link.Late 3) later.asks
      ≡ Ask 100 ∷ Handle 0 0 ∷ Arrive 0 0 ∷ []
  later_are = refl
