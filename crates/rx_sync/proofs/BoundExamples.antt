-- Two documents in conflict that the fork wins, one at a time: all that the bound allows is needed.
use Rattle.std.proofs.Common.{◌≡◌, ℕ, List, [], ◌∷◌, false, Some, None, refl, pos}
use Rattle.rx_value.specs.declared.state.State.{State}
use Rattle.rx_value.specs.declared.value.Value.TheVariants.{Int}
use Rattle.rx_schema.specs.declared.shape.Shape.{Shape}
use Rattle.rx_document.specs.declared.place.Place.{Place}
use Rattle.rx_collection.specs.Held.{held_with}
use Rattle.rx_handler.specs.declared.kind.HandlerKind.TheVariants.{ForkWins}
use Rattle.rx_record.specs.Content.{Content, rows}
use Rattle.rx_record.specs.declared.record.MasterName.TheVariants.{Local}
use Rattle.rx_reply.specs.declared.turn.Exchanged.TheVariants.{Pushed, Pulled}
use Rattle.rx_reply.specs.declared.turn.TurnEnd.TheVariants.{Quiet, More}
use Rattle.rx_world.specs.Replicating.{new_replication}
use Rattle.rx_world.specs.World.{World}
use Rattle.rx_sync.specs.Asks.{no_asks}
use Rattle.rx_sync.specs.Bound.{ForLink, enough, pushes_in}
use Rattle.rx_sync.specs.Exchange.{world_after}
use Rattle.rx_sync.specs.Turn.{Turned, turn}

-- the names of the master, the fork and the replication, and the keys of the two documents
abbrev master : List ℕ
master = 109 ∷ []

abbrev fork : List ℕ
fork = 102 ∷ []

abbrev name : List ℕ
name = 114 ∷ []

abbrev a : List ℕ
a = 97 ∷ []

abbrev b : List ℕ
b = 98 ∷ []

abbrev with_number : List ℕ → ℕ → State
with_number key n =
    record { key = key; fields = (110 ∷ [], Int (pos n)) ∷ []; deleted = false }

-- the record of a commit of both
abbrev both : List ℕ → ℕ → Content
both at n =
    rows at 1
    (record { height = 1; state = with_number a n }
    ∷ record { height = 1; state = with_number b n } ∷ [])

module _ (schema : Shape) where
  -- the master wrote 1 to both, and the fork 2, and nothing is known
  abbrev apart : World
  apart = world_after (both master 1 ∷ both fork 2 ∷ []) (record {
    collections = (master, held_with master schema []) ∷ (fork, held_with fork schema []) ∷ [];
    replications = (name, new_replication name fork (Local master) (104 ∷ []) None) ∷ [];
    epoch = 1;
  })

  abbrev turned : ℕ → Turned
  turned budget =
      turn (record { name = name; now = 0; kinds = (104 ∷ [], ForkWins) ∷ [] }) 1 budget [] apart
      no_asks

  abbrev place : ℕ → List ℕ → Place
  place lwt key = record { lwt = lwt; id = key }

  -- each is pushed, meets the master's state, is pushed again, and comes back
  exchanges : (turned 7).exchanges
      ≡ Pushed (a ∷ []) (a ∷ []) ∷ Pushed (b ∷ []) (b ∷ []) ∷ Pushed (a ∷ []) []
      ∷ Pushed (b ∷ []) [] ∷ Pulled (a ∷ []) (Some (place 2 a))
      ∷ Pulled (b ∷ []) (Some (place 3 b)) ∷ Pulled [] (Some (place 3 b)) ∷ []
  exchanges = refl

  ended : (turned 7).ended ≡ Quiet
  ended = refl

  -- that is two for each of the two, one for each of the two keys, and one
  seven : ForLink apart name (λ l. enough l ≡ 7)
  seven = (_, refl, refl)

  -- and six aren't enough
  six : (turned 6).ended ≡ More
  six = refl

  twice : pushes_in a (turned 7).exchanges ≡ 2
  twice = refl
