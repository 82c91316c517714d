-- How sessions are told apart.
use Rattle.std.specs.Prelude.{ℕ, List, refl}
use Rattle.std.specs.Coded.{Coded, code_by, coded×, coded_list, coded_ℕ}
use Rattle.rx_collection.specs.Held.{Held}
use Rattle.rx_collection.specs.contracts.collection.Collection as collection
use Rattle.rx_observe.specs.Codes.{watched_code}
use Rattle.rx_observe.specs.Watched.{Watched}
use Rattle.rx_stream.specs.contracts.stream.Stream as stream
use Rattle.rx_stream.specs.declared.stream.Stream.{Stream}
use Rattle.rx_update.specs.Attached.{Hooking}
use Rattle.rx_update.specs.Hooks.{HookKinds}
use Rattle.rx_update.specs.contracts.attached.Attached as attached
use Rattle.rx_update.specs.contracts.kind.HookKind as kind
use Rattle.rx_update.specs.declared.attached.Attached.{Attached}
use Rattle.rx_world.specs.World.{World}
use Rattle.rx_world.specs.contracts.replication.Replication as replication
use Rattle.rx_world.specs.declared.replication.Replication.{Replication}
use Rattle.rx_session.specs.Session.{Observed, Session}

-- a name
abbrev pub text_code : Coded (List ℕ)
text_code = coded_list coded_ℕ

-- a world, as the pair of its parts
abbrev pub world_code : Coded World
world_code =
    code_by (List (List ℕ × Held) × (List (List ℕ × Replication) × ℕ))
    (coded× (coded_list (coded× text_code collection.the_row.coded))
    (coded× (coded_list (coded× text_code replication.the_row.coded)) coded_ℕ))
    (λ w. (w.collections, (w.replications, w.epoch)))
    (λ p. record { collections = p.0; replications = p.1.0; epoch = p.1.1 })
    (λ _. refl)

-- an observed query, as the tuple of its parts
abbrev pub observed_code : Coded Observed
observed_code =
    code_by (List ℕ × (List ℕ × Watched))
    (coded× text_code (coded× text_code watched_code))
    (λ o. (o.name, (o.coll, o.watched)))
    (λ p. record { name = p.0; coll = p.1.0; watched = p.1.1 })
    (λ _. refl)

-- hooks, as the pair of their parts
abbrev pub hooking_code : Coded Hooking
hooking_code =
    code_by (HookKinds × List Attached)
    (coded× (coded_list (coded× text_code kind.the_row.coded)) (coded_list attached.the_row.coded))
    (λ h. (h.known, h.attached))
    (λ p. record { known = p.0; attached = p.1 })
    (λ _. refl)

-- a session
abbrev pub session_code : Coded Session
session_code =
    code_by (World × (ℕ × (Hooking × (List Stream × List Observed))))
    (coded× world_code (coded× coded_ℕ (coded× hooking_code
    (coded× (coded_list stream.the_row.coded) (coded_list observed_code)))))
    (λ s. (s.world, (s.moment, (s.hooks, (s.streams, s.queries)))))
    (λ p. record {
      world = p.0;
      moment = p.1.0;
      hooks = p.1.1.0;
      streams = p.1.1.1.0;
      queries = p.1.1.1.1;
    })
    (λ _. refl)
