-- What stays of a world through records.
use Rattle.std.proofs.Common.{◌≡◌, ◌∙◌, ℕ, true, List, [], ◌∷◌, Some, option_map, refl, sym, ap, subst, inl, inr}
use Rattle.std.specs.List.{AllByRecursion}
use Rattle.rx_value.specs.Named.{named, change_named}
use Rattle.rx_value.proofs.Bytes.{bytes_cases}
use Rattle.rx_value.proofs.Outcomes.{some_same}
use Rattle.rx_schema.specs.declared.shape.Shape.{Shape}
use Rattle.rx_collection.specs.Held.{Held}
use Rattle.rx_handler.specs.Handlers.{Kinds}
use Rattle.rx_record.specs.Content.{Content, collection, rows, replication, exchange, migration}
use Rattle.rx_world.specs.Made.{IsMadeWorld}
use Rattle.rx_world.specs.Replicating.{new_replication, with_exchange}
use Rattle.rx_world.specs.Sound.{IsSoundWorld}
use Rattle.rx_world.specs.Step.{legal, step}
use Rattle.rx_world.specs.Touch.{IsNoExchange, IsNoMigration}
use Rattle.rx_world.specs.World.{World}
use Rattle.rx_world.specs.declared.replication.Replication.{Replication}
use Rattle.rx_world.proofs.Beginning.{begins}
use Rattle.rx_world.proofs.Links.{StayHeld, held_other, stay_step}
use Rattle.rx_world.proofs.Looked.{named-put_other, named-change_same, named-change_other}
use Rattle.rx_world.proofs.Making.{made_step}
use Rattle.rx_world.proofs.Sounds.{sound_step}
use Rattle.rx_sync.specs.Asks.{Asks, AsksAreLawful}
use Rattle.rx_sync.specs.Exchange.{world_after}
use Rattle.rx_sync.specs.Laws.{ComeSoundly, IsReady, MayComeInTurn, RemembersLawful}
use Rattle.rx_sync.proofs.Worlds.{linked_at, sound_after}

-- ---- worlds

-- records that may come make a world of a made one
pub made_after : (w : World) (cs : List Content) → IsMadeWorld w → MayComeInTurn w cs
    → IsMadeWorld (world_after cs w)
made_after w [] made come = made
made_after w (c ∷ cs) made come =
    made_after (step c w) cs (made_step c w come.0.lawful come.0.ordered made) come.1

pub soundly_in_turn : (w : World) (cs : List Content) → ComeSoundly w cs → MayComeInTurn w cs
soundly_in_turn w [] come = tt
soundly_in_turn w (c ∷ cs) come = (come.0, soundly_in_turn (step c w) cs come.2)

-- where none is an exchange, they leave sound worlds
pub plain_soundly : (w : World) (cs : List Content) → IsMadeWorld w → IsSoundWorld w
    → AllByRecursion IsNoExchange cs → MayComeInTurn w cs → ComeSoundly w cs
plain_soundly w [] made sound plain come = tt
plain_soundly w (c ∷ cs) made sound plain come =
    let next = sound_step c w come.0.lawful come.0.ordered plain.0 made sound in (
      come.0,
      next,
      plain_soundly (step c w) cs (made_step c w come.0.lawful come.0.ordered made) next plain.1
          come.1,
    )

-- ---- a replication

-- it is there, with the fork, the master and the handler that it had
pub record IsStillThere (w : World) (name : List ℕ) (r : Replication) : Type 0 where
  pub now : Replication
  pub held : named w.replications name ≡ Some now
  pub fork : now.fork ≡ r.fork
  pub master : now.master ≡ r.master
  pub handler : now.handler ≡ r.handler

still_same : (w : World) (name : List ℕ) (r : Replication) → named w.replications name ≡ Some r
    → IsStillThere w name r
still_same w name r at =
    record { now = r; held = at; fork = refl; master = refl; handler = refl }

-- after a legal record that is no migration
still_step : (c : Content) (w : World) (name : List ℕ) (r : Replication) → legal c w ≡ true
    → IsNoMigration c → named w.replications name ≡ Some r → IsStillThere (step c w) name r
still_step (collection k schema) w name r is other at =
    still_same (step (collection k schema) w) name r
    at
still_step (rows k lwt written) w name r is other at =
    still_same (step (rows k lwt written) w) name r at
still_step (replication k fork m handler field) w name r is other at =
    let free = (begins k fork m w is).free in
    let new = new_replication k fork m handler field in
    still_same (step (replication k fork m handler field) w) name r
    (named-put_other w.replications k name new (held_other w.replications name k r free at) ∙ at)
still_step (exchange k lwt written known up down) w name r is other at =
    elim (bytes_cases name k) [
      | inl same ↦ record {
        now = with_exchange known up down r;
        held = subst (λ (k : List ℕ).
            named (change_named w.replications k (with_exchange known up down)) name
            ≡ Some (with_exchange known up down r)) same
            (named-change_same (with_exchange known up down) w.replications name
            ∙ ap (option_map (with_exchange known up down)) at);
        fork = refl;
        master = refl;
        handler = refl;
      }
      | inr apart ↦ still_same (step (exchange k lwt written known up down) w) name r
          (named-change_other (with_exchange known up down) w.replications k name apart ∙ at)
    ]
still_step (migration k text steps) w name r is other at = absurd other
still_step entry w name r is other at = still_same (step entry w) name r at

-- after several
pub still_after : (cs : List Content) (w : World) (name : List ℕ) (r : Replication)
    → MayComeInTurn w cs → named w.replications name ≡ Some r
    → IsStillThere (world_after cs w) name r
still_after [] w name r come at = still_same w name r at
still_after (c ∷ cs) w name r come at =
    let first = still_step c w name r come.0.lawful come.0.no_migration at in
    let rest = still_after cs (step c w) name first.now come.1 first.held in
    record {
      now = rest.now;
      held = rest.held;
      fork = rest.fork ∙ first.fork;
      master = rest.master ∙ first.master;
      handler = rest.handler ∙ first.handler;
    }

-- the collections stay held, with their schemas
pub stay_after : (cs : List Content) (w : World) → MayComeInTurn w cs
    → StayHeld w.collections (world_after cs w).collections
stay_after [] w come = record { held = λ k c at. (c, at, refl) }
stay_after (c ∷ cs) w come =
    let first = stay_step c w come.0.lawful come.0.no_migration in
    let rest = stay_after cs (step c w) come.1 in
    record {
      held = λ k x at.
          let y = first.held k x at in
          let z = rest.held k y.0 y.1 in (z.0, z.1, z.2 ∙ y.2);
    }

-- ---- exchanges may go on

pub ready_after : (cs : List Content) (w : World) (name : List ℕ) (kinds : Kinds)
    → IsReady w name kinds → ComeSoundly w cs → IsReady (world_after cs w) name kinds
ready_after cs w name kinds ready come =
    let turn = soundly_in_turn w cs come in
    let s = still_after cs w name ready.here.replication turn ready.here.held in
    record {
      made = made_after w cs ready.made turn;
      sound = sound_after w cs ready.sound come;
      here = record {
        replication = s.now;
        held = s.held;
        master = ready.here.master;
        local = s.master ∙ ready.here.local;
      };
      kind = ready.kind;
      handler = ap (named kinds) s.handler ∙ ready.handler;
    }

-- of the same fork and master
pub ready_after-fork : (cs : List Content) (w : World) (name : List ℕ) (kinds : Kinds)
    (ready : IsReady w name kinds) (come : ComeSoundly w cs)
    → (ready_after cs w name kinds ready come).here.replication.fork ≡ ready.here.replication.fork
unfolding ready_after
ready_after-fork cs w name kinds ready come =
    (still_after cs w name ready.here.replication (soundly_in_turn w cs come) ready.here.held).fork

pub ready_after-master : (cs : List Content) (w : World) (name : List ℕ) (kinds : Kinds)
    (ready : IsReady w name kinds) (come : ComeSoundly w cs)
    → (ready_after cs w name kinds ready come).here.master ≡ ready.here.master
unfolding ready_after
ready_after-master cs w name kinds ready come = refl

-- what is remembered stays lawful
pub remembers_after : (cs : List Content) (w : World) (name : List ℕ) (kinds : Kinds) (a : Asks)
    → IsReady w name kinds → MayComeInTurn w cs → RemembersLawful w name a
    → RemembersLawful (world_after cs w) name a
remembers_after cs w name kinds a ready come lawful = λ r at fork held.
    let old = ready.here.replication in
    let l = linked_at w ready.made name old ready.here.held in
    let s = still_after cs w name old come ready.here.held in
    let c = (stay_after cs w come).held old.fork l.fork l.held in
    let fork_is : r.fork ≡ old.fork =
    ap (λ (r : Replication). r.fork) (some_same (sym at ∙ s.held)) ∙ s.fork in
    let same : c.0 ≡ fork =
    some_same (sym c.1 ∙ ap (named (world_after cs w).collections) (sym fork_is) ∙ held) in
    subst (λ (schema : Shape). AsksAreLawful schema a)
    (sym c.2 ∙ ap (λ (x : Held). x.schema) same) (lawful old ready.here.held l.fork l.held)
