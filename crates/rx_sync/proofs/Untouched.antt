-- What records of one replication and rows of its master leave as it is.
use Rattle.std.proofs.Common.{◌≡◌, ◌≢◌, ◌∙◌, ℕ, List, [], ◌∷◌, Option, Some, option_map, refl, ap}
use Rattle.std.specs.List.{AllByRecursion}
use Rattle.std.specs.Option.{option_map_or}
use Rattle.rx_value.specs.Named.{named, change_named}
use Rattle.rx_record.specs.Content.{Content, rows, exchange}
use Rattle.rx_record.specs.declared.record.RowOut.{RowOut}
use Rattle.rx_world.specs.Replicating.{with_exchange}
use Rattle.rx_world.specs.Step.{collections_after, step, written_to}
use Rattle.rx_world.specs.Touch.{fork_rows, no_collection}
use Rattle.rx_world.specs.World.{World, Collections}
use Rattle.rx_world.specs.declared.replication.Replication.{Replication}
use Rattle.rx_world.proofs.Looked.{named-change_other, named-change_same}
use Rattle.rx_sync.specs.Exchange.{world_after}
use Rattle.rx_sync.proofs.Within.{IsExchangeOf, IsWithin}

-- ---- one record

-- rows of a fork, if there are any
fork_untouched : (cs : Collections) (lwt : ℕ) (written : List RowOut) (r : Replication) (y : List ℕ)
    → y ≢ r.fork → named (collections_after (fork_rows lwt written r) cs) y ≡ named cs y
fork_untouched cs lwt [] r y other = refl
fork_untouched cs lwt (row ∷ written) r y other =
    named-change_other (written_to lwt (row ∷ written)) cs r.fork y other

module _ (name m : List ℕ) (w : World) (r : Replication)
    (held : named w.replications name ≡ Some r) where
  one_untouched : (c : Content) → IsWithin name m c → (y : List ℕ) → y ≢ m → y ≢ r.fork
      → named (step c w).collections y ≡ named w.collections y
  one_untouched (rows k lwt written) is y other apart =
      named-change_other (written_to lwt written) w.collections k y (λ same. other (same ∙ is))
  one_untouched (exchange k lwt written known up down) is y other apart =
      ap (λ (o : Option Replication).
      named
      (collections_after (option_map_or (fork_rows lwt written) o no_collection) w.collections) y)
      (ap (named w.replications) is ∙ held)
      ∙ fork_untouched w.collections lwt written r y apart
  one_untouched other is y a b = absurd is

  -- another replication
  one_unlearnt : (c : Content) → IsWithin name m c → (z : List ℕ) → z ≢ name
      → named (step c w).replications z ≡ named w.replications z
  one_unlearnt (rows k lwt written) is z other = refl
  one_unlearnt (exchange k lwt written known up down) is z other =
      named-change_other (with_exchange known up down) w.replications k z
      (λ same. other (same ∙ is))
  one_unlearnt other is z a = absurd is

  -- its own keeps its fork
  one_still : (c : Content) → IsWithin name m c
      → (now : Replication) × (named (step c w).replications name ≡ Some now) × (now.fork ≡ r.fork)
  one_still (rows k lwt written) is = (r, held, refl)
  one_still (exchange k lwt written known up down) is = (
    with_exchange known up down r,
    ap (λ (n : List ℕ). named (change_named w.replications n (with_exchange known up down)) name) is
        ∙ named-change_same (with_exchange known up down) w.replications name
        ∙ ap (option_map (with_exchange known up down)) held,
    refl,
  )
  one_still other is = absurd is

-- ---- several

module _ (name m : List ℕ) where
  pub untouched : (cs : List Content) (w : World) (r : Replication)
      → named w.replications name ≡ Some r → AllByRecursion (IsWithin name m) cs → (y : List ℕ)
      → y ≢ m → y ≢ r.fork → named (world_after cs w).collections y ≡ named w.collections y
  untouched [] w r held all y other apart = refl
  untouched (c ∷ cs) w r held all y other apart =
      let now = one_still name m w r held c all.0 in
      untouched cs (step c w) now.0 now.1 all.1 y other (λ same. apart (same ∙ now.2))
      ∙ one_untouched name m w r held c all.0 y other apart

  pub unlearnt : (cs : List Content) (w : World) (r : Replication)
      → named w.replications name ≡ Some r → AllByRecursion (IsWithin name m) cs → (z : List ℕ)
      → z ≢ name → named (world_after cs w).replications z ≡ named w.replications z
  unlearnt [] w r held all z other = refl
  unlearnt (c ∷ cs) w r held all z other =
      let now = one_still name m w r held c all.0 in
      unlearnt cs (step c w) now.0 now.1 all.1 z other
      ∙ one_unlearnt name m w r held c all.0 z other

-- exchanges are within, whichever collection is the master
exchange_within : (name m : List ℕ) (c : Content) → IsExchangeOf name c → IsWithin name m c
exchange_within name m (exchange k lwt written known up down) is = is
exchange_within name m other is = absurd is

pub exchanges_within : (name m : List ℕ) (cs : List Content) → AllByRecursion (IsExchangeOf name) cs
    → AllByRecursion (IsWithin name m) cs
exchanges_within name m [] all = tt
exchanges_within name m (c ∷ cs) all =
    (exchange_within name m c all.0, exchanges_within name m cs all.1)
