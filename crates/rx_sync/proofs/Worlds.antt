-- What is found in a world that records made.
use Rattle.std.proofs.Common.{◌≡◌, ◌∙◌, ℕ, List, [], ◌∷◌, ◌++◌, Some, refl, sym, subst}
use Rattle.rx_value.specs.Named.{named}
use Rattle.rx_value.proofs.Outcomes.{some_same}
use Rattle.rx_collection.specs.Held.{Held}
use Rattle.rx_collection.proofs.Named.{at_name}
use Rattle.rx_record.specs.Content.{Content}
use Rattle.rx_replication.specs.Sound.{IsForkSound}
use Rattle.rx_replication.specs.Write.{AreByKey}
use Rattle.rx_replication.proofs.Commits.{lawful-by_key}
use Rattle.rx_world.specs.Sound.{IsSoundWorld, IsSoundIn}
use Rattle.rx_world.specs.Step.{step}
use Rattle.rx_world.specs.World.{World}
use Rattle.rx_world.specs.declared.replication.Replication.{Replication}
use Rattle.rx_world.proofs.Sounds.{to_link}
use Rattle.rx_world.proofs.Steps.{lawful_at}
use Rattle.rx_sync.specs.Exchange.{world_after}
use Rattle.rx_sync.specs.Laws.{ComeSoundly, ForFork}
use Rattle.rx_world.specs.Linked.{IsLinked}
use Rattle.rx_world.specs.Made.{IsMadeWorld}

module _ (w : World) (made : IsMadeWorld w) where
  -- a replication is linked
  pub linked_at : (name : List ℕ) (r : Replication) → named w.replications name ≡ Some r
      → IsLinked w.collections name r
  linked_at name r at =
      at_name (λ k x. IsLinked w.collections k x) w.replications name r made.linked.each at

  -- the documents of a collection are by key, and its name is its own
  pub by_key_at : (name : List ℕ) (c : Held) → named w.collections name ≡ Some c
      → AreByKey c.documents
  by_key_at name c at = lawful-by_key c (lawful_at w name c made.lawful at).lawful

  pub called_at : (name : List ℕ) (c : Held) → named w.collections name ≡ Some c → c.name ≡ name
  called_at name c at = (lawful_at w name c made.lawful at).called

-- a replication is sound
pub sound_at : (w : World) → IsSoundWorld w → (name : List ℕ) (r : Replication)
    → named w.replications name ≡ Some r → IsSoundIn w.collections r
sound_at w sound name r at =
    at_name (λ k x. IsSoundIn w.collections x) w.replications name r sound at

-- the fork's side of a replication is sound
pub fork_sound_at : (w : World) → IsMadeWorld w → IsSoundWorld w → (name : List ℕ)
    (r : Replication) (fork : Held) → named w.replications name ≡ Some r
    → named w.collections r.fork ≡ Some fork → IsForkSound fork.documents r.side.known r.side.up
fork_sound_at w made sound name r fork at held =
    let l = to_link w.collections name r (linked_at w made name r at) (sound_at w sound name r
    at) in
    subst (λ (c : Held). IsForkSound c.documents r.side.known r.side.up)
    (some_same (sym l.fork_side.1 ∙ held)) l.fork_side.2

-- what holds of the fork of a replication holds of it, however it is found
pub for_fork : (w : World) (name : List ℕ) (r : Replication) (fork : Held)
    (P : Replication → Held → Type 0) → named w.replications name ≡ Some r
    → named w.collections r.fork ≡ Some fork → P r fork → ForFork w name P
for_fork w name r fork P at held here = λ s s_at c c_held.
    subst (λ (s : Replication). (c : Held) → named w.collections s.fork ≡ Some c → P s c)
    (some_same (sym at ∙ s_at))
    (λ c c_held. subst (λ (c : Held). P r c) (some_same (sym held ∙ c_held)) here) c c_held

-- ---- worlds after records

pub after-append : (cs ds : List Content) (w : World) → world_after (cs ++ ds) w
    ≡ world_after ds (world_after cs w)
after-append [] ds w = refl
after-append (c ∷ cs) ds w = after-append cs ds (step c w)

-- records that come soundly, and then others
pub soundly-append : (w : World) (cs ds : List Content) → ComeSoundly w cs
    → ComeSoundly (world_after cs w) ds → ComeSoundly w (cs ++ ds)
soundly-append w [] ds first rest = rest
soundly-append w (c ∷ cs) ds first rest =
    (first.0, first.1, soundly-append (step c w) cs ds first.2 rest)

-- the first of records that come soundly do
pub soundly_front : (w : World) (cs ds : List Content) → ComeSoundly w (cs ++ ds)
    → ComeSoundly w cs
soundly_front w [] ds come = tt
soundly_front w (c ∷ cs) ds come =
    (come.0, come.1, soundly_front (step c w) cs ds come.2)

-- the world after them is sound
pub sound_after : (w : World) (cs : List Content) → IsSoundWorld w → ComeSoundly w cs
    → IsSoundWorld (world_after cs w)
sound_after w [] sound come = sound
sound_after w (c ∷ cs) sound come = sound_after (step c w) cs come.1 come.2
