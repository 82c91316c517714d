-- Good events stay good.
use Rattle.std.proofs.Common.{◌≡◌, ◌∙◌, ℕ, true, List, [], ◌∷◌, Some, sym, ap, subst}
use Rattle.std.specs.List.{AllByRecursion}
use Rattle.rx_value.specs.Named.{named}
use Rattle.rx_value.proofs.Outcomes.{some_same}
use Rattle.rx_schema.specs.declared.shape.Shape.{Shape}
use Rattle.rx_collection.specs.Held.{Held}
use Rattle.rx_fork.specs.Valid.{is_valid}
use Rattle.rx_record.specs.Content.{Content, migration}
use Rattle.rx_record.specs.Writable.{IsOrdered}
use Rattle.rx_record.specs.declared.record.MasterName.TheVariants.{Local}
use Rattle.rx_stream.specs.Good.{IsGoodEvent}
use Rattle.rx_stream.specs.declared.event.Event.{Event}
use Rattle.rx_stream.proofs.Good.{event_stays}
use Rattle.rx_world.specs.Linked.{HasMaster, IsMasterOf}
use Rattle.rx_world.specs.Made.{IsMadeWorld}
use Rattle.rx_world.specs.Step.{legal, step}
use Rattle.rx_world.specs.Touch.{IsNoMigration}
use Rattle.rx_world.specs.World.{World}
use Rattle.rx_world.specs.declared.replication.Replication.{Replication}
use Rattle.rx_world.proofs.Grown.{IsApart, stays_from, stays_grown}
use Rattle.rx_world.proofs.Making.{made_step}
use Rattle.rx_sync.specs.Events.{IsGoodEventIn}
use Rattle.rx_sync.specs.Exchange.{world_after}
use Rattle.rx_sync.specs.Laws.{HasMasterHere, MayCome, MayComeInTurn}
use Rattle.rx_sync.proofs.Worlds.{linked_at}

-- ---- a replication whose master is here

-- stays so after a legal record
pub here_step : (entry : Content) (w : World) (name : List ℕ) → legal entry w ≡ true
    → HasMasterHere w name → HasMasterHere (step entry w) name
here_step entry w name is here =
    let s = stays_from entry w is name here.replication here.held in
    record {
      replication = s.new;
      held = s.held;
      master = here.master;
      local = s.master ∙ here.local;
    }

-- its master is held
pub master_at : (w : World) → IsMadeWorld w → (name : List ℕ) (here : HasMasterHere w name)
    → (master : Held) × (named w.collections here.master ≡ Some master)
master_at w made name here =
    let l = linked_at w made name here.replication here.held in
    let of : IsMasterOf w.collections here.replication.fork l.fork.schema here.master =
    subst (HasMaster w.collections here.replication.fork l.fork.schema) here.local l.master in
    (of.master, of.held)

-- what is good for the master is so however that is found
pub good_in : (w : World) (name : List ℕ) (r : Replication) → named w.replications name ≡ Some r
    → (m : List ℕ) → r.master ≡ Local m → (master : Held) → named w.collections m ≡ Some master
    → (e : Event) → IsGoodEvent (is_valid master.schema) master.documents e
    → IsGoodEventIn w name e
good_in w name r at m local master there e good = λ s s_at k k_local c c_held.
    let same : r ≡ s = some_same (sym at ∙ s_at) in
    let names : Local m ≡ Local k = sym local ∙ ap (λ (r : Replication). r.master) same ∙ k_local in
    let called : m ≡ k = cc in
    subst (λ (c : Held). IsGoodEvent (is_valid c.schema) c.documents e)
    (some_same (sym there ∙ ap (named w.collections) called ∙ c_held)) good

-- ---- events

-- after a legal record that doesn't make the master anew
pub good_step : (entry : Content) (w : World) (name : List ℕ) (e : Event) → legal entry w ≡ true
    → IsOrdered entry → IsMadeWorld w → (here : HasMasterHere w name)
    → IsApart entry w here.master → IsGoodEventIn w name e → IsGoodEventIn (step entry w) name e
good_step entry w name e is ordered made here apart good =
    let m = master_at w made name here in
    let r = stays_from entry w is name here.replication here.held in
    let after = stays_grown entry w is ordered made here.master m.0 m.1 apart in
    let grown = after.grown in
    good_in (step entry w) name r.new r.held here.master (r.master ∙ here.local) after.new
    after.held e
    (subst (λ (s : Shape). IsGoodEvent (is_valid s) after.new.documents e) (sym grown.schema)
    (event_stays (is_valid m.0.schema) m.0.documents after.new.documents grown.states grown.wrote e
    (good here.replication here.held here.master here.local m.0 m.1)))

-- one that is no migration makes none anew
plain_apart : (entry : Content) (w : World) (at : List ℕ) → IsNoMigration entry
    → IsApart entry w at
plain_apart (migration name text steps) w at plain = absurd plain
plain_apart other w at plain = tt

pub good_after : (entry : Content) (w : World) (name : List ℕ) (e : Event) → legal entry w ≡ true
    → IsOrdered entry → IsNoMigration entry → IsMadeWorld w → HasMasterHere w name
    → IsGoodEventIn w name e → IsGoodEventIn (step entry w) name e
good_after entry w name e is ordered plain made here good =
    good_step entry w name e is ordered made here (plain_apart entry w here.master plain) good

all_good_step : (entry : Content) (w : World) (name : List ℕ) (es : List Event) → MayCome w entry
    → IsMadeWorld w → HasMasterHere w name → AllByRecursion (IsGoodEventIn w name) es
    → AllByRecursion (IsGoodEventIn (step entry w) name) es
all_good_step entry w name [] may made here good = tt
all_good_step entry w name (e ∷ es) may made here good = (
  good_after entry w name e may.lawful may.ordered may.no_migration made here good.0,
  all_good_step entry w name es may made here good.1,
)

-- after several
pub here_after : (cs : List Content) (w : World) (name : List ℕ) → MayComeInTurn w cs
    → HasMasterHere w name → HasMasterHere (world_after cs w) name
here_after [] w name come here = here
here_after (c ∷ cs) w name come here =
    here_after cs (step c w) name come.1 (here_step c w name come.0.lawful here)

pub all_good_after : (cs : List Content) (w : World) (name : List ℕ) (es : List Event)
    → MayComeInTurn w cs → IsMadeWorld w → HasMasterHere w name
    → AllByRecursion (IsGoodEventIn w name) es
    → AllByRecursion (IsGoodEventIn (world_after cs w) name) es
all_good_after [] w name es come made here good = good
all_good_after (c ∷ cs) w name es come made here good =
    all_good_after cs (step c w) name es come.1
    (made_step c w come.0.lawful come.0.ordered made) (here_step c w name come.0.lawful here)
    (all_good_step c w name es come.0 made here good)
