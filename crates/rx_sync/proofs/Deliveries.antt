-- What a delivery keeps.
use Rattle.std.proofs.Common.{◌≡◌, ◌≢◌, ◌∙◌, ℕ, ◌+◌, List, [], ◌∷◌, ◌++◌, Option, Some, None, Result, Ok, Err, refl, sym, ap, subst}
use Rattle.std.specs.List.{AllByRecursion}
use Rattle.rx_value.specs.Due.{◌>>=◌}
use Rattle.rx_value.specs.Named.{named}
use Rattle.rx_value.proofs.Outcomes.{some_same, some_then}
use Rattle.rx_record.specs.Content.{Content}
use Rattle.rx_script.specs.declared.delivery.Delivery.{Delivery}
use Rattle.rx_script.specs.declared.delivery.Delivery.TheVariants as link
use Rattle.rx_stream.specs.declared.event.Event.{Event}
use Rattle.rx_world.specs.Made.{IsMadeWorld}
use Rattle.rx_world.specs.Sound.{IsSoundWorld}
use Rattle.rx_world.specs.World.{World}
use Rattle.rx_sync.specs.Asking.{fork_in, pending_in}
use Rattle.rx_sync.specs.Delivery.{Delivered, EveryDelivery, IsDeliverySound, MayDeliver, MayDeliverAgain, WaitsForPushes, delivered, given_once, joined, later_deliveries, next_delivery, nothing_delivered, once_given, one_delivered}
use Rattle.rx_sync.specs.Events.{IsGoodEventIn, event_by, event_taken}
use Rattle.rx_sync.specs.Exchange.{world_after}
use Rattle.rx_sync.specs.Laws.{ComeSoundly, HasMasterHere}
use Rattle.rx_sync.specs.declared.fault.EventFault.{EventFault}
use Rattle.rx_sync.proofs.EventTakings.{EventLeaves, event_leaves}
use Rattle.rx_sync.proofs.Goodness.{all_good_after, here_after}
use Rattle.rx_sync.proofs.Staying.{made_after, soundly_in_turn}
use Rattle.rx_sync.proofs.Worlds.{after-append, sound_after, soundly-append}

-- ---- an event that is taken

-- where it is, its replication and its fork are there
pub taken_leaves : (w : World) → IsMadeWorld w → IsSoundWorld w → (name : List ℕ)
    → HasMasterHere w name → (e : Event) → IsGoodEventIn w name e → (now : ℕ) (cs : List Content)
    → event_taken w name e now ≡ Some (Ok cs) → EventLeaves w name cs
taken_leaves w made sound name here e good now cs is =
    let a = some_then (named w.replications name)
    (λ r. fork_in w r >>= λ fork. Some (event_by name now e r fork)) (Ok cs) is in
    let b = some_then (fork_in w a.0) (λ fork. Some (event_by name now e a.0 fork)) (Ok cs) a.2 in
    event_leaves w made name here e good a.0 a.1 b.0 b.1 sound now cs (some_same b.2)

-- ---- what a delivery keeps

-- its records come soundly, and the events that are kept stay good
pub record DeliversWell (w : World) (name : List ℕ) (d : Delivered) : Type 0 where
  pub come : ComeSoundly w d.records
  pub kept : AllByRecursion (IsGoodEventIn (world_after d.records w) name) d.kept

-- a delivery may be made
pub may_after : (w : World) (name : List ℕ) (cs : List Content) (es : List Event)
    → MayDeliver w name es → ComeSoundly w cs → MayDeliver (world_after cs w) name es
may_after w name cs es may come =
    let turn = soundly_in_turn w cs come in
    record {
      made = made_after w cs may.made turn;
      sound = sound_after w cs may.sound come;
      here = here_after cs w name turn may.here;
      good = all_good_after cs w name es turn may.made may.here may.good;
    }

nothing_well : (w : World) (name : List ℕ) → DeliversWell w name nothing_delivered
nothing_well w name = record { come = tt; kept = tt }

both_all : {A : Type 0} (P : A → Type 0) (xs ys : List A) → AllByRecursion P xs
    → AllByRecursion P ys → AllByRecursion P (xs ++ ys)
both_all P [] ys first rest = rest
both_all P (x ∷ xs) ys first rest = (first.0, both_all P xs ys first.1 rest)

joined_well : (w : World) (name : List ℕ) (a b : Delivered) (es : List Event)
    → MayDeliver w name es → DeliversWell w name a
    → DeliversWell (world_after a.records w) name b → DeliversWell w name (joined a b)
joined_well w name a b es may first rest =
    let v = world_after a.records w in
    let here = may_after w name a.records es may first.come in
    record {
      come = soundly-append w a.records b.records first.come rest.come;
      kept = subst (λ (x : World). AllByRecursion (IsGoodEventIn x name) (a.kept ++ b.kept))
          (sym (after-append a.records b.records w))
          (both_all (IsGoodEventIn (world_after b.records v) name) a.kept b.kept
          (all_good_after b.records v name a.kept (soundly_in_turn v b.records rest.come) here.made
          here.here first.kept) rest.kept);
    }

-- ---- one event

once_well : (w : World) (name : List ℕ) (now i : ℕ) (e : Event) (es : List Event)
    → MayDeliver w name (e ∷ es) → (o : Option (Result (List Content) EventFault))
    → event_taken w name e now ≡ o → DeliversWell w name (once_given i e o)
once_well w name now i e es may None is = nothing_well w name
once_well w name now i e es may (Some (Ok cs)) is = record {
  come = (taken_leaves w may.made may.sound name may.here e may.good.0 now cs is).come;
  kept = tt;
}
once_well w name now i e es may (Some (Err fault)) is = record { come = tt; kept = tt }

pub given_well : (w : World) (name : List ℕ) (now i : ℕ) (e : Event) (es : List Event)
    → MayDeliver w name (e ∷ es) → DeliversWell w name (given_once name now i e w)
given_well w name now i e es may = once_well w name now i e es may (event_taken w name e now) refl

pub one_well : (w : World) (name : List ℕ) (now i : ℕ) (x : Delivery) (e : Event) (es : List Event)
    → MayDeliver w name (e ∷ es) → DeliversWell w name (one_delivered name now i x e w)
one_well w name now i link.Ok e es may = given_well w name now i e es may
one_well w name now i link.Lose e es may = record { come = tt; kept = tt }
one_well w name now i link.Later e es may = record { come = tt; kept = (may.good.0, tt) }
one_well w name now i link.Twice e es may =
    let first = given_once name now i e w in
    let well = given_well w name now i e es may in
    joined_well w name first (given_once name now i e (world_after first.records w)) (e ∷ es) may
    well
    (given_well (world_after first.records w) name now i e es
    (may_after w name first.records (e ∷ es) may well.come))

-- ---- one event after another

-- the events behind the first one may be delivered too
pub rest_may : (w : World) (name : List ℕ) (e : Event) (es : List Event)
    → MayDeliver w name (e ∷ es) → MayDeliver w name es
rest_may w name e es may =
    record { made = may.made; sound = may.sound; here = may.here; good = may.good.1 }

all_well : (name : List ℕ) (now i : ℕ) (ls : List Delivery) (es : List Event) (w : World)
    → MayDeliver w name es → DeliversWell w name (delivered name now i ls es w)
all_well name now i ls [] w may = nothing_well w name
all_well name now i ls (e ∷ es) w may =
    let d = one_delivered name now i (next_delivery ls) e w in
    let well = one_well w name now i (next_delivery ls) e es may in
    joined_well w name d
    (delivered name now (i + 1) (later_deliveries ls) es (world_after d.records w)) (e ∷ es) may
    well
    (all_well name now (i + 1) (later_deliveries ls) es (world_after d.records w)
    (may_after w name d.records es (rest_may w name e es may) well.come))

pub delivery_sound : EveryDelivery IsDeliverySound
delivery_sound name now i ls es w may = (all_well name now i ls es w may).come

pub delivery_again : EveryDelivery MayDeliverAgain
delivery_again name now i ls es w may =
    let d = delivered name now i ls es w in
    let well = all_well name now i ls es w may in
    let next = may_after w name d.records es may well.come in
    record { made = next.made; sound = next.sound; here = next.here; good = well.kept }

-- ---- a fork that has something to push

-- what is written is nothing
joined_none : (a b : Delivered) → a.records ≡ [] → b.records ≡ [] → (joined a b).records ≡ []
joined_none a b first rest =
    ap (λ (cs : List Content). cs ++ b.records) first ∙ rest

none_after : (a : Delivered) (w : World) → a.records ≡ [] → world_after a.records w ≡ w
none_after a w none = ap (λ (cs : List Content). world_after cs w) none

once_waits : (w : World) (name : List ℕ) (now i : ℕ) (e : Event) (es : List Event)
    → MayDeliver w name (e ∷ es) → pending_in w name ≢ Some 0
    → (o : Option (Result (List Content) EventFault)) → event_taken w name e now ≡ o
    → (once_given i e o).records ≡ []
once_waits w name now i e es may waits None is = refl
once_waits w name now i e es may waits (Some (Ok cs)) is =
    absurd (waits
    (taken_leaves w may.made may.sound name may.here e may.good.0 now cs is).before)
once_waits w name now i e es may waits (Some (Err fault)) is = refl

given_waits : (w : World) (name : List ℕ) (now i : ℕ) (e : Event) (es : List Event)
    → MayDeliver w name (e ∷ es) → pending_in w name ≢ Some 0
    → (given_once name now i e w).records ≡ []
given_waits w name now i e es may waits =
    once_waits w name now i e es may waits (event_taken w name e now) refl

one_waits : (w : World) (name : List ℕ) (now i : ℕ) (x : Delivery) (e : Event) (es : List Event)
    → MayDeliver w name (e ∷ es) → pending_in w name ≢ Some 0
    → (one_delivered name now i x e w).records ≡ []
one_waits w name now i link.Ok e es may waits = given_waits w name now i e es may waits
one_waits w name now i link.Lose e es may waits = refl
one_waits w name now i link.Later e es may waits = refl
one_waits w name now i link.Twice e es may waits =
    let first = given_once name now i e w in
    let none = given_waits w name now i e es may waits in
    joined_none first (given_once name now i e (world_after first.records w)) none
    (ap (λ (v : World). (given_once name now i e v).records) (none_after first w none) ∙ none)

all_wait : (name : List ℕ) (now i : ℕ) (ls : List Delivery) (es : List Event) (w : World)
    → MayDeliver w name es → pending_in w name ≢ Some 0
    → (delivered name now i ls es w).records ≡ []
all_wait name now i ls [] w may waits = refl
all_wait name now i ls (e ∷ es) w may waits =
    let d = one_delivered name now i (next_delivery ls) e w in
    let none = one_waits w name now i (next_delivery ls) e es may waits in
    joined_none d
    (delivered name now (i + 1) (later_deliveries ls) es (world_after d.records w)) none
    (ap (λ (v : World). (delivered name now (i + 1) (later_deliveries ls) es v).records)
    (none_after d w none)
    ∙ all_wait name now (i + 1) (later_deliveries ls) es w (rest_may w name e es may) waits)

pub delivery_waits : EveryDelivery WaitsForPushes
delivery_waits name now i ls es w may waits = all_wait name now i ls es w may waits
