-- A delivery, event by event.
use Rattle.std.proofs.Common.{◌≡◌, ◌≢◌, ◌∙◌, ◌+◌, ◌||◌, ◌==◌, IfOk, ℕ, zero, suc, Bool, true, false, true≢false, List, [], ◌∷◌, ◌++◌, drop, length, Option, Some, None, Result, Ok, Err, refl, sym, ap, subst, arith, append_assoc, append-nil}
use Rattle.std.specs.Prelude.{IfSome}
use Rattle.rx_value.specs.Due.{◌>>◌, ◌>>=◌, demand, lifted}
use Rattle.rx_value.specs.Named.{named}
use Rattle.rx_collection.specs.Held.{Held}
use Rattle.rx_collection.specs.Since.{is_above}
use Rattle.rx_fork.specs.Accept.{page_plan}
use Rattle.rx_replication.specs.Known.{pending}
use Rattle.rx_record.specs.Content.{Content}
use Rattle.rx_reply.specs.declared.given.Given.{Given}
use Rattle.rx_reply.specs.declared.given.Took.{Took}
use Rattle.rx_reply.specs.declared.given.Took.TheVariants as took
use Rattle.rx_script.specs.declared.delivery.Delivery.{Delivery}
use Rattle.rx_script.specs.declared.delivery.Delivery.TheVariants as link
use Rattle.rx_stream.specs.declared.event.Event.{Event}
use Rattle.rx_sync.specs.Asking.{fork_in, pending_in}
use Rattle.rx_sync.specs.Delivery.{Delivered, MayDeliver, delivered, given_once, joined, later_deliveries, next_delivery, nothing_delivered, once_given, one_delivered, took_by}
use Rattle.rx_sync.specs.Events.{event_by, event_taken}
use Rattle.rx_sync.specs.Exchange.{world_after}
use Rattle.rx_sync.specs.Shown.{giving_of, record_in}
use Rattle.rx_sync.specs.Taking.{changes_nothing, is_same_place, recorded, write_time}
use Rattle.rx_sync.specs.declared.fault.EventFault.{EventFault}
use Rattle.rx_sync.specs.declared.fault.EventFault.TheVariants as fault
use Rattle.rx_sync.specs.declared.giving.Giving.{Giving}
use Rattle.rx_sync.proofs.Apart.{AreApart, IsApart, each_both, each_recorded}
use Rattle.rx_sync.proofs.Deliveries.{given_well, may_after, one_well, rest_may}
use Rattle.rx_world.specs.World.{World}
use Rattle.rx_world.specs.declared.replication.Replication.{Replication}
use Rattle.rx_engine.specs.Delivering.{IsDelivered, IsDeliveredOn, MayGive, delivery_at}
use Rattle.rx_engine.specs.Play.{Follows}
use Rattle.rx_engine.specs.declared.delivering.Delivered.{Delivered as Made}
use Rattle.rx_engine.specs.declared.play.Play.{Play}
use Rattle.rx_engine.proofs.Staging.{follows_none, follows_on, world_of}

-- ---- one delivery before another

joined_assoc : (a b c : Delivered) → joined (joined a b) c ≡ joined a (joined b c)
joined_assoc a b c = λ i. record {
  records = append_assoc a.records b.records c.records i;
  given = append_assoc a.given b.given c.given i;
  kept = append_assoc a.kept b.kept c.kept i;
}

joined_nothing : (a : Delivered) → joined a nothing_delivered ≡ a
joined_nothing a = λ i. record {
  records = append-nil a.records i;
  given = append-nil a.given i;
  kept = append-nil a.kept i;
}

-- ---- the link

first_at : (i : ℕ) (over : List Delivery) → next_delivery (drop i over) ≡ delivery_at i over
first_at zero [] = refl
first_at (suc i) [] = refl
first_at zero (x ∷ xs) = refl
first_at (suc i) (x ∷ xs) = first_at i xs

rest_at : (i : ℕ) (over : List Delivery) → later_deliveries (drop i over) ≡ drop (suc i) over
rest_at zero [] = refl
rest_at (suc i) [] = refl
rest_at zero (x ∷ xs) = refl
rest_at (suc i) (x ∷ xs) = rest_at i xs

-- ---- one event

-- one may be given alone
pub may_give : (w : World) (name : List ℕ) (e : Event) (es : List Event)
    → MayDeliver w name (e ∷ es) → MayGive w name e
may_give w name e es may =
    record { made = may.made; sound = may.sound; here = may.here; good = (may.good.0, tt) }

-- and again once it was
pub may_again : (w : World) (name : List ℕ) (now i : ℕ) (e : Event) → MayGive w name e
    → MayGive (world_after (given_once name now i e w).records w) name e
may_again w name now i e may =
    may_after w name (given_once name now i e w).records (e ∷ []) may
    (given_well w name now i e [] may).come

-- one after another
pub on_after : (a b : Delivered) (p q r : Made) → IsDeliveredOn a p q → IsDeliveredOn b q r
    → IsDeliveredOn (joined a b) p r
on_after a b p q r first next = record {
  follows = follows_on p.play q.play r.play a.records b.records first.follows next.follows;
  given = next.given ∙ ap (λ (gs : List Given). gs ++ b.given) first.given
      ∙ append_assoc p.given a.given b.given;
  kept = next.kept ∙ ap (λ (es : List Event). es ++ b.kept) first.kept
      ∙ append_assoc p.kept.items a.kept b.kept;
}

-- what was staged of a giving is what it comes to
pub given_on : (d : Delivered) (g : Giving) (p q : Made) → d ≡ giving_of g
    → Follows p.play (record_in g.written) q.play → q.given ≡ p.given ++ g.given ∷ []
    → q.kept.items ≡ p.kept.items → IsDeliveredOn d p q
given_on d g p q is follows given kept =
    subst (λ (d : Delivered). IsDeliveredOn d p q) (sym is) (record {
      follows = follows;
      given = given;
      kept = kept ∙ sym (append-nil p.kept.items);
    })

-- the event was taken
abbrev pub is_taken : Took → Bool
is_taken took.Taken = true
is_taken other = false

not_taken : (f : EventFault) → is_taken (took_by f) ≡ false
not_taken fault.Old = refl
not_taken (fault.Pending due) = refl
not_taken fault.Gap = refl
not_taken fault.ClockEnd = refl
not_taken fault.Memory = refl

-- the first of some lines is that of an event that was taken
abbrev first_taken : List Given → Bool
first_taken [] = false
first_taken (g ∷ gs) = is_taken g.took

or_none : (b c : Bool) → c ≡ false → (b || c) ≡ true → b ≡ true
or_none true c none is = refl
or_none false c none is = absurd (true≢false (sym is ∙ none))

-- after a giving nothing is to be pushed, where nothing was, or where it was taken
pub none_given : (w : World) (name : List ℕ) (i : ℕ) (e : Event) (none : Bool) (g : Giving)
    (o : Option (Result (List Content) EventFault)) → once_given i e o ≡ giving_of g
    → (none ≡ true → pending_in w name ≡ Some 0)
    → (g.given.took ≡ took.Taken → pending_in (world_after (record_in g.written) w) name ≡ Some 0)
    → (none || is_taken g.given.took) ≡ true
    → pending_in (world_after (record_in g.written) w) name ≡ Some 0
none_given w name i e none g None is before settled told =
    absurd (nothing_there (ap (λ (d : Delivered). d.given) is))
  where
    nothing_there : {g : Given} → [] ≡ g ∷ [] → ⊥
    nothing_there same = absurd (cc)
none_given w name i e none g (Some (Ok cs)) is before settled told =
    settled (sym (ap (λ (d : Delivered). took_in d.given) is))
  where
    took_in : List Given → Took
    took_in [] = took.Old
    took_in (g ∷ gs) = g.took
none_given w name i e none g (Some (Err f)) is before settled told =
    subst (λ (cs : List Content). pending_in (world_after cs w) name ≡ Some 0)
    (ap (λ (d : Delivered). d.records) is)
    (before (or_none none (is_taken g.given.took)
    (sym (ap (λ (d : Delivered). first_taken d.given) is) ∙ not_taken f) told))

-- ---- all events

-- the event's are delivered from a number on
pub record IsDelivering (name : List ℕ) (now : ℕ) (ls : List Delivery) (es : List Event)
    (first : Play) (i : ℕ) (rest : List Event) (made : Made) : Type 0 where
  pub done : Delivered
  pub on : IsDelivered done first made
  pub whole : delivered name now 1 ls es first.playing.world
      ≡ joined done (delivered name now (i + 1) (drop i ls) rest made.play.playing.world)
  pub may : MayDeliver made.play.playing.world name rest
  pub left : i + length rest ≡ length es

module _ (name : List ℕ) (now : ℕ) (ls : List Delivery) (es : List Event) (first : Play) where
  -- none is yet
  pub begun : MayDeliver first.playing.world name es → (made : Made) → made.play ≡ first
      → made.given ≡ [] → made.kept.items ≡ [] → IsDelivering name now ls es first 0 es made
  begun may made play given kept =
      let world = ap (λ (p : Play). p.playing.world) play in
      record {
        done = nothing_delivered;
        on = record {
          follows = subst (Follows first []) (sym play) (follows_none first);
          given = given;
          kept = kept;
        };
        whole = ap (delivered name now 1 ls es) (sym world);
        may = subst (λ (w : World). MayDeliver w name es) (sym world) may;
        left = omega arith;
      }

  -- one more is
  pub next_delivered : (i : ℕ) (e : Event) (rest : List Event) (made made' : Made)
      → IsDelivering name now ls es first i (e ∷ rest) made → (x : Delivery) → x ≡ delivery_at i ls
      → IsDeliveredOn (one_delivered name now (i + 1) x e made.play.playing.world) made made'
      → IsDelivering name now ls es first (i + 1) rest made'
  next_delivered i e rest made made' so x at on =
      let w = made.play.playing.world in
      let d = one_delivered name now (i + 1) x e w in
      let then : made'.play.playing.world ≡ world_after d.records w =
      world_of made.play made'.play d.records on.follows in
      let x_is : next_delivery (drop i ls) ≡ x = first_at i ls ∙ sym at in
      let one : i + 1 ≡ suc i = omega arith in
      let later : later_deliveries (drop i ls) ≡ drop (i + 1) ls =
      rest_at i ls ∙ ap (λ n. drop n ls) (sym one) in
      record {
        done = joined so.done d;
        on = record {
          follows = follows_on first made.play made'.play so.done.records d.records so.on.follows
              on.follows;
          given = on.given ∙ ap (λ (gs : List Given). gs ++ d.given) so.on.given;
          kept = on.kept ∙ ap (λ (ks : List Event). ks ++ d.kept) so.on.kept;
        };
        whole = so.whole
            ∙ ap (λ (y : Delivery). joined so.done (joined (one_delivered name now (i + 1) y e w)
            (delivered name now (i + 1 + 1) (later_deliveries (drop i ls)) rest
            (world_after (one_delivered name now (i + 1) y e w).records w)))) x_is
            ∙ ap (λ (zs : List Delivery). joined so.done (joined d
            (delivered name now (i + 1 + 1) zs rest (world_after d.records w)))) later
            ∙ sym (joined_assoc so.done d
            (delivered name now (i + 1 + 1) (drop (i + 1) ls) rest (world_after d.records w)))
            ∙ ap (λ (v : World). joined (joined so.done d)
            (delivered name now (i + 1 + 1) (drop (i + 1) ls) rest v)) (sym then);
        may = subst (λ (v : World). MayDeliver v name rest) (sym then)
            (may_after w name d.records rest (rest_may w name e rest so.may)
            (one_well w name now (i + 1) x e rest so.may).come);
        left = let left = so.left in omega (arith, left);
      }

  -- all are
  pub all_delivered : (i : ℕ) (made : Made) → IsDelivering name now ls es first i [] made
      → IsDelivered (delivered name now 1 ls es first.playing.world) first made
  all_delivered i made so =
      subst (λ (d : Delivered). IsDelivered d first made)
      (sym (so.whole ∙ joined_nothing so.done)) so.on

-- ---- its records are exchanges of its replication

demand_ok : {A : Type 0} (P : A → Type 0) (b : Bool) (f : EventFault) (r : Result A EventFault)
    → IfOk r P → IfOk (demand b f >> λ _. r) P
demand_ok P true f r is = is
demand_ok P false f r is = tt

lifted_ok : {A E : Type 0} (P : A → Type 0) (f : E → EventFault) (r : Result A E) → IfOk r P
    → IfOk (lifted f r) P
lifted_ok P f (Ok x) is = is
lifted_ok P f (Err e) is = tt

module _ (name k : List ℕ) (other : k ≢ name) (now : ℕ) where
  apart_by : (e : Event) (r : Replication) (fork : Held)
      → IfOk (event_by k now e r fork) (AreApart name)
  apart_by e r fork =
      let plan = page_plan fork.documents r.side e.states (Some e.place) in
      let due = length (pending fork.documents r.side.known) in
      demand_ok (AreApart name) (is_above r.side.down e.place) fault.Old _
      (demand_ok (AreApart name) (due == 0) (fault.Pending due) _
      (demand_ok (AreApart name) (is_same_place e.from r.side.down) fault.Gap _
      (lifted_ok (AreApart name) (λ f. fault.ClockEnd) (recorded k now fork r.side plan)
      (each_recorded (IsApart name) k (λ lwt written known up down. other) fork plan
      (changes_nothing r.side plan)
      (write_time now fork plan.rows)))))

  apart_fork : (e : Event) (r : Replication) (o : Option Held)
      → IfSome (o >>= λ fork. Some (event_by k now e r fork)) (λ x. IfOk x (AreApart name))
  apart_fork e r None = tt
  apart_fork e r (Some fork) = apart_by e r fork

  apart_replication : (e : Event) (w : World) (o : Option Replication)
      → IfSome (o >>= λ r. fork_in w r >>= λ fork. Some (event_by k now e r fork))
      (λ x. IfOk x (AreApart name))
  apart_replication e w None = tt
  apart_replication e w (Some r) = apart_fork e r (fork_in w r)

  apart_once : (i : ℕ) (e : Event) (o : Option (Result (List Content) EventFault))
      → IfSome o (λ x. IfOk x (AreApart name)) → AreApart name (once_given i e o).records
  apart_once i e None is = tt
  apart_once i e (Some (Ok cs)) is = is
  apart_once i e (Some (Err f)) is = tt

  apart_given : (i : ℕ) (e : Event) (w : World) → AreApart name (given_once k now i e w).records
  apart_given i e w =
      apart_once i e (event_taken w k e now) (apart_replication e w (named w.replications k))

  apart_one : (i : ℕ) (x : Delivery) (e : Event) (w : World)
      → AreApart name (one_delivered k now i x e w).records
  apart_one i link.Ok e w = apart_given i e w
  apart_one i link.Lose e w = tt
  apart_one i link.Later e w = tt
  apart_one i link.Twice e w =
      let first = given_once k now i e w in
      let v = world_after first.records w in
      each_both (IsApart name) first.records (given_once k now i e v).records (apart_given i e w)
      (apart_given i e v)

  pub apart_delivered : (i : ℕ) (ls : List Delivery) (es : List Event) (w : World)
      → AreApart name (delivered k now i ls es w).records
  apart_delivered i ls [] w = tt
  apart_delivered i ls (e ∷ es) w =
      let d = one_delivered k now i (next_delivery ls) e w in
      let v = world_after d.records w in
      each_both (IsApart name) d.records
      (delivered k now (i + 1) (later_deliveries ls) es v).records
      (apart_one i (next_delivery ls) e w)
      (apart_delivered (i + 1) (later_deliveries ls) es v)
