-- What a reply that is taken leaves, as replication defines it.
use Rattle.std.proofs.Common.{◌≡◌, ◌≢◌, ◌⊎◌, ◌∙◌, ℕ, Bool, true, false, cond, ◌&&◌, ◌==◌, List, [], ◌∷◌, length, Option, Some, None, option_map, Result, Ok, Err, unwrap_or, refl, sym, ap, subst, inl, inr, eqb-true, true≢false}
use Rattle.std.proofs.lemmas.Bool.{and_parts}
use Rattle.std.proofs.lemmas.List.{nil_from_length}
use Rattle.std.specs.List.{list_all}
use Rattle.rx_value.specs.Due.{◌>>◌, lifted, or_fault}
use Rattle.rx_value.specs.Named.{named, AreRising}
use Rattle.rx_value.specs.declared.state.State.{State}
use Rattle.rx_document.specs.declared.place.Place.{Place}
use Rattle.rx_document.proofs.Places.{place_eq-Decides}
use Rattle.rx_collection.specs.Held.{Held}
use Rattle.rx_meta.specs.Side.{side_with}
use Rattle.rx_handler.specs.declared.kind.HandlerKind.{HandlerKind}
use Rattle.rx_wire.specs.declared.message.Reply.{Reply}
use Rattle.rx_replication.specs.Known.{KnownStates, with_learnt}
use Rattle.rx_replication.specs.Member.{Member}
use Rattle.rx_replication.specs.Taking.{Taking}
use Rattle.rx_replication.specs.Write.{write}
use Rattle.rx_replication.proofs.Commits.{IsOld, IsNewState, learn_at, learn-rising}
use Rattle.rx_replication.proofs.Learning.{rising_same}
use Rattle.rx_replication.proofs.Orders.{is_state-some}
use Rattle.rx_fork.specs.Accept.{accepted}
use Rattle.rx_fork.specs.declared.accept.ExchangePlan.{ExchangePlan}
use Rattle.rx_fork.specs.declared.ask.Asked.{Asked}
use Rattle.rx_fork.specs.declared.fault.AcceptFault.{AcceptFault}
use Rattle.rx_fork.proofs.Accepted.{IsTaken, accepted_parts}
use Rattle.rx_fork.proofs.Validity.{resolves_keys, resolves_valid}
use Rattle.rx_record.specs.Content.{Content}
use Rattle.rx_world.specs.Made.{IsMadeWorld}
use Rattle.rx_world.specs.Replicating.{with_exchange}
use Rattle.rx_world.specs.Sound.{IsSoundWorld}
use Rattle.rx_world.specs.World.{World}
use Rattle.rx_world.specs.declared.replication.Replication.{Replication}
use Rattle.rx_world.proofs.Looked.{named-change_same, named-change_other}
use Rattle.rx_world.proofs.Sounds.{exchange_fork}
use Rattle.rx_sync.specs.Exchange.{world_after}
use Rattle.rx_sync.specs.Laws.{IsDueOf, IsLawfulReply}
use Rattle.rx_sync.specs.Taking.{changes_nothing, exchange_at, is_known, is_same_place, recorded, resolve_for, take_fault, taken_by, write_time}
use Rattle.rx_sync.specs.declared.fault.TakeFault.TheVariants.{ClockEnd}
use Rattle.rx_sync.proofs.Takings.{learnt_same, written}
use Rattle.rx_sync.proofs.Worlds.{linked_at}
use Rattle.rx_sync.proofs.Written.{WritesRows, outs_of}

-- ---- what is known already

each_known : (known : KnownStates) (ss : List State) → list_all (is_known known) ss ≡ true
    → (s : State) → Member s ss → named known s.key ≡ Some s
each_known known [] all s m = absurd m
each_known known (t ∷ ts) all s (inl is) =
    subst (λ (z : State). named known z.key ≡ Some z) (sym is)
    (is_state-some (named known t.key) t
    (and_parts (is_known known t) (list_all (is_known known) ts) all).0)
each_known known (t ∷ ts) all s (inr m) =
    each_known known ts (and_parts (is_known known t) (list_all (is_known known) ts) all).1 s m

-- to learn it leaves what is known
known_again : (known : KnownStates) (ss : List State) → AreRising known
    → ((s : State) → Member s ss → named known s.key ≡ Some s) → with_learnt known ss ≡ known
known_again known ss rising each =
    rising_same (with_learnt known ss) known (learn-rising known ss rising) rising
    (λ k. by k (learn_at known ss k))
  where
    by : (k : List ℕ)
        → IsOld known (with_learnt known ss) ss k ⊎ IsNewState (with_learnt known ss) ss k
        → named (with_learnt known ss) k ≡ named known k
    by k (inl o) = o.same
    by k (inr n) =
        n.held ∙ sym (ap (named known) (sym n.key) ∙ each n.state n.member)

pub same_place : (p q : Option Place) → is_same_place p q ≡ true → p ≡ q
same_place None None is = refl
same_place (Some p) (Some q) is = ap Some ((place_eq-Decides p q).0 is)
same_place None (Some q) is = absurd (true≢false (sym is))
same_place (Some p) None is = absurd (true≢false (sym is))

-- ---- the record of a taking

-- there is none, as nothing changes, or there is one with a write time
record IsNothing (r : Replication) (plan : ExchangePlan) (cs : List Content) : Type 0 where
  pub none : cs ≡ []
  pub rows : plan.rows ≡ []
  pub known : list_all (is_known r.side.known) plan.known ≡ true
  pub up : r.side.up ≡ plan.up
  pub down : r.side.down ≡ plan.down

record IsOne (name : List ℕ) (fork : Held) (now : ℕ) (plan : ExchangePlan) (cs : List Content)
    : Type 0 where
  pub lwt : ℕ
  pub time : write_time now fork plan.rows ≡ Some lwt
  pub one : cs ≡ exchange_at name fork plan lwt ∷ []

recorded_by : (name : List ℕ) (now : ℕ) (fork : Held) (r : Replication) (plan : ExchangePlan)
    (cs : List Content) (b : Bool) (o : Option ℕ) → changes_nothing r.side plan ≡ b
    → write_time now fork plan.rows ≡ o
    → cond b (Ok []) (or_fault ClockEnd
    (option_map (λ lwt. exchange_at name fork plan lwt ∷ []) o)) ≡ Ok cs
    → IsNothing r plan cs ⊎ IsOne name fork now plan cs
recorded_by name now fork r plan cs true o nothing time is =
    let none : [] ≡ cs = cc in
    let rows = length plan.rows == 0 in
    let up = is_same_place r.side.up plan.up in
    let down = is_same_place r.side.down plan.down in
    let a = and_parts (rows && up && down) (list_all (is_known r.side.known) plan.known) nothing in
    let b = and_parts (rows && up) down a.0 in
    let e = and_parts rows up b.0 in
    inl (record {
      none = sym none;
      rows = nil_from_length plan.rows (eqb-true (length plan.rows) 0 e.0);
      known = a.1;
      up = same_place r.side.up plan.up e.1;
      down = same_place r.side.down plan.down b.1;
    })
recorded_by name now fork r plan cs false None nothing time is = absurd (cc)
recorded_by name now fork r plan cs false (Some lwt) nothing time is =
    let one : exchange_at name fork plan lwt ∷ [] ≡ cs = cc in
    inr (record { lwt = lwt; time = time; one = sym one })

-- ---- what it leaves

-- a replication whose fork knows these states, with those checkpoints
abbrev pub with_side : Replication → KnownStates → Option Place → Option Place → Replication
with_side r known up down = record r { side = side_with known up down }

same_side : (r : Replication) (known : KnownStates) (up down : Option Place)
    → r.side.known ≡ known → r.side.up ≡ up → r.side.down ≡ down → r ≡ with_side r known up down
same_side r known up down k u d =
    ap (λ (z : KnownStates). with_side r z r.side.up r.side.down) k
    ∙ ap (λ (z : Option Place). with_side r known z r.side.down) u
    ∙ ap (λ (z : Option Place). with_side r known up z) d

-- the fork has the rows, and the replication what it learnt; all else is as it was
pub record LeavesTaken (w : World) (name : List ℕ) (r : Replication) (fork : Held)
    (taken : Taking) (now : ℕ) (cs : List Content) : Type 0 where
  pub new : Held
  pub wrote : write fork taken.rows now ≡ Some new
  pub there : named (world_after cs w).collections r.fork ≡ Some new
  pub others : (k : List ℕ) → k ≢ r.fork
      → named (world_after cs w).collections k ≡ named w.collections k
  pub learnt : named (world_after cs w).replications name
      ≡ Some (with_side r (with_learnt r.side.known taken.known) taken.up taken.down)
  pub apart : (k : List ℕ) → k ≢ name
      → named (world_after cs w).replications k ≡ named w.replications k

module _ (w : World) (made : IsMadeWorld w) (sound : IsSoundWorld w) (name : List ℕ)
    (r : Replication) (at : named w.replications name ≡ Some r) (fork : Held)
    (held : named w.collections r.fork ≡ Some fork) (kind : HandlerKind) (now : ℕ) (asked : Asked)
    (reply : Reply) (due : IsDueOf r fork asked) (lawful : IsLawfulReply fork.schema reply)
    (plan : ExchangePlan)
    (t : IsTaken (resolve_for kind r) fork.documents r.side asked reply plan) where
  -- the plan's states are learnt as those of the taking
  plan_learnt : with_learnt r.side.known plan.known
      ≡ with_learnt r.side.known t.of.taken.known
  plan_learnt =
      learnt_same w made sound name r at fork held (resolve_for kind r)
      (resolves_keys kind (unwrap_or r.field []))
      (resolves_valid fork.schema kind (unwrap_or r.field [])) asked reply due lawful plan t

  leaves_nothing : (cs : List Content) → IsNothing r plan cs
      → LeavesTaken w name r fork t.of.taken now cs
  leaves_nothing cs n =
      subst (λ (cs : List Content). LeavesTaken w name r fork t.of.taken now cs) (sym n.none)
      (record {
        new = fork;
        wrote = ap (λ (ss : List State). write fork ss now) (sym t.of.rows ∙ n.rows);
        there = held;
        others = λ k other. refl;
        learnt = at ∙ ap Some (same_side r (with_learnt r.side.known t.of.taken.known)
            t.of.taken.up t.of.taken.down
            (sym (known_again r.side.known plan.known
            (linked_at w made name r at).by_key.rising
            (each_known r.side.known plan.known n.known))
            ∙ plan_learnt)
            (n.up ∙ t.of.up) (n.down ∙ t.of.down));
        apart = λ k other. refl;
      })

  leaves_one : (cs : List Content) → IsOne name fork now plan cs
      → LeavesTaken w name r fork t.of.taken now cs
  leaves_one cs o =
      let lwt = o.lwt in
      let ww : WritesRows fork plan.rows now lwt =
      written w made sound name r at fork held (resolve_for kind r)
      (resolves_keys kind (unwrap_or r.field []))
      (resolves_valid fork.schema kind (unwrap_or r.field [])) asked reply due lawful plan t now
      lwt o.time in
      let f = exchange_fork name lwt (outs_of fork lwt plan.rows) plan.known plan.up plan.down w r
      fork at held in
      let change = with_exchange plan.known plan.up plan.down in
      subst (λ (cs : List Content). LeavesTaken w name r fork t.of.taken now cs) (sym o.one)
      (record {
        new = ww.new;
        wrote = ap (λ (ss : List State). write fork ss now) (sym t.of.rows) ∙ ww.wrote;
        there = f.is ∙ ap Some ww.is;
        others = f.others;
        learnt = named-change_same change w.replications name
            ∙ ap (option_map change) at
            ∙ ap (λ (z : KnownStates). Some (with_side r z plan.up plan.down)) plan_learnt
            ∙ ap (λ (z : Option Place).
            Some (with_side r (with_learnt r.side.known t.of.taken.known) z plan.down)) t.of.up
            ∙ ap (λ (z : Option Place).
            Some (with_side r (with_learnt r.side.known t.of.taken.known) t.of.taken.up z))
            t.of.down;
        apart = λ k other. named-change_other change w.replications name k other;
      })

  leaves_by : (cs : List Content) → IsNothing r plan cs ⊎ IsOne name fork now plan cs
      → LeavesTaken w name r fork t.of.taken now cs
  leaves_by cs (inl n) = leaves_nothing cs n
  leaves_by cs (inr o) = leaves_one cs o

  pub leaves_recorded : (cs : List Content) → recorded name now fork r.side plan ≡ Ok cs
      → LeavesTaken w name r fork t.of.taken now cs
  leaves_recorded cs is =
      leaves_by cs (recorded_by name now fork r plan cs (changes_nothing r.side plan)
      (write_time now fork plan.rows) refl refl is)

-- a reply that is taken, and what it leaves
pub record LeavesReply (w : World) (name : List ℕ) (r : Replication) (fork : Held)
    (kind : HandlerKind) (asked : Asked) (reply : Reply) (now : ℕ) (cs : List Content) : Type 0
  where
    pub plan : ExchangePlan
    pub taken_so : IsTaken (resolve_for kind r) fork.documents r.side asked reply plan
    pub leaves : LeavesTaken w name r fork taken_so.of.taken now cs

module _ (w : World) (made : IsMadeWorld w) (sound : IsSoundWorld w) (name : List ℕ)
    (r : Replication) (at : named w.replications name ≡ Some r) (fork : Held)
    (held : named w.collections r.fork ≡ Some fork) (kind : HandlerKind) (now : ℕ) (asked : Asked)
    (reply : Reply) (due : IsDueOf r fork asked) (lawful : IsLawfulReply fork.schema reply) where
  taken_from : (o : Result ExchangePlan AcceptFault) (cs : List Content)
      → accepted (resolve_for kind r) fork.documents r.side asked reply ≡ o
      → lifted take_fault o >> recorded name now fork r.side ≡ Ok cs
      → LeavesReply w name r fork kind asked reply now cs
  taken_from (Ok plan) cs at' is =
      let t = accepted_parts (resolve_for kind r) fork.documents r.side asked reply plan at' in
      record {
        plan = plan;
        taken_so = t;
        leaves = leaves_recorded w made sound name r at fork held kind now asked reply due lawful
            plan t cs is;
      }
  taken_from (Err e) cs at' is = absurd (cc)

  pub leaves_reply : (cs : List Content) → taken_by name now asked reply r fork kind ≡ Ok cs
      → LeavesReply w name r fork kind asked reply now cs
  leaves_reply cs is =
      taken_from (accepted (resolve_for kind r) fork.documents r.side asked reply) cs refl is
