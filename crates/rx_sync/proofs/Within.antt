-- What a turn writes, whose link does nothing: rows of its master,
-- and exchanges of its replication.
use Rattle.std.proofs.Common.{◌≡◌, ◌∙◌, ◌⊎◌, inl, inr, ℕ, zero, suc, ◌≤◌, true, List, [], take, map, Option, Some, None, option_map, IfSome, refl, sym, ap, subst}
use Rattle.std.specs.List.{AllByRecursion}
use Rattle.rx_value.specs.declared.state.State.{State}
use Rattle.rx_value.proofs.Outcomes.{not_none, some_same}
use Rattle.rx_collection.specs.Held.{Held}
use Rattle.rx_document.specs.declared.place.Place.{Place}
use Rattle.rx_document.specs.declared.stored.Stored.{Stored}
use Rattle.rx_wire.specs.declared.message.AskKind.{AskKind}
use Rattle.rx_wire.specs.declared.message.AskKind.TheVariants.{Push, Pull}
use Rattle.rx_wire.specs.declared.message.Body.{Body}
use Rattle.rx_wire.specs.declared.message.Body.TheVariants.{Conflicts, Docs}
use Rattle.rx_wire.specs.declared.message.Request.{Request}
use Rattle.rx_replication.specs.Master.{body_of, reply_with}
use Rattle.rx_replication.specs.Request.{push_or_pull, push_row}
use Rattle.rx_fork.specs.declared.ask.Asked.{Asked}
use Rattle.rx_record.specs.Content.{Content, rows, exchange}
use Rattle.rx_record.specs.declared.record.RowOut.{RowOut}
use Rattle.rx_reply.specs.declared.turn.Exchanged.{Exchanged}
use Rattle.rx_reply.specs.declared.turn.Exchanged.TheVariants.{Pushed, Pulled, PushLost, PullLost}
use Rattle.rx_reply.specs.declared.turn.TurnEnd.TheVariants.{Quiet}
use Rattle.rx_script.specs.declared.happening.Happening.TheVariants as link
use Rattle.rx_world.specs.World.{World}
use Rattle.rx_sync.specs.Asking.{asked_in, pending_in}
use Rattle.rx_sync.specs.Asks.{Asks, next_number}
use Rattle.rx_sync.specs.Exchange.{Course, Terms, course, course_by, handled_and_taken, has_pulled, if_taken, once_handled, reply_taken, when_taken, world_after}
use Rattle.rx_sync.specs.Handling.{Handled, commits_of, handled_by, handled_for}
use Rattle.rx_sync.specs.Laws.{MayTurn}
use Rattle.rx_sync.specs.Taking.{taken}
use Rattle.rx_sync.specs.Turn.{end_by, going_on, turn}
use Rattle.rx_sync.proofs.Apart.{each_both, each_going, each_handled, each_once, each_taken, each_when}
use Rattle.rx_sync.proofs.Ends.{ends_of}
use Rattle.rx_sync.proofs.Exchanges.{handled_is}
use Rattle.rx_sync.proofs.Messages.{asked_at}
use Rattle.rx_sync.proofs.Pulls.{none_to_push}
use Rattle.rx_sync.proofs.Turns.{course_again, course_again-master, course_well}
use Rattle.rx_sync.proofs.Worlds.{after-append}

-- rows of that collection, or an exchange of that replication
abbrev pub IsWithin : List ℕ → List ℕ → Content → Type 0
IsWithin name m (rows k lwt written) = k ≡ m
IsWithin name m (exchange k lwt written known up down) = k ≡ name
IsWithin name m other = ⊥

-- an exchange of that replication
abbrev pub IsExchangeOf : List ℕ → Content → Type 0
IsExchangeOf name (exchange k lwt written known up down) = k ≡ name
IsExchangeOf name other = ⊥

-- ---- one exchange

module _ (t : Terms) (P : Content → Type 0)
    (of_exchange : (lwt : ℕ) (written : List RowOut) (known : List State) (up down : Option Place)
    → P (exchange t.name lwt written known up down)) where
  each_reply : (asked : Asked) (h : Handled) (w : World)
      → AllByRecursion P (reply_taken t asked h w).records
  each_reply asked h w =
      each_when P asked.request.ask h.reply.body (taken w t.kinds t.name asked h.reply t.now)
      (each_taken P t.name of_exchange w t.kinds asked h.reply t.now)

  each_asked : (asked : Asked) (w : World)
      → IfSome (handled_for w t.name asked.request t.now) (λ h. AllByRecursion P h.records)
      → AllByRecursion P (handled_and_taken t asked w).records
  each_asked asked w by_master =
      each_once P (reply_taken t asked) w (handled_for w t.name asked.request t.now) by_master
      (each_reply asked)

  each_course : (batch : ℕ) (w : World) (a : Asks)
      → ((asked : Asked) → asked_in w t.name (next_number a) batch ≡ Some asked
      → IfSome (handled_for w t.name asked.request t.now) (λ h. AllByRecursion P h.records))
      → AllByRecursion P (course t batch link.Ok w a).records
  each_course batch w a by_master = by (asked_in w t.name (next_number a) batch) refl
    where
      by : (o : Option Asked) → asked_in w t.name (next_number a) batch ≡ o
          → AllByRecursion P (course_by t link.Ok w a o).records
      by None is = tt
      by (Some asked) is = each_asked asked w (by_master asked is)

-- ---- whatever is pushed

-- what the master writes for a request
master_within : (t : Terms) (w : World) (a : Asks) (may : MayTurn t w a) (q : Request)
    → IfSome (handled_for w t.name q t.now)
    (λ h. AllByRecursion (IsWithin t.name may.ready.here.master) h.records)
master_within t w a may q =
    let e = ends_of w t.name t.kinds may.ready in
    let m = may.ready.here.master in
    subst (λ (o : Option Handled). IfSome o (λ h. AllByRecursion (IsWithin t.name m) h.records))
    (sym (handled_is w t.name q t.now may.ready.here.replication m e.master may.ready.here.held
    may.ready.here.local e.there))
    (each_handled (IsWithin t.name m) m (λ lwt written. refl) t.now q e.master)

pub turn_within : (t : Terms) (batch budget : ℕ) (w : World) (a : Asks) → 1 ≤ batch
    → (may : MayTurn t w a) → (m : List ℕ) → may.ready.here.master ≡ m
    → AllByRecursion (IsWithin t.name m) (turn t batch budget [] w a).records
turn_within t batch zero w a some may m is = tt
turn_within t batch (suc budget) w a some may m is =
    let c : Course = course t batch link.Ok w a in
    let well = course_well t batch some link.Ok w a may in
    each_going (IsWithin t.name m) c (end_by batch c.came)
    (turn t batch budget [] (world_after c.records w) c.asks)
    (each_course t (IsWithin t.name m) (λ lwt written known up down. refl) batch w a
    (λ asked at. subst (λ (k : List ℕ). IfSome (handled_for w t.name asked.request t.now)
    (λ h. AllByRecursion (IsWithin t.name k) h.records)) is
    (master_within t w a may asked.request)))
    (turn_within t batch budget (world_after c.records w) c.asks some
    (course_again t batch w a c may well) m (course_again-master t batch w a c may well ∙ is))

-- ---- where nothing is to be pushed

take_none : (n : ℕ) → take {A = Stored} n [] ≡ []
take_none zero = refl
take_none (suc n) = refl

-- a pull is due
pull_due : (t : Terms) (w : World) (a : Asks) (may : MayTurn t w a) (n batch : ℕ) (asked : Asked)
    → pending_in w t.name ≡ Some 0 → asked_in w t.name n batch ≡ Some asked
    → asked.request.ask ≡ Pull may.ready.here.replication.side.down batch
pull_due t w a may n batch asked none is =
    let r = may.ready.here.replication in
    let e = ends_of w t.name t.kinds may.ready in
    let empty = none_to_push w t.name r e.fork may.ready.here.held e.held none in
    ap (λ (x : Asked). x.request.ask)
    (sym (asked_at w t.name n batch asked r e.fork may.ready.here.held e.held is))
    ∙ ap (λ (ds : List Stored).
    push_or_pull (map (push_row r.side.known) (take batch ds)) r.side.down
    batch) empty
    ∙ ap (λ (ds : List Stored). push_or_pull (map (push_row r.side.known) ds) r.side.down batch)
    (take_none batch)

-- for which no master writes
pull_writes_none : (P : Content → Type 0) (m : List ℕ) (now : ℕ) (q : Request) (c : Held)
    (p : Option Place) (b : ℕ) → q.ask ≡ Pull p b
    → IfSome (handled_by m now q c) (λ h. AllByRecursion P h.records)
pull_writes_none P m now q c p b is =
    each_handled_pull (commits_of m now q.ask c) (ap (λ (ask : AskKind). commits_of m now ask c) is)
  where
    each_handled_pull : (o : Option (List Content)) → o ≡ Some []
        → IfSome (option_map (λ (records : List Content). record {
          records = records;
          reply = reply_with q (body_of c.documents q.ask);
        }) o) (λ (h : Handled). AllByRecursion P h.records)
    each_handled_pull None none = tt
    each_handled_pull (Some cs) none =
        subst (AllByRecursion P) (sym (some_same none)) tt

idle_handled : (t : Terms) (w : World) (a : Asks) (may : MayTurn t w a) (n batch : ℕ)
    (asked : Asked)
    → pending_in w t.name ≡ Some 0 → asked_in w t.name n batch ≡ Some asked
    → IfSome (handled_for w t.name asked.request t.now)
    (λ h. AllByRecursion (IsExchangeOf t.name) h.records)
idle_handled t w a may n batch asked none is =
    let r = may.ready.here.replication in
    let m = may.ready.here.master in
    let e = ends_of w t.name t.kinds may.ready in
    subst (λ (o : Option Handled). IfSome o (λ h. AllByRecursion (IsExchangeOf t.name) h.records))
    (sym (handled_is w t.name asked.request t.now r m e.master may.ready.here.held
    may.ready.here.local e.there))
    (pull_writes_none (IsExchangeOf t.name) m t.now asked.request e.master r.side.down batch
    (pull_due t w a may n batch asked none is))

-- a pull comes to one that is taken, or finds no write time
pull_came : (ask : AskKind) (body : Body) (p : Option Place) (b : ℕ) → ask ≡ Pull p b
    → (o : Option (List Content))
    → ((when_taken ask body o).came ≡ None) ⊎ (has_pulled (when_taken ask body o).came ≡ true)
pull_came (Push rs) body p b is o = absurd (cc)
pull_came (Pull q n) (Conflicts cs) p b is None = inl refl
pull_came (Pull q n) (Conflicts cs) p b is (Some rs) = inr refl
pull_came (Pull q n) (Docs ss to) p b is None = inl refl
pull_came (Pull q n) (Docs ss to) p b is (Some rs) = inr refl

asked_came : (t : Terms) (asked : Asked) (w : World) (p : Option Place) (b : ℕ)
    → asked.request.ask ≡ Pull p b → (o : Option Handled)
    → ((once_handled (reply_taken t asked) w o).came ≡ None)
    ⊎ (has_pulled (once_handled (reply_taken t asked) w o).came ≡ true)
asked_came t asked w p b is None = inl refl
asked_came t asked w p b is (Some h) =
    pull_came asked.request.ask h.reply.body p b is
    (if_taken (taken (world_after h.records w) t.kinds t.name asked h.reply t.now))

course_came : (t : Terms) (batch : ℕ) (w : World) (a : Asks) → MayTurn t w a
    → pending_in w t.name ≡ Some 0
    → ((course t batch link.Ok w a).came ≡ None)
    ⊎ (has_pulled (course t batch link.Ok w a).came ≡ true)
course_came t batch w a may none = by (asked_in w t.name (next_number a) batch) refl
  where
    by : (o : Option Asked) → asked_in w t.name (next_number a) batch ≡ o
        → ((course_by t link.Ok w a o).came ≡ None)
        ⊎ (has_pulled (course_by t link.Ok w a o).came ≡ true)
    by None is = inl refl
    by (Some asked) is =
        asked_came t asked w may.ready.here.replication.side.down batch
        (pull_due t w a may (next_number a) batch asked none is)
        (handled_for w t.name asked.request t.now)

-- an end that isn't there yet
not_ended : (batch : ℕ) (came : Option Exchanged) → end_by batch came ≡ None → came ≡ None → ⊥
not_ended batch None is none = cc
not_ended batch (Some e) is none = not_none (sym none)

idle_going : (t : Terms) (batch : ℕ) (w : World) (a : Asks) → MayTurn t w a → 1 ≤ batch
    → pending_in w t.name ≡ Some 0 → end_by batch (course t batch link.Ok w a).came ≡ None
    → pending_in (world_after (course t batch link.Ok w a).records w) t.name ≡ Some 0
idle_going t batch w a may some none is =
    elim (course_came t batch w a may none) [
      | inl nothing ↦ absurd (not_ended batch (course t batch link.Ok w a).came is nothing)
      | inr pulled ↦ (course_well t batch some link.Ok w a may).pulled pulled
    ]

pub turn_idle : (t : Terms) (batch budget : ℕ) (w : World) (a : Asks) → 1 ≤ batch → MayTurn t w a
    → pending_in w t.name ≡ Some 0
    → AllByRecursion (IsExchangeOf t.name) (turn t batch budget [] w a).records
turn_idle t batch zero w a some may none = tt
turn_idle t batch (suc budget) w a some may none =
    let c : Course = course t batch link.Ok w a in
    let rest = turn t batch budget [] (world_after c.records w) c.asks in
    let next = course_again t batch w a c may (course_well t batch some link.Ok w a may) in
    let first = each_course t (IsExchangeOf t.name) (λ lwt written known up down. refl) batch w a
    (λ asked is. idle_handled t w a may (next_number a) batch asked none is) in
    elim (end_by batch c.came) as (λ o. end_by batch c.came ≡ o
    → AllByRecursion (IsExchangeOf t.name) (going_on c o rest).records) [
      | None ↦ (λ is. each_both (IsExchangeOf t.name) c.records rest.records first
          (turn_idle t batch budget (world_after c.records w) c.asks some next
          (idle_going t batch w a may some none is)))
      | Some end ↦ (λ is. each_both (IsExchangeOf t.name) c.records [] first tt)
    ] refl

-- ---- a turn that ends quiet

quiet_pulled : (batch : ℕ) (came : Option Exchanged) → end_by batch came ≡ Some Quiet
    → has_pulled came ≡ true
quiet_pulled batch None is = absurd (cc)
quiet_pulled batch (Some (Pushed rs cs)) is = absurd (cc)
quiet_pulled batch (Some (Pulled rs place)) is = refl
quiet_pulled batch (Some (PushLost rs why)) is = absurd (cc)
quiet_pulled batch (Some (PullLost why)) is = absurd (cc)

-- leaves nothing to be pushed
pub turn_settles : (t : Terms) (batch budget : ℕ) (w : World) (a : Asks) → 1 ≤ batch → MayTurn t w a
    → (turn t batch budget [] w a).ended ≡ Quiet
    → pending_in (world_after (turn t batch budget [] w a).records w) t.name ≡ Some 0
turn_settles t batch zero w a some may is = absurd (cc)
turn_settles t batch (suc budget) w a some may is =
    let c : Course = course t batch link.Ok w a in
    let rest = turn t batch budget [] (world_after c.records w) c.asks in
    let well = course_well t batch some link.Ok w a may in
    (elim (end_by batch c.came) as (λ o. end_by batch c.came ≡ o → (going_on c o rest).ended ≡ Quiet
    → pending_in (world_after (going_on c o rest).records w) t.name ≡ Some 0) [
      | None ↦ (λ end quiet. subst (λ (v : World). pending_in v t.name ≡ Some 0)
          (sym (after-append c.records rest.records w))
          (turn_settles t batch budget (world_after c.records w) c.asks some
          (course_again t batch w a c may well) quiet))
      | Some other ↦ (λ end quiet. subst (λ (v : World). pending_in v t.name ≡ Some 0)
          (sym (after-append c.records [] w))
          (well.pulled (quiet_pulled batch c.came (end ∙ ap Some quiet))))
    ]) refl is
