-- No exchange of a turn loses an update.
use Rattle.std.proofs.Common.{◌≡◌, ◌⊎◌, ◌∙◌, ℕ, ◌≤◌, List, [], ◌++◌, Option, Some, None, option_map, Result, Ok, Err, refl, sym, ap, subst, inl, inr, append-nil, append_assoc}
use Rattle.rx_value.specs.Named.{named}
use Rattle.rx_value.proofs.Outcomes.{not_none, some_same}
use Rattle.rx_handler.specs.Handlers.{Kinds}
use Rattle.rx_wire.specs.declared.message.Reply.{Reply}
use Rattle.rx_wire.specs.declared.message.Request.{Request}
use Rattle.rx_fork.specs.declared.ask.Asked.{Asked}
use Rattle.rx_record.specs.Content.{Content}
use Rattle.rx_reply.specs.declared.turn.Lost.{Lost}
use Rattle.rx_reply.specs.declared.turn.Lost.TheVariants as lost
use Rattle.rx_script.specs.declared.happening.Happening.{Happening}
use Rattle.rx_script.specs.declared.happening.Happening.TheVariants as link
use Rattle.rx_world.specs.World.{World, Replications}
use Rattle.rx_sync.specs.Asking.{asked_in}
use Rattle.rx_sync.specs.Asks.{Asks, next_number, with_request}
use Rattle.rx_sync.specs.Exchange.{Planned, Terms, behind, course, course_by, exchange, handled_and_taken, if_taken, late_records, late_request, once_handled, once_late, reply_lost, reply_taken, taken_as, when_taken, world_after}
use Rattle.rx_sync.specs.Handling.{Handled, handled_for}
use Rattle.rx_sync.specs.Laws.{EveryTurn, ForFork, IsDueOf, IsLawfulReply, IsReady, KeepsPendingIn, MayTurn, RemembersLawful}
use Rattle.rx_sync.specs.Taking.{taken}
use Rattle.rx_sync.specs.Turn.{over_link}
use Rattle.rx_sync.specs.Updates.{EachKeepsUpdates, LeavesFork, KeepsUpdates}
use Rattle.rx_sync.specs.declared.fault.TakeFault.{TakeFault}
use Rattle.rx_sync.proofs.AnyReply.{taking_loses_none}
use Rattle.rx_sync.proofs.Ends.{HasEnds, ends_of}
use Rattle.rx_sync.proofs.EveryTurn.{each_by}
use Rattle.rx_sync.proofs.Exchanges.{HasHandled}
use Rattle.rx_sync.proofs.Going.{due_here, fork_then, handled_come, handled_well, replication_then, reply_is_lawful}
use Rattle.rx_sync.proofs.Repeats.{twice_is_once}
use Rattle.rx_sync.proofs.Staying.{made_after, ready_after, soundly_in_turn}
use Rattle.rx_sync.proofs.Turns.{LevelAt, goes_on, late_asked, late_come, late_lawful, remembers_more}
use Rattle.rx_sync.proofs.Worlds.{after-append, for_fork, sound_after}

-- ---- worlds with the same fork

-- the replication of that name and its fork are there, as they were
abbrev HasSame : World → List ℕ → World → Type 0
HasSame w name v =
    ForFork w name (λ r fork. (named v.replications name ≡ Some r)
    × (named v.collections r.fork ≡ Some fork))

same_through : (w v u : World) (name : List ℕ) → HasSame w name v → HasSame v name u
    → HasSame w name u
same_through w v u name first second = λ r at fork held.
    let x = first r at fork held in second r x.0 fork x.1

same_append : (w : World) (name : List ℕ) (cs ds : List Content)
    → HasSame w name (world_after cs w)
    → HasSame (world_after cs w) name (world_after ds (world_after cs w))
    → HasSame w name (world_after (cs ++ ds) w)
same_append w name cs ds first second =
    subst (λ (v : World). HasSame w name v) (sym (after-append cs ds w))
    (same_through w (world_after cs w) (world_after ds (world_after cs w)) name first second)

-- a master writes no fork of its own
same_handled : (w : World) (name : List ℕ) (kinds : Kinds) (ready : IsReady w name kinds) (now : ℕ)
    (q : Request) (h : Handled)
    → HasHandled w ready.here.master (ends_of w name kinds ready).master now q h
    → HasSame w name (world_after h.records w)
same_handled w name kinds ready now q h hh =
    let e : HasEnds w name ready.here.replication ready.here.master = ends_of w name kinds
    ready in
    for_fork w name ready.here.replication e.fork
    (λ r fork. (named (world_after h.records w).replications name ≡ Some r)
    × (named (world_after h.records w).collections r.fork ≡ Some fork)) ready.here.held e.held (
      ap (λ (rs : Replications). named rs name) hh.leaves.replications ∙ ready.here.held,
      hh.leaves.others ready.here.replication.fork (λ same. e.other (sym same)) ∙ e.held,
    )

-- what is kept from there on is kept from before
keeps_append : (w : World) (kinds : Kinds) (name : List ℕ) (reply : Reply) (cs ds : List Content)
    → HasSame w name (world_after cs w) → KeepsPendingIn (world_after cs w) kinds name reply ds
    → KeepsPendingIn w kinds name reply (cs ++ ds)
keeps_append w kinds name reply cs ds same keeps = λ r at fork held kind handler new new_held.
    let x = same r at fork held in
    keeps r x.0 fork x.1 kind handler new
    (subst (λ (v : World). named v.collections r.fork ≡ Some new) (after-append cs ds w) new_held)

-- ---- an exchange

-- it takes the answer of the master to its request
record TakesAnswer (t : Terms) (w : World) (asked : Asked) (p : Planned) : Type 0 where
  pub answer : Handled
  pub answered : handled_for w t.name asked.request t.now ≡ Some answer
  pub learnt : List Content
  pub is_taken : taken (world_after answer.records w) t.kinds t.name asked answer.reply t.now
      ≡ Some (Ok learnt)
  pub records : p.records ≡ answer.records ++ learnt
  pub came : p.came ≡ Some (taken_as asked.request.ask answer.reply.body)
  pub updates : KeepsPendingIn w t.kinds t.name answer.reply p.records

abbrev TakesOrLeaves : Terms → World → Asked → Planned → Type 0
TakesOrLeaves t w asked p =
    TakesAnswer t w asked p ⊎ HasSame w t.name (world_after p.records w)

same_world : (w : World) (name : List ℕ) → HasSame w name w
same_world w name = λ r at fork held. (at, held)

module _ (t : Terms) (w : World) (ready : IsReady w t.name t.kinds) (n batch : ℕ) (some : 1 ≤ batch)
    (asked : Asked) (is : asked_in w t.name n batch ≡ Some asked) where
  module _ (h : Handled) (at : handled_for w t.name asked.request t.now ≡ Some h) where
    abbrev then : World
    then = world_after h.records w

    hh : HasHandled w ready.here.master (ends_of w t.name t.kinds ready).master t.now
        asked.request h
    hh =
        handled_well w t.name t.kinds ready t.now asked.request h
        (due_here w t.name t.kinds ready t.now n batch some asked is).lawful at

    same : HasSame w t.name then
    same = same_handled w t.name t.kinds ready t.now asked.request h hh

    keeps : (cs : List Content) → taken then t.kinds t.name asked h.reply t.now ≡ Some (Ok cs)
        → KeepsPendingIn then t.kinds t.name h.reply cs
    keeps cs taken_so =
        let e : HasEnds w t.name ready.here.replication ready.here.master = ends_of w t.name
        t.kinds ready in
        let r = ready.here.replication in
        let come = handled_come w t.name t.kinds ready t.now asked.request h hh in
        let at_then : named then.replications t.name ≡ Some r =
        replication_then w t.name t.kinds ready t.now n batch some asked is h hh in
        let held_then : named then.collections r.fork ≡ Some e.fork =
        fork_then w t.name t.kinds ready t.now n batch some asked is h hh in
        taking_loses_none then t.kinds t.name asked h.reply t.now
        (made_after w h.records ready.made (soundly_in_turn w h.records come))
        (sound_after w h.records ready.sound come)
        (for_fork then t.name r e.fork (λ r fork. IsDueOf r fork asked) at_then held_then
        (due_here w t.name t.kinds ready t.now n batch some asked is))
        (for_fork then t.name r e.fork (λ r fork. IsLawfulReply fork.schema h.reply) at_then
        held_then (reply_is_lawful w t.name t.kinds ready t.now n batch some asked is h hh)) cs
        taken_so

    stops_same : HasSame w t.name (world_after (h.records ++ []) w)
    stops_same =
        subst (λ (cs : List Content). HasSame w t.name (world_after cs w))
        (sym (append-nil h.records)) same

    reply_by : (o : Option (Result (List Content) TakeFault))
        → taken then t.kinds t.name asked h.reply t.now ≡ o
        → TakesOrLeaves t w asked
        (behind h.records (when_taken asked.request.ask h.reply.body (if_taken o)))
    reply_by None at' = inr stops_same
    reply_by (Some (Err fault)) at' = inr stops_same
    reply_by (Some (Ok cs)) at' =
        let records : h.records ++ (cs ++ []) ≡ h.records ++ cs =
        ap (λ (ds : List Content). h.records ++ ds) (append-nil cs) in
        inl (record {
          answer = h;
          answered = at;
          learnt = cs;
          is_taken = at';
          records = records;
          came = refl;
          updates = subst (λ (ds : List Content). KeepsPendingIn w t.kinds t.name h.reply ds)
              (sym records)
              (keeps_append w t.kinds t.name h.reply h.records cs same (keeps cs at'));
        })

  all_by : (o : Option Handled) → handled_for w t.name asked.request t.now ≡ o
      → TakesOrLeaves t w asked (once_handled (reply_taken t asked) w o)
  all_by None at = inr (same_world w t.name)
  all_by (Some h) at =
      reply_by h at
      (taken (world_after h.records w) t.kinds t.name asked h.reply t.now) refl

  lost_by : (why : Lost) (o : Option Handled) → handled_for w t.name asked.request t.now ≡ o
      → TakesOrLeaves t w asked (once_handled (reply_lost why asked) w o)
  lost_by why None at = inr (same_world w t.name)
  lost_by why (Some h) at = inr (stops_same h at)

  all_keeps : TakesOrLeaves t w asked (handled_and_taken t asked w)
  all_keeps = all_by (handled_for w t.name asked.request t.now) refl

  exchange_keeps : (x : Happening) → TakesOrLeaves t w asked (exchange t asked x w)
  exchange_keeps link.Ok = all_keeps
  exchange_keeps (link.Late j) = all_keeps
  exchange_keeps link.LoseRequest = inr (same_world w t.name)
  exchange_keeps link.LoseReply =
      lost_by lost.LoseReply (handled_for w t.name asked.request t.now) refl
  exchange_keeps link.Stale = lost_by lost.Stale (handled_for w t.name asked.request t.now) refl
  exchange_keeps link.Twice =
      subst (TakesOrLeaves t w asked) (sym (twice_is_once t w ready asked (n, batch, some, is)))
      all_keeps

-- ---- with an earlier request that arrives late

module _ (t : Terms) (w : World) (ready : IsReady w t.name t.kinds) (x : Happening) (a : Asks)
    (lawful : RemembersLawful w t.name a) where
  late_handled : (q : Request) → late_request x a ≡ Some q → (o : Option Handled)
      (cs : List Content) → handled_for w t.name q t.now ≡ o
      → option_map (λ (h : Handled). h.records) o ≡ Some cs → HasSame w t.name (world_after cs w)
  late_handled q there None cs at is = not_none is
  late_handled q there (Some h) cs at is =
      let e : HasEnds w t.name ready.here.replication ready.here.master = ends_of w t.name t.kinds
      ready in
      subst (λ (cs : List Content). HasSame w t.name (world_after cs w)) (some_same is)
      (same_handled w t.name t.kinds ready t.now q h
      (handled_well w t.name t.kinds ready t.now q h
      (late_lawful e.fork.schema x a q
      (lawful ready.here.replication ready.here.held e.fork e.held) there) at))

  late_same : (o : Option Request) (cs : List Content) → late_request x a ≡ o
      → late_records t.name t.now w o ≡ Some cs → HasSame w t.name (world_after cs w)
  late_same None cs at is =
      subst (λ (cs : List Content). HasSame w t.name (world_after cs w)) (some_same is)
      (same_world w t.name)
  late_same (Some q) cs at is = late_handled q at (handled_for w t.name q t.now) cs refl is

-- the fork alone
leaves_fork : (w : World) (name : List ℕ) (cs : List Content) → HasSame w name (world_after cs w)
    → LeavesFork w name cs
leaves_fork w name cs same = λ r at fork held. (same r at fork held).1

module _ (t : Terms) (w : World) (a : Asks) (may : MayTurn t w a) (batch : ℕ) (some : 1 ≤ batch)
    (asked : Asked) (is : asked_in w t.name (next_number a) batch ≡ Some asked) (x : Happening)
  where
    abbrev asks : Asks
    asks = with_request asked.request a

    lawful : RemembersLawful w t.name asks
    lawful =
        let e : HasEnds w t.name may.ready.here.replication may.ready.here.master =
        ends_of w t.name t.kinds may.ready in
        remembers_more w t.name may.ready.here.replication e.fork asked.request a
        may.ready.here.held e.held
        (due_here w t.name t.kinds may.ready t.now (next_number a) batch some asked is).lawful
        may.asks

    behind_late : (cs : List Content)
        → late_records t.name t.now w (late_request x asks) ≡ Some cs → (p : Planned)
        → TakesOrLeaves t (world_after cs w) asked p
        → KeepsUpdates t batch w a x
        (record { records = cs ++ p.records; asks = asks; came = p.came })
    behind_late cs at p (inl k) =
        let same : HasSame w t.name (world_after cs w) =
        late_same t w may.ready x asks lawful (late_request x asks) cs refl at in
        inl (record {
          asked = asked;
          made = is;
          late = cs;
          arrived = at;
          answer = k.answer;
          answered = k.answered;
          learnt = k.learnt;
          is_taken = ap (λ (v : World). taken v t.kinds t.name asked k.answer.reply t.now)
              (after-append cs k.answer.records w) ∙ k.is_taken;
          records = ap (λ (ds : List Content). cs ++ ds) k.records
              ∙ sym (append_assoc cs k.answer.records k.learnt);
          came = k.came;
          updates = keeps_append w t.kinds t.name k.answer.reply cs p.records same k.updates;
        })
    behind_late cs at p (inr left) =
        inr (leaves_fork w t.name (cs ++ p.records)
        (same_append w t.name cs p.records
        (late_same t w may.ready x asks lawful (late_request x asks) cs refl at) left))

    late_by : (o : Option (List Content))
        → late_records t.name t.now w (late_request x asks) ≡ o
        → KeepsUpdates t batch w a x (record {
          records = (once_late t asked x w o).records;
          asks = asks;
          came = (once_late t asked x w o).came;
        })
    late_by None at = inr (λ r at fork held. held)
    late_by (Some cs) at =
        let ready : IsReady (world_after cs w) t.name t.kinds =
        ready_after cs w t.name t.kinds may.ready
        (late_come t w may.ready (next_number a) batch some asked is x asks lawful cs at) in
        behind_late cs at (exchange t asked x (world_after cs w))
        (exchange_keeps t (world_after cs w) ready (next_number a) batch some asked
        (late_asked t w may.ready (next_number a) batch some asked is x asks lawful cs at) x)

    late_keeps : KeepsUpdates t batch w a x (course_by t x w a (Some asked))
    late_keeps = late_by (late_records t.name t.now w (late_request x asks)) refl

course_keeps : (t : Terms) (batch : ℕ) → 1 ≤ batch → (x : Happening) (w : World) (a : Asks)
    → MayTurn t w a → KeepsUpdates t batch w a x (course t batch x w a)
course_keeps t batch some x w a may = by (asked_in w t.name (next_number a) batch) refl
  where
    by : (o : Option Asked) → asked_in w t.name (next_number a) batch ≡ o
        → KeepsUpdates t batch w a x (course_by t x w a o)
    by None is = inr (λ r at fork held. held)
    by (Some asked) is = late_keeps t w a may batch some asked is x

-- ---- a turn

pub turn_keeps : EveryTurn EachKeepsUpdates
turn_keeps t batch budget link w a some may =
    each_by (MayTurn t) (LevelAt t.name) batch (over_link t) (λ w a may is. absurd (cc))
    (goes_on t batch some) (KeepsUpdates t batch) (course_keeps t batch some) budget link w a may
