-- What a reply that is taken leaves.
use Rattle.std.proofs.Common.{◌≡◌, ◌∙◌, ℕ, Bool, true, false, cond, not, nat_lt, List, length, Option, Some, None, refl, sym, ap, subst, true≢false}
use Rattle.std.proofs.lemmas.Bool.{and_parts}
use Rattle.std.specs.Cmp.Derive.{both_true}
use Rattle.std.specs.List.{AllByRecursion, list_all}
use Rattle.std.specs.Option.{option_map_or}
use Rattle.std.specs.Str.{bytes_eq}
use Rattle.std.specs.Prelude.{slice_get, ◌-◌}
use Rattle.rx_value.specs.Named.{named}
use Rattle.rx_value.specs.declared.state.State.{State}
use Rattle.rx_value.proofs.Outcomes.{some_same, not_none}
use Rattle.rx_document.specs.declared.place.Place.{Place}
use Rattle.rx_document.proofs.Places.{place_eq-Decides}
use Rattle.rx_collection.specs.Commit.{by_key}
use Rattle.rx_collection.specs.Held.{Held}
use Rattle.rx_collection.specs.Since.{is_above}
use Rattle.rx_wire.specs.declared.message.AskKind.{AskKind}
use Rattle.rx_wire.specs.declared.message.AskKind.TheVariants.{Push, Pull}
use Rattle.rx_wire.specs.declared.message.Body.{Body}
use Rattle.rx_wire.specs.declared.message.Body.TheVariants.{Conflicts, Docs}
use Rattle.rx_wire.specs.declared.message.Reply.{Reply}
use Rattle.rx_replication.specs.Answered.{IsAnswered}
use Rattle.rx_replication.specs.Known.{KnownStates, with_learnt}
use Rattle.rx_replication.specs.Request.{IsCurrent}
use Rattle.rx_replication.specs.Sound.{IsForkSound, IsMasterSound}
use Rattle.rx_replication.specs.Taking.{Resolve, KeepsKey, Taking, taking}
use Rattle.rx_replication.specs.Throughout.{AllPass, KeepsPassing}
use Rattle.rx_replication.specs.Write.{AreByKey, is_up_to, write}
use Rattle.rx_replication.proofs.Commits.{Wrote, write_wrote}
use Rattle.rx_replication.proofs.Distinct.{KeysDiffer}
use Rattle.rx_replication.proofs.Learning.{learn-by_key}
use Rattle.rx_replication.proofs.Lists.{all_each}
use Rattle.rx_replication.proofs.Orders.{up_to_itself, up_to_other}
use Rattle.rx_replication.proofs.Takings.{AnswerDiffers, taking_fork_side, taking_master_side, taking_up_risen, taking_differs, learnt_held}
use Rattle.rx_fork.specs.BadReply.{bad_reply, place_fits, is_fit}
use Rattle.rx_fork.specs.Valid.{is_valid}
use Rattle.rx_fork.specs.declared.accept.ExchangePlan.{ExchangePlan}
use Rattle.rx_fork.specs.declared.ask.Asked.{Asked}
use Rattle.rx_fork.proofs.Accepted.{IsTaken, plan_passes}
use Rattle.rx_record.specs.Content.{Content}
use Rattle.rx_record.specs.Writable.{StatesRise}
use Rattle.rx_record.specs.declared.record.MasterName.{MasterName}
use Rattle.rx_record.specs.declared.record.MasterName.TheVariants.{Local, Port}
use Rattle.rx_world.specs.Made.{IsMadeWorld}
use Rattle.rx_world.specs.Replicating.{stays_or_rises, with_exchange}
use Rattle.rx_world.specs.Sound.{IsSoundWorld, IsSoundWith}
use Rattle.rx_world.specs.Step.{IsValidState, fork_takes, is_held_with, step, takes_exchange, written_to}
use Rattle.rx_world.specs.World.{World}
use Rattle.rx_world.specs.declared.replication.Replication.{Replication}
use Rattle.rx_world.proofs.Sounds.{sound_exchange}
use Rattle.rx_world.proofs.Steps.{lawful_at}
use Rattle.rx_sync.specs.Exchange.{answer_states}
use Rattle.rx_sync.specs.Laws.{HasAnswered, HasTimeAt, IsDueOf, IsLawfulReply, MayCome}
use Rattle.rx_sync.specs.Taking.{exchange_at, write_time}
use Rattle.rx_sync.proofs.Messages.{AreTimed, PlaceHasTime, pushed_has_time, timed}
use Rattle.rx_sync.proofs.Worlds.{by_key_at, fork_sound_at, linked_at, sound_at}
use Rattle.rx_sync.proofs.Written.{WritesRows, known_held, outs_of, states_rise, writes_rows}

-- ---- the place of a reply that isn't at fault

place_risen : (q : Place) (last : Option State) (to : Option Place)
    → place_fits (Some q) last to ≡ true → is_up_to q to ≡ true
place_risen q None None fits = absurd (true≢false (sym fits))
place_risen q None (Some t) fits =
    let same : q ≡ t = (place_eq-Decides q t).0 fits in
    subst (λ (t : Place). is_up_to q (Some t) ≡ true) same (up_to_itself q)
place_risen q (Some s) None fits = absurd (true≢false (sym fits))
place_risen q (Some s) (Some t) fits =
    up_to_other t q (ap not (and_parts (is_above (Some q) t) (bytes_eq t.id s.key) fits).0)

fit_of : (over fit : Bool) (batch count : ℕ)
    → cond over (Some batch) (cond fit None (Some count)) ≡ None → fit ≡ true
fit_of true fit batch count is = not_none (sym is)
fit_of false true batch count is = refl
fit_of false false batch count is = not_none (sym is)

-- down doesn't fall
pub down_risen : (by : Resolve) (w : Held) (up down : Option Place) (ask : AskKind) (body : Body)
    (t : Taking) → bad_reply down ask body ≡ None
    → taking by w.documents up down ask body ≡ Some t
    → (p : Place) → down ≡ Some p → is_up_to p t.down ≡ true
down_risen by w up down (Push rows) (Conflicts cs) t fits is p e =
    subst (λ (t : Taking). is_up_to p t.down ≡ true) (some_same is)
    (subst (λ (z : Option Place). is_up_to p z ≡ true) (sym e) (up_to_itself p))
down_risen by w up down (Pull q b) (Docs ss to) t fits is p e =
    let fit : is_fit down ss to ≡ true =
    fit_of (nat_lt b (length ss)) (is_fit down ss to) b (length ss) fits in
    subst (λ (t : Taking). is_up_to p t.down ≡ true) (some_same is)
    (place_risen p (slice_get ss (length ss - 1)) to
    (subst (λ (z : Option Place). place_fits z (slice_get ss (length ss - 1)) to ≡ true) e fit))
down_risen by w up down (Push rows) (Docs ss to) t fits is p e = not_none is
down_risen by w up down (Pull q b) (Conflicts cs) t fits is p e = not_none is

pub rises_by : (old new : Option Place) → ((p : Place) → old ≡ Some p → is_up_to p new ≡ true)
    → stays_or_rises old new ≡ true
rises_by None new risen = refl
rises_by (Some p) new risen = risen p refl

-- the checkpoints have write times
taken_times : (by : Resolve) (fork : Held) (up down : Option Place) (ask : AskKind) (body : Body)
    (t : Taking) → AreTimed fork.documents → PlaceHasTime up → PlaceHasTime down → HasTimeAt body
    → taking by fork.documents up down ask body ≡ Some t
    → PlaceHasTime t.up × PlaceHasTime t.down
taken_times by fork up down (Push rows) (Conflicts cs) t times has_up has_down has is =
    subst (λ (t : Taking). PlaceHasTime t.up × PlaceHasTime t.down) (some_same is)
    (pushed_has_time fork.documents times up rows has_up, has_down)
taken_times by fork up down (Pull q b) (Docs ss to) t times has_up has_down has is =
    subst (λ (t : Taking). PlaceHasTime t.up × PlaceHasTime t.down) (some_same is) (has_up, has)
taken_times by fork up down (Push rows) (Docs ss to) t times has_up has_down has is = not_none is
taken_times by fork up down (Pull q b) (Conflicts cs) t times has_up has_down has is = not_none is

pub answer_differs : (body : Body) → KeysDiffer (answer_states body) → AnswerDiffers body
answer_differs (Conflicts cs) apart = apart
answer_differs (Docs ss to) apart = apart

-- ---- what is taken

module _ (w : World) (made : IsMadeWorld w) (sound : IsSoundWorld w) (name : List ℕ)
    (r : Replication) (at : named w.replications name ≡ Some r) (fork : Held)
    (held : named w.collections r.fork ≡ Some fork) (by : Resolve) (keys : KeepsKey by)
    (passing : KeepsPassing (is_valid fork.schema) by) (asked : Asked) (reply : Reply)
    (due : IsDueOf r fork asked) (lawful : IsLawfulReply fork.schema reply) (plan : ExchangePlan)
    (t : IsTaken by fork.documents r.side asked reply plan) where
  current : IsCurrent fork.documents r.side.known r.side.down asked.request.ask
  current = due.current t.unmoved

  fork_by_key : AreByKey fork.documents
  fork_by_key = by_key_at w made r.fork fork held

  fork_sound : IsForkSound fork.documents r.side.known r.side.up
  fork_sound = fork_sound_at w made sound name r fork at held

  apart : AnswerDiffers reply.body
  apart = answer_differs reply.body lawful.apart

  differs : KeysDiffer t.of.taken.rows × KeysDiffer t.of.taken.known
  differs =
      taking_differs by keys fork.documents r.side.known r.side.up r.side.down fork_by_key
      fork_sound
      asked.request.ask reply.body t.of.taken current apart t.of.is

  pub learnt_same : with_learnt r.side.known plan.known ≡ with_learnt r.side.known t.of.taken.known
  learnt_same =
      ap (with_learnt r.side.known) t.of.known
      ∙ learn-by_key r.side.known t.of.taken.known (linked_at w made name r at).by_key.rising
      differs.1

  valid : AllPass (is_valid fork.schema) plan.rows × AllPass (is_valid fork.schema) plan.known
  valid =
      plan_passes (is_valid fork.schema) by passing fork.documents r.side asked.request.ask
      reply.body
      plan due.lawful.valid lawful.valid t.of

  pub rows_valid : AllByRecursion (IsValidState fork.schema) plan.rows
  rows_valid = all_each (λ s. IsValidState fork.schema s) plan.rows valid.0

  times : PlaceHasTime t.of.taken.up × PlaceHasTime t.of.taken.down
  times =
      let l = linked_at w made name r at in
      taken_times by fork r.side.up r.side.down asked.request.ask reply.body t.of.taken
      (timed fork (lawful_at w r.fork fork made.lawful held).lawful) l.up_has_time l.down_has_time
      lawful.timed t.of.is

  module _ (now : ℕ) (new : Held) (wrote : write fork plan.rows now ≡ Some new) where
    pub fork_wrote : Wrote fork.documents t.of.taken.rows new.documents
    fork_wrote =
        subst (λ (ss : List State). Wrote fork.documents ss new.documents) t.of.rows
        (write_wrote fork plan.rows now new wrote)

    -- the fork's side stays sound
    fork_then : IsForkSound new.documents (with_learnt r.side.known plan.known) plan.up
    fork_then =
        subst (λ (p : Option Place).
        IsForkSound new.documents (with_learnt r.side.known plan.known) p) (sym t.of.up)
        (subst (λ (ks : KnownStates). IsForkSound new.documents ks t.of.taken.up) (sym learnt_same)
        (taking_fork_side by keys fork.documents r.side.known r.side.up r.side.down fork_by_key
        fork_sound asked.request.ask reply.body t.of.taken new.documents current apart t.of.is
        fork_wrote))

    -- and the master's, where it has answered
    master_then : (master : Held) → AreByKey master.documents
        → IsMasterSound master.documents r.side.known r.side.down
        → IsAnswered master.documents r.side.down asked.request.ask reply.body
        → IsMasterSound master.documents (with_learnt r.side.known plan.known) plan.down
    master_then master by_key side answered =
        subst (λ (p : Option Place).
        IsMasterSound master.documents (with_learnt r.side.known plan.known) p) (sym t.of.down)
        (subst (λ (ks : KnownStates). IsMasterSound master.documents ks t.of.taken.down)
        (sym learnt_same)
        (taking_master_side by fork.documents master.documents r.side.known r.side.up r.side.down
        asked.request.ask reply.body t.of.taken by_key side answered apart t.of.is))

    both_then : (m : MasterName) → IsSoundWith w.collections m fork r.side
        → HasAnswered w.collections m r.side.down asked reply
        → IsSoundWith w.collections m new (with_exchange plan.known plan.up plan.down r).side
    both_then (Local k) sides answered = λ master there. record {
      fork_side = fork_then;
      master_side = master_then master (by_key_at w made k master there)
          (sides master there).master_side (answered master there);
    }
    both_then (Port port) sides answered = fork_then

  -- ---- its record

  module _ (now lwt : ℕ) (time : write_time now fork plan.rows ≡ Some lwt) where
    pub written : WritesRows fork plan.rows now lwt
    written =
        let here = lawful_at w r.fork fork made.lawful held in
        writes_rows w fork plan.rows now lwt here.lawful
        (ap (named w.collections) here.called ∙ held) rows_valid time

    abbrev entry : Content
    entry = exchange_at name fork plan lwt

    takes_it : takes_exchange w.collections lwt (outs_of fork lwt plan.rows) plan.known plan.up
        plan.down r
        ≡ true
    takes_it =
        let ww = written in
        let wrote = write_wrote fork plan.rows now ww.new ww.wrote in
        let up : stays_or_rises r.side.up plan.up ≡ true =
        rises_by r.side.up plan.up (λ p e.
        subst (λ (z : Option Place). is_up_to p z ≡ true) (sym t.of.up)
        (taking_up_risen by keys fork.documents r.side.known r.side.up r.side.down fork_by_key
        fork_sound asked.request.ask reply.body t.of.taken current t.of.is p e)) in
        let down : stays_or_rises r.side.down plan.down ≡ true =
        rises_by r.side.down plan.down (λ p e.
        subst (λ (z : Option Place). is_up_to p z ≡ true) (sym t.of.down)
        (down_risen by fork r.side.up r.side.down asked.request.ask reply.body t.of.taken t.fits
        t.of.is p
        e)) in
        let known : list_all (is_held_with fork (outs_of fork lwt plan.rows)) plan.known ≡ true =
        known_held fork ww.new plan.rows plan.known lwt wrote valid.1
        (learnt_held ww.new.documents r.side.known plan.up plan.known
        (fork_then now ww.new ww.wrote)) in
        both_true (both_true up down)
        (ap (λ (o : Option Held).
        option_map_or (fork_takes lwt (outs_of fork lwt plan.rows) plan.known) o false) held
        ∙ both_true ww.takes_them known)

    pub may_come : MayCome w entry
    may_come = record {
      lawful =
          ap (λ (o : Option Replication). option_map_or (takes_exchange w.collections lwt
          (outs_of fork lwt plan.rows) plan.known plan.up plan.down) o false) at ∙ takes_it;
      ordered = record {
        rows_rise = written.rise;
        states_rise = subst StatesRise (sym t.of.known) (states_rise t.of.taken.known);
        up_has_time = subst PlaceHasTime (sym t.of.up) times.0;
        down_has_time = subst PlaceHasTime (sym t.of.down) times.1;
      };
      no_migration = tt;
    }

    -- it leaves a sound world, where the master has answered
    pub leaves_sound : HasAnswered w.collections r.master r.side.down asked reply
        → IsSoundWorld (step entry w)
    leaves_sound answered =
        sound_exchange name lwt (outs_of fork lwt plan.rows) plan.known plan.up plan.down w
        may_come.lawful may_come.ordered made sound (λ s c here there.
        let same_link : r ≡ s = some_same (sym at ∙ here) in
        let ww = written in
        subst (λ (s : Replication). (c : Held) → named w.collections s.fork ≡ Some c
        → IsSoundWith w.collections s.master (written_to lwt (outs_of fork lwt plan.rows) c)
        (with_exchange plan.known plan.up plan.down s).side) same_link
        (λ c there.
        subst (λ (c : Held). IsSoundWith w.collections r.master
        (written_to lwt (outs_of fork lwt plan.rows) c)
        (with_exchange plan.known plan.up plan.down r).side) (some_same (sym held ∙ there))
        (subst (λ (new : Held). IsSoundWith w.collections r.master new
        (with_exchange plan.known plan.up plan.down r).side) (sym ww.is)
        (both_then now ww.new ww.wrote r.master (sound_at w sound name r at fork held) answered)))
        c there)
