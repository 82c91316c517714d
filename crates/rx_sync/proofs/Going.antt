-- What an exchange keeps, whatever the link does.
use Rattle.std.proofs.Common.{◌≡◌, ◌∙◌, ℕ, ◌≤◌, ◌<◌, Bool, true, false, cond, nat_lt, List, [], ◌∷◌, map, take, length, Option, Some, None, Result, Ok, Err, refl, sym, ap, subst, ltb-true}
use Rattle.std.proofs.lemmas.List.{length-map}
use Rattle.rx_value.specs.Named.{named}
use Rattle.rx_value.specs.declared.state.State.{State}
use Rattle.rx_value.proofs.Outcomes.{some_same, not_none}
use Rattle.rx_schema.specs.declared.shape.Shape.{Shape}
use Rattle.rx_document.specs.declared.place.Place.{Place}
use Rattle.rx_document.specs.declared.stored.Stored.{Stored}
use Rattle.rx_collection.specs.Held.{Held}
use Rattle.rx_collection.specs.Since.{since}
use Rattle.rx_wire.specs.declared.message.AskKind.{AskKind}
use Rattle.rx_wire.specs.declared.message.AskKind.TheVariants.{Push, Pull}
use Rattle.rx_wire.specs.declared.message.PushRow.{PushRow}
use Rattle.rx_wire.specs.declared.message.Reply.{Reply}
use Rattle.rx_wire.specs.declared.message.Request.{Request}
use Rattle.rx_replication.specs.Answered.{IsAnswered}
use Rattle.rx_replication.specs.Known.{KnownStates, pending}
use Rattle.rx_replication.specs.Master.{body_of, master_then}
use Rattle.rx_replication.specs.Request.{IsCurrent, push_or_pull, push_row}
use Rattle.rx_replication.specs.Throughout.{KnownPass}
use Rattle.rx_replication.specs.Write.{state_at}
use Rattle.rx_replication.proofs.Commits.{lawful-by_key}
use Rattle.rx_replication.proofs.Handled.{states_of}
use Rattle.rx_handler.specs.Handlers.{Kinds}
use Rattle.rx_fork.specs.Asked.{asked_of}
use Rattle.rx_fork.specs.Valid.{is_valid}
use Rattle.rx_fork.specs.declared.ask.Asked.{Asked}
use Rattle.rx_record.specs.Content.{Content}
use Rattle.rx_record.specs.declared.record.MasterName.{MasterName}
use Rattle.rx_record.specs.declared.record.MasterName.TheVariants.{Local}
use Rattle.rx_reply.specs.declared.turn.Exchanged.{Exchanged}
use Rattle.rx_reply.specs.declared.turn.Lost.{Lost}
use Rattle.rx_reply.specs.declared.turn.TurnEnd.TheVariants.{Quiet}
use Rattle.rx_world.specs.World.{World, Replications}
use Rattle.rx_world.specs.declared.replication.Replication.{Replication}
use Rattle.rx_sync.specs.Asking.{asked_in, pending_in}
use Rattle.rx_sync.specs.Asks.{IsLawfulRequest}
use Rattle.rx_sync.specs.Exchange.{Planned, world_after, behind, comes_to, handled_and_taken, if_taken, lost_by, no_time, once_handled, reply_lost, reply_taken, state_keys, taken_as, when_taken}
use Rattle.rx_sync.specs.Handling.{Handled, handled_for}
use Rattle.rx_sync.specs.Laws.{ComeSoundly, HasAnswered, IsDueOf, IsLawfulReply, IsLevel, IsReady, PullLeavesNone}
use Rattle.rx_sync.specs.Taking.{taken_by}
use Rattle.rx_sync.specs.Turn.{end_by}
use Rattle.rx_sync.specs.declared.fault.TakeFault.{TakeFault}
use Rattle.rx_sync.proofs.Ends.{HasEnds, ends_of, page_levels}
use Rattle.rx_sync.proofs.Exchanges.{HasHandled, HasTaken, handled_is, has_handled, has_taken, taken_is}
use Rattle.rx_sync.proofs.Leaves.{LeavesReply, leaves_reply}
use Rattle.rx_sync.proofs.Messages.{asked_at, due_of, from_down, handled_answered, known_pass, reply_lawful}
use Rattle.rx_sync.proofs.Pulls.{taken_leaves_none}
use Rattle.rx_sync.proofs.Staying.{made_after, plain_soundly, soundly_in_turn, still_after}
use Rattle.rx_sync.proofs.Worlds.{after-append, sound_after, soundly-append}

-- its records come soundly, and where it makes the turn quiet, fork and master are level; after a
-- pull nothing is to be pushed
pub record GoesWell (w : World) (name : List ℕ) (batch : ℕ) (p : Planned) : Type 0 where
  pub come : ComeSoundly w p.records
  pub quiet : end_by batch p.came ≡ Some Quiet → IsLevel (world_after p.records w) name
  pub pulled : PullLeavesNone w name p.records p.came

-- records before one that goes well
pub behind_well : (w : World) (name : List ℕ) (batch : ℕ) (cs : List Content) (p : Planned)
    → ComeSoundly w cs → GoesWell (world_after cs w) name batch p
    → GoesWell w name batch (behind cs p)
behind_well w name batch cs p come well = record {
  come = soundly-append w cs p.records come well.come;
  quiet = λ is.
      subst (λ (v : World). IsLevel v name) (sym (after-append cs p.records w)) (well.quiet is);
  pulled = λ is.
      subst (λ (v : World). pending_in v name ≡ Some 0) (sym (after-append cs p.records w))
      (well.pulled is);
}

-- no write time was found
pub no_time_well : (w : World) (name : List ℕ) (batch : ℕ) → GoesWell w name batch no_time
no_time_well w name batch =
    record { come = tt; quiet = λ is. absurd (cc); pulled = λ is. absurd (cc) }

pub lost_well : (w : World) (name : List ℕ) (batch : ℕ) (why : Lost) (ask : AskKind)
    → GoesWell w name batch (comes_to (lost_by why ask))
lost_well w name batch why (Push rows) =
    record { come = tt; quiet = λ is. absurd (cc); pulled = λ is. absurd (cc) }
lost_well w name batch why (Pull place n) =
    record { come = tt; quiet = λ is. absurd (cc); pulled = λ is. absurd (cc) }

-- ---- a request is handled

module _ (w : World) (name : List ℕ) (kinds : Kinds) (ready : IsReady w name kinds) (now : ℕ) where
  abbrev here : Replication
  here = ready.here.replication

  -- of a lawful request
  pub handled_well : (q : Request) (h : Handled)
      → IsLawfulRequest (ends_of w name kinds ready).fork.schema q
      → handled_for w name q now ≡ Some h
      → HasHandled w ready.here.master (ends_of w name kinds ready).master now q h
  handled_well q h lawful is =
      let e = ends_of w name kinds ready in
      has_handled w ready.made ready.here.master e.master e.there q
      (subst (λ (s : Shape). IsLawfulRequest s q) (sym e.schema) lawful) now h
      (sym (handled_is w name q now ready.here.replication ready.here.master e.master
      ready.here.held
      ready.here.local e.there) ∙ is)

  pub handled_come : (q : Request) (h : Handled)
      → HasHandled w ready.here.master (ends_of w name kinds ready).master now q h
      → ComeSoundly w h.records
  handled_come q h hh =
      plain_soundly w h.records ready.made ready.sound hh.leaves.plain hh.leaves.next

  once_well : (batch : ℕ) (q : Request) (next : Handled → World → Planned) (o : Option Handled)
      → IsLawfulRequest (ends_of w name kinds ready).fork.schema q
      → handled_for w name q now ≡ o
      → ((h : Handled) → HasHandled w ready.here.master (ends_of w name kinds ready).master now q h
      → GoesWell (world_after h.records w) name batch (next h (world_after h.records w)))
      → GoesWell w name batch (once_handled next w o)
  once_well batch q next None lawful is well =
      no_time_well w name batch
  once_well batch q next (Some h) lawful is well =
      let hh = handled_well q h lawful is in
      behind_well w name batch h.records (next h (world_after h.records w)) (handled_come q h hh)
      (well h
      hh)

-- ---- the reply is taken

-- what is level after records
level_at : (w : World) (name : List ℕ) (r : Replication) (m : List ℕ) (fork master : Held)
    → named w.replications name ≡ Some r → r.master ≡ Local m → named w.collections r.fork
    ≡ Some fork
    → named w.collections m ≡ Some master
    → ((key : List ℕ) → state_at fork.documents key ≡ state_at master.documents key)
    → IsLevel w name
level_at w name r m fork master at local held there level = λ s s_at x x_held k k_local y y_there
    key.
    let same : r ≡ s = some_same (sym at ∙ s_at) in
    let names : Local m ≡ Local k = sym local ∙ ap (λ (r : Replication). r.master) same ∙ k_local in
    let km : m ≡ k = cc in
    let fx : fork ≡ x =
    some_same (sym held ∙ ap (λ (r : Replication). named w.collections r.fork) same ∙ x_held) in
    let my : master ≡ y = some_same (sym there ∙ ap (named w.collections) km ∙ y_there) in
    ap (λ (c : Held). state_at c.documents key) (sym fx) ∙ level key
    ∙ ap (λ (c : Held). state_at c.documents key) my

few_keys : (ss : List State) (b : ℕ) → nat_lt (length (state_keys ss)) b ≡ true → length ss < b
few_keys ss b is =
    subst (λ (n : ℕ). n < b) (length-map ss (λ (s : State). s.key))
    (ltb-true (length (state_keys ss)) b is)

quiet_short : (b : Bool) → cond b (Some Quiet) None ≡ Some Quiet → b ≡ true
quiet_short true is = refl
quiet_short false is = not_none is

batch_of : (documents : Held) (side_known : KnownStates) (down p : Option Place) (b batch : ℕ)
    → Pull p b ≡ push_or_pull (map (push_row side_known) (take batch (pending documents.documents
    side_known))) down batch
    → b ≡ batch
batch_of c known down p b batch is = by (map (push_row known) (take batch (pending c.documents
    known))) is
  where
    by : (rows : List PushRow) → Pull p b ≡ push_or_pull rows down batch → b ≡ batch
    by [] is = cc
    by (row ∷ rows) is = absurd (cc)

module _ (w : World) (name : List ℕ) (kinds : Kinds) (ready : IsReady w name kinds) (now n batch :
    ℕ)
    (some : 1 ≤ batch) (asked : Asked) (is : asked_in w name n batch ≡ Some asked) where
  abbrev ends : HasEnds w name ready.here.replication ready.here.master
  ends = ends_of w name kinds ready

  pub asked_is : asked_of ends.fork.documents ready.here.replication.side w.epoch n batch ≡ asked
  asked_is = asked_at w name n batch asked ready.here.replication ends.fork ready.here.held
      ends.held is

  pub due_here : IsDueOf ready.here.replication ends.fork asked
  due_here =
      subst (λ (a : Asked). IsDueOf ready.here.replication ends.fork a) asked_is
      (due_of ends.fork ready.here.replication w.epoch n batch ends.fork_lawful ends.fork_valid
      (subst (λ (c : Held). KnownPass (is_valid c.schema) ready.here.replication.side.known)
      ends.same_fork (known_pass w name ready.here.replication ends.link)) some)

  pub current_here : IsCurrent ends.fork.documents ready.here.replication.side.known
      ready.here.replication.side.down asked.request.ask
  current_here =
      subst (λ (a : Asked). IsCurrent ends.fork.documents ready.here.replication.side.known
      ready.here.replication.side.down a.request.ask) asked_is (batch, some, refl)

  module _ (h : Handled) (hh : HasHandled w ready.here.master ends.master now asked.request h) where
    abbrev then_world : World
    then_world = world_after h.records w

    pub replication_then : named (world_after h.records w).replications name
        ≡ Some ready.here.replication
    replication_then = ap (λ (rs : Replications). named rs name) hh.leaves.replications
        ∙ ready.here.held

    pub fork_then : named (world_after h.records w).collections ready.here.replication.fork
        ≡ Some ends.fork
    fork_then =
        hh.leaves.others ready.here.replication.fork (λ same. ends.other (sym same)) ∙ ends.held

    pub reply_is_lawful : IsLawfulReply ends.fork.schema h.reply
    reply_is_lawful =
        let from = from_down ends.fork.documents ready.here.replication.side.known
        ready.here.replication.side.down asked.request.ask current_here in
        subst (λ (s : Shape). IsLawfulReply s h.reply) ends.schema
        (subst (λ (r : Reply). IsLawfulReply ends.master.schema r) (sym hh.reply)
        (reply_lawful ends.master ends.lawful ends.valid asked.request.epoch asked.request.n
        ready.here.replication.side.down asked.request.ask due_here.lawful.apart from
        ends.link.down_has_time))

    answered_here : HasAnswered (world_after h.records w).collections ready.here.replication.master
        ready.here.replication.side.down asked h.reply
    answered_here =
        let from = from_down ends.fork.documents ready.here.replication.side.known
        ready.here.replication.side.down asked.request.ask current_here in
        subst (λ (m : MasterName). HasAnswered (world_after h.records w).collections m
        ready.here.replication.side.down asked h.reply) (sym ready.here.local)
        (λ master there.
        subst (λ (c : Held). IsAnswered c.documents ready.here.replication.side.down
        asked.request.ask
        h.reply.body) (some_same (sym hh.leaves.there ∙ there))
        (subst (λ (r : Reply). IsAnswered hh.leaves.new.documents ready.here.replication.side.down
        asked.request.ask r.body) (sym hh.reply)
        (handled_answered ends.master hh.leaves.new ready.here.replication.side.down
        asked.request.ask
        now (lawful-by_key ends.master ends.lawful) ends.sound.master_side.reached from
        hh.leaves.is)))

    taken_here : (cs : List Content)
        → taken_by name now asked h.reply ready.here.replication ends.fork ready.kind ≡ Ok cs
        → HasTaken (world_after h.records w) name ready.here.replication ends.fork ready.kind asked
        h.reply cs
    taken_here cs taken =
        let come = handled_come w name kinds ready now asked.request h hh in
        has_taken (world_after h.records w)
        (made_after w h.records ready.made (soundly_in_turn w h.records come))
        (sound_after w h.records ready.sound come) name ready.here.replication replication_then
        ends.fork
        fork_then ready.kind now asked h.reply due_here reply_is_lawful cs taken

    pub leaves_here : (cs : List Content)
        → taken_by name now asked h.reply ready.here.replication ends.fork ready.kind ≡ Ok cs
        → LeavesReply
        (world_after h.records w) name ready.here.replication ends.fork ready.kind asked
        h.reply now cs
    leaves_here cs taken =
        let come = handled_come w name kinds ready now asked.request h hh in
        leaves_reply (world_after h.records w)
        (made_after w h.records ready.made (soundly_in_turn w h.records come))
        (sound_after w h.records ready.sound come) name ready.here.replication replication_then
        ends.fork
        fork_then ready.kind now asked h.reply due_here reply_is_lawful cs taken

    -- a short page that is taken makes the turn quiet, and the fork the master's equal
    level_page : (cs : List Content)
        → HasTaken (world_after h.records w) name ready.here.replication ends.fork ready.kind asked
        h.reply cs
        → (p : Option Place) (b : ℕ) → asked.request.ask ≡ Pull p b
        → length (since ends.master.documents p b) < b
        → IsLevel (world_after cs (world_after h.records w)) name
    level_page cs ht p b ask few =
        let v = world_after h.records w in
        let r = ready.here.replication in
        let s = still_after cs v name r ht.next replication_then in
        let same : ends.master ≡ hh.leaves.new =
        some_same (ap (λ (a : AskKind). master_then ends.master a now) (sym ask) ∙ hh.leaves.is) in
        let body : h.reply.body ≡ body_of ends.master.documents (Pull p b) =
        ap (λ (r : Reply). r.body) hh.reply ∙ ap (body_of ends.master.documents) ask in
        let current : IsCurrent ends.fork.documents r.side.known r.side.down (Pull p b) =
        subst (IsCurrent ends.fork.documents r.side.known r.side.down) ask current_here in
        level_at (world_after cs v) name s.now ready.here.master ht.new ends.master s.held
        (s.master ∙ ready.here.local)
        (ap (named (world_after cs v).collections) s.fork ∙ ht.there)
        (ht.others ready.here.master ends.other ∙ hh.leaves.there ∙ ap Some (sym same))
        (page_levels v name r ends.fork ends.master ready.kind asked h.reply cs ends.fork_lawful
        ends.lawful ends.sound ht p b ask current body few)

    quiet_by : (cs : List Content)
        → HasTaken (world_after h.records w) name ready.here.replication ends.fork ready.kind asked
        h.reply cs
        → (a : AskKind) → asked.request.ask ≡ a
        → end_by batch (Some (taken_as a (body_of ends.master.documents a))) ≡ Some Quiet
        → IsLevel (world_after cs (world_after h.records w)) name
    quiet_by cs ht (Push rows) ask is = absurd (cc)
    quiet_by cs ht (Pull p b) ask is =
        let page = since ends.master.documents p b in
        let short : length (states_of page) < batch =
        few_keys (states_of page) batch
        (quiet_short (nat_lt (length (state_keys (states_of page))) batch) is) in
        let same : b ≡ batch =
        batch_of ends.fork ready.here.replication.side.known ready.here.replication.side.down p b
        batch
        (sym ask ∙ ap (λ (a : Asked). a.request.ask) (sym asked_is)) in
        level_page cs ht p b ask
        (subst (λ (n : ℕ). length page < n) (sym same)
        (subst (λ (n : ℕ). n < batch) (length-map page (λ (d : Stored). d.state)) short))

    pulled_here : (cs : List Content)
        → LeavesReply
        (world_after h.records w) name ready.here.replication ends.fork ready.kind asked
        h.reply now cs
        → PullLeavesNone (world_after h.records w) name cs
        (Some (taken_as asked.request.ask h.reply.body))
    pulled_here cs left =
        let come = handled_come w name kinds ready now asked.request h hh in
        taken_leaves_none (world_after h.records w)
        (made_after w h.records ready.made (soundly_in_turn w h.records come)) name
        ready.here.replication ends.fork fork_then ready.kind now asked h.reply due_here
        reply_is_lawful cs left

    pub taken_well : (o : Result (List Content) TakeFault)
        → taken_by name now asked h.reply ready.here.replication ends.fork ready.kind ≡ o
        → GoesWell (world_after h.records w) name batch
        (when_taken asked.request.ask h.reply.body (if_taken (Some o)))
    taken_well (Ok cs) taken =
        let ht = taken_here cs taken in
        let shown : taken_as asked.request.ask h.reply.body
        ≡ taken_as asked.request.ask (body_of ends.master.documents asked.request.ask) =
        ap (λ (r : Reply). taken_as asked.request.ask r.body) hh.reply in
        behind_well (world_after h.records w) name batch cs
        (comes_to (taken_as asked.request.ask h.reply.body)) (ht.come answered_here) (record {
          come = tt;
          quiet = λ q. quiet_by cs ht asked.request.ask refl
              (ap (λ (e : Exchanged). end_by batch (Some e)) (sym shown) ∙ q);
          pulled = λ is. pulled_here cs (leaves_here cs taken) is;
        })
    taken_well (Err e) is = no_time_well (world_after h.records w) name batch

    pub reply_well : GoesWell (world_after h.records w) name batch
        (reply_taken (record { name = name; now = now; kinds = kinds }) asked h
        (world_after h.records w))
    reply_well =
        let r = ready.here.replication in
        subst (λ (o : Option (Result (List Content) TakeFault)).
        GoesWell (world_after h.records w) name batch
        (when_taken asked.request.ask h.reply.body (if_taken o)))
        (sym (taken_is (world_after h.records w) kinds name asked h.reply now r ends.fork ready.kind
        replication_then fork_then ready.handler))
        (taken_well (taken_by name now asked h.reply r ends.fork ready.kind) refl)

  -- an exchange whose request is handled, and whose reply is taken or lost
  pub taken_goes_well : GoesWell w name batch
      (handled_and_taken (record { name = name; now = now; kinds = kinds }) asked w)
  taken_goes_well =
      once_well w name kinds ready now batch asked.request
      (reply_taken (record { name = name; now = now; kinds = kinds }) asked)
      (handled_for w name asked.request now) due_here.lawful refl (λ h hh. reply_well h hh)

  pub lost_goes_well : (why : Lost) → GoesWell w name batch
      (once_handled (reply_lost why asked) w (handled_for w name asked.request now))
  lost_goes_well why =
      once_well w name kinds ready now batch asked.request (reply_lost why asked)
      (handled_for w name asked.request now) due_here.lawful refl
      (λ h hh. lost_well (world_after h.records w) name batch why asked.request.ask)
