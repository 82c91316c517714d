-- No update is lost.
use Rattle.std.proofs.Common.{◌≡◌, ℕ, true, false, cond, not, List, map, take, Option, Some, None, option_map, refl, sym, ap, ◌∙◌, ◌⊎◌, inl, inr, subst, true≢false, slice_get}
use Rattle.rx_value.specs.Equal.{state_eq}
use Rattle.rx_value.specs.Named.{named}
use Rattle.rx_value.specs.declared.state.State.{State}
use Rattle.rx_value.proofs.Outcomes.{some_same, not_none}
use Rattle.rx_document.specs.Documents.{Documents}
use Rattle.rx_document.specs.declared.place.Place.{Place}
use Rattle.rx_document.specs.declared.stored.Stored.{Stored}
use Rattle.rx_collection.specs.Held.{Held}
use Rattle.rx_wire.specs.declared.message.AskKind.{AskKind}
use Rattle.rx_wire.specs.declared.message.AskKind.TheVariants.{Push, Pull}
use Rattle.rx_wire.specs.declared.message.Body.{Body}
use Rattle.rx_wire.specs.declared.message.Body.TheVariants.{Conflicts, Docs}
use Rattle.rx_wire.specs.declared.message.PushRow.{PushRow}
use Rattle.rx_wire.specs.declared.message.Request.{Request}
use Rattle.rx_replication.specs.Changed.{changed_document, changed_documents, changed_known}
use Rattle.rx_replication.specs.Interleaving.{LosesNoUpdate, ArrivesFromOneWith, MigratesToKnown, IsPendingUntilHeld}
use Rattle.rx_replication.specs.Known.{KnownStates, with_learnt, is_state, is_pending}
use Rattle.rx_replication.specs.Master.{master_then}
use Rattle.rx_replication.specs.Member.{Member}
use Rattle.rx_replication.specs.Request.{push_row, IsCurrent}
use Rattle.rx_replication.specs.Steps.{System, OpenRequest, MadeReply, Step, system_after, with_fork, with_master, with_reply, handled_in, with_taking, taken_in, arrived_in, is_awaited}
use Rattle.rx_replication.specs.Steps.Step.{CommitFork, CommitMaster, Ask, Handle, Arrive, Restart, Migrate}
use Rattle.rx_replication.specs.Taking.{Resolve, KeepsKey, Taking, taking, conflict_at, real_or, real_state, resolutions, pushed_place}
use Rattle.rx_replication.specs.Updates.{IsResolvedBy, KeepsPending}
use Rattle.rx_replication.specs.Write.{write, state_at, AreByKey}
use Rattle.rx_replication.proofs.Changed.{named-map, named_was}
use Rattle.rx_replication.proofs.Commits.{IsAmong, IsOld, IsNew, IsNewState, Wrote, write_wrote, learn_at, key_at}
use Rattle.rx_replication.proofs.EachStep.{due}
use Rattle.rx_replication.proofs.Handled.{conflict-among}
use Rattle.rx_replication.proofs.Kept.{Tells, IsKept}
use Rattle.rx_replication.proofs.Lists.{from_map, from_slice_get}
use Rattle.rx_replication.proofs.Orders.{state_itself, is_state-itself}
use Rattle.rx_replication.proofs.Taken.{pushed, rows_of, row_doc, from_resolutions, resolution-key, real_state-key, known_is, current_push, current_pull}

-- ---- a taking keeps pending documents, whatever the master answered

module _ (resolve : Resolve) (law : KeepsKey resolve) (fork : Documents) (known : KnownStates)
    (by_key : AreByKey fork) where
  -- the handler's answer on a row
  resolved_by : (cs : List State) (d new : Stored) (now o : Option State)
      → now ≡ Some new.state → new.state ≡ resolve (real_or o d.state) d.state
      → state_eq (real_or o d.state) d.state ≡ false → IsAmong d.state.key cs o
      → IsResolvedBy resolve (Conflicts cs) d now
  resolved_by cs d new now None at is other among =
      absurd (true≢false (sym (state_itself d.state) ∙ other))
  resolved_by cs d new now (Some real) at is other among =
      let a = among.some real refl in
      record {
        conflicts = cs;
        answer = refl;
        real = real;
        met = a.0;
        key = a.1;
        other = λ same. true≢false
            (sym (state_itself d.state) ∙ ap (λ (s : State). state_eq s d.state) (sym same)
            ∙ other);
        resolved = at ∙ ap Some is;
      }

  module _ (n : ℕ) (cs : List State) (new : Documents)
      (w : Wrote fork (resolutions resolve cs (rows_of known (pushed fork known n))) new) where
    abbrev asked : List PushRow
    asked = rows_of known (pushed fork known n)

    push_keeps_by : (k : List ℕ) (d : Stored) → named fork k ≡ Some d
        → IsOld fork new (resolutions resolve cs asked) k
        ⊎ IsNew fork new (resolutions resolve cs asked) k
        → (named new k ≡ Some d) ⊎ IsResolvedBy resolve (Conflicts cs) d (state_at new k)
    push_keeps_by k d at (inl o) = inl (o.same ∙ at)
    push_keeps_by k d at (inr x) =
        let y = from_resolutions resolve cs asked x.doc.state x.member in
        let row = y.0 in
        let z = row_doc fork known by_key n row y.1 in
        let key : row.new.key ≡ k =
        sym (resolution-key resolve cs asked law row) ∙ ap (λ (s : State). s.key) (sym y.2)
        ∙ x.key in
        let same : z.0 ≡ d = some_same (sym z.2 ∙ ap (named fork) key ∙ at) in
        let is : row ≡ push_row known d = z.3 ∙ ap (push_row known) same in
        inr (resolved_by cs d x.doc (state_at new k) (conflict_at d.state.key cs)
        (ap (option_map (λ (d : Stored). d.state)) x.held)
        (y.2 ∙ ap (λ (r : PushRow). resolve (real_state cs r) r.new) is)
        (ap (λ (r : PushRow). state_eq (real_state cs r) r.new) (sym is) ∙ y.3)
        (conflict-among d.state.key cs))

    pub push_keeps : KeepsPending resolve known (Conflicts cs) fork new
    push_keeps k d at pending = push_keeps_by k d at (w.at k)

  -- a current request's taking
  pub taking_keeps : (up down : Option Place) (ask : AskKind) (body : Body) (t : Taking)
      (new : Documents) → IsCurrent fork known down ask
      → taking resolve fork up down ask body ≡ Some t → Wrote fork t.rows new
      → KeepsPending resolve known body fork new
  taking_keeps up down (Push rows) (Conflicts cs) t new current is w k d at pending =
      let written : t.rows ≡ resolutions resolve cs rows =
      ap (λ (t : Taking). t.rows) (sym (some_same is)) in
      let asked = current_push fork known down rows current in
      push_keeps current.0 cs new
      (subst (λ (rows : List PushRow). Wrote fork (resolutions resolve cs rows) new) asked
      (subst (λ (ss : List State). Wrote fork ss new) written w)) k d at pending
  taking_keeps up down (Pull p b) (Docs ss to) t new current is w k d at pending =
      absurd (true≢false (sym pending ∙ current_pull fork known down p b by_key current k d at))
  taking_keeps up down (Push rows) (Docs ss to) t new current is w k d at pending =
      not_none is
  taking_keeps up down (Pull p b) (Conflicts cs) t new current is w k d at pending =
      not_none is

-- ---- in every moment

module _ (resolve : Resolve) (law : KeepsKey resolve) (w : System) (k : IsKept w) where
  abbrev Keeps : Body → System → Type 0
  Keeps body v =
      KeepsPending resolve w.known body w.fork.documents v.fork.documents

  same_keeps : (body : Body) → Keeps body w
  same_keeps body key d at pending = inl at

  keeps_by : (ask : AskKind) (body : Body) (t : Taking) (o : Option Held) (now : ℕ)
      → IsCurrent w.fork.documents w.known w.down ask
      → taking resolve w.fork.documents w.up w.down ask body ≡ Some t
      → write w.fork t.rows now ≡ o → Keeps body (with_taking w t o)
  keeps_by ask body t None now current is e = same_keeps body
  keeps_by ask body t (Some c) now current is e =
      taking_keeps resolve law w.fork.documents w.known k.fork_keys w.up w.down ask body t
      c.documents
      current is (write_wrote w.fork t.rows now c e)

  keeps_taken : (ask : AskKind) (body : Body) (o : Option Taking) (now : ℕ)
      → IsCurrent w.fork.documents w.known w.down ask
      → taking resolve w.fork.documents w.up w.down ask body ≡ o → Keeps body (taken_in w o now)
  keeps_taken ask body None now current is = same_keeps body
  keeps_taken ask body (Some t) now current is =
      keeps_by ask body t (write w.fork t.rows now) now current is refl

  keeps_arrived : (o : Option OpenRequest) (r : MadeReply) (now : ℕ) → w.waiting ≡ o
      → Member r w.replies → Keeps r.reply.body (arrived_in resolve w o (Some r) now)
  keeps_arrived None r now e m = same_keeps r.reply.body
  keeps_arrived (Some o) r now e m =
      elim (is_awaited w o r.reply) as (λ b. is_awaited w o r.reply ≡ b
      → Keeps r.reply.body (cond b
      (taken_in w (taking resolve w.fork.documents w.up w.down o.request.ask r.reply.body) now)
      w)) [
        | true ↦ (λ h.
            keeps_taken o.request.ask r.reply.body
            (taking resolve w.fork.documents w.up w.down o.request.ask r.reply.body) now
            (due resolve law w k o r e m h).0 refl)
        | false ↦ (λ h. same_keeps r.reply.body)
      ] refl

  pub kept_updates : LosesNoUpdate resolve w
  kept_updates which now r comes =
      subst (λ (o : Option MadeReply). Keeps r.reply.body (arrived_in resolve w w.waiting o now))
      (sym comes) (keeps_arrived w.waiting r now refl (from_slice_get w.replies which r comes))

  -- ---- pending until held

  -- a document with the same state and the same known states is pending too
  no_less : (known : KnownStates) (d e : Stored) {P : Type 0} → e.state ≡ d.state
      → is_pending known d ≡ true → is_pending known e ≡ false → P
  no_less known d e same pending settled =
      absurd (true≢false (sym pending
      ∙ ap (λ (s : State). not (is_state (named known s.key) s)) (sym same) ∙ settled))

  module _ (key : List ℕ) (d e : Stored) (at : named w.fork.documents key ≡ Some d)
      (pending : is_pending w.known d ≡ true) (same : e.state ≡ d.state) where
    -- what makes it known is the real state of a row
    had_by : (rows : List PushRow) (cs : List State) (master : Documents)
        → Tells w.known (Push rows) (Conflicts cs) master
        → named (with_learnt w.known (map (real_state cs) rows)) d.state.key ≡ Some d.state
        → IsOld w.known (with_learnt w.known (map (real_state cs) rows)) (map (real_state cs) rows)
        d.state.key
        ⊎ IsNewState (with_learnt w.known (map (real_state cs) rows)) (map (real_state cs) rows)
        d.state.key
        → state_at master key ≡ Some d.state
    had_by rows cs master tells known (inl o) =
        absurd (true≢false (sym pending
        ∙ ap not (is_state-itself (named w.known d.state.key) d.state (sym o.same ∙ known))))
    had_by rows cs master tells known (inr x) =
        let y = from_map (real_state cs) rows x.state x.member in
        let is : real_state cs y.0 ≡ d.state = sym y.2 ∙ some_same (sym x.held ∙ known) in
        let there : y.0.new.key ≡ key =
        sym (real_state-key cs y.0) ∙ ap (λ (s : State). s.key) is
        ∙ key_at w.fork.documents key d k.fork_keys at in
        ap (state_at master) (sym there) ∙ tells y.0 y.1 ∙ ap Some is

    had_push : (rows : List PushRow) (cs : List State) (up : Option Place) (o : Option Held)
        (master : Documents) → Tells w.known (Push rows) (Conflicts cs) master
        → is_pending (with_taking w (record {
          rows = resolutions resolve cs rows;
          known = map (real_state cs) rows;
          up = up;
          down = w.down;
        }) o).known e ≡ false
        → state_at master key ≡ Some d.state
    had_push rows cs up None master tells settled = no_less w.known d e same pending settled
    had_push rows cs up (Some c) master tells settled =
        had_by rows cs master tells
        (ap (named (with_learnt w.known (map (real_state cs) rows)))
        (ap (λ (s : State). s.key) (sym same))
        ∙ known_is (named (with_learnt w.known (map (real_state cs) rows)) e.state.key) e.state
        settled
        ∙ ap Some same)
        (learn_at w.known (map (real_state cs) rows) d.state.key)

    had_taken : (ask : AskKind) (body : Body) (now : ℕ) (master : Documents)
        → IsCurrent w.fork.documents w.known w.down ask → Tells w.known ask body master
        → is_pending (taken_in w (taking resolve w.fork.documents w.up w.down ask body) now).known e
        ≡ false
        → state_at master key ≡ Some d.state
    had_taken (Push rows) (Conflicts cs) now master current tells settled =
        had_push rows cs (pushed_place w.fork.documents w.up rows)
        (write w.fork (resolutions resolve cs rows) now) master tells settled
    had_taken (Pull p b) (Docs ss to) now master current tells settled =
        absurd (true≢false (sym pending
        ∙ current_pull w.fork.documents w.known w.down p b k.fork_keys current key d at))
    had_taken (Push rows) (Docs ss to) now master current tells settled =
        no_less w.known d e same pending settled
    had_taken (Pull p b) (Conflicts cs) now master current tells settled =
        no_less w.known d e same pending settled

    -- the reply that arrived was made when the master had the state
    abbrev Had : Option MadeReply → Type 0
    Had o = (r : MadeReply) × (o ≡ Some r) × (state_at r.master.documents key ≡ Some d.state)

    had_arrived : (o : Option OpenRequest) (r : Option MadeReply) (now : ℕ) → w.waiting ≡ o
        → ((x : MadeReply) → r ≡ Some x → Member x w.replies)
        → is_pending (arrived_in resolve w o r now).known e ≡ false → Had r
    had_arrived None r now f m settled = no_less w.known d e same pending settled
    had_arrived (Some o) None now f m settled = no_less w.known d e same pending settled
    had_arrived (Some o) (Some r) now f m settled =
        elim (is_awaited w o r.reply) as (λ b. is_awaited w o r.reply ≡ b
        → is_pending (cond b
        (taken_in w (taking resolve w.fork.documents w.up w.down o.request.ask r.reply.body) now)
        w).known e ≡ false
        → Had (Some r)) [
          | true ↦ (λ h settled.
              let g = due resolve law w k o r f (m r refl) h in (
                r,
                refl,
                had_taken o.request.ask r.reply.body now r.master.documents g.0 g.1.tells settled,
              ))
          | false ↦ (λ h settled. no_less w.known d e same pending settled)
        ] refl settled

    had_fork : {P : Type 0} (o : Option Held) → is_pending (with_fork w o).known e ≡ false → P
    had_fork None settled = no_less w.known d e same pending settled
    had_fork (Some c) settled = no_less w.known d e same pending settled

    had_master : {P : Type 0} (o : Option Held) → is_pending (with_master w o).known e ≡ false → P
    had_master None settled = no_less w.known d e same pending settled
    had_master (Some c) settled = no_less w.known d e same pending settled

    had_reply : {P : Type 0} (q : Request) (o : Option Held)
        → is_pending (with_reply w q o).known e ≡ false → P
    had_reply q None settled = no_less w.known d e same pending settled
    had_reply q (Some c) settled = no_less w.known d e same pending settled

    had_handled : {P : Type 0} (o : Option Request) (now : ℕ)
        → is_pending (handled_in w o now).known e ≡ false → P
    had_handled None now settled = no_less w.known d e same pending settled
    had_handled (Some q) now settled = had_reply q (master_then w.master q.ask now) settled

    -- the migration made the state and the known one equal
    had_migrated : (change : State → State)
        → named (changed_documents change w.fork.documents) key ≡ Some e
        → is_pending (changed_known change w.known) e ≡ false
        → MigratesToKnown w (Migrate change) key d.state
    had_migrated change after settled =
        let is_key : e.state.key ≡ key =
        ap (λ (s : State). s.key) same ∙ key_at w.fork.documents key d k.fork_keys at in
        let was = named_was change w.known key e.state
        (ap (named (changed_known change w.known)) (sym is_key)
        ∙ known_is (named (changed_known change w.known) e.state.key) e.state settled) in
        let is : changed_document change d ≡ e =
        some_same (ap (option_map (changed_document change)) (sym at)
        ∙ sym (named-map (changed_document change) w.fork.documents key) ∙ after) in
        record {
          change = change;
          migrates = refl;
          known = was.x;
          was = was.there;
          equal = was.made ∙ ap (λ (z : Stored). z.state) (sym is);
        }

    had : (s : Step) → named (system_after resolve w s).fork.documents key ≡ Some e
        → is_pending (system_after resolve w s).known e ≡ false
        → ArrivesFromOneWith w s key d.state ⊎ MigratesToKnown w s key d.state
    had (CommitFork ss now) after settled = had_fork (write w.fork ss now) settled
    had (CommitMaster ss now) after settled = had_master (write w.master ss now) settled
    had (Ask batch) after settled = no_less w.known d e same pending settled
    had (Handle which now) after settled =
        had_handled (slice_get (take w.since w.requests) which) now settled
    had (Arrive which now) after settled =
        let x = had_arrived w.waiting (slice_get w.replies which) now refl
        (λ r f. from_slice_get w.replies which r f) settled in
        inl (record {
          which = which;
          now = now;
          arrives = refl;
          reply = x.0;
          comes = x.1;
          had = x.2;
        })
    had Restart after settled = no_less w.known d e same pending settled
    had (Migrate change) after settled = inr (had_migrated change after settled)

  pub kept_pending : IsPendingUntilHeld resolve w
  kept_pending s key d e at pending after same settled =
      had key d e at pending same s after settled
