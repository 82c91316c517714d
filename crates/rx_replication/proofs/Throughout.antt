-- No state is invented.
use Rattle.std.proofs.Common.{◌≡◌, ℕ, Bool, true, false, cond, List, [], ◌∷◌, take, Option, Some, None, refl, sym, ap, ◌∙◌, ◌⊎◌, inl, inr, subst, slice_get}
use Rattle.rx_value.specs.Named.{named}
use Rattle.rx_value.specs.declared.state.State.{State}
use Rattle.rx_value.proofs.Outcomes.{some_same, not_none}
use Rattle.rx_document.specs.Documents.{Documents}
use Rattle.rx_document.specs.declared.place.Place.{Place}
use Rattle.rx_document.specs.declared.stored.Stored.{Stored}
use Rattle.rx_collection.specs.Held.{Held}
use Rattle.rx_collection.specs.Since.{since}
use Rattle.rx_wire.specs.declared.message.AskKind.{AskKind}
use Rattle.rx_wire.specs.declared.message.AskKind.TheVariants.{Push, Pull}
use Rattle.rx_wire.specs.declared.message.Body.{Body}
use Rattle.rx_wire.specs.declared.message.Body.TheVariants.{Conflicts, Docs}
use Rattle.rx_wire.specs.declared.message.PushRow.{PushRow}
use Rattle.rx_wire.specs.declared.message.Request.{Request}
use Rattle.rx_replication.specs.Changed.{changed_document, changed_documents, changed_known}
use Rattle.rx_replication.specs.Known.{KnownStates, with_learnt}
use Rattle.rx_replication.specs.Master.{writes, body_of, master_then}
use Rattle.rx_replication.specs.Member.{Member}
use Rattle.rx_replication.specs.Request.{push_row, push_or_pull, ask_of}
use Rattle.rx_replication.specs.Steps.{System, OpenRequest, MadeReply, Step, system_after, with_fork, with_master, with_reply, handled_in, with_taking, taken_in, arrived_in, is_awaited, run, start, AreLawfulSteps}
use Rattle.rx_replication.specs.Steps.Step.{CommitFork, CommitMaster, Ask, Handle, Arrive, Restart, Migrate}
use Rattle.rx_replication.specs.Taking.{Resolve, KeepsKey, Taking, taking, conflict_at, real_or, real_state}
use Rattle.rx_replication.specs.Throughout.{AllPass, DocumentsPass, KnownPass, RowPasses, AskPasses, BodyPasses, SystemPasses, StepPasses, StepsPass, KeepsPassing, HoldsThroughout}
use Rattle.rx_replication.specs.Write.{write, AreByKey}
use Rattle.rx_replication.proofs.Changed.{named_was}
use Rattle.rx_replication.proofs.Commits.{IsAmong, IsOld, IsNew, IsNewState, Wrote, write_wrote, learn_at}
use Rattle.rx_replication.proofs.EachStep.{kept_after}
use Rattle.rx_replication.proofs.Handled.{conflict-among, conflict_held, from_conflicts, from_writes, states_of}
use Rattle.rx_replication.proofs.Kept.{IsKept}
use Rattle.rx_replication.proofs.Lists.{from_map, from_slice_get, from_slice_take}
use Rattle.rx_replication.proofs.Pages.{page, page_held, stands_above, since-page}
use Rattle.rx_replication.proofs.Runs.{kept_start}
use Rattle.rx_replication.proofs.Taken.{pushed, rows_of, pushed_held, real_state-key, from_resolutions, from_differences}

module _ (test : State → Bool) where
  -- ---- writes and learning

  written_by : (old : Documents) (ss : List State) (new : Documents) → DocumentsPass test old
      → AllPass test ss → (k : List ℕ) (d : Stored) → named new k ≡ Some d
      → IsOld old new ss k ⊎ IsNew old new ss k → test d.state ≡ true
  written_by old ss new pass all k d at (inl o) = pass k d (sym o.same ∙ at)
  written_by old ss new pass all k d at (inr n) =
      ap (λ (z : Stored). test z.state) (some_same (sym at ∙ n.held)) ∙ all n.doc.state n.member

  pub written_pass : (old : Documents) (ss : List State) (new : Documents) → Wrote old ss new
      → DocumentsPass test old → AllPass test ss → DocumentsPass test new
  written_pass old ss new w pass all k d at = written_by old ss new pass all k d at (w.at k)

  learnt_by : (known : KnownStates) (ss : List State) → KnownPass test known → AllPass test ss
      → (k : List ℕ) (s : State) → named (with_learnt known ss) k ≡ Some s
      → IsOld known (with_learnt known ss) ss k ⊎ IsNewState (with_learnt known ss) ss k
      → test s ≡ true
  learnt_by known ss pass all k s at (inl o) = pass k s (sym o.same ∙ at)
  learnt_by known ss pass all k s at (inr n) =
      ap test (some_same (sym at ∙ n.held)) ∙ all n.state n.member

  pub learnt_pass : (known : KnownStates) (ss : List State) → KnownPass test known
      → AllPass test ss → KnownPass test (with_learnt known ss)
  learnt_pass known ss pass all k s at = learnt_by known ss pass all k s at (learn_at known ss k)

  -- ---- a change

  module _ (change : State → State) (all : (s : State) → test s ≡ true → test (change s) ≡ true)
    where
      changed_pass : (es : Documents) → DocumentsPass test es
          → DocumentsPass test (changed_documents change es)
      changed_pass es pass k d at =
          let was = named_was (changed_document change) es k d at in
          ap (λ (z : Stored). test z.state) (sym was.made)
          ∙ all was.x.state (pass k was.x was.there)

      changed_known_pass : (known : KnownStates) → KnownPass test known
          → KnownPass test (changed_known change known)
      changed_known_pass known pass k s at =
          let was = named_was change known k s at in
          ap test (sym was.made) ∙ all was.x (pass k was.x was.there)

  -- ---- what is asked

  rows_pass : (fork : Documents) (known : KnownStates) (n : ℕ) → AreByKey fork
      → DocumentsPass test fork → KnownPass test known → (row : PushRow)
      → Member row (rows_of known (pushed fork known n)) → RowPasses test row
  rows_pass fork known n by_key pass knows row m =
      let x = from_map (push_row known) (pushed fork known n) row m in
      subst (RowPasses test) (sym x.2) (record {
        new = pass x.0.state.key x.0 (pushed_held fork known by_key n x.0 x.1);
        assumed = λ s at. knows x.0.state.key s at;
      })

  asked_by : (rows : List PushRow) (down : Option Place) (batch : ℕ)
      → ((row : PushRow) → Member row rows → RowPasses test row)
      → AskPasses test (push_or_pull rows down batch)
  asked_by [] down batch pass = tt
  asked_by (r ∷ rs) down batch pass = pass

  pub asked_pass : (fork : Documents) (known : KnownStates) (down : Option Place) (batch : ℕ)
      → AreByKey fork → DocumentsPass test fork → KnownPass test known
      → AskPasses test (ask_of fork known down batch)
  asked_pass fork known down batch by_key pass knows =
      asked_by (rows_of known (pushed fork known batch)) down batch
      (rows_pass fork known batch by_key pass knows)

  -- ---- what is answered

  states_pass : (m : Documents) (p : Option Place) (n : ℕ) → AreByKey m → DocumentsPass test m
      → AllPass test (states_of (since m p n))
  states_pass m p n by_key pass =
      subst (λ (ds : List Stored). AllPass test (states_of ds)) (sym (since-page m by_key p n))
      (λ s h.
      let x = from_map (λ (d : Stored). d.state) (page m (stands_above p) n) s h in
      ap test x.2 ∙ pass x.0.state.key x.0 (page_held m by_key (stands_above p) n x.0 x.1).0)

  pub answered_pass : (m : Documents) (ask : AskKind) → AreByKey m → DocumentsPass test m
      → BodyPasses test (body_of m ask)
  answered_pass m (Push rows) by_key pass = λ s h.
      let x = from_conflicts m rows s h in
      let y = conflict_held (named m x.0.new.key) x.0 s x.2 in
      ap test (sym y.2) ∙ pass x.0.new.key y.0 y.1
  answered_pass m (Pull p n) by_key pass = states_pass m p n by_key pass

  pub writes_pass : (m : Documents) (rows : List PushRow) → AskPasses test (Push rows)
      → AllPass test (writes m rows)
  writes_pass m rows pass s h =
      let x = from_writes m rows s h in ap test x.2 ∙ (pass x.0 x.1).new

  -- ---- what is taken

  real_by : (row : PushRow) (cs : List State) (o : Option State) → test row.new ≡ true
      → AllPass test cs → IsAmong row.new.key cs o → test (real_or o row.new) ≡ true
  real_by row cs None new pass among = new
  real_by row cs (Some s) new pass among = pass s (among.some s refl).0

  real_passes : (row : PushRow) (cs : List State) → test row.new ≡ true → AllPass test cs
      → test (real_state cs row) ≡ true
  real_passes row cs new pass =
      real_by row cs (conflict_at row.new.key cs) new pass (conflict-among row.new.key cs)

  module _ (resolve : Resolve) (law : KeepsPassing test resolve) where
    pub taking_passes : (fork : Documents) (up down : Option Place) (ask : AskKind) (body : Body)
        (t : Taking) → AskPasses test ask → BodyPasses test body
        → taking resolve fork up down ask body ≡ Some t
        → AllPass test t.rows × AllPass test t.known
    taking_passes fork up down (Push rows) (Conflicts cs) t asks pass is =
        subst (λ (t : Taking). AllPass test t.rows × AllPass test t.known) (some_same is) (
          λ s h.
              let x = from_resolutions resolve cs rows s h in
              ap test x.2
              ∙ law (real_state cs x.0) x.0.new (real_state-key cs x.0)
              (real_passes x.0 cs (asks x.0 x.1).new pass) (asks x.0 x.1).new,
          λ s h.
              let x = from_map (real_state cs) rows s h in
              ap test x.2 ∙ real_passes x.0 cs (asks x.0 x.1).new pass,
        )
    taking_passes fork up down (Pull p b) (Docs ss to) t asks pass is =
        subst (λ (t : Taking). AllPass test t.rows × AllPass test t.known) (some_same is)
        (λ s h. pass s (from_differences fork ss s h), pass)
    taking_passes fork up down (Push rows) (Docs ss to) t asks pass is = not_none is
    taking_passes fork up down (Pull p b) (Conflicts cs) t asks pass is = not_none is

    -- ---- each step

    module _ (w : System) (k : IsKept w) (s : SystemPasses test w) where
      fork_by : (ss : List State) (now : ℕ) (o : Option Held) → AllPass test ss
          → write w.fork ss now ≡ o → SystemPasses test (with_fork w o)
      fork_by ss now None all e = s
      fork_by ss now (Some c) all e = record {
        fork =
            written_pass w.fork.documents ss c.documents (write_wrote w.fork ss now c e) s.fork
            all;
        master = s.master;
        known = s.known;
        requests = s.requests;
        replies = s.replies;
      }

      master_by : (ss : List State) (now : ℕ) (o : Option Held) → AllPass test ss
          → write w.master ss now ≡ o → SystemPasses test (with_master w o)
      master_by ss now None all e = s
      master_by ss now (Some c) all e = record {
        fork = s.fork;
        master =
            written_pass w.master.documents ss c.documents (write_wrote w.master ss now c e)
            s.master all;
        known = s.known;
        requests = s.requests;
        replies = s.replies;
      }

      master_then_pass : (ask : AskKind) (now : ℕ) (c : Held) → AskPasses test ask
          → master_then w.master ask now ≡ Some c → DocumentsPass test c.documents
      master_then_pass (Push rows) now c pass e =
          written_pass w.master.documents (writes w.master.documents rows) c.documents
          (write_wrote w.master (writes w.master.documents rows) now c e) s.master
          (writes_pass w.master.documents rows pass)
      master_then_pass (Pull p n) now c pass e =
          subst (λ (z : Held). DocumentsPass test z.documents) (some_same e) s.master

      reply_by : (q : Request) (now : ℕ) (o : Option Held) → Member q w.requests
          → master_then w.master q.ask now ≡ o → SystemPasses test (with_reply w q o)
      reply_by q now None m e = s
      reply_by q now (Some c) m e = record {
        fork = s.fork;
        master = master_then_pass q.ask now c (s.requests q m) e;
        known = s.known;
        requests = s.requests;
        replies = λ r. elim [
          | inl is ↦ subst (λ (z : MadeReply). BodyPasses test z.reply.body) (sym is)
              (answered_pass w.master.documents q.ask k.master_keys s.master)
          | inr m ↦ s.replies r m
        ];
      }

      handled_by : (o : Option Request) (now : ℕ)
          → ((q : Request) → o ≡ Some q → Member q w.requests)
          → SystemPasses test (handled_in w o now)
      handled_by None now m = s
      handled_by (Some q) now m =
          reply_by q now (master_then w.master q.ask now) (m q refl) refl

      taking_by : (t : Taking) (now : ℕ) (o : Option Held) → AllPass test t.rows
          → AllPass test t.known → write w.fork t.rows now ≡ o
          → SystemPasses test (with_taking w t o)
      taking_by t now None rows knows e = s
      taking_by t now (Some c) rows knows e = record {
        fork =
            written_pass w.fork.documents t.rows c.documents (write_wrote w.fork t.rows now c e)
            s.fork rows;
        master = s.master;
        known = learnt_pass w.known t.known s.known knows;
        requests = s.requests;
        replies = s.replies;
      }

      taken_by : (ask : AskKind) (body : Body) (o : Option Taking) (now : ℕ) → AskPasses test ask
          → BodyPasses test body → taking resolve w.fork.documents w.up w.down ask body ≡ o
          → SystemPasses test (taken_in w o now)
      taken_by ask body None now asks pass e = s
      taken_by ask body (Some t) now asks pass e =
          let x = taking_passes w.fork.documents w.up w.down ask body t asks pass e in
          taking_by t now (write w.fork t.rows now) x.0 x.1 refl

      arrived_by : (o : Option OpenRequest) (r : Option MadeReply) (now : ℕ) → w.waiting ≡ o
          → ((x : MadeReply) → r ≡ Some x → Member x w.replies)
          → SystemPasses test (arrived_in resolve w o r now)
      arrived_by None r now e m = s
      arrived_by (Some o) None now e m = s
      arrived_by (Some o) (Some r) now e m =
          elim (is_awaited w o r.reply) as (λ b. SystemPasses test (cond b
          (taken_in w (taking resolve w.fork.documents w.up w.down o.request.ask r.reply.body) now)
          w)) [
            | true ↦ taken_by o.request.ask r.reply.body
                (taking resolve w.fork.documents w.up w.down o.request.ask r.reply.body) now
                (s.requests o.request (k.asked o e).member) (s.replies r (m r refl)) refl
            | false ↦ s
          ]

      passes_after : (step : Step) → StepPasses test step
          → SystemPasses test (system_after resolve w step)
      passes_after (CommitFork ss now) all = fork_by ss now (write w.fork ss now) all refl
      passes_after (CommitMaster ss now) all = master_by ss now (write w.master ss now) all refl
      passes_after (Ask batch) all = record {
        fork = s.fork;
        master = s.master;
        known = s.known;
        requests = λ q. elim [
          | inl is ↦ subst (λ (z : Request). AskPasses test z.ask) (sym is)
              (asked_pass w.fork.documents w.known w.down batch k.fork_keys s.fork s.known)
          | inr m ↦ s.requests q m
        ];
        replies = s.replies;
      }
      passes_after (Handle which now) all =
          handled_by (slice_get (take w.since w.requests) which) now
          (λ q e. from_slice_take w.since w.requests which q e)
      passes_after (Arrive which now) all =
          arrived_by w.waiting (slice_get w.replies which) now refl
          (λ r e. from_slice_get w.replies which r e)
      passes_after Restart all = record {
        fork = s.fork;
        master = s.master;
        known = s.known;
        requests = s.requests;
        replies = s.replies;
      }
      passes_after (Migrate change) all = record {
        fork = changed_pass change all w.fork.documents s.fork;
        master = changed_pass change all w.master.documents s.master;
        known = changed_known_pass change all w.known s.known;
        requests = s.requests;
        replies = s.replies;
      }

    passes_run : KeepsKey resolve → (steps : List Step) (w : System) → AreLawfulSteps steps
        → StepsPass test steps → IsKept w → SystemPasses test w
        → SystemPasses test (run resolve steps w)
    passes_run keeps [] w l all k s = s
    passes_run keeps (step ∷ steps) w l all k s =
        passes_run keeps steps (system_after resolve w step) l.1 all.1
        (kept_after resolve keeps w k step l.0) (passes_after w k s step all.0)

pub throughout : HoldsThroughout
throughout test resolve keeps law fork master a b pf pm epoch steps l all =
    passes_run test resolve law keeps steps (start fork master epoch) l all
    (kept_start fork master a b epoch) (record {
      fork = pf;
      master = pm;
      known = λ k s at. not_none at;
      requests = λ q m. absurd m;
      replies = λ r m. absurd m;
    })
