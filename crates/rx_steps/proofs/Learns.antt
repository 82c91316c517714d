-- What a taking learns.
use Rattle.std.proofs.Common.{◌≡◌, ◌≢◌, ◌⊎◌, ◌∙◌, ℕ, List, map, Option, Some, Ok, refl, sym, ap, subst, inl, inr}
use Rattle.rx_value.specs.Named.{named}
use Rattle.rx_value.specs.declared.state.State.{State}
use Rattle.rx_value.proofs.Outcomes.{not_none, some_same}
use Rattle.rx_document.specs.Documents.{Documents}
use Rattle.rx_document.specs.declared.place.Place.{Place}
use Rattle.rx_wire.specs.declared.message.AskKind.{AskKind}
use Rattle.rx_wire.specs.declared.message.AskKind.TheVariants.{Push, Pull}
use Rattle.rx_wire.specs.declared.message.Body.{Body}
use Rattle.rx_wire.specs.declared.message.Body.TheVariants.{Conflicts, Docs}
use Rattle.rx_wire.specs.declared.message.PushRow.{PushRow}
use Rattle.rx_replication.specs.Known.{KnownStates, with_learnt}
use Rattle.rx_replication.specs.Member.{Member}
use Rattle.rx_replication.specs.Taking.{Resolve, Taking, real_state, taking}
use Rattle.rx_replication.proofs.Commits.{IsNewState, IsOld, learn_at}
use Rattle.rx_replication.proofs.Lists.{from_map, to_map}
use Rattle.rx_replication.proofs.Taken.{real_state-key}
use Rattle.rx_sync.specs.Exchange.{row_keys}
use Rattle.rx_sync.specs.Taking.{resolve_for}
use Rattle.rx_sync.proofs.Leaves.{leaves_reply, with_side}
use Rattle.rx_steps.specs.Takings.{EveryTakingLearns, IsToldOf}
use Rattle.rx_steps.proofs.Found.{taking_of}

-- each state that a taking learns has a key that the answer tells of
told_of : (by : Resolve) (fork : Documents) (up down : Option Place) (ask : AskKind) (body : Body)
    (t : Taking) → taking by fork up down ask body ≡ Some t → (s : State) → Member s t.known
    → IsToldOf ask body s.key
told_of by fork up down (Push rows) (Conflicts cs) t is s m =
    let known : t.known ≡ map (real_state cs) rows =
    ap (λ (t : Taking). t.known) (sym (some_same is)) in
    let x = from_map (real_state cs) rows s (subst (λ (ss : List State). Member s ss) known m) in
    let key : x.0.new.key ≡ s.key =
    sym (real_state-key cs x.0) ∙ ap (λ (s : State). s.key) (sym x.2) in
    subst (λ (k : List ℕ). Member k (row_keys rows)) key
    (to_map (λ (row : PushRow). row.new.key) rows x.0 x.1)
told_of by fork up down (Pull place batch) (Docs ss to) t is s m =
    let known : t.known ≡ ss = ap (λ (t : Taking). t.known) (sym (some_same is)) in
    to_map (λ (s : State). s.key) ss s (subst (λ (ss : List State). Member s ss) known m)
told_of by fork up down (Push rows) (Docs ss to) t is s m = not_none is
told_of by fork up down (Pull place batch) (Conflicts cs) t is s m = not_none is

learns_told : (known : KnownStates) (ss : List State) (P : List ℕ → Type 0)
    → ((s : State) → Member s ss → P s.key) → (key : List ℕ)
    → named (with_learnt known ss) key ≢ named known key → P key
learns_told known ss P told key other = by (learn_at known ss key)
  where
    by : IsOld known (with_learnt known ss) ss key ⊎ IsNewState (with_learnt known ss) ss key
        → P key
    by (inl o) = absurd (other o.same)
    by (inr n) = subst P n.key (told n.state n.member)

-- ---- the law

pub taking_learns : EveryTakingLearns
taking_learns w kinds name asked reply now made sound due lawful cs is =
    let f = taking_of w kinds name asked reply now (Ok cs) is in
    let l = leaves_reply w made sound name f.r f.at f.fork f.held f.kind now asked reply
    (due f.r f.at f.fork f.held) (lawful f.r f.at f.fork f.held) cs f.is in
    let t : Taking = l.taken_so.of.taken in
    record {
      before = f.r;
      held = f.at;
      fork = f.fork;
      fork_held = f.held;
      next = with_side f.r (with_learnt f.r.side.known t.known) t.up t.down;
      then_held = l.leaves.learnt;
      same_fork = refl {a = f.r.fork};
      new = l.leaves.new;
      new_held = l.leaves.there;
      kept = learns_told f.r.side.known t.known (IsToldOf asked.request.ask reply.body)
          (told_of (resolve_for f.kind f.r) f.fork.documents f.r.side.up f.r.side.down
          asked.request.ask reply.body t l.taken_so.of.is);
    }
