-- Every list of steps.
use Rattle.std.proofs.Common.{◌≡◌, ℕ, ◌<◌, true, false, cond, List, [], ◌∷◌, length, Option, Some, None, refl, sym, ap, ◌∙◌, subst, arith, true≢false, slice_get}
use Rattle.rx_value.specs.declared.state.State.{State}
use Rattle.rx_value.proofs.Outcomes.{some_same, not_none}
use Rattle.rx_document.specs.Documents.{Documents}
use Rattle.rx_document.specs.declared.place.Place.{Place}
use Rattle.rx_collection.specs.Held.{Held}
use Rattle.rx_wire.specs.declared.message.AskKind.{AskKind}
use Rattle.rx_wire.specs.declared.message.AskKind.TheVariants.{Push, Pull}
use Rattle.rx_wire.specs.declared.message.Body.{Body}
use Rattle.rx_wire.specs.declared.message.Body.TheVariants.{Conflicts, Docs}
use Rattle.rx_replication.specs.Interleaving.{Always, IsQuietThen}
use Rattle.rx_replication.specs.Member.{Member}
use Rattle.rx_replication.specs.Request.{IsCurrent}
use Rattle.rx_replication.specs.Steps.{System, OpenRequest, MadeReply, Step, system_after, with_taking, taken_in, arrived_in, is_awaited, run, start, AreLawfulSteps}
use Rattle.rx_replication.specs.Taking.{Resolve, KeepsKey, taking, differences}
use Rattle.rx_replication.specs.Write.{write, state_at, AreByKey}
use Rattle.rx_replication.proofs.Commits.{write_wrote}
use Rattle.rx_replication.proofs.EachStep.{kept_after, all_known, due}
use Rattle.rx_replication.proofs.Kept.{Tells, IsKept}
use Rattle.rx_replication.proofs.Lists.{from_slice_get}
use Rattle.rx_replication.proofs.Taken.{pull_same}

-- ---- a short pull

module _ (resolve : Resolve) (law : KeepsKey resolve) (w : System) (k : IsKept w) where
  abbrev with_pull : List State → Option Place → Option Held → System
  with_pull ss to o =
      with_taking w (record {
        rows = differences w.fork.documents ss;
        known = ss;
        up = w.up;
        down = to;
      }) o

  quiet_pull : (p : Option Place) (b : ℕ) (ss : List State) (to : Option Place) (m : Documents)
      (o : Option Held) (now : ℕ) (asker : OpenRequest) → w.waiting ≡ Some asker
      → IsCurrent w.fork.documents w.known w.down (Pull p b)
      → Tells w.known (Pull p b) (Docs ss to) m → length ss < b
      → write w.fork (differences w.fork.documents ss) now ≡ o
      → (with_pull ss to o).waiting ≡ None
      → (key : List ℕ) → state_at (with_pull ss to o).fork.documents key ≡ state_at m key
  quiet_pull p b ss to m None now asker waits current tells few e taken key =
      not_none (sym taken ∙ waits)
  quiet_pull p b ss to m (Some c) now asker waits current tells few e taken key =
      pull_same w.fork.documents w.known (all_known resolve law w k p b current) ss tells.0
      c.documents (write_wrote w.fork (differences w.fork.documents ss) now c e) w.up
      k.sound.fork_side key
      ∙ tells.1 few key

  abbrev then_of : AskKind → Body → ℕ → System
  then_of ask body now = taken_in w (taking resolve w.fork.documents w.up w.down ask body) now

  quiet_taken : (ask : AskKind) (body : Body) (m : Documents) (p : Option Place) (b : ℕ)
      (ss : List State) (to : Option Place) (now : ℕ) (asker : OpenRequest) → ask ≡ Pull p b
      → body ≡ Docs ss to → w.waiting ≡ Some asker
      → IsCurrent w.fork.documents w.known w.down ask → Tells w.known ask body m → length ss < b
      → (then_of ask body now).waiting ≡ None → (key : List ℕ)
      → state_at (then_of ask body now).fork.documents key ≡ state_at m key
  quiet_taken (Pull p' b') (Docs ss' to') m p b ss to now asker e g waits current tells few taken
      key =
      let bs : b' ≡ b = cc in
      let states : ss' ≡ ss = cc in
      let few' : length ss' < b' = let l = ap length states in omega arith in
      quiet_pull p' b' ss' to' m (write w.fork (differences w.fork.documents ss') now) now asker
      waits current tells few' refl taken key
  quiet_taken (Push rows) body m p b ss to now asker e g waits current tells few taken key =
      absurd (cc)
  quiet_taken (Pull p' b') (Conflicts cs) m p b ss to now asker e g waits current tells few taken
      key =
      absurd (cc)

  quiet_arrived : (o : Option OpenRequest) (r : Option MadeReply) (x : MadeReply) (now : ℕ)
      (p : Option Place) (b : ℕ) (ss : List State) (to : Option Place) (asker : OpenRequest)
      → w.waiting ≡ o → o ≡ Some asker → r ≡ Some x → Member x w.replies
      → asker.request.ask ≡ Pull p b → x.reply.body ≡ Docs ss to → length ss < b
      → (arrived_in resolve w o r now).waiting ≡ None → (key : List ℕ)
      → state_at (arrived_in resolve w o r now).fork.documents key ≡ state_at x.master.documents key
  quiet_arrived None r x now p b ss to asker e is comes m pull page few taken key = not_none is
  quiet_arrived (Some o) None x now p b ss to asker e is comes m pull page few taken key =
      not_none comes
  quiet_arrived (Some o) (Some r) x now p b ss to asker e is comes m pull page few taken key =
      let same : r ≡ x = some_same comes in
      let asker_is : o ≡ asker = some_same is in
      (elim (is_awaited w o r.reply) as (λ t. is_awaited w o r.reply ≡ t
      → (cond t (then_of o.request.ask r.reply.body now) w).waiting ≡ None
      → state_at (cond t (then_of o.request.ask r.reply.body now) w).fork.documents key
      ≡ state_at x.master.documents key) [
        | true ↦ (λ h taken.
            let g = due resolve law w k o r e
            (subst (λ (z : MadeReply). Member z w.replies) (sym same) m) h in
            quiet_taken o.request.ask r.reply.body r.master.documents p b ss to now o
            (ap (λ (z : OpenRequest). z.request.ask) asker_is ∙ pull)
            (ap (λ (z : MadeReply). z.reply.body) same ∙ page) e g.0 g.1.tells few taken key
            ∙ ap (λ (z : MadeReply). state_at z.master.documents key) same)
        | false ↦ (λ h taken. not_none (sym taken ∙ e))
      ]) refl taken

  pub kept_quiet : IsQuietThen resolve w
  kept_quiet which now r l key =
      quiet_arrived w.waiting (slice_get w.replies which) r now l.place l.batch l.states l.to
      l.request refl l.waits l.comes (from_slice_get w.replies which r l.comes) l.pull l.page l.few
      l.taken key

-- ---- one step after another

pub kept_start : (fork master : Held) → AreByKey fork.documents → AreByKey master.documents
    → (epoch : ℕ) → IsKept (start fork master epoch)
kept_start fork master a b epoch = record {
  sound = record {
    fork_side = record {
      settled = λ k d at h. absurd (true≢false (sym h));
      holds = λ k s at. not_none at;
      reached = tt;
    };
    master_side = record {
      settled = λ k d at h. absurd (true≢false (sym h));
      holds = λ k s at. not_none at;
      reached = tt;
    };
  };
  fork_keys = a;
  master_keys = b;
  differ = tt;
  past = λ q m. absurd m;
  linked = λ r m. absurd m;
  asked = λ o e. not_none e;
  good = λ o e. not_none e;
}

pub kept_run : (resolve : Resolve) → KeepsKey resolve → (steps : List Step) (w : System)
    → AreLawfulSteps steps → IsKept w → IsKept (run resolve steps w)
kept_run resolve law [] w l k = k
kept_run resolve law (s ∷ ss) w l k =
    kept_run resolve law ss (system_after resolve w s) l.1 (kept_after resolve law w k s l.0)

-- what follows of what is kept holds always
pub always : (P : Resolve → System → Type 0)
    → ((resolve : Resolve) → KeepsKey resolve → (w : System) → IsKept w → P resolve w) → Always P
always P each resolve law fork master a b epoch steps l =
    each resolve law (run resolve steps (start fork master epoch))
    (kept_run resolve law steps (start fork master epoch) l (kept_start fork master a b epoch))
