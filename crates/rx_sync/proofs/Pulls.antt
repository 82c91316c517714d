-- A pull that is taken leaves nothing to be pushed.
use Rattle.std.proofs.Common.{◌≡◌, ◌∙◌, ℕ, true, not, List, [], ◌∷◌, length, Option, Some, refl, sym, ap, subst, inl, true≢false}
use Rattle.std.proofs.lemmas.List.{nil_from_length}
use Rattle.rx_value.specs.Due.{◌>>=◌}
use Rattle.rx_value.specs.Named.{named}
use Rattle.rx_value.specs.declared.state.State.{State}
use Rattle.rx_value.proofs.Outcomes.{some_same, not_none}
use Rattle.rx_document.specs.Documents.{Documents}
use Rattle.rx_document.specs.declared.place.Place.{Place}
use Rattle.rx_document.specs.declared.stored.Stored.{Stored}
use Rattle.rx_collection.specs.Held.{Held}
use Rattle.rx_handler.specs.declared.kind.HandlerKind.{HandlerKind}
use Rattle.rx_wire.specs.declared.message.AskKind.{AskKind}
use Rattle.rx_wire.specs.declared.message.AskKind.TheVariants.{Push, Pull}
use Rattle.rx_wire.specs.declared.message.Body.{Body}
use Rattle.rx_wire.specs.declared.message.Body.TheVariants.{Conflicts, Docs}
use Rattle.rx_wire.specs.declared.message.Reply.{Reply}
use Rattle.rx_replication.specs.Known.{KnownStates, is_pending, pending, with_learnt}
use Rattle.rx_replication.specs.Member.{Member}
use Rattle.rx_replication.specs.Request.{IsCurrent}
use Rattle.rx_replication.specs.Taking.{Resolve, Taking, differences, taking}
use Rattle.rx_replication.specs.Write.{AreByKey}
use Rattle.rx_replication.proofs.Commits.{Wrote, write_wrote}
use Rattle.rx_replication.proofs.Distinct.{KeysDiffer, differ-agree}
use Rattle.rx_replication.proofs.Lists.{from_filter}
use Rattle.rx_replication.proofs.Orders.{is_state-itself}
use Rattle.rx_replication.proofs.Pages.{placed, from_placed}
use Rattle.rx_replication.proofs.Taken.{current_pull, none_pending-known, pull_known}
use Rattle.rx_fork.specs.declared.ask.Asked.{Asked}
use Rattle.rx_record.specs.Content.{Content}
use Rattle.rx_world.specs.Made.{IsMadeWorld}
use Rattle.rx_world.specs.World.{World}
use Rattle.rx_world.specs.declared.replication.Replication.{Replication}
use Rattle.rx_sync.specs.Asking.{fork_in, pending_in}
use Rattle.rx_sync.specs.Exchange.{world_after, answer_states, has_pulled, taken_as}
use Rattle.rx_sync.specs.Laws.{IsDueOf, IsLawfulReply, PullLeavesNone}
use Rattle.rx_sync.specs.Taking.{resolve_for}
use Rattle.rx_sync.proofs.Leaves.{LeavesReply, with_side}
use Rattle.rx_sync.proofs.Worlds.{by_key_at}

-- ---- documents that are known

no_member : (ds : List Stored) → ((d : Stored) → Member d ds → ⊥) → ds ≡ []
no_member [] none = refl
no_member (d ∷ ds) none = absurd (none d (inl refl))

-- none of them is pending
pub none_pending : (documents : Documents) (known : KnownStates) → AreByKey documents
    → ((k : List ℕ) (d : Stored) → named documents k ≡ Some d → named known k ≡ Some d.state)
    → pending documents known ≡ []
none_pending documents known by_key each =
    no_member (pending documents known) (λ d m.
    let passed = from_filter (is_pending known) (placed documents) d m in
    true≢false (sym passed.1
    ∙ ap not (is_state-itself (named known d.state.key) d.state
    (each d.state.key d (from_placed documents d by_key passed.0)))))

-- ---- what is to be pushed

pub pending_is : (w : World) (name : List ℕ) (r : Replication) (fork : Held)
    → named w.replications name ≡ Some r → named w.collections r.fork ≡ Some fork
    → pending_in w name ≡ Some (length (pending fork.documents r.side.known))
pending_is w name r fork at held =
    ap (λ (o : Option Replication). o >>= λ r. fork_in w r >>= λ fork.
    Some (length (pending fork.documents r.side.known))) at
    ∙ ap (λ (o : Option Held). o >>= λ fork.
    Some (length (pending fork.documents r.side.known))) held

pub none_to_push : (w : World) (name : List ℕ) (r : Replication) (fork : Held)
    → named w.replications name ≡ Some r → named w.collections r.fork ≡ Some fork
    → pending_in w name ≡ Some 0 → pending fork.documents r.side.known ≡ []
none_to_push w name r fork at held none =
    nil_from_length (pending fork.documents r.side.known)
    (some_same (sym (pending_is w name r fork at held) ∙ none))

-- ---- a pull

-- what has pulled has asked for it
pull_asked : (ask : AskKind) (body : Body) → has_pulled (Some (taken_as ask body)) ≡ true
    → (p : Option Place) × (b : ℕ) × (ask ≡ Pull p b)
pull_asked (Push rows) (Conflicts cs) is = absurd (cc)
pull_asked (Push rows) (Docs ss to) is = absurd (cc)
pull_asked (Pull p b) (Conflicts cs) is = (p, b, refl)
pull_asked (Pull p b) (Docs ss to) is = (p, b, refl)

-- each state becomes known, and is written where the fork's differs
pull_parts : (by : Resolve) (fork : Documents) (up down p : Option Place) (b : ℕ) (body : Body)
    (t : Taking) → KeysDiffer (answer_states body)
    → taking by fork up down (Pull p b) body ≡ Some t
    → (t.rows ≡ differences fork t.known) × KeysDiffer t.known
pull_parts by fork up down p b (Docs ss to) t apart is =
    subst (λ (t : Taking). (t.rows ≡ differences fork t.known) × KeysDiffer t.known) (some_same is)
    (refl, apart)
pull_parts by fork up down p b (Conflicts cs) t apart is = not_none is

module _ (w : World) (made : IsMadeWorld w) (name : List ℕ) (r : Replication) (fork : Held)
    (held : named w.collections r.fork ≡ Some fork) (kind : HandlerKind) (now : ℕ) (asked : Asked)
    (reply : Reply) (due : IsDueOf r fork asked) (lawful : IsLawfulReply fork.schema reply)
    (cs : List Content) (l : LeavesReply w name r fork kind asked reply now cs) where
  module _ (p : Option Place) (b : ℕ) (ask : asked.request.ask ≡ Pull p b) where
    abbrev t : Taking
    t = l.taken_so.of.taken

    by_key : AreByKey fork.documents
    by_key = by_key_at w made r.fork fork held

    current : IsCurrent fork.documents r.side.known r.side.down (Pull p b)
    current =
        subst (IsCurrent fork.documents r.side.known r.side.down) ask
        (due.current l.taken_so.unmoved)

    parts : (t.rows ≡ differences fork.documents t.known) × KeysDiffer t.known
    parts =
        pull_parts (resolve_for kind r) fork.documents r.side.up r.side.down p b reply.body t
        lawful.apart
        (ap (λ (a : AskKind).
        taking (resolve_for kind r) fork.documents r.side.up r.side.down a reply.body) (sym ask)
        ∙ l.taken_so.of.is)

    wrote : Wrote fork.documents (differences fork.documents t.known) l.leaves.new.documents
    wrote =
        subst (λ (ss : List State). Wrote fork.documents ss l.leaves.new.documents) parts.0
        (write_wrote fork t.rows now l.leaves.new l.leaves.wrote)

    none : pending l.leaves.new.documents (with_learnt r.side.known t.known) ≡ []
    none =
        none_pending l.leaves.new.documents (with_learnt r.side.known t.known)
        (wrote.by_key by_key)
        (pull_known fork.documents r.side.known
        (none_pending-known fork.documents r.side.known by_key
        (current_pull fork.documents r.side.known r.side.down p b by_key current)) t.known
        (differ-agree t.known parts.1) l.leaves.new.documents wrote)

    pull_leaves_none : pending_in (world_after cs w) name ≡ Some 0
    pull_leaves_none =
        pending_is (world_after cs w) name
        (with_side r (with_learnt r.side.known t.known) t.up t.down) l.leaves.new l.leaves.learnt
        l.leaves.there
        ∙ ap (λ (ds : List Stored). Some (length ds)) none

  pub taken_leaves_none : PullLeavesNone w name cs (Some (taken_as asked.request.ask reply.body))
  taken_leaves_none is =
      let pull = pull_asked asked.request.ask reply.body is in
      pull_leaves_none pull.0 pull.1 pull.2
