-- The fork and the master of a replication that may make exchanges.
use Rattle.std.proofs.Common.{◌≡◌, ◌≢◌, ◌∙◌, ℕ, ◌<◌, List, length, Option, Some, refl, sym, ap, subst}
use Rattle.rx_value.specs.Named.{named}
use Rattle.rx_value.specs.declared.state.State.{State}
use Rattle.rx_value.proofs.Outcomes.{some_same}
use Rattle.rx_document.specs.declared.place.Place.{Place}
use Rattle.rx_collection.specs.Held.{Held}
use Rattle.rx_collection.specs.Lawful.{IsLawful}
use Rattle.rx_collection.specs.Since.{since}
use Rattle.rx_handler.specs.Handlers.{Kinds}
use Rattle.rx_handler.specs.declared.kind.HandlerKind.{HandlerKind}
use Rattle.rx_wire.specs.declared.message.AskKind.{AskKind}
use Rattle.rx_wire.specs.declared.message.AskKind.TheVariants.{Pull}
use Rattle.rx_wire.specs.declared.message.Body.{Body}
use Rattle.rx_wire.specs.declared.message.Reply.{Reply}
use Rattle.rx_replication.specs.Master.{body_of}
use Rattle.rx_replication.specs.Request.{IsCurrent}
use Rattle.rx_replication.specs.Sound.{IsSound, IsMasterSound}
use Rattle.rx_replication.specs.Taking.{Taking, differences, taking}
use Rattle.rx_replication.specs.Write.{AreByKey, state_at}
use Rattle.rx_replication.proofs.Commits.{Wrote, lawful-by_key}
use Rattle.rx_replication.proofs.Handled.{pull_agrees, pull_quiet, states_of}
use Rattle.rx_replication.proofs.Taken.{current_pull, none_pending-known, pull_same}
use Rattle.rx_fork.specs.declared.ask.Asked.{Asked}
use Rattle.rx_record.specs.Content.{Content}
use Rattle.rx_record.specs.declared.record.MasterName.{MasterName}
use Rattle.rx_record.specs.declared.record.MasterName.TheVariants.{Local}
use Rattle.rx_world.specs.Linked.{IsLinked, IsMasterOf, HasMaster}
use Rattle.rx_world.specs.Sound.{IsSoundWith}
use Rattle.rx_world.specs.Valid.{AreValid}
use Rattle.rx_world.specs.World.{World}
use Rattle.rx_world.specs.declared.replication.Replication.{Replication}
use Rattle.rx_world.proofs.Steps.{lawful_at}
use Rattle.rx_world.proofs.Valid.{valid_at}
use Rattle.rx_sync.specs.Laws.{IsReady}
use Rattle.rx_sync.specs.Taking.{resolve_for}
use Rattle.rx_sync.proofs.Exchanges.{HasTaken}
use Rattle.rx_sync.proofs.Messages.{from_down}
use Rattle.rx_sync.proofs.Worlds.{linked_at, sound_at}

-- both, with all that holds of them
pub record HasEnds (w : World) (name : List ℕ) (r : Replication) (m : List ℕ) : Type 0 where
  pub link : IsLinked w.collections name r
  pub fork : Held
  pub held : named w.collections r.fork ≡ Some fork
  pub fork_lawful : IsLawful fork
  pub fork_valid : AreValid fork
  pub same_fork : link.fork ≡ fork
  pub master : Held
  pub there : named w.collections m ≡ Some master
  pub lawful : IsLawful master
  pub valid : AreValid master
  pub other : m ≢ r.fork
  pub schema : master.schema ≡ fork.schema
  pub sound : IsSound fork.documents master.documents r.side.known r.side.up r.side.down

pub ends_of : (w : World) (name : List ℕ) (kinds : Kinds) (ready : IsReady w name kinds)
    → HasEnds w name ready.here.replication ready.here.master
ends_of w name kinds ready =
    let r = ready.here.replication in
    let m = ready.here.master in
    let l = linked_at w ready.made name r ready.here.held in
    let of : IsMasterOf w.collections r.fork l.fork.schema m =
    subst (HasMaster w.collections r.fork l.fork.schema) ready.here.local l.master in
    let sound : IsSoundWith w.collections (Local m) l.fork r.side =
    subst (λ (n : MasterName). IsSoundWith w.collections n l.fork r.side) ready.here.local
    (sound_at w ready.sound name r ready.here.held l.fork l.held) in
    record {
      link = l;
      fork = l.fork;
      held = l.held;
      fork_lawful = (lawful_at w r.fork l.fork ready.made.lawful l.held).lawful;
      fork_valid = valid_at w r.fork l.fork ready.made.valid l.held;
      same_fork = refl;
      master = of.master;
      there = of.held;
      lawful = (lawful_at w m of.master ready.made.lawful of.held).lawful;
      valid = valid_at w m of.master ready.made.valid of.held;
      other = of.other;
      schema = of.same;
      sound = sound of.master of.held;
    }

-- ---- a short page makes them equal

module _ (w : World) (name : List ℕ) (r : Replication) (fork master : Held) (kind : HandlerKind)
    (asked : Asked) (reply : Reply) (cs : List Content)
    (fork_lawful : IsLawful fork) (lawful : IsLawful master)
    (sound : IsSound fork.documents master.documents r.side.known r.side.up r.side.down)
    (h : HasTaken w name r fork kind asked reply cs) where
  module _ (p : Option Place) (b : ℕ) (ask : asked.request.ask ≡ Pull p b)
      (current : IsCurrent fork.documents r.side.known r.side.down (Pull p b))
      (body : reply.body ≡ body_of master.documents (Pull p b))
      (few : length (since master.documents p b) < b) where
    abbrev page : List State
    page = states_of (since master.documents p b)

    written_so : Wrote fork.documents (differences fork.documents page) h.new.documents
    written_so =
        let t = h.taken_so in
        let is : taking (resolve_for kind r) fork.documents r.side.up r.side.down (Pull p b)
        (body_of master.documents (Pull p b)) ≡ Some t.of.taken =
        ap (λ (a : AskKind). taking (resolve_for kind r) fork.documents r.side.up r.side.down a
        (body_of master.documents (Pull p b))) (sym ask)
        ∙ ap (λ (y : Body). taking (resolve_for kind r) fork.documents r.side.up r.side.down
        asked.request.ask y) (sym body)
        ∙ t.of.is in
        subst (λ (ss : List State). Wrote fork.documents ss h.new.documents)
        (ap (λ (t : Taking). t.rows) (sym (some_same is))) h.wrote

    pub page_levels : (key : List ℕ) → state_at h.new.documents key ≡ state_at master.documents key
    page_levels key =
        let fork_by_key : AreByKey fork.documents = lawful-by_key fork fork_lawful in
        let by_key : AreByKey master.documents = lawful-by_key master lawful in
        let from = from_down fork.documents r.side.known r.side.down (Pull p b) current in
        let side : IsMasterSound master.documents r.side.known p =
        subst (λ (q : Option Place). IsMasterSound master.documents r.side.known q) (sym from.0)
        sound.master_side in
        pull_same fork.documents r.side.known
        (none_pending-known fork.documents r.side.known fork_by_key
        (current_pull fork.documents r.side.known r.side.down p b fork_by_key current)) page
        (pull_agrees master.documents p b by_key) h.new.documents written_so r.side.up
        sound.fork_side key
        ∙ pull_quiet master.documents p b by_key from.1 side.reached r.side.known side few key
