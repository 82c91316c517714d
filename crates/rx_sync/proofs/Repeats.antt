-- A request that comes twice does what it does once.
use Rattle.std.proofs.Common.{◌≡◌, ◌∙◌, ℕ, ◌≤◌, List, [], Option, Some, None, option_map, refl, ap}
use Rattle.rx_value.specs.Named.{named}
use Rattle.rx_collection.specs.Held.{Held}
use Rattle.rx_handler.specs.Handlers.{Kinds}
use Rattle.rx_wire.specs.declared.message.AskKind.{AskKind}
use Rattle.rx_wire.specs.declared.message.AskKind.TheVariants.{Push, Pull}
use Rattle.rx_replication.specs.Known.{KnownStates}
use Rattle.rx_replication.specs.Master.{body_of, master_then, reply_with, writes}
use Rattle.rx_document.specs.declared.place.Place.{Place}
use Rattle.rx_replication.specs.Request.{IsCurrent}
use Rattle.rx_replication.specs.Write.{AreByKey}
use Rattle.rx_replication.proofs.Commits.{lawful-by_key, write_wrote}
use Rattle.rx_fork.specs.declared.ask.Asked.{Asked}
use Rattle.rx_world.specs.World.{World, Replications}
use Rattle.rx_sync.specs.Asking.{asked_in}
use Rattle.rx_sync.specs.Exchange.{Terms, world_after, behind, handled_again, once_handled, reply_taken}
use Rattle.rx_sync.specs.Handling.{Handled, commits_of, handled_for, written_by}
use Rattle.rx_sync.specs.Laws.{IsReady, TwiceIsOnce}
use Rattle.rx_sync.proofs.Ends.{HasEnds, ends_of}
use Rattle.rx_sync.proofs.Exchanges.{HasHandled, handled_is}
use Rattle.rx_sync.proofs.Going.{current_here, due_here, handled_well}
use Rattle.rx_sync.proofs.Twice.{nothing_again}

-- the master has nothing to write when it is asked again
again_none : (fork c new : Held) (known : KnownStates) (down : Option Place) (m : List ℕ) (now : ℕ)
    (ask : AskKind) → AreByKey fork.documents → AreByKey c.documents
    → IsCurrent fork.documents known down ask → master_then c ask now ≡ Some new
    → commits_of m now ask new ≡ Some []
again_none fork c new known down m now (Push rows) fork_by_key by_key current is =
    ap (written_by m now new)
    (nothing_again fork.documents known down fork_by_key rows current c.documents by_key
    new.documents
    (write_wrote c (writes c.documents rows) now new is))
again_none fork c new known down m now (Pull p b) fork_by_key by_key current is = refl

module _ (w : World) (name : List ℕ) (kinds : Kinds) (ready : IsReady w name kinds) (now n batch :
    ℕ)
    (some : 1 ≤ batch) (asked : Asked) (is : asked_in w name n batch ≡ Some asked) where
  abbrev terms : Terms
  terms = record { name = name; now = now; kinds = kinds }

  again_handled : (h : Handled)
      → (hh : HasHandled w ready.here.master (ends_of w name kinds ready).master now asked.request
      h)
      → handled_for (world_after h.records w) name asked.request now
      ≡ Some (record {
        records = [];
        reply = reply_with asked.request (body_of hh.leaves.new.documents asked.request.ask);
      })
  again_handled h hh =
      let e : HasEnds w name ready.here.replication ready.here.master = ends_of w name kinds
      ready in
      let new = hh.leaves.new in
      handled_is
      (world_after h.records w) name asked.request now ready.here.replication ready.here.master
      new
      (ap (λ (rs : Replications). named rs name) hh.leaves.replications ∙ ready.here.held)
      ready.here.local hh.leaves.there
      ∙ ap (option_map (λ records. record {
        records = records;
        reply = reply_with asked.request (body_of new.documents asked.request.ask);
      }))
      (again_none e.fork e.master new ready.here.replication.side.known
      ready.here.replication.side.down
      ready.here.master now asked.request.ask (lawful-by_key e.fork e.fork_lawful)
      (lawful-by_key e.master e.lawful)
      (current_here w name kinds ready now n batch some asked is) hh.leaves.is)

  twice_by : (o : Option Handled) → handled_for w name asked.request now ≡ o
      → once_handled (handled_again terms asked) w o ≡ once_handled (reply_taken terms asked) w o
  twice_by None at = refl
  twice_by (Some h) at =
      let lawful = (due_here w name kinds ready now n batch some asked is).lawful in
      let hh = handled_well w name kinds ready now asked.request h lawful at in
      ap (λ (o : Option Handled). behind h.records
      (once_handled (λ again v. reply_taken terms asked h v) (world_after h.records w) o))
      (again_handled h hh)

-- so the whole exchange is the same
pub twice_is_once : TwiceIsOnce
twice_is_once t w ready asked (n, batch, some, is) =
    twice_by w t.name t.kinds ready t.now n batch some asked is
    (handled_for w t.name asked.request t.now) refl
