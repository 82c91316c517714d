-- What a master of a world writes.
use Rattle.std.proofs.Common.{◌≡◌, ◌≢◌, ◌∙◌, ℕ, ◌<◌, List, [], ◌∷◌, map, length, Option, Some, None, option_map, refl, ap, subst, arith}
use Rattle.std.specs.List.{AllByRecursion}
use Rattle.std.specs.Map.{values_of}
use Rattle.rx_value.specs.Named.{named}
use Rattle.rx_value.specs.declared.state.State.{State}
use Rattle.rx_value.proofs.Outcomes.{some_same, not_none}
use Rattle.rx_document.specs.declared.stored.Stored.{Stored}
use Rattle.rx_collection.specs.Commit.{by_key, row_of, rows_of, with_rows}
use Rattle.rx_collection.specs.Held.{Held}
use Rattle.rx_collection.specs.Time.{stamp}
use Rattle.rx_collection.proofs.Commits.{stamped}
use Rattle.rx_wire.specs.declared.message.AskKind.{AskKind}
use Rattle.rx_wire.specs.declared.message.AskKind.TheVariants.{Push, Pull}
use Rattle.rx_replication.specs.Master.{writes, master_then}
use Rattle.rx_replication.specs.Write.{write}
use Rattle.rx_record.specs.Content.{Content, rows}
use Rattle.rx_world.specs.Commit.{out_of}
use Rattle.rx_world.specs.Step.{IsValidState, stored_rows, written_to}
use Rattle.rx_world.specs.Touch.{IsNoExchange}
use Rattle.rx_world.specs.World.{World}
use Rattle.rx_world.proofs.Commits.{IsFit, fit_at}
use Rattle.rx_world.proofs.Looked.{named-change_same, named-change_other}
use Rattle.rx_world.proofs.Steps.{lawful_at}
use Rattle.rx_sync.specs.Exchange.{world_after}
use Rattle.rx_sync.specs.Handling.{written_by, commits_of}
use Rattle.rx_sync.specs.Laws.{MayComeInTurn}
use Rattle.rx_world.specs.Made.{IsMadeWorld}
use Rattle.rx_sync.proofs.Worlds.{called_at}

-- the rows of a commit are stored as they are
pub stored-out : (c : Held) (lwt : ℕ) (ss : List State)
    → stored_rows c.name lwt (map out_of (map (row_of c lwt) ss)) ≡ map (row_of c lwt) ss
stored-out c lwt [] = refl
stored-out c lwt (s ∷ ss) = ap (λ (rs : List Stored). row_of c lwt s ∷ rs) (stored-out c lwt ss)

pub written-out : (c : Held) (lwt : ℕ) (ss : List State)
    → written_to lwt (map out_of (rows_of c ss lwt)) c ≡ with_rows c (rows_of c ss lwt)
written-out c lwt ss = ap (with_rows c) (stored-out c lwt (values_of (by_key ss)))

-- what records of a master leave: they may come, the master is then the written one, and all else
-- stays
pub record LeavesWritten (w : World) (m : List ℕ) (written : Option Held) (cs : List Content)
    : Type 0 where
  pub next : MayComeInTurn w cs
  pub plain : AllByRecursion IsNoExchange cs
  pub new : Held
  pub there : named (world_after cs w).collections m ≡ Some new
  pub is : written ≡ Some new
  pub others : (k : List ℕ) → k ≢ m → named (world_after cs w).collections k ≡ named w.collections k
  pub replications : (world_after cs w).replications ≡ w.replications
  pub epoch : (world_after cs w).epoch ≡ w.epoch

module _ (w : World) (made : IsMadeWorld w) (m : List ℕ) (c : Held)
    (at : named w.collections m ≡ Some c) where
  leaves_same : LeavesWritten w m (Some c) []
  leaves_same = record {
    next = tt;
    plain = tt;
    new = c;
    there = at;
    is = refl;
    others = λ k other. refl;
    replications = refl;
    epoch = refl;
  }

  leaves_commit : (s : State) (ss : List State) (lwt now : ℕ)
      → AllByRecursion (IsValidState c.schema) (s ∷ ss) → stamp c.documents now ≡ Some lwt
      → LeavesWritten w m (Some (with_rows c (rows_of c (s ∷ ss) lwt)))
      (rows m lwt (map out_of (rows_of c (s ∷ ss) lwt)) ∷ [])
  leaves_commit s ss lwt now valid stamped_at =
      let outs = map out_of (rows_of c (s ∷ ss) lwt) in
      let called : c.name ≡ m = called_at w made m c at in
      let some : 0 < length (s ∷ ss) = omega arith in
      let lawful = (lawful_at w m c made.lawful at).lawful in
      let fit : IsFit c (rows c.name lwt outs) =
      fit_at c (s ∷ ss) lwt (stamped c now lwt lawful stamped_at) some valid in
      let fit_here : IsFit c (rows m lwt outs) =
      subst (λ (k : List ℕ). IsFit c (rows k lwt outs)) called fit in
      let held : named w.collections c.name ≡ Some c = ap (named w.collections) called ∙ at in
      record {
        next = (
          record { lawful = fit_here.legal w held; ordered = fit_here.ordered; no_migration = tt },
          tt,
        );
        plain = (tt, tt);
        new = with_rows c (rows_of c (s ∷ ss) lwt);
        there =
            named-change_same (written_to lwt outs) w.collections m
            ∙ ap (option_map (written_to lwt outs)) at
            ∙ ap Some (written-out c lwt (s ∷ ss));
        is = refl;
        others = λ k other. named-change_other (written_to lwt outs) w.collections m k other;
        replications = refl;
        epoch = refl;
      }

  -- by the write time that there is
  leaves_by : (s : State) (ss : List State) (now : ℕ) (cs : List Content) (o : Option ℕ)
      → AllByRecursion (IsValidState c.schema) (s ∷ ss) → stamp c.documents now ≡ o
      → option_map (λ r. r ∷ [])
      (option_map (λ lwt. rows m lwt (map out_of (rows_of c (s ∷ ss) lwt))) o) ≡ Some cs
      → LeavesWritten w m (option_map (λ lwt. with_rows c (rows_of c (s ∷ ss) lwt)) o) cs
  leaves_by s ss now cs None valid is at = not_none at
  leaves_by s ss now cs (Some lwt) valid is at =
      subst (λ (cs : List Content).
      LeavesWritten w m (Some (with_rows c (rows_of c (s ∷ ss) lwt))) cs) (some_same at)
      (leaves_commit s ss lwt now valid is)

  pub leaves_written : (ss : List State) (now : ℕ) (cs : List Content)
      → AllByRecursion (IsValidState c.schema) ss → written_by m now c ss ≡ Some cs
      → LeavesWritten w m (write c ss now) cs
  leaves_written [] now cs valid is =
      subst (λ (cs : List Content). LeavesWritten w m (Some c) cs) (some_same is) leaves_same
  leaves_written (s ∷ ss) now cs valid is =
      leaves_by s ss now cs (stamp c.documents now) valid refl is

  -- the states that a master takes of a lawful request are valid
  abbrev pub ValidWrites : AskKind → Type 0
  ValidWrites (Push pushed) = AllByRecursion (IsValidState c.schema) (writes c.documents pushed)
  ValidWrites (Pull place batch) = Unit {0}

  pub leaves_commits : (ask : AskKind) (now : ℕ) (cs : List Content) → ValidWrites ask
      → commits_of m now ask c ≡ Some cs → LeavesWritten w m (master_then c ask now) cs
  leaves_commits (Push pushed) now cs valid is =
      leaves_written (writes c.documents pushed) now cs valid is
  leaves_commits (Pull place batch) now cs valid is =
      subst (λ (cs : List Content). LeavesWritten w m (Some c) cs) (some_same is) leaves_same
