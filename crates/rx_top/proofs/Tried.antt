-- What the headline of a trial tells of its status, and a trial from its parts.
use Rattle.std.proofs.Common.{◌≡◌, ◌∙◌, refl, sym, ap, subst, ℕ, ◌+◌, List, [], ◌++◌, length, ⊎_elim, inl, inr, Option, None, Some, Result, Err, IfOk, IsErrOf, append-nil}
use Rattle.std.specs.Prelude.{String, string_bytes}
use Rattle.std.specs.Result.{result_err}
use Rattle.std.specs.declared.alloc.Global.{Global}
use Rattle.rx_disk.specs.declared.disk.Disk.{Ghosts}
use Rattle.rx_engine.specs.Dialled.{DialStanding}
use Rattle.rx_engine.specs.Engine.{limit_of}
use Rattle.rx_engine.specs.Opening.{Host}
use Rattle.rx_engine.specs.declared.engine.Engine.{Engine}
use Rattle.rx_engine.specs.Standing.{Standing}
use Rattle.rx_outside.specs.declared.stop.Stop.{Stop}
use Rattle.rx_outside.specs.declared.stop.Stop.TheVariants.{Memory}
use Rattle.rx_sync.specs.Remote.{Heard}
use Rattle.rx_store.proofs.Growing.{behind}
use Rattle.rx_world.specs.World.{World}
use Rattle.rx_top.specs.Chunks.{Keeps, ahead, all_of, singly}
use Rattle.rx_top.specs.Hears.{HearsAll}
use Rattle.rx_top.specs.Run.{KeepsFrom, KeepsRun, due_after, run_chunks}
use Rattle.rx_top.specs.Script.{line_effect}
use Rattle.rx_top.specs.Start.{StaysLegal}
use Rattle.rx_top.specs.Story.{next_chunk, state_after}
use Rattle.rx_top.specs.Tally.{summary_of}
use Rattle.rx_top.specs.TriesScript.{DoesLines, HasTried, as_run}
use Rattle.rx_top.proofs.Hears.{unheard}
use Rattle.rx_top.proofs.Told as by

-- a trial, from its play and what was told of it
pub has_tried : (wires : Type 0) (n0 n1 : DialStanding) (tells : Type 0) (f0 f1 : ℕ)
    (w0 w1 : List ℕ)
    (status : ℕ) (r : Result (String Global) Stop) (lines : List (List ℕ)) (s : Standing)
    (Kept : List (List ℕ) → List (List ℕ) → Type 0)
    → DoesLines lines (result_err r) (HearsAll wires s n0 n1 (as_run (result_err r))) Kept
    → IfOk r (λ t. string_bytes t ≡ summary_of lines s)
    → by.ToldResult tells f0 f1 w0 w1 status r
    → HasTried wires n0 n1 tells f0 f1 w0 w1 lines s status (result_err r) Kept
has_tried wires n0 n1 tells f0 f1 w0 w1 status r lines s Kept does summed told = record {
  does = does;
  told = by.told_as tells f0 f1 w0 w1 status r (summary_of lines s) summed told;
}

-- no line was done
pub none_done : (wires : Type 0) (dial : DialStanding) (s : Standing) (why : Stop)
    (lines : List (List ℕ))
    (Kept : List (List ℕ) → List (List ℕ) → Type 0) → s.heard ≡ [] → Kept [] lines
    → DoesLines lines (Some why) (HearsAll wires s dial dial (as_run (Some why))) Kept
none_done wires dial s why lines Kept none kept = record {
  done = [];
  rest = lines;
  whole = refl;
  all = λ is. cc;
  shown = unheard wires dial s (as_run (Some why)) lines none;
  kept = kept;
}

pub other_err : {A B : Type 0} (why st : Stop) → IsErrOf {T = A} (Err why) st
    → IsErrOf {T = B} (Err why) st
other_err why st h = let same : why ≡ st = cc in ap Err same

-- where nothing is due, a stop for want of memory keeps as much as none
unaware : {D : Type 0} (d : Ghosts D) (old new : D) (bodies : List (List ℕ))
    (cs : List (List (List ℕ))) (next : List (List ℕ)) (limit : ℕ) → next ≡ []
    → Keeps singly d old new bodies cs next limit None
    → Keeps singly d old new bodies cs next limit (Some Memory)
unaware d old new bodies cs next limit none k =
    subst (λ (due : List (List ℕ)). Keeps singly d old new bodies cs due limit (Some Memory))
    (sym none)
    (record {
      moments = k.moments;
      groups = k.groups;
      committed = k.committed;
      mid = k.mid;
      steps = k.steps;
      last = k.last;
      sure = k.sure;
      fits = k.fits;
      full = λ would most is. cc;
    })

-- memory ran out after the last line
pub late_memory : {lines : List (List ℕ)} {wires : Type 0} {n0 n1 : DialStanding} {s : Standing}
    {D : Type 0} {d : Ghosts D} {old new : D} (first : Engine)
    → DoesLines lines None (HearsAll wires s n0 n1 (as_run None))
    (KeepsFrom singly s d old new first (as_run None))
    → DoesLines lines (Some Memory) (HearsAll wires s n0 n1 (as_run (Some Memory)))
    (KeepsFrom singly s d old new first (as_run (Some Memory)))
late_memory {s = s} {d = d} {old = old} {new = new} first does = record {
  done = does.done;
  rest = does.rest;
  whole = does.whole;
  all = λ is. cc;
  shown = record {
    between = does.shown.between;
    lines = does.shown.lines;
    last = λ other. absurd (other refl);
  };
  kept = λ t bodies at le.
      let n = length does.done + 1 in
      let then = state_after line_effect 1 does.done s in
      unaware d old new bodies _ (next_chunk line_effect n does.rest then) (limit_of first)
      (ap (λ (ls : List (List ℕ)). next_chunk line_effect n ls then) (does.all refl))
      (does.kept t bodies at le);
}

-- each image stays legal where chunks are kept
stays : {D : Type 0} (d : Ghosts D) (old new : D) (bodies : List (List ℕ))
    (cs : List (List (List ℕ))) (next : List (List ℕ)) (limit : ℕ) (stop : Option Stop)
    → Keeps singly d old new bodies cs next limit stop → StaysLegal d old new bodies
stays d old new bodies cs next limit stop k = record {
  more = all_of cs ++ ahead stop next;
  moments = k.moments;
  now = λ c here. behind bodies (all_of cs) (ahead stop next) c (k.sure c here);
}

module _
    (host : Host) (heard : List Heard) (wires : Type 0) {D : Type 0} (d : Ghosts D) (old new : D)
    (bodies : List (List ℕ)) (w : World) (limit : ℕ)
  where
    -- what a run of these lines keeps, by how a trial ended
    abbrev pub KeepsTrial : Option Stop → List (List ℕ) → List (List ℕ) → Type 0
    KeepsTrial stop = KeepsRun singly host heard d old new bodies w limit (as_run stop)

    kept_whole : (done rest : List (List ℕ)) → KeepsTrial None done rest
        → Keeps singly d old new bodies (run_chunks host heard w done)
        (due_after host heard w done rest) limit None
    kept_whole done rest (inl un) = absurd (un.0 tt)
    kept_whole done rest (inr keeps) = keeps

    -- all lines were done
    pub all_kept : {Shown : List (List ℕ) → List (List ℕ) → Type 0} (lines : List (List ℕ))
        → DoesLines lines None Shown (KeepsTrial None)
        → (rest : List (List ℕ))
        × Keeps singly d old new bodies (run_chunks host heard w lines)
        (due_after host heard w lines rest) limit None
    all_kept lines does =
        let whole : lines ≡ does.done =
        does.whole ∙ ap (λ (v : List (List ℕ)). does.done ++ v) (does.all refl)
        ∙ append-nil does.done in (
          does.rest,
          subst (λ (v : List (List ℕ)).
              Keeps singly d old new bodies (run_chunks host heard w v)
              (due_after host heard w v does.rest) limit None)
              (sym whole) (kept_whole does.done does.rest does.kept),
        )

    pub stays_legal : {Shown : List (List ℕ) → List (List ℕ) → Type 0} (stop : Option Stop)
        (lines : List (List ℕ)) → DoesLines lines stop Shown (KeepsTrial stop)
        → StaysLegal d old new bodies
    stays_legal stop lines does = ⊎_elim (λ un. stays d old new bodies _ _ limit _ un.2)
        (λ keeps. stays d old new bodies _ _ limit _ keeps) does.kept
