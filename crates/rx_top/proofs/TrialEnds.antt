-- What the end of a trial tells.
use Rattle.std.proofs.Common.{◌≡◌, ◌⊎◌, ⊎_elim, inl, inr, ℕ, List, ◌++◌, Option, None, Some, IfSome, refl, subst}
use Rattle.rx_disk.specs.declared.disk.Disk.{Ghosts}
use Rattle.rx_engine.specs.Opening.{opened}
use Rattle.rx_outside.specs.declared.dial.Dial.{Ghosts as DialGhosts}
use Rattle.rx_outside.specs.declared.sink.Sink.{Ghosts as SinkGhosts}
use Rattle.rx_outside.specs.declared.stop.Stop.{Stop}
use Rattle.rx_outside.specs.declared.stop.Stop.TheVariants.{Disk, NotJournal, Full, Memory}
use Rattle.rx_world.specs.World.{World}
use Rattle.rx_top.specs.Chunks.{singly}
use Rattle.rx_top.specs.Hears.{stands}
use Rattle.rx_top.specs.Run.{KeepsRun, run_bodies}
use Rattle.rx_top.specs.Start.{IsStart}
use Rattle.rx_top.specs.Tells.{HasStopCause}
use Rattle.rx_top.specs.TrialEnds.{EndsSo, IsSummedUp, IsWellServed, Tried, drawn}
use Rattle.rx_top.specs.TriesScript.{HasTried, as_run}
use Rattle.rx_top.proofs.AtEnd.{all_fit, legal_now, past}
use Rattle.rx_top.proofs.Heads.{not_both}
use Rattle.rx_top.proofs.Tried.{all_kept}

module _
    {K D N W : Type 0} (k : SinkGhosts K) (d : Ghosts D) (n : DialGhosts N W) (wires : Type 0)
    (r : Tried k d n wires) (bodies : List (List ℕ)) (w : World)
  where
    abbrev lines : List (List ℕ)
    lines = drawn k d n wires r bodies w

    -- it was tried so, and stopped so
    abbrev pub Has : Option Stop → Type 0
    Has stop =
        HasTried wires (stands n r.dial) (stands n r.dial') k.tells (k.faults r.out)
        (k.faults r.out') (k.written r.out) (k.written r.out') lines (opened r.host r.heard w)
        r.status stop
        (KeepsRun singly r.host r.heard d r.disk r.disk' bodies w r.limit (as_run stop))

    pub ends : (stop : Option Stop) → Has stop → EndsSo k d n wires r bodies w stop
    ends None has =
        let all = all_kept r.host r.heard wires d r.disk r.disk' bodies w r.limit lines has.does in
        record {
          kept = λ c here.
              legal_now (bodies ++ run_bodies r.host r.heard w lines) c (all.1.sure c here);
          fits = ⊎_elim (λ none. cc) (λ le. le) all.1.fits;
        }
    ends (Some (Full would most)) has =
        let p = past r.host r.heard d r.disk r.disk' bodies w r.limit singly would most
        has.does.done has.does.rest has.does.kept in
        (p.0, has.does.done, has.does.rest, record { whole = has.does.whole; past = p.1 })
    ends (Some Disk) has = tt
    ends (Some NotJournal) has = tt
    ends (Some Memory) has = tt

    -- the cause, where the stop is known
    cause_at : (why : Stop) → r.tries.stop ≡ Some why → HasStopCause d r.disk r.disk' why
    cause_at why is =
        subst (λ (o : Option Stop). IfSome o (HasStopCause d r.disk r.disk')) is r.tries.cause

    -- once all was played the summary was written, where the sink didn't fail
    summed_up : Has None → IsWellServed k d n wires r bodies w → IsSummedUp k d n wires r bodies w
    summed_up has well = elim has.told [
      | inl wrote ↦ record { status = wrote.0; told = wrote.1; whole = ends None has }
      | inr sunk ↦ absurd (well.sink sunk.1)
    ]

    pub complete : IsStart d r.disk bodies w → d.tells → IsWellServed k d n wires r bodies w
        → Has r.tries.stop → IsSummedUp k d n wires r bodies w ⊎ (r.status ≡ 6)
    complete start t well has = by_stop r.tries.stop refl has
      where
        by_stop : (stop : Option Stop) → r.tries.stop ≡ stop → Has stop
            → IsSummedUp k d n wires r bodies w ⊎ (r.status ≡ 6)
        by_stop None is has = inl (summed_up has well)
        by_stop (Some Memory) is has = inr has.told.0
        by_stop (Some Disk) is has = absurd (well.disk (cause_at Disk is))
        by_stop (Some NotJournal) is has =
            not_both (d.content r.disk) (cause_at NotJournal is t) (bodies, w, start.legal)
        by_stop (Some (Full would most)) is has =
            let so = ends (Some (Full would most)) has in
            absurd (all_fit r.host r.heard bodies w d r.disk' lines so.1 so.2 would r.limit so.3
            well.fits)
