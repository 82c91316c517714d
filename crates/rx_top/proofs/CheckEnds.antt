-- What the end of a check tells.
use Rattle.std.proofs.Common.{◌≡◌, ◌⊎◌, inl, inr, ℕ, List, Option, None, Some, IfSome, refl, subst}
use Rattle.rx_disk.specs.declared.disk.Disk.{Ghosts}
use Rattle.rx_outside.specs.declared.sink.Sink.{Ghosts as SinkGhosts}
use Rattle.rx_outside.specs.declared.stop.Stop.{Stop}
use Rattle.rx_outside.specs.declared.stop.Stop.TheVariants.{Disk, NotJournal, Full, Memory}
use Rattle.rx_store.specs.Holds.{IsLegalFile}
use Rattle.rx_world.specs.World.{World}
use Rattle.rx_top.specs.CheckEnds.{Checked, IsReportedWhole, IsWellServed}
use Rattle.rx_top.specs.Tells.{HasStopCause, TellsStop}
use Rattle.rx_top.proofs.Heads.{not_both}

module _
    {K D : Type 0} (k : SinkGhosts K) (d : Ghosts D) (r : Checked k d) (t : d.tells)
    (bodies : List (List ℕ)) (w : World) (legal : IsLegalFile (d.content r.disk) bodies w)
    (well : IsWellServed k d r bodies w)
  where
    -- the cause, and what was told, where the stop is known
    cause_at : (why : Stop) → r.reports.stop ≡ Some why → HasStopCause d r.disk r.disk' why
    cause_at why is =
        subst (λ (o : Option Stop). IfSome o (HasStopCause d r.disk r.disk')) is r.reports.cause

    abbrev Told : Stop → Type 0
    Told why = TellsStop k.tells (k.faults r.out) (k.faults r.out') (k.written r.out)
        (k.written r.out') r.status why

    told_at : (why : Stop) → r.reports.stop ≡ Some why → Told why
    told_at why is = subst (λ (o : Option Stop). IfSome o Told) is r.reports.stopped

    pub complete : IsReportedWhole k d r bodies w ⊎ (r.status ≡ 6)
    complete = by_stop r.reports.stop refl
      where
        by_stop : (stop : Option Stop) → r.reports.stop ≡ stop
            → IsReportedWhole k d r bodies w ⊎ (r.status ≡ 6)
        by_stop None is = elim ((r.reports.report is).here t bodies w legal) [
          | inl wrote ↦ inl (record { status = wrote.0; told = wrote.1 })
          | inr sunk ↦ absurd (well.sink sunk.1)
        ]
        by_stop (Some Disk) is = absurd (well.disk (cause_at Disk is))
        by_stop (Some NotJournal) is =
            not_both (d.content r.disk) (cause_at NotJournal is t) (bodies, w, legal)
        by_stop (Some (Full would limit)) is = absurd (r.reports.never_full would limit is)
        by_stop (Some Memory) is = inr (told_at Memory is).0
