-- What the end of a copy tells.
use Rattle.std.proofs.Common.{◌≡◌, ◌∙◌, ◌≤◌, ◌⊎◌, ⊎_elim, inl, inr, refl, sym, ap, subst, arith, append_assoc, ℕ, List, [], ◌∷◌, ◌++◌, map, Option, None, Some, IfSome}
use Rattle.std.proofs.lemmas.List.{map-append}
use Rattle.rx_compact.specs.Compacting.{IsEmptyDisk}
use Rattle.rx_compact.specs.Plan.{plan}
use Rattle.rx_compact.specs.Writing.{IsPast}
use Rattle.rx_compact.specs.declared.compacting.CompactFault.{CompactFault}
use Rattle.rx_compact.specs.declared.compacting.CompactFault.TheVariants.{Epoch, Exists, Stopped}
use Rattle.rx_disk.specs.declared.disk.Disk.{Ghosts}
use Rattle.rx_frame.specs.File.{end_of}
use Rattle.rx_frame.proofs.Records.{end_of-append}
use Rattle.rx_outside.specs.declared.sink.Sink.{Ghosts as SinkGhosts}
use Rattle.rx_outside.specs.declared.stop.Stop.TheVariants.{Disk, NotJournal, Full, Memory}
use Rattle.rx_record.specs.Content.{Content, content_bytes}
use Rattle.rx_store.specs.Holds.{IsLegalFile}
use Rattle.rx_world.specs.World.{World}
use Rattle.rx_top.specs.CompactEnds.{Compacts, IsCopiedWhole, IsWellServed}
use Rattle.rx_top.specs.CopiesJournal.{HasCopyCause, fault_status, fault_words}
use Rattle.rx_top.specs.Stops.{EndsWith}
use Rattle.rx_top.proofs.Heads.{not_both}

-- where all records fit none ends past the limit
none_past : (cs : List Content) (would limit : ℕ) → IsPast cs would limit
    → end_of (map content_bytes cs) ≤ limit → ⊥
none_past cs would limit past fits =
    let front = past.front ++ past.entry ∷ [] in
    let same : map content_bytes cs ≡ map content_bytes front ++ map content_bytes past.rest =
    ap (λ (xs : List Content). map content_bytes xs)
    (past.whole ∙ sym (append_assoc past.front (past.entry ∷ []) past.rest))
    ∙ map-append content_bytes front past.rest in
    let least = past.past in
    omega (
      arith,
      least,
      past.would_end,
      fits,
      ap end_of same,
      end_of-append (map content_bytes front) (map content_bytes past.rest),
    )

module _
    {K D E : Type 0} (k : SinkGhosts K) (d : Ghosts D) (e : Ghosts E) (r : Compacts k d e)
    (t : d.tells) (u : e.tells) (empty : IsEmptyDisk e r.copy) (bodies : List (List ℕ)) (w : World)
    (legal : IsLegalFile (d.content r.disk) bodies w) (well : IsWellServed k d e r bodies w)
  where
    abbrev CauseOf : CompactFault → Type 0
    CauseOf f = HasCopyCause d e r.limit r.disk r.disk' r.copy r.copy' f

    -- the cause, and what was told, where the fault is known
    cause_at : (f : CompactFault) → r.copies.fault ≡ Some f → CauseOf f
    cause_at f is = subst (λ (o : Option CompactFault). IfSome o CauseOf) is r.copies.cause

    abbrev Told : CompactFault → Type 0
    Told f =
        (r.status ≡ fault_status f)
        × EndsWith k.tells (k.faults r.out) (k.faults r.out') (k.written r.out) (k.written r.out')
        (fault_words f)

    told_at : (f : CompactFault) → r.copies.fault ≡ Some f → Told f
    told_at f is = subst (λ (o : Option CompactFault). IfSome o Told) is r.copies.stopped

    copied : r.copies.fault ≡ None → IsCopiedWhole k d e r bodies w
    copied is =
        let made = r.copies.copied is in
        elim made.1 [
          | inl wrote ↦ record {
            status = wrote.0;
            line = made.0;
            told = wrote.1;
            made = made.2 t u empty bodies w legal;
          }
          | inr sunk ↦ absurd (well.sink sunk.1)
        ]

    pub complete : IsCopiedWhole k d e r bodies w ⊎ (r.status ≡ 6)
    complete = by_fault r.copies.fault refl
      where
        by_fault : (fault : Option CompactFault) → r.copies.fault ≡ fault
            → IsCopiedWhole k d e r bodies w ⊎ (r.status ≡ 6)
        by_fault None is = inl (copied is)
        by_fault (Some Exists) is = absurd (cause_at Exists is u empty.content)
        by_fault (Some Epoch) is =
            let above = (cause_at Epoch is).1 t bodies w legal in
            absurd (omega (arith, above, well.epoch))
        by_fault (Some (Stopped Disk)) is =
            absurd (⊎_elim well.disk well.copy (cause_at (Stopped Disk) is))
        by_fault (Some (Stopped NotJournal)) is =
            not_both (d.content r.disk) ((cause_at (Stopped NotJournal) is).1 t)
            (bodies, w, legal)
        by_fault (Some (Stopped (Full would most))) is =
            absurd (none_past (plan w) would r.limit
            (cause_at (Stopped (Full would most)) is t u empty bodies w legal).1 well.fits)
        by_fault (Some (Stopped Memory)) is = inr (told_at (Stopped Memory) is).0
