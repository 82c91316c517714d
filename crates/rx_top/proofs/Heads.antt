-- A whole run from its parts.
use Rattle.std.proofs.Common.{◌≡◌, ◌≤◌, inl, inr, ℕ, ◌+◌, List, length, [], ◌∷◌, ◌++◌, Bool, Result, Some, Err, IsErrOf, refl, sym, ap, subst, append-nil}
use Rattle.rx_disk.specs.declared.disk.Disk.{Ghosts}
use Rattle.rx_disk.proofs.Moments.{started}
use Rattle.rx_engine.specs.Dialled.{DialStanding}
use Rattle.rx_engine.specs.Engine.{IsAt, limit_of}
use Rattle.rx_store.specs.Holds.{GrowsLegally, Leaves, IsIllegalFile, IsJournalOfSome, StandsLegally}
use Rattle.rx_engine.specs.declared.engine.Engine.{Engine}
use Rattle.rx_engine.specs.Opening.{Host, epoch_body, opened}
use Rattle.rx_store.proofs.Growing.{none_yet as none_grown}
use Rattle.rx_frame.specs.File.{end_of}
use Rattle.rx_journal.specs.Reading.{IsUntouched}
use Rattle.rx_engine.specs.Standing.{Standing}
use Rattle.rx_sync.specs.Remote.{Heard}
use Rattle.rx_store.specs.Safe.{IsFull}
use Rattle.rx_outside.specs.declared.stop.Stop.{Stop}
use Rattle.rx_outside.specs.declared.stop.Stop.TheVariants.{Disk, NotJournal, Full, Memory}
use Rattle.rx_world.specs.World.{World}
use Rattle.rx_top.specs.Chunks.{Grouping, Keeps}
use Rattle.rx_top.specs.Hears.{HearsAll}
use Rattle.rx_top.specs.Lines.{lines}
use Rattle.rx_top.specs.Run.{KeepsFrom, KeepsRun, NeedsJournal, Plays, Reads, Writes, due_then, stop_of}
use Rattle.rx_top.specs.Script.{line_effect}
use Rattle.rx_top.specs.Start.{IsStart, StaysLegal}
use Rattle.rx_top.specs.Story.{chunks, state_after}
use Rattle.rx_top.specs.declared.early_end.EarlyEnd.{EarlyEnd}
use Rattle.rx_top.specs.Turns.{HoldsOfTurn}
use Rattle.rx_top.specs.declared.early_end.EarlyEnd.TheVariants.{Read, Work}
use Rattle.rx_top.specs.declared.early_end.ReadFault.TheVariants as fault
use Rattle.rx_top.proofs.Hears.{unheard}
use Rattle.rx_top.proofs.Chunks.{CountsNow, OnlyNow, committed_none, keeps_behind, leaves_then, stays_legal}

-- what is said beside the play is said in other words
pub said_as : {k_tells : Type 0} {w0 w1 input left : List ℕ} {s : Standing}
    {ended : Result Bool EarlyEnd}
    {Shown : List (List ℕ) → List (List ℕ) → Type 0} (P Q : List (List ℕ) → List (List ℕ) → Type 0)
    → ((done rest : List (List ℕ)) → P done rest → Q done rest)
    → Plays line_effect HoldsOfTurn k_tells w0 w1 input left s ended Shown P
    → Plays line_effect HoldsOfTurn k_tells w0 w1 input left s ended Shown Q
said_as P Q f p = record {
  done = p.done;
  rest = p.rest;
  whole = p.whole;
  each = p.each;
  reads = p.reads;
  writes = p.writes;
  shown = p.shown;
  kept = f p.done p.rest p.kept;
}

-- nothing was played
pub unplayed : (tells wires : Type 0) (dial : DialStanding) (w0 w1 input left : List ℕ)
    (s : Standing)
    (ended : Result Bool EarlyEnd) (P : List (List ℕ) → List (List ℕ) → Type 0) → s.heard ≡ []
    → Reads line_effect ended input left [] (lines input) s
    → (tells → Writes ended w0 w1 []) → P [] (lines input)
    → Plays line_effect HoldsOfTurn tells w0 w1 input left s ended
    (HearsAll wires s dial dial ended) P
unplayed tells wires dial w0 w1 input left s ended P none reads writes kept = record {
  done = [];
  rest = lines input;
  whole = refl;
  each = tt;
  reads = reads;
  writes = writes;
  shown = unheard wires dial s ended (lines input) none;
  kept = kept;
}

module _ {D : Type 0} (d : Ghosts D) (bodies : List (List ℕ)) (w : World) where
  nothing_yet : (disk : D) → OnlyNow d disk → IsStart d disk bodies w
      → GrowsLegally d disk disk bodies []
  nothing_yet disk only start =
      started d disk (StandsLegally bodies [])
      (λ c here. none_grown bodies [] w c start.legal (start.alike c (only c here)))

  -- nothing was done to the disk
  pub still_legal : (disk : D) → IsStart d disk bodies w → OnlyNow d disk → CountsNow d disk
      → StaysLegal d disk disk bodies
  still_legal disk start only counts =
      stays_legal d disk disk bodies [] (nothing_yet disk only start) counts

module _
    (by : Grouping) (host : Host) (heard : List Heard) {D : Type 0} (d : Ghosts D)
    (bodies : List (List ℕ)) (w : World) (limit : ℕ)
  where
    -- the opening stopped
    pub open_keeps : (d0 d1 : D) (why : Stop) (rest : List (List ℕ))
        → GrowsLegally d d0 d1 bodies (epoch_body w ∷ []) → CountsNow d d1
        → ((would most : ℕ) → IsErrOf {T = Engine} (Err why) (Full would most)
        → (most ≡ limit) × IsFull d d1 bodies (epoch_body w ∷ []) would most)
        → OnlyNow d d0 → IsStart d d0 bodies w
        → KeepsRun by host heard d d0 d1 bodies w limit (Err (Work why)) [] rest
    open_keeps d0 d1 why rest grows counts full only start = inl (
      λ none. none,
      refl,
      record {
        moments = grows;
        groups = [];
        committed = committed_none by;
        mid = d0;
        steps = nothing_yet d bodies w d0 only start;
        last = subst (λ (bs : List (List ℕ)). GrowsLegally d d0 d1 bs (epoch_body w ∷ []))
            (sym (append-nil bodies))
            grows;
        sure = subst (λ (bs : List (List ℕ)). Leaves d d1 bs (epoch_body w ∷ []))
            (sym (append-nil bodies))
            (leaves_then d d0 d1 bodies (epoch_body w ∷ []) grows counts);
        fits = inl refl;
        full = λ would most is.
            let found = full would most (ap Err (some_stop why (Full would most) is)) in (
              found.0,
              subst (λ (bs : List (List ℕ)). IsFull d d1 bs (epoch_body w ∷ []) would most)
                  (sym (append-nil bodies)) found.1,
            );
      },
    )
      where
        some_stop : (a b : Stop) → Some a ≡ Some b → a ≡ b
        some_stop a b e = cc

    -- memory ran out before the journal was opened
    pub no_reader_keeps : (disk : D) (rest : List (List ℕ)) → IsStart d disk bodies w
        → OnlyNow d disk → CountsNow d disk
        → KeepsRun by host heard d disk disk bodies w limit (Err (Read fault.Memory)) [] rest
    no_reader_keeps disk rest start only counts =
        let here = nothing_yet d bodies w disk only start in
        inl (
          λ none. none,
          refl,
          record {
            moments = here;
            groups = [];
            committed = committed_none by;
            mid = disk;
            steps = here;
            last = subst (λ (bs : List (List ℕ)). GrowsLegally d disk disk bs [])
                (sym (append-nil bodies)) here;
            sure = subst (λ (bs : List (List ℕ)). Leaves d disk bs []) (sym (append-nil bodies))
                (leaves_then d disk disk bodies [] here counts);
            fits = inl refl;
            full = λ would most is. cc;
          },
        )

    -- the lines were played over the journal that was opened
    pub played_keeps : (d0 d1 d2 : D) (first : Engine) (ended : Result Bool EarlyEnd)
        (done rest : List (List ℕ)) → GrowsLegally d d0 d1 bodies (epoch_body w ∷ [])
        → end_of (bodies ++ epoch_body w ∷ []) ≤ limit → limit_of first ≡ limit
        → (s : Standing) → s ≡ opened host heard w → IsAt d d1 first (bodies ++ epoch_body w ∷ [])
        → d.tells
        → KeepsFrom by s d d1 d2 first ended done rest
        → KeepsRun by host heard d d0 d2 bodies w limit ended done rest
    played_keeps d0 d1 d2 first ended done rest grows fits same_limit s same at t kept =
        let all = bodies ++ epoch_body w ∷ [] in
        let here = kept t all at (subst (λ (n : ℕ). end_of all ≤ n) (sym same_limit) fits) in
        let K : Standing → ℕ → Type 0 = λ x n. Keeps by d d1 d2 all (chunks line_effect 1 done x)
        (due_then by (stop_of ended) (length done + 1) rest (state_after line_effect 1 done x)) n
        (stop_of ended) in
        inr (keeps_behind by d d0 d1 d2 bodies (epoch_body w ∷ [])
        (chunks line_effect 1 done (opened host heard w)) _
        limit (stop_of ended) grows
        (subst (λ (x : Standing). K x limit) same (subst (λ (n : ℕ). K s n) same_limit here))
        fits)

-- nothing was done to a disk
pub untouched : {D : Type 0} (d : Ghosts D) (disk : D) → OnlyNow d disk → IsUntouched d disk disk
untouched d disk only = record {
  same = refl;
  crash = λ c now. now;
  moments = started d disk (d.image disk) only;
}

-- a file is no journal, or it is one
pub not_both : {A : Type 0} (file : List ℕ) → IsIllegalFile file → IsJournalOfSome file → A
not_both file illegal legal = absurd (illegal legal.0 legal.1 legal.2)

-- what is said of some end
pub needs_journal : (why : Stop) → NeedsJournal (Err (Work why))
    → (would : ℕ) × (most : ℕ) × (why ≡ Full would most)
needs_journal Disk h = absurd h
needs_journal NotJournal h = absurd h
needs_journal Memory h = absurd h
needs_journal (Full would most) h = (would, most, refl)
