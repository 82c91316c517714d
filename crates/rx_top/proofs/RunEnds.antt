-- What the end of a run tells.
use Rattle.rx_serve.specs.Lines.{cut}
use Rattle.std.proofs.Common.{◌≡◌, ◌∙◌, ◌⊎◌, ⊎_elim, inl, inr, ℕ, ◌+◌, List, ◌++◌, Bool, true, false, Result, Ok, Err, None, refl, sym, ap, subst, arith, append_assoc, append-nil, length, length-append, take, cond}
use Rattle.rx_disk.specs.declared.disk.Disk.{Ghosts}
use Rattle.rx_engine.specs.Standing.{Standing}
use Rattle.rx_outside.specs.declared.dial.Dial.{Ghosts as DialGhosts}
use Rattle.rx_outside.specs.declared.sink.Sink.{Ghosts as SinkGhosts}
use Rattle.rx_outside.specs.declared.source.Source.{Ghosts as SourceGhosts}
use Rattle.rx_outside.specs.declared.stop.Stop.{Stop}
use Rattle.rx_outside.specs.declared.stop.Stop.TheVariants.{Disk, NotJournal, Full, Memory}
use Rattle.rx_world.specs.World.{World}
use Rattle.rx_top.specs.Chunks.{Keeps, in_groups}
use Rattle.rx_top.specs.Hears.{stands}
use Rattle.rx_top.specs.PlaysScript.{HasRunCause}
use Rattle.rx_top.specs.Reader.{max_input_bytes}
use Rattle.rx_top.specs.Run.{HasRun, KeepsRun, due_at, run_bodies, run_chunks}
use Rattle.rx_top.specs.RunEnds.{EndsSo, IsPlayedWhole, IsWellServed, Ran, SaysAfter, StopsBehindSome, first, input}
use Rattle.rx_top.specs.Script.{line_effect, transcript}
use Rattle.rx_top.specs.Start.{IsStart}
use Rattle.rx_top.specs.Stops.{full_line, last_words, status_of}
use Rattle.rx_top.specs.Story.{EachLine, any_refused, replies, state_after}
use Rattle.rx_top.specs.Turns.{HoldsOfTurn}
use Rattle.rx_top.specs.declared.early_end.EarlyEnd.{EarlyEnd}
use Rattle.rx_top.specs.declared.early_end.EarlyEnd.TheVariants.{Read, Sink, Work}
use Rattle.rx_top.specs.declared.early_end.ReadFault.TheVariants as fault
use Rattle.rx_top.proofs.AtEnd.{all_fit, legal_now, past}
use Rattle.rx_top.proofs.Heads.{not_both}
use Rattle.rx_top.proofs.Stopping.{no_line, stops_told}
use Rattle.rx_top.proofs.Story.{replies-append}

status_of_ok : (r : Bool) → status_of (Ok r) ≡ cond r 1 0
status_of_ok false = refl
status_of_ok true = refl

module _
    {S K D N W : Type 0} (s : SourceGhosts S) (k : SinkGhosts K) (d : Ghosts D)
    (n : DialGhosts N W) (wires : Type 0) (r : Ran s k d n wires) (bodies : List (List ℕ))
    (w : World)
  where
    -- it has run so, and ended so
    abbrev pub Has : Result Bool EarlyEnd → Type 0
    Has e =
        HasRun r.host r.heard wires (stands n r.dial) (stands n r.dial') k.tells (k.faults r.out)
        (k.faults r.out') (k.written r.out) (k.written r.out') w (s.left r.source)
        (s.left r.source') e
        (KeepsRun in_groups r.host r.heard d r.disk r.disk' bodies w r.limit)

    abbrev s0 : Standing
    s0 = first s k d n wires r bodies w

    abbrev ls : List (List ℕ)
    ls = input s k d n wires r bodies w

    says : (e : Result Bool EarlyEnd) (has : Has e) (done : List (List ℕ))
        → (k.tells → has.before ≡ k.written r.out ++ transcript done s0)
        → SaysAfter s k d n wires r bodies w done (last_words e)
    says e has done told =
        stops_told k.tells (k.faults r.out) (k.faults r.out) (k.faults r.out') (k.written r.out)
        has.before (k.written r.out') (transcript done s0) (last_words e) (omega arith) told
        has.line

    behind_some : (why : Stop) → Has (Err (Work why))
        → StopsBehindSome s k d n wires r bodies w (last_words (Err (Work why)))
    behind_some why has = (
      has.run.done,
      has.run.rest,
      has.run.whole,
      says (Err (Work why)) has has.run.done has.run.writes,
    )

    -- ---- the whole input

    module _ (refused : Bool) (has : Has (Ok refused)) where
      all_done : has.run.done ≡ ls
      all_done = sym (has.run.whole
          ∙ ap (λ (v : List (List ℕ)). has.run.done ++ v) has.run.reads.0
          ∙ append-nil has.run.done)

      keeps_all : Keeps in_groups d r.disk r.disk' bodies (run_chunks r.host r.heard w ls)
          (due_at in_groups r.host r.heard w None ls has.run.rest) r.limit None
      keeps_all = ⊎_elim (λ un. absurd (un.0 tt)) (λ keeps. keeps)
          (subst (λ (v : List (List ℕ)).
          KeepsRun in_groups r.host r.heard d r.disk r.disk' bodies w r.limit (Ok refused) v
          has.run.rest) all_done has.run.kept)

      played_whole : r.status ≡ status_of (Ok refused) → IsPlayedWhole s k d n wires r bodies w
      played_whole status = record {
        refusal = status ∙ status_of_ok refused
            ∙ ap (λ b. cond b 1 0) (has.run.reads.1
            ∙ ap (λ (v : List (List ℕ)). any_refused line_effect 1 v s0) all_done);
        told = λ t.
            no_line (k.faults r.out) (k.faults r.out') has.before (k.written r.out') (has.line t)
            ∙ has.run.writes t
            ∙ ap (λ (v : List (List ℕ)). k.written r.out ++ transcript v s0) all_done;
        kept = λ c here.
            legal_now (bodies ++ run_bodies r.host r.heard w ls) c (keeps_all.sure c here);
        fits = ⊎_elim (λ none. cc) (λ le. le) keeps_all.fits;
        turns = subst (λ (v : List (List ℕ)). EachLine line_effect HoldsOfTurn 1 v s0) all_done
            has.run.each;
      }

    -- ---- each end

    pub ends : (e : Result Bool EarlyEnd) → Has e → r.status ≡ status_of e
        → EndsSo s k d n wires r bodies w e
    ends (Ok refused) has status = played_whole refused has status
    ends (Err (Read fault.Failed)) has status =
        let reads = has.run.reads in (
          reads.0,
          reads.1,
          says (Err (Read fault.Failed)) has (cut reads.0).whole
              (λ t. has.run.writes t
              ∙ ap (λ (v : List (List ℕ)). k.written r.out ++ transcript v s0) reads.2),
        )
    ends (Err (Read fault.TooLong)) has status =
        let reads = has.run.reads in (
          reads.0,
          reads.1,
          reads.2,
          says (Err (Read fault.TooLong)) has (cut (take max_input_bytes reads.0)).whole
              (λ t. has.run.writes t
              ∙ ap (λ (v : List (List ℕ)). k.written r.out ++ transcript v s0) reads.3),
        )
    ends (Err (Read fault.Memory)) has status = (
      has.run.done,
      has.run.rest,
      has.run.whole,
      says (Err (Read fault.Memory)) has has.run.done has.run.writes,
    )
    ends (Err Sink) has status = λ t.
        let front = has.run.writes t in
        let more = replies line_effect (1 + length has.run.done) has.run.rest
        (state_after line_effect 1 has.run.done s0) in (
          front.0,
          front.1 ++ more,
          ap (λ (v : List (List ℕ)). transcript v s0) has.run.whole
              ∙ replies-append line_effect 1 has.run.done has.run.rest s0
              ∙ ap (λ v. v ++ more) front.2
              ∙ append_assoc front.0 front.1 more,
          no_line (k.faults r.out) (k.faults r.out') has.before (k.written r.out') (has.line t)
              ∙ front.3,
        )
    ends (Err (Work Disk)) has status = behind_some Disk has
    ends (Err (Work NotJournal)) has status = behind_some NotJournal has
    ends (Err (Work Memory)) has status = behind_some Memory has
    ends (Err (Work (Full would most))) has status =
        let p = past r.host r.heard d r.disk r.disk' bodies w r.limit in_groups would most
        has.run.done has.run.rest has.run.kept in (
          p.0,
          has.run.done,
          has.run.rest,
          record { whole = has.run.whole; past = p.1 },
          subst (λ (m : ℕ). SaysAfter s k d n wires r bodies w has.run.done (full_line would m))
              p.0 (says (Err (Work (Full would most))) has has.run.done has.run.writes),
        )

    -- played to its end, it played the whole input
    pub whole : (refused : Bool) → r.plays.ended ≡ Ok refused
        → EndsSo s k d n wires r bodies w r.plays.ended
        → IsPlayedWhole s k d n wires r bodies w
    whole refused is so = subst (EndsSo s k d n wires r bodies w) is so

    -- ---- completeness

    -- the cause, where the end is known
    cause_at : (e : Result Bool EarlyEnd) → r.plays.ended ≡ e
        → HasRunCause s k d r.source r.source' r.out r.out' r.disk r.disk' e
    cause_at e is =
        subst (HasRunCause s k d r.source r.source' r.out r.out' r.disk r.disk') is r.plays.cause

    pub complete : IsStart d r.disk bodies w → d.tells
        → IsWellServed s k d n wires r bodies w → EndsSo s k d n wires r bodies w r.plays.ended
        → IsPlayedWhole s k d n wires r bodies w ⊎ (r.status ≡ 6)
    complete start t well so = by_end r.plays.ended refl so
      where
        by_end : (e : Result Bool EarlyEnd) → r.plays.ended ≡ e
            → EndsSo s k d n wires r bodies w e
            → IsPlayedWhole s k d n wires r bodies w ⊎ (r.status ≡ 6)
        by_end (Ok refused) is so = inl so
        by_end (Err (Read fault.Failed)) is so = absurd (well.source (cause_at _ is))
        by_end (Err (Read fault.TooLong)) is so =
            absurd (omega (
              arith,
              well.short,
              so.2,
              ap length so.1,
              length-append so.0 (s.left r.source'),
            ))
        by_end (Err (Read fault.Memory)) is so = inr (r.plays.is_status ∙ ap status_of is)
        by_end (Err Sink) is so = absurd (well.sink (cause_at _ is))
        by_end (Err (Work Disk)) is so = absurd (well.disk (cause_at _ is))
        by_end (Err (Work NotJournal)) is so =
            not_both (d.content r.disk) (cause_at _ is t).illegal (bodies, w, start.legal)
        by_end (Err (Work Memory)) is so = inr (r.plays.is_status ∙ ap status_of is)
        by_end (Err (Work (Full would most))) is so =
            absurd (all_fit r.host r.heard bodies w d r.disk' ls so.1 so.2 would r.limit so.3
            well.fits)
