use Rattle.std.proofs.Common.{◌≡◌, ◌++◌, ◌+◌, ◌≤◌, ℕ, List, [], Ok, Err, IsErrOf, refl, sym, ap, subst, append_assoc, rules, arith}
use Rattle.rx_engine.specs.Engine.{standing_of}
use Rattle.rx_handler.specs.Shown.{kinds_of}
use Rattle.rx_sync.specs.Remote.{Heard}
use Rattle.rx_outside.specs.declared.stop.Stop.TheVariants.{Full}
use Rattle.rx_top.specs.Causes.{by_any, by_disk_or_memory, never_read, source_failed}
use Rattle.rx_top.specs.Hears.{stands}
use Rattle.rx_top.specs.Reader.{Reading, TakesKept, Took, max_input_bytes}
use Rattle.rx_top.specs.declared.reader.Next.TheVariants.{Line, Last, End}
use Rattle.rx_top.proofs.Causes.{later_cause, ok_cause, or_any, read_cause, read_so, same_cause, unread}
use Rattle.rx_top.proofs.Exits.{along_as, begins, took_on, took_within, none_left, only_line, taken_as, reader_stopped, ended, line_failed, last_played, line_played}
use Rattle.rx_top.proofs.Groups.{after_group, group_ended}
use Rattle.rx_top.proofs.Hears.{heard_in}
use Rattle.rx_top.proofs.Joining.{line_joined}
use Rattle.rx_top.proofs.Promptly.{prompt_next}
use Rattle.rx_top.proofs.Stopping.{joined_on, none_joined}
use Rattle.rx_top.proofs.Growth.{grown_end, grown_now, grown_on, not_grown}
use Rattle.rx_top.proofs.play.play.Goals as goal

last_not_line : Last ≡ Line → ⊥
last_not_line e = cc

end_not_line : End ≡ Line → ⊥
end_not_line e = cc

no_error : {A E : Type 0} (x : A) (e : E) → IsErrOf (Ok x) e → ⊥
no_error x e is = cc

pub lines-init : goal.lines-init
lines-init g c = record {
  along = (
    [],
    λ later told. begins (standing_of (kinds_of c.args.handlers.now) later c.args.first) g.D.Disk
        g.K.Sink.tells g.N.W.Wire.tells c.args.disk.now
        (stands g.N.Dial c.args.dial.now) c.args.first
        (g.K.Sink.written c.args.out.now)
        (g.S.Source.left c.args.source.now) c.args.reader.now.unread
        (ap (λ (r : Reading). r.unread) c.requires.fresh)
        (λ t f. g.met.D.Disk.only_now c.args.disk.now f t),
  );
  grown = λ t bodies at. not_grown g.D.Disk c.args.disk.now c.args.first bodies
      (λ f. g.met.D.Disk.only_now c.args.disk.now f t) at;
  told = λ told. none_joined (g.K.Sink.written c.args.out.now);
  took = λ told. ([], refl, sym (ap (λ (r : Reading). r.given) c.requires.fresh));
  source_faults = omega arith;
  sink_faults = omega arith;
  disk_faults = omega arith;
  dial_faults = omega arith;
  within = search rules;
  number = search rules;
}

pub play_group-requires-clause-at : goal.play_group-requires-clause-at
play_group-requires-clause-at g c = λ t.
    let start = c.requires.at t in
    let here = c.lines.invariant.grown t start.0 start.1 in
    (start.0 ++ here.more, here.at)

pub play_group-requires-clause-few : goal.play_group-requires-clause-few
play_group-requires-clause-few g c line =
    omega (arith, c.in-Ok.ensures.smaller line, c.in-Ok.ensures.bounded, c.lines.invariant.number)

pub play_line-requires : goal.play_line-requires
play_line-requires g c = λ t.
    let start = c.requires.at t in
    let had = c.lines.invariant.grown t start.0 start.1 in
    let grew = c.in-Ok-play_group.ensures.grows t (start.0 ++ had.more) had.at in
    ((start.0 ++ had.more) ++ grew.more, grew.safe.at)

pub returns-in-Err-clause-exit : goal.returns-in-Err-clause-exit
returns-in-Err-clause-exit g c =
    let a = c.lines.invariant.along in (
      a.0 ++ [],
      λ told. reader_stopped (a.1 [] told)
          (heard_in (kinds_of c.args.handlers.now) [] c.lines.engine) c.in-Err.fault
          (g.S.Source.left c.next.new.source) (c.in-Err.ensures.stops told c.in-Err.fault refl)
          (λ is. took_on c.lines.reader.given (g.S.Source.left c.args.source.now)
          (g.S.Source.left c.lines.source) _
          (λ n. n ≡ max_input_bytes + 1) (c.lines.invariant.took told)
          (c.in-Err.ensures.too_long told is))
          (λ t f. g.met.D.Disk.only_now c.lines.disk f t),
    )

pub returns-in-Err-clause-legal : goal.returns-in-Err-clause-legal
returns-in-Err-clause-legal g c = λ t bodies at.
    grown_now g.D.Disk c.args.disk.now c.lines.disk c.lines.engine bodies
    (c.lines.invariant.grown t bodies at)
    (λ s f le now. g.met.D.Disk.counts_now c.lines.disk s f t le now)

pub returns-in-Err-clause-within : goal.returns-in-Err-clause-within
returns-in-Err-clause-within g c = λ told short.
    took_on c.lines.reader.given (g.S.Source.left c.args.source.now)
    (g.S.Source.left c.lines.source) _ (λ n. n ≤ max_input_bytes)
    (c.lines.invariant.took told) (c.in-Err.ensures.within told (λ long. short (search rules)))

pub returns-in-End-clause-exit : goal.returns-in-End-clause-exit
returns-in-End-clause-exit g c =
    let a = c.lines.invariant.along in (
      a.0 ++ [],
      λ told.
          let takes : TakesKept End c.next.new.self.line (c.lines.reader.unread
          ++ g.S.Source.left c.lines.source)
          (c.next.new.self.unread
          ++ g.S.Source.left c.next.new.source) = rw c.in-End.is at (c.in-Ok.ensures.next told) in
          ended (a.1 [] told) (heard_in (kinds_of c.args.handlers.now) [] c.lines.engine)
          (g.S.Source.left c.next.new.source) takes.2.0
          (λ t f. g.met.D.Disk.only_now c.lines.disk f t),
    )

pub returns-in-End-clause-legal : goal.returns-in-End-clause-legal
returns-in-End-clause-legal g c = λ t bodies at.
    grown_now g.D.Disk c.args.disk.now c.lines.disk c.lines.engine bodies
    (c.lines.invariant.grown t bodies at)
    (λ s f le now. g.met.D.Disk.counts_now c.lines.disk s f t le now)

pub returns-in-End-clause-whole : goal.returns-in-End-clause-whole
returns-in-End-clause-whole g c = λ told.
    let takes : TakesKept End c.next.new.self.line (c.lines.reader.unread
    ++ g.S.Source.left c.lines.source)
    (c.next.new.self.unread
    ++ g.S.Source.left c.next.new.source) = rw c.in-End.is at (c.in-Ok.ensures.next told) in
    none_left End c.next.new.self.line _ c.next.new.self.unread _ end_not_line takes

pub returns-in-End-clause-within : goal.returns-in-End-clause-within
returns-in-End-clause-within g c = λ told _.
    took_within (c.lines.invariant.took told) (c.in-Ok.ensures.took told) c.in-Ok.ensures.bounded

-- ---- the group

pub returns-in-Err-play_group-clause-exit : goal.returns-in-Err-play_group-clause-exit
returns-in-Err-play_group-clause-exit g c =
    let along = c.lines.invariant.along in (
      along.0 ++ [],
      λ told.
          let left = g.S.Source.left c.next.new.source in
          let a = along.1 [] told in
          group_ended [] a c.in-Err-play_group.cause
          (c.in-Err-play_group.ensures.works
          (c.lines.reader.unread ++ g.S.Source.left c.lines.source) left
          (c.in-Ok.ensures.next told))
          (prompt_next a.bytes _ (g.S.Source.left c.args.source.now) a.so.whole a.so.split
          c.in-Ok.next c.next.new.self.line c.next.new.self.unread left
          c.in_default.not-End (c.in-Ok.ensures.next told) c.in-Ok.ensures.piece)
          refl c.in-Err-play_group.ensures.cause.read
          (λ would most. c.in-Err-play_group.ensures.cause.stop (Full would most))
          (λ t f. g.met.D.Disk.only_now c.play_group.new.disk f t)
          (λ t s f le now. g.met.D.Disk.counts_now c.play_group.new.disk s f t le now),
    )

pub returns-in-Err-play_group-clause-legal : goal.returns-in-Err-play_group-clause-legal
returns-in-Err-play_group-clause-legal g c = λ t bodies at.
    let had = c.lines.invariant.grown t bodies at in
    let grew = c.in-Err-play_group.ensures.grows t (bodies ++ had.more) had.at in
    grown_end had grew.safe
    (λ s f le now. g.met.D.Disk.counts_now c.play_group.new.disk s f t le now)

pub returns-in-Err-play_group-clause-within : goal.returns-in-Err-play_group-clause-within
returns-in-Err-play_group-clause-within g c = λ told _.
    took_within (c.lines.invariant.took told) (c.in-Ok.ensures.took told) c.in-Ok.ensures.bounded

-- ---- a line that is played alone, behind it

pub returns-in-Err-play_line-clause-exit : goal.returns-in-Err-play_line-clause-exit
returns-in-Err-play_line-clause-exit g c =
    let along = c.lines.invariant.along in
    let works = c.in-Err-play_line.ensures.works in
    let later = works.heard ++ [] in (
      along.0 ++ later,
      λ told.
          let left = g.S.Source.left c.next.new.source in
          let done = c.in-Ok-play_group.ensures.works
          (c.lines.reader.unread ++ g.S.Source.left c.lines.source) left
          (c.in-Ok.ensures.next told) in
          let a = after_group later (along.1 later told) done c.in-Ok-play_group.ensures.limit
          (λ t f. g.met.D.Disk.only_now c.play_group.new.disk f t) in
          let behind : TakesKept c.in-Ok.next c.play_group.new.reader.line done.mid
          (c.play_group.new.reader.unread ++ left) = rw c.if-group.false at done.behind in
          line_failed c.in-Err-play_line.cause works a c.in-Ok.next
          (c.play_group.new.reader.unread ++ left) left c.in_default.not-End
          (taken_as _ _ _ _ _ (sym c.line-line.ensures) behind)
          (prompt_next a.bytes done.mid (g.S.Source.left c.args.source.now) a.so.whole a.so.split
          c.in-Ok.next c.play_group.new.reader.line c.play_group.new.reader.unread left
          c.in_default.not-End behind
          (omega (arith, c.in-Ok.ensures.piece, c.in-Ok-play_group.ensures.leads.shorter)))
          c.in-Err-play_line.ensures.cause.read c.in-Err-play_line.ensures.unsaid
          (λ t f. g.met.D.Disk.only_now c.play_line.new.disk f t)
          (λ t s f le now. g.met.D.Disk.counts_now c.play_line.new.disk s f t le now),
    )

pub returns-in-Err-play_line-clause-legal : goal.returns-in-Err-play_line-clause-legal
returns-in-Err-play_line-clause-legal g c = λ t bodies at.
    let had = c.lines.invariant.grown t bodies at in
    let grew = c.in-Ok-play_group.ensures.grows t (bodies ++ had.more) had.at in
    let now = grown_on had grew.safe in
    grown_end now (c.play_line.ensures.works.safe [] t (bodies ++ now.more) now.at)
    (λ s f le here. g.met.D.Disk.counts_now c.play_line.new.disk s f t le here)

pub returns-in-Err-play_line-clause-within : goal.returns-in-Err-play_line-clause-within
returns-in-Err-play_line-clause-within g c = λ told _.
    took_within (c.lines.invariant.took told) (c.in-Ok.ensures.took told) c.in-Ok.ensures.bounded

pub returns-in-Last-clause-exit : goal.returns-in-Last-clause-exit
returns-in-Last-clause-exit g c =
    let along = c.lines.invariant.along in
    let works = c.in-Ok-play_line.ensures.works in
    let later = works.heard ++ [] in (
      along.0 ++ later,
      λ told.
          let left = g.S.Source.left c.next.new.source in
          let done = c.in-Ok-play_group.ensures.works
          (c.lines.reader.unread ++ g.S.Source.left c.lines.source) left
          (c.in-Ok.ensures.next told) in
          let a = after_group later (along.1 later told) done c.in-Ok-play_group.ensures.limit
          (λ t f. g.met.D.Disk.only_now c.play_group.new.disk f t) in
          let behind : TakesKept c.in-Ok.next c.play_group.new.reader.line done.mid
          (c.play_group.new.reader.unread ++ left) = rw c.if-group.false at done.behind in
          last_played c.in-Ok-play_line.played works a (c.play_group.new.reader.unread ++ left) left
          (taken_as Last _ _ _ _ (sym c.line-line.ensures) (rw c.in-Last.is at behind))
          c.in-Ok-play_line.ensures.limit
          (λ t f. g.met.D.Disk.only_now c.play_line.new.disk f t),
    )

pub returns-in-Last-clause-legal : goal.returns-in-Last-clause-legal
returns-in-Last-clause-legal g c = λ t bodies at.
    let had = c.lines.invariant.grown t bodies at in
    let grew = c.in-Ok-play_group.ensures.grows t (bodies ++ had.more) had.at in
    let now = grown_on had grew.safe in
    grown_end now (c.play_line.ensures.works.safe [] t (bodies ++ now.more) now.at)
    (λ s f le here. g.met.D.Disk.counts_now c.play_line.new.disk s f t le here)

pub returns-in-Last-clause-whole : goal.returns-in-Last-clause-whole
returns-in-Last-clause-whole g c = λ told.
    let takes : TakesKept Last c.next.new.self.line (c.lines.reader.unread
    ++ g.S.Source.left c.lines.source)
    (c.next.new.self.unread
    ++ g.S.Source.left c.next.new.source) = rw c.in-Last.is at (c.in-Ok.ensures.next told) in
    none_left Last c.next.new.self.line _ c.next.new.self.unread _ last_not_line takes

pub returns-in-Last-clause-within : goal.returns-in-Last-clause-within
returns-in-Last-clause-within g c = λ told _.
    took_within (c.lines.invariant.took told) (c.in-Ok.ensures.took told) c.in-Ok.ensures.bounded

-- ---- why it ended

pub returns-in-Err-clause-cause : goal.returns-in-Err-clause-cause
returns-in-Err-clause-cause g c =
    read_cause g.K.Sink g.D.Disk
    (source_failed g.S.Source c.args.source.now c.next.new.source)
    (by_any (g.D.Disk.tells → ⊥)) c.args.out.now c.lines.out c.args.disk.now c.lines.disk
    c.lines.invariant.sink_faults c.lines.invariant.disk_faults c.in-Err.fault
    (read_so g.S.Source c.args.source.now c.lines.source c.next.new.source c.in-Err.fault
    c.lines.invariant.source_faults c.in-Err.ensures.cause)

pub returns-in-End-clause-cause : goal.returns-in-End-clause-cause
returns-in-End-clause-cause g c =
    ok_cause g.K.Sink g.D.Disk (source_failed g.S.Source c.args.source.now c.next.new.source)
    (by_any (g.D.Disk.tells → ⊥)) c.args.out.now c.lines.out c.args.disk.now c.lines.disk
    c.lines.invariant.sink_faults c.lines.invariant.disk_faults _

pub returns-in-Err-play_group-clause-cause : goal.returns-in-Err-play_group-clause-cause
returns-in-Err-play_group-clause-cause g c =
    let on_read = source_failed g.S.Source c.args.source.now c.next.new.source in
    later_cause g.K.Sink g.D.Disk never_read on_read by_disk_or_memory
    (by_any (g.D.Disk.tells → ⊥)) c.args.out.now c.lines.out c.play_group.new.out
    c.args.disk.now c.lines.disk c.play_group.new.disk (Err c.in-Err-play_group.cause)
    c.lines.invariant.sink_faults c.lines.invariant.disk_faults (unread on_read)
    (or_any (g.D.Disk.tells → ⊥))
    (same_cause g.K.Sink g.D.Disk never_read by_disk_or_memory c.lines.out c.play_group.new.out
    c.lines.disk c.play_group.new.disk c.in-Err-play_group.cause
    c.in-Err-play_group.ensures.cause)

pub returns-in-Err-play_line-clause-cause : goal.returns-in-Err-play_line-clause-cause
returns-in-Err-play_line-clause-cause g c =
    let on_read = source_failed g.S.Source c.args.source.now c.next.new.source in
    let group = c.in-Ok-play_group.ensures.cause in
    later_cause g.K.Sink g.D.Disk never_read on_read (by_any (g.D.Disk.tells → ⊥))
    (by_any (g.D.Disk.tells → ⊥)) c.args.out.now c.play_group.new.out c.play_line.new.out
    c.args.disk.now c.play_group.new.disk c.play_line.new.disk (Err c.in-Err-play_line.cause)
    (omega (arith, c.lines.invariant.sink_faults, group.sink_faults))
    (omega (arith, c.lines.invariant.disk_faults, group.disk_faults)) (unread on_read)
    (λ why so. so)
    (same_cause g.K.Sink g.D.Disk never_read (by_any (g.D.Disk.tells → ⊥))
    c.play_group.new.out c.play_line.new.out c.play_group.new.disk c.play_line.new.disk
    c.in-Err-play_line.cause c.in-Err-play_line.ensures.cause)

pub returns-in-Last-clause-cause : goal.returns-in-Last-clause-cause
returns-in-Last-clause-cause g c =
    let group = c.in-Ok-play_group.ensures.cause in
    let line = c.in-Ok-play_line.ensures.cause in
    ok_cause g.K.Sink g.D.Disk (source_failed g.S.Source c.args.source.now c.next.new.source)
    (by_any (g.D.Disk.tells → ⊥)) c.args.out.now c.play_line.new.out c.args.disk.now
    c.play_line.new.disk
    (omega (arith, c.lines.invariant.sink_faults, group.sink_faults, line.sink_faults))
    (omega (arith, c.lines.invariant.disk_faults, group.disk_faults, line.disk_faults)) _

-- ---- what was told

pub returns-in-Err-clause-told : goal.returns-in-Err-clause-told
returns-in-Err-clause-told g c = c.lines.invariant.told

pub returns-in-End-clause-told : goal.returns-in-End-clause-told
returns-in-End-clause-told g c = c.lines.invariant.told

pub returns-in-Err-play_group-clause-told : goal.returns-in-Err-play_group-clause-told
returns-in-Err-play_group-clause-told g c told =
    joined_on (g.K.Sink.written c.args.out.now) (c.lines.invariant.told told)
    (c.in-Err-play_group.ensures.told told)

pub returns-in-Err-play_line-clause-told : goal.returns-in-Err-play_line-clause-told
returns-in-Err-play_line-clause-told g c told =
    joined_on (g.K.Sink.written c.args.out.now)
    (joined_on (g.K.Sink.written c.args.out.now) (c.lines.invariant.told told)
    (c.in-Ok-play_group.ensures.told told))
    (line_joined (Err c.in-Err-play_line.cause) c.in-Err-play_line.ensures.works
    c.in-Err-play_line.ensures.unsaid c.in-Err-play_line.ensures.cause.read told)

pub returns-in-Last-clause-told : goal.returns-in-Last-clause-told
returns-in-Last-clause-told g c told =
    joined_on (g.K.Sink.written c.args.out.now)
    (joined_on (g.K.Sink.written c.args.out.now) (c.lines.invariant.told told)
    (c.in-Ok-play_group.ensures.told told))
    (line_joined (Ok c.in-Ok-play_line.played) c.in-Ok-play_line.ensures.works
    (λ k why is. absurd (no_error _ _ is)) (λ f is. no_error _ _ is) told)

-- ---- the loop goes on

-- behind a group whose last line is the one that was read
pub lines-preserved-then-group : goal.lines-preserved-then-group
lines-preserved-then-group g c =
    let along = c.lines.invariant.along in
    let line = c.in-Ok-play_group.ensures.leads.ended c.if-group.true in
    record {
      along = (
        along.0,
        λ later told.
            let left = g.S.Source.left c.next.new.source in
            let done = c.in-Ok-play_group.ensures.works
            (c.lines.reader.unread ++ g.S.Source.left c.lines.source) left
            (c.in-Ok.ensures.next told) in
            let a = after_group later (along.1 later told) done c.in-Ok-play_group.ensures.limit
            (λ t f. g.met.D.Disk.only_now c.play_group.new.disk f t) in
            let behind : done.mid ≡ c.play_group.new.reader.unread ++ left =
            rw c.if-group.true at done.behind in
            along_as refl behind a,
      );
      grown = λ t bodies at.
          let had = c.lines.invariant.grown t bodies at in
          let grew = c.in-Ok-play_group.ensures.grows t (bodies ++ had.more) had.at in
          grown_on had grew.safe;
      told = λ told.
          joined_on (g.K.Sink.written c.args.out.now) (c.lines.invariant.told told)
          (c.in-Ok-play_group.ensures.told told);
      took = λ told. subst (λ (k : ℕ). Took 0 (g.S.Source.left c.args.source.now)
          (g.S.Source.left c.next.new.source) (λ n. n ≡ k))
          (sym c.in-Ok-play_group.ensures.leads.given)
          (took_on c.lines.reader.given (g.S.Source.left c.args.source.now)
          (g.S.Source.left c.lines.source) _
          (λ n. n ≡ c.next.new.self.given) (c.lines.invariant.took told)
          (c.in-Ok.ensures.took told));
      source_faults = omega (arith, c.lines.invariant.source_faults, c.in-Ok.ensures.cause.later);
      sink_faults = omega (
        arith,
        c.lines.invariant.sink_faults,
        c.in-Ok-play_group.ensures.cause.sink_faults,
      );
      disk_faults = omega (
        arith,
        c.lines.invariant.disk_faults,
        c.in-Ok-play_group.ensures.cause.disk_faults,
      );
      dial_faults = search rules;
      within = omega (arith, c.in-Ok.ensures.bounded, c.in-Ok-play_group.ensures.leads.given);
      number = omega (
        arith,
        c.in-Ok.ensures.smaller line,
        c.in-Ok-play_group.ensures.leads.count,
        c.in-Ok-play_group.ensures.leads.given,
        c.lines.invariant.number,
      );
    }

-- behind a line that was played alone
pub lines-preserved : goal.lines-preserved
lines-preserved g c =
    let kinds = kinds_of c.args.handlers.now in
    let along = c.lines.invariant.along in
    let group = c.in-Ok-play_group.group in
    let works = c.in-Ok-play_line.ensures.works in
    let line = only_line c.in-Ok.next c.in_default.not-End c.in_default-next.not-Last in
    record {
      along = (
        along.0 ++ works.heard,
        λ later told.
            let left = g.S.Source.left c.next.new.source in
            let done = c.in-Ok-play_group.ensures.works
            (c.lines.reader.unread ++ g.S.Source.left c.lines.source) left
            (c.in-Ok.ensures.next told) in
            let a = after_group (works.heard ++ later) (along.1 (works.heard ++ later) told) done
            c.in-Ok-play_group.ensures.limit
            (λ t f. g.met.D.Disk.only_now c.play_group.new.disk f t) in
            let behind : TakesKept c.in-Ok.next c.play_group.new.reader.line done.mid
            (c.play_group.new.reader.unread ++ left) = rw c.if-group.false at done.behind in
            along_as (ap (λ (hs : List Heard). standing_of kinds hs c.args.first)
            (sym (append_assoc along.0 works.heard later))) refl
            (line_played c.in-Ok-play_line.played works later a
            (c.play_group.new.reader.unread ++ left)
            (taken_as Line _ _ _ _ (sym c.line-line.ensures) (rw line at behind))
            c.in-Ok-play_line.ensures.limit
            (λ t f. g.met.D.Disk.only_now c.play_line.new.disk f t)),
      );
      grown = λ t bodies at.
          let had = c.lines.invariant.grown t bodies at in
          let grew = c.in-Ok-play_group.ensures.grows t (bodies ++ had.more) had.at in
          let now = grown_on had grew.safe in
          grown_on now (works.safe [] t (bodies ++ now.more) now.at);
      told = λ told.
          joined_on (g.K.Sink.written c.args.out.now)
          (joined_on (g.K.Sink.written c.args.out.now) (c.lines.invariant.told told)
          (c.in-Ok-play_group.ensures.told told))
          (line_joined (Ok c.in-Ok-play_line.played) works
          (λ k why is. absurd (no_error _ _ is)) (λ f is. no_error _ _ is) told);
      took = λ told. subst (λ (k : ℕ). Took 0 (g.S.Source.left c.args.source.now)
          (g.S.Source.left c.next.new.source) (λ n. n ≡ k))
          (sym c.in-Ok-play_group.ensures.leads.given)
          (took_on c.lines.reader.given (g.S.Source.left c.args.source.now)
          (g.S.Source.left c.lines.source) _
          (λ n. n ≡ c.next.new.self.given) (c.lines.invariant.took told)
          (c.in-Ok.ensures.took told));
      source_faults = omega (arith, c.lines.invariant.source_faults, c.in-Ok.ensures.cause.later);
      sink_faults = omega (
        arith,
        c.lines.invariant.sink_faults,
        c.in-Ok-play_group.ensures.cause.sink_faults,
        c.in-Ok-play_line.ensures.cause.sink_faults,
      );
      disk_faults = omega (
        arith,
        c.lines.invariant.disk_faults,
        c.in-Ok-play_group.ensures.cause.disk_faults,
        c.in-Ok-play_line.ensures.cause.disk_faults,
      );
      dial_faults = search rules;
      within = omega (arith, c.in-Ok.ensures.bounded, c.in-Ok-play_group.ensures.leads.given);
      number = omega (
        arith,
        c.in-Ok.ensures.smaller line,
        c.in-Ok-play_group.ensures.leads.count_alone c.if-group.false,
        c.in-Ok-play_group.ensures.leads.given,
        c.lines.invariant.number,
      );
    }

pub lines-smaller : goal.lines-smaller
lines-smaller g c =
    let line = only_line c.in-Ok.next c.in_default.not-End c.in_default-next.not-Last in
    omega (
      arith,
      c.in-Ok.ensures.smaller line,
      c.in-Ok.ensures.bounded,
      c.in-Ok-play_group.ensures.leads.given,
      c.in-Ok-play_group.ensures.leads.shorter,
      c.lines.invariant.within,
    )
