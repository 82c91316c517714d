use Rattle.std.proofs.Common.{◌≡◌, ◌≤◌, ◌+◌, max, ℕ, List, [], Option, None, Some, Ok, Result, refl, sym, ◌∙◌, ap, subst, arith, rules}
use Rattle.std.proofs.lemmas.Result.{IfOk-from_err}
use Rattle.std.specs.Borrow.{Bor}
use Rattle.rx_frame.specs.Gate.{IsClosed, NextIs}
use Rattle.rx_journal.specs.Windows.{Move, WillLend, gate_place, left, version_of}
use Rattle.rx_journal.specs.declared.open.OpenFault.{OpenFault}
use Rattle.rx_journal.proofs.Moving.{closed_left}
use Rattle.rx_outside.proofs.Counts.{rises_later}
use Rattle.std.proofs.Math.Nat.{max-le}
use Rattle.rx_world.specs.Copy.{most_copied_epoch}
use Rattle.rx_store.specs.Phase.{epoch_of, world_to_come}
use Rattle.rx_store.specs.Versions.{replay_in}
use Rattle.rx_store.proofs.Phases.{all_played, goes_on, made_none, not_read, played_all, played_one, read_all, read_one, refused}
use Rattle.rx_store.proofs.Playing.{Lends, disk_is, not_full, not_yet, read_on, stop_is}
use Rattle.rx_store.proofs.phase.play.Goals as goal

pub loop-body-init : goal.loop-body-init
loop-body-init g c =
    let version = version_of c.args.windows.now in
    let first = c.begin-phase.result in
    let all : (bodies : List (List ℕ))
    → replay_in version bodies ≡ world_to_come g.H.Holder.held first bodies =
    λ bodies.
    ap (λ v. replay_in v bodies) (sym c.version.ensures) ∙ c.begin-phase.ensures.all bodies in
    record {
      untouched = λ told.
          not_yet g.D.Disk c.args.disk.now (λ f. g.met.D.Disk.only_now c.args.disk.now f told);
      only_reads = λ told. refl;
      playing = λ told bodies will. (bodies, will, all bodies);
      lent = λ told lent. ([], lent, all);
      counted = λ told. record {
        done = [];
        before = λ rest will. will;
        plays = all;
        counted = refl;
        sized = refl;
      };
      epoch = omega (arith, c.begin-phase.ensures.epoch);
      fewer = omega arith;
      size = omega arith;
      made = made_none (λ held h. g.F.Fn.post c.args.make.now (held, tt) (Ok h))
          g.H.Holder.written first c.begin-phase.ensures.none;
      limit = refl;
      faults = omega arith;
    }

pub returns-in-Ok-None-clause-epochs : goal.returns-in-Ok-None-clause-epochs
returns-in-Ok-None-clause-epochs g c =
    omega (arith, c.loop-body.invariant.epoch, c.loop-body.windows.short)

pub returns-in-Ok-None-clause-counted : goal.returns-in-Ok-None-clause-counted
returns-in-Ok-None-clause-counted g c = λ told.
    let content = g.D.Disk.content c.args.disk.now in
    let inv = c.loop-body.invariant in
    let now = c.next.follows.lender-at-none in
    let move : Move g.D.Disk c.loop-body.disk c.next.new.disk c.loop-body.windows now
    (λ (b : Bor (List ℕ)). b.now) (Ok None) =
    subst (λ (r : Result (Option (Bor (List ℕ))) OpenFault).
    Move g.D.Disk c.loop-body.disk c.next.new.disk
    c.loop-body.windows now (λ (b : Bor (List ℕ)). b.now) r)
    (c.in-Ok-None.is ∙ ap (λ o. Ok o) c.in-Ok-None.field-0-is) c.next.follows.holds-at-none in
    let here = g.D.Disk.content c.loop-body.disk in
    let closed : IsClosed (left c.loop-body.windows here) =
    subst IsClosed (move.stay told).bytes (closed_left now here move.end) in
    read_all g.H.Holder.held
    (version_of c.args.windows.now) content c.args.windows.now c.loop-body.windows
    c.loop-body.phase c.loop-body.records c.loop-body.bytes
    (subst (λ (l : List ℕ). IsClosed (left c.loop-body.windows l)) (inv.untouched told).same closed)
    c.loop-body.windows.short (inv.counted told)

pub returns-in_err-phase-clause-untouched : goal.returns-in_err-phase-clause-untouched
returns-in_err-phase-clause-untouched g c = λ told.
    read_on g.D.Disk c.args.disk.now c.loop-body.disk c.next.new.disk
    (c.loop-body.invariant.untouched told)
    (c.in-Ok-Some.ensures.untouched told)

pub returns-in-Err-clause-not_journal : goal.returns-in-Err-clause-not_journal
returns-in-Err-clause-not_journal g c = λ told is.
    let content = g.D.Disk.content c.args.disk.now in
    let same = (c.loop-body.invariant.untouched told).same in
    not_read g.H.Holder.held
    (version_of c.args.windows.now) content c.args.windows.now c.loop-body.windows
    c.loop-body.phase
    (c.loop-body.invariant.playing told)
    (λ bodies will.
    c.in-Err.ensures.not_journal told
    (stop_is c.in-Err.fault c.of_open.result c.of_open.ensures is) bodies
    (subst (λ (l : List ℕ). WillLend l c.loop-body.windows bodies) (sym same) will))

pub returns-in_err-phase-clause-not_journal : goal.returns-in_err-phase-clause-not_journal
returns-in_err-phase-clause-not_journal g c = λ told is.
    let content = g.D.Disk.content c.args.disk.now in
    let same = (c.loop-body.invariant.untouched told).same in
    let now = c.next.follows.lender-at-none in
    let body = c.in-Ok-Some.body in
    let move : Move g.D.Disk c.loop-body.disk c.next.new.disk c.loop-body.windows now
    (λ (b : Bor (List ℕ)). b.now) (Ok (Some body)) =
    subst (λ (r : Result (Option (Bor (List ℕ))) OpenFault).
    Move g.D.Disk c.loop-body.disk c.next.new.disk
    c.loop-body.windows now (λ (b : Bor (List ℕ)). b.now) r)
    (c.in-Ok-Some.is ∙ ap (λ o. Ok o) c.in-Ok-Some.field-0-is) c.next.follows.holds-at-none in
    let lends : Lends content c.loop-body.windows body.now now =
    subst (λ (l : List ℕ). Lends l c.loop-body.windows body.now now) same (move.lends told) in
    refused g.H.Holder.held
    (version_of c.args.windows.now) content c.args.windows.now c.loop-body.windows now body.now
    c.loop-body.phase (c.loop-body.invariant.playing told) lends
    (c.in_err-phase.ensures.not_journal (search rules))

pub loop-body-preserved : goal.loop-body-preserved
loop-body-preserved g c =
    let content = g.D.Disk.content c.args.disk.now in
    let inv = c.loop-body.invariant in
    let now = c.next.follows.lender-at-none in
    let body = c.in-Ok-Some.body in
    let w = c.loop-body.phase in
    let w' = c.in_ok-phase.phase in
    let move : Move g.D.Disk c.loop-body.disk c.next.new.disk c.loop-body.windows now
    (λ (b : Bor (List ℕ)). b.now) (Ok (Some body)) =
    subst (λ (r : Result (Option (Bor (List ℕ))) OpenFault).
    Move g.D.Disk c.loop-body.disk c.next.new.disk
    c.loop-body.windows now (λ (b : Bor (List ℕ)). b.now) r)
    (c.in-Ok-Some.is ∙ ap (λ o. Ok o) c.in-Ok-Some.field-0-is) c.next.follows.holds-at-none in
    record {
      untouched = λ told.
          read_on g.D.Disk c.args.disk.now c.loop-body.disk c.next.new.disk (inv.untouched told)
          (c.in-Ok-Some.ensures.untouched told);
      only_reads = λ told. c.in-Ok-Some.ensures.only_reads told ∙ inv.only_reads told;
      playing = λ told.
          goes_on g.H.Holder.held (version_of c.args.windows.now) content c.args.windows.now
          c.loop-body.windows now body.now w w'
          (inv.playing told)
          (subst (λ (l : List ℕ). Lends l c.loop-body.windows body.now now)
          (inv.untouched told).same
          (move.lends told)) c.in_ok-phase.ensures.ok;
      lent = λ told first.
          played_one g.H.Holder.held (version_of c.args.windows.now) g.D.Disk c.loop-body.disk
          c.next.new.disk c.loop-body.windows now body.now w w'
          (move.lent told) c.in_ok-phase.ensures.ok (inv.lent told first);
      counted = λ told.
          read_one g.H.Holder.held (version_of c.args.windows.now) content c.args.windows.now
          c.loop-body.windows now body.now w w'
          c.loop-body.records c.loop-body.bytes
          (subst (λ (l : List ℕ). NextIs (left c.loop-body.windows l) body.now (left now l))
          (inv.untouched told).same (move.stood told))
          move.place c.in_ok-phase.ensures.ok (inv.counted told);
      epoch =
          let earlier = inv.epoch in
          let moved = move.place in
          let most : max (epoch_of c.loop-body.phase + 1) most_copied_epoch
          ≤ most_copied_epoch + gate_place now =
          max-le (omega arith) (omega arith) in
          omega (arith, c.in_ok-phase.ensures.epoch, most);
      fewer = omega (arith, inv.fewer, move.place);
      size = omega (arith, inv.size, move.place);
      made = c.in_ok-phase.ensures.made;
      limit = move.limit ∙ inv.limit;
      faults = omega (arith, inv.faults, c.in-Ok-Some.ensures.faults);
    }

pub returns-in-Ok-None-clause-untouched : goal.returns-in-Ok-None-clause-untouched
returns-in-Ok-None-clause-untouched g c = λ told.
    read_on g.D.Disk c.args.disk.now c.loop-body.disk c.next.new.disk
    (c.loop-body.invariant.untouched told)
    (c.in-Ok-None.ensures.untouched told)

pub returns-in-Err-clause-untouched : goal.returns-in-Err-clause-untouched
returns-in-Err-clause-untouched g c = λ told.
    read_on g.D.Disk c.args.disk.now c.loop-body.disk c.next.new.disk
    (c.loop-body.invariant.untouched told)
    (c.in-Err.ensures.untouched told)

-- a search for these takes long

pub returns-in-Err-clause-no_full : goal.returns-in-Err-clause-no_full
returns-in-Err-clause-no_full g c = not_full c.in-Err.fault c.of_open.result c.of_open.ensures

pub returns-in-Err-clause-disk_only : goal.returns-in-Err-clause-disk_only
returns-in-Err-clause-disk_only g c = λ is.
    rises_later _ _ _ c.loop-body.invariant.faults
    (c.in-Err.ensures.disk_only (disk_is c.in-Err.fault c.of_open.result c.of_open.ensures is))

pub returns-in_err-phase-clause-ok : goal.returns-in_err-phase-clause-ok
returns-in_err-phase-clause-ok g c = λ told lent.
    IfOk-from_err c.from_residual.result _ c.from_residual.ensures.0

pub returns-in_err-phase-clause-counted : goal.returns-in_err-phase-clause-counted
returns-in_err-phase-clause-counted g c = λ told.
    IfOk-from_err c.from_residual.result _ c.from_residual.ensures.0

pub returns-in-Ok-None-clause-only_reads : goal.returns-in-Ok-None-clause-only_reads
returns-in-Ok-None-clause-only_reads g c = λ told.
    c.in-Ok-None.ensures.only_reads told ∙ c.loop-body.invariant.only_reads told

pub returns-in-Err-clause-only_reads : goal.returns-in-Err-clause-only_reads
returns-in-Err-clause-only_reads g c = λ told.
    c.in-Err.ensures.only_reads told ∙ c.loop-body.invariant.only_reads told

pub returns-in_err-phase-clause-only_reads : goal.returns-in_err-phase-clause-only_reads
returns-in_err-phase-clause-only_reads g c = λ told.
    c.in-Ok-Some.ensures.only_reads told ∙ c.loop-body.invariant.only_reads told

pub returns-in-Ok-None-clause-ok : goal.returns-in-Ok-None-clause-ok
returns-in-Ok-None-clause-ok g c = λ told lent.
    let now = c.next.follows.lender-at-none in
    let move : Move g.D.Disk c.loop-body.disk c.next.new.disk c.loop-body.windows now
    (λ (b : Bor (List ℕ)). b.now) (Ok None) =
    subst (λ (r : Result (Option (Bor (List ℕ))) OpenFault).
    Move g.D.Disk c.loop-body.disk c.next.new.disk
    c.loop-body.windows now (λ (b : Bor (List ℕ)). b.now) r)
    (c.in-Ok-None.is ∙ ap (λ o. Ok o) c.in-Ok-None.field-0-is) c.next.follows.holds-at-none in
    let played = c.loop-body.invariant.lent told lent in (
      played.0,
      move.lent told played.0 played.1,
      played_all g.H.Holder.held
          (version_of c.args.windows.now) played.0 c.loop-body.phase played.2,
    )

pub returns-in-Ok-None-clause-all : goal.returns-in-Ok-None-clause-all
returns-in-Ok-None-clause-all g c = λ told.
    let content = g.D.Disk.content c.args.disk.now in
    let same = (c.loop-body.invariant.untouched told).same in
    let now = c.next.follows.lender-at-none in
    let move : Move g.D.Disk c.loop-body.disk c.next.new.disk c.loop-body.windows now
    (λ (b : Bor (List ℕ)). b.now) (Ok None) =
    subst (λ (r : Result (Option (Bor (List ℕ))) OpenFault).
    Move g.D.Disk c.loop-body.disk c.next.new.disk
    c.loop-body.windows now (λ (b : Bor (List ℕ)). b.now) r)
    (c.in-Ok-None.is ∙ ap (λ o. Ok o) c.in-Ok-None.field-0-is) c.next.follows.holds-at-none in
    all_played g.H.Holder.held (version_of c.args.windows.now) content c.args.windows.now
    c.loop-body.windows c.loop-body.phase (c.loop-body.invariant.playing told)
    (λ bodies will. move.lends told bodies
    (subst (λ (l : List ℕ). WillLend l c.loop-body.windows bodies) (sym same) will))

pub returns-in_err-phase-clause-all : goal.returns-in_err-phase-clause-all
returns-in_err-phase-clause-all g c = λ told.
    IfOk-from_err c.from_residual.result _ c.from_residual.ensures.0
