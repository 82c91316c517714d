use Rattle.std.proofs.Common.{◌≡◌, ◌∙◌, ◌+◌, [], ◌∷◌, ◌++◌, length, None, inl, inr, refl, sym, append-nil, arith, length-append}
use Rattle.rx_serve.specs.Answered.{Commits}
use Rattle.rx_host.specs.Engine.{collection_of}
use Rattle.rx_host.specs.Laws.{gives_on}
use Rattle.rx_host.specs.Moments.{GivesMoments}
use Rattle.rx_host.specs.Outside.{opened_at, told_by}
use Rattle.rx_host.specs.Serving.{HasKept, HasStopped}
use Rattle.rx_host.proofs.Causes.{cause_later, no_less_on}
use Rattle.rx_host.proofs.Halting.{halts_on, unopened}
use Rattle.rx_host.proofs.InTurn.{have_none, have_on}
use Rattle.rx_host.proofs.Kept.{kept_left, kept_none, kept_on, stopped_on}
use Rattle.rx_host.proofs.Tries.{given_up_later}
use Rattle.rx_host.proofs.connections.serve_connections.Goals as goal

-- ---- the door didn't open

pub returns-in_default-clause-halted : goal.returns-in_default-clause-halted
returns-in_default-clause-halted g c =
    unopened g.L.W.Wire.tells g.K.Sink.tells c.args.port c.args.connections
    (collection_of c.args.first)
    (told_by g.L.Listen g.K.Sink c.args.door.now c.args.out.now)
    (told_by g.L.Listen g.K.Sink c.open.new.self c.args.out.now)
    (λ moments. g.C.Clock.tells → GivesMoments (g.C.Clock.given c.args.clock.now)
    (g.C.Clock.given c.args.clock.now) moments)
    (HasStopped g.D.Disk c.args.disk.now c.args.disk.now c.args.first)
    c.in_default.ensures.opens_once c.in_default.ensures.same_accepted
    c.in_default.ensures.same_talks refl
    (λ told. inl (sym (append-nil (g.C.Clock.given c.args.clock.now))))
    (kept_left g.D.Disk c.args.disk.now c.args.disk.now c.args.first c.args.first []
    (kept_none g.D.Disk (λ disk i tells left. g.met.D.Disk.only_now disk i tells left)
    c.args.disk.now c.args.first))

pub returns-in_default-clause-left : goal.returns-in_default-clause-left
returns-in_default-clause-left g c = (
  [],
  [],
  None,
  refl,
  kept_left g.D.Disk c.args.disk.now c.args.disk.now c.args.first c.args.first []
      (kept_none g.D.Disk (λ disk i tells left. g.met.D.Disk.only_now disk i tells left)
      c.args.disk.now c.args.first),
)

pub returns-in_default-clause-given_up : goal.returns-in_default-clause-given_up
returns-in_default-clause-given_up g c = λ is. inl (refl, refl, refl)

-- ---- one connection after another

pub connections-init : goal.connections-init
connections-init g c =
    let only_now = kept_none g.D.Disk
    (λ disk i tells left. g.met.D.Disk.only_now disk i tells left) c.args.disk.now c.args.first in
    record {
      served = (
        [],
        refl,
        have_none g.L.W.Wire.tells g.K.Sink.tells 1 (collection_of c.args.first) _ _ _ _
            c.in-Ok.ensures.opens_at (λ told. c.in-Ok.ensures.same_accepted)
            (λ told. c.in-Ok.ensures.same_talks) (λ told. refl)
            (λ told. inl (sym (append-nil (g.C.Clock.given c.args.clock.now)))) only_now,
      );
      kept = ([], only_now);
      listens = c.in-Ok.ensures.opens;
      same = record { name = refl; limit = refl };
      counts = record { door = c.in-Ok.ensures.count; disk = omega arith; sink = omega arith };
    }

pub returns-in-Err-clause-halted : goal.returns-in-Err-clause-halted
returns-in-Err-clause-halted g c =
    let inv = c.connections.invariant in
    let conns = inv.served.0 in
    let first = g.C.Clock.given c.args.clock.now in
    let mid = g.C.Clock.given c.connections.clock in
    let last = g.C.Clock.given c.serve_next.new.clock in
    let number : c.connections.i + 1 ≡ 1 + length conns = omega (arith, inv.served.1) in
    halts_on g.L.W.Wire.tells g.K.Sink.tells 1 (c.connections.i + 1) (collection_of c.args.first)
    (collection_of c.connections.engine) conns
    (opened_at c.args.port (told_by g.L.Listen g.K.Sink c.args.door.now c.args.out.now))
    (told_by g.L.Listen g.K.Sink c.connections.door c.connections.out)
    (told_by g.L.Listen g.K.Sink c.serve_next.new.door c.serve_next.new.out)
    (λ moments. g.C.Clock.tells → GivesMoments first mid moments)
    (λ moments. g.C.Clock.tells → GivesMoments mid last moments)
    (λ moments. g.C.Clock.tells → GivesMoments first last moments)
    (HasKept g.D.Disk c.args.disk.now c.connections.disk c.args.first c.connections.engine)
    (HasStopped g.D.Disk c.connections.disk c.serve_next.new.disk c.connections.engine)
    (HasStopped g.D.Disk c.args.disk.now c.serve_next.new.disk c.args.first) inv.served.2 number
    (λ a b early later told. gives_on first mid last a b (early told) (later told))
    (λ stop a sure more kept left.
    stopped_on g.D.Disk c.args.disk.now c.connections.disk c.serve_next.new.disk c.args.first
    c.connections.engine inv.same.name inv.same.limit a kept stop sure more left)
    c.in-Err.fault c.args.port c.args.connections
    (told_by g.L.Listen g.K.Sink c.args.door.now c.args.out.now) refl
    (omega (arith, inv.served.1, c.connections-test.true))
    c.in-Err.ensures.halted

pub returns-in-Err-clause-left : goal.returns-in-Err-clause-left
returns-in-Err-clause-left g c =
    let inv = c.connections.invariant in
    let left = c.in-Err.ensures.left in (
      inv.kept.0 ++ left.0,
      left.1,
      left.2,
      left.3,
      stopped_on g.D.Disk c.args.disk.now c.connections.disk c.serve_next.new.disk c.args.first
          c.connections.engine inv.same.name inv.same.limit inv.kept.0 inv.kept.1 left.2 left.0
          left.1 left.4,
    )

-- a search for these takes long

pub returns-in-Err-clause-cause : goal.returns-in-Err-clause-cause
returns-in-Err-clause-cause g c =
    cause_later c.in-Err.fault _ _ _ c.connections.invariant.counts c.in-Err.ensures.cause

pub returns-in-Err-clause-counts : goal.returns-in-Err-clause-counts
returns-in-Err-clause-counts g c =
    no_less_on _ _ _ c.connections.invariant.counts c.in-Err.ensures.counts

pub returns-in-Err-clause-given_up : goal.returns-in-Err-clause-given_up
returns-in-Err-clause-given_up g c = λ is.
    inr (given_up_later _ _ _ c.connections.invariant.counts.door (c.in-Err.ensures.given_up is))

pub connections-preserved : goal.connections-preserved
connections-preserved g c =
    let inv = c.connections.invariant in
    let conns = inv.served.0 in
    let one = c.in-Ok-serve_next.ensures.served in
    let more = c.in-Ok-serve_next.ensures.kept in
    let first = g.C.Clock.given c.args.clock.now in
    let mid = g.C.Clock.given c.connections.clock in
    let last = g.C.Clock.given c.serve_next.new.clock in
    let number : c.connections.i + 1 ≡ 1 + length conns = omega (arith, inv.served.1) in
    let Keeps : Commits → Type 0 =
    HasKept g.D.Disk c.args.disk.now c.serve_next.new.disk c.args.first c.in-Ok-serve_next.engine in
    let keeps = λ (a : Commits) (b : Commits)
    (kept : HasKept g.D.Disk c.args.disk.now c.connections.disk c.args.first c.connections.engine a)
    (next : HasKept g.D.Disk c.connections.disk c.serve_next.new.disk c.connections.engine
    c.in-Ok-serve_next.engine b).
    kept_on g.D.Disk c.args.disk.now c.connections.disk c.serve_next.new.disk c.args.first
    c.connections.engine inv.same.name inv.same.limit a kept c.in-Ok-serve_next.engine b next in
    record {
      served = (
        conns ++ one.0 ∷ [],
        omega (arith, inv.served.1, length-append conns (one.0 ∷ [])),
        have_on g.L.W.Wire.tells g.K.Sink.tells 1 (c.connections.i + 1)
            (collection_of c.args.first) (collection_of c.connections.engine)
            (collection_of c.in-Ok-serve_next.engine) conns (one.0 ∷ [])
            (opened_at c.args.port (told_by g.L.Listen g.K.Sink c.args.door.now c.args.out.now))
            (told_by g.L.Listen g.K.Sink c.connections.door c.connections.out)
            (told_by g.L.Listen g.K.Sink c.serve_next.new.door c.serve_next.new.out)
            (λ moments. g.C.Clock.tells → GivesMoments first mid moments)
            (λ moments. g.C.Clock.tells → GivesMoments mid last moments)
            (λ moments. g.C.Clock.tells → GivesMoments first last moments)
            (HasKept g.D.Disk c.args.disk.now c.connections.disk c.args.first
            c.connections.engine)
            (HasKept g.D.Disk c.connections.disk c.serve_next.new.disk c.connections.engine
            c.in-Ok-serve_next.engine)
            Keeps inv.served.2 one.1 number
            (λ a b early later told. gives_on first mid last a b (early told) (later told)) keeps,
      );
      kept = (inv.kept.0 ++ more.0, keeps inv.kept.0 more.0 inv.kept.1 more.1);
      listens = c.in-Ok-serve_next.ensures.stays_open;
      same = record {
        name = c.in-Ok-serve_next.ensures.same.name ∙ inv.same.name;
        limit = c.in-Ok-serve_next.ensures.same.limit ∙ inv.same.limit;
      };
      counts = no_less_on _ _ _ inv.counts c.in-Ok-serve_next.ensures.counts;
    }
