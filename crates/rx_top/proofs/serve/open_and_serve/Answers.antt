use Rattle.std.proofs.Common.{◌≡◌, ◌∙◌, sym, refl, ap, subst, List, [], ◌++◌, ℕ, Option, None, Some, IfSome, inl, append-nil, Err, arith}
use Rattle.std.specs.Prelude.{⊤}
use Rattle.rx_host.specs.Engine.{Finds, IsAt, IsAtIfFound, limit_of}
use Rattle.rx_host.specs.Keeping.{Keeps}
use Rattle.rx_host.specs.Moments.{GivesMoments}
use Rattle.rx_host.specs.Outside.{Outside, told_by}
use Rattle.rx_host.specs.Serving.{HasKept, HasStopped}
use Rattle.rx_host.specs.declared.engine.MasterEngine.{MasterEngine}
use Rattle.rx_outside.specs.declared.stop.Stop.TheVariants.{Full}
use Rattle.rx_world.specs.World.{empty}
use Rattle.rx_top.specs.Serve.{ServesTo}
use Rattle.rx_top.specs.ServesCollection.{HasServeCause}
use Rattle.rx_top.proofs.Chunks.{stays_legal}
use Rattle.rx_top.proofs.Heads.{not_both}
use Rattle.rx_top.proofs.ServedCauses.{given_up_or, halt_cause, unopened_cause}
use Rattle.rx_top.proofs.ServedHeads.{ended_of, full_to, joined, kept_too, legal_to, none_kept, serves_to}
use Rattle.rx_top.proofs.ServeEnds.{Ended}
use Rattle.rx_top.proofs.serve.open_and_serve.Goals as goal
use Rattle.rx_top.proofs.serve.open_and_serve.Goals.{in-Ok, in-Err-served}

-- ---- over the journal that was opened

pub returns-after-served-clause-serves : goal.returns-after-served-clause-serves
returns-after-served-clause-serves g c = λ t bodies w start.
    let r = c.serve_connections-served.result in
    let m = c.in-Ok-Some.engine in
    let name = c.args.offer.now.collection.now in
    let disk1 = c.open.new.disk in
    let disk2 = c.serve_connections-served.new.disk in
    let same : c.match-served.result ≡ ended_of r = elim c.match-served.branch [
      | in-Ok w ↦ w.result-is ∙ sym (ap ended_of w.in-Ok.is)
      | in-Err-served w ↦ w.result-is ∙ sym (ap ended_of w.in-Err-served.is)
    ] in
    let old : Outside =
    told_by g.L.Listen g.K.Sink c.args.door.now c.args.out.now in
    let new : Outside =
    told_by g.L.Listen g.K.Sink c.serve_connections-served.new.door
    c.serve_connections-served.new.out in
    let given : List ℕ → Type 0 = λ moments. g.C.Clock.tells
    → GivesMoments (g.C.Clock.given c.args.clock.now)
    (g.C.Clock.given c.serve_connections-served.new.clock) moments in
    let is = c.in-Ok-Some.field-0-is in
    let found : Finds name w (Some m) = subst (λ (o : Option MasterEngine). Finds name w o) is
    (c.in-Ok-Some.ensures.found t bodies w start.legal) in
    let safe = c.in-Ok-Some.ensures.safe t bodies w start.legal in
    let grows = safe.moments start.alike in
    let at : IsAt g.D.Disk disk1 m (bodies ++ []) =
    subst (λ (o : Option MasterEngine). IsAtIfFound g.D.Disk disk1 o (bodies ++ [])) is safe.at in
    let limit : limit_of m ≡ c.args.limit =
    subst (λ (o : Option MasterEngine). IfSome o (λ e. limit_of e ≡ c.args.limit)) is
    c.in-Ok-Some.ensures.limit in
    subst (λ (e : Ended). ServesTo e g.L.W.Wire.tells g.K.Sink.tells name
    c.args.offer.now.port c.args.offer.now.connections w old new given
    (λ why sure more. Keeps g.D.Disk c.args.disk.now disk2 bodies name c.args.limit sure more why))
    (sym same)
    (serves_to g.L.W.Wire.tells g.K.Sink.tells name c.args.offer.now.port
    c.args.offer.now.connections w old new given
    (λ why sure more. Keeps g.D.Disk c.args.disk.now disk2 bodies name c.args.limit sure more why) m
    found (HasStopped g.D.Disk disk1 disk2 m) (HasKept g.D.Disk disk1 disk2 m)
    (joined g.D.Disk c.args.disk.now disk1 bodies name c.args.limit grows disk2 m t at found.2
    limit)
    (kept_too g.D.Disk c.args.disk.now disk1 bodies name c.args.limit grows disk2 m t at found.2
    limit)
    r c.serve_connections-served.ensures.served c.serve_connections-served.ensures.halted)

pub returns-after-served-clause-legal : goal.returns-after-served-clause-legal
returns-after-served-clause-legal g c = λ t bodies w start.
    let r = c.serve_connections-served.result in
    let m = c.in-Ok-Some.engine in
    let name = c.args.offer.now.collection.now in
    let disk1 = c.open.new.disk in
    let disk2 = c.serve_connections-served.new.disk in
    let is = c.in-Ok-Some.field-0-is in
    let found : Finds name w (Some m) = subst (λ (o : Option MasterEngine). Finds name w o) is
    (c.in-Ok-Some.ensures.found t bodies w start.legal) in
    let safe = c.in-Ok-Some.ensures.safe t bodies w start.legal in
    let grows = safe.moments start.alike in
    let at : IsAt g.D.Disk disk1 m (bodies ++ []) =
    subst (λ (o : Option MasterEngine). IsAtIfFound g.D.Disk disk1 o (bodies ++ [])) is safe.at in
    let limit : limit_of m ≡ c.args.limit =
    subst (λ (o : Option MasterEngine). IfSome o (λ e. limit_of e ≡ c.args.limit)) is
    c.in-Ok-Some.ensures.limit in
    legal_to g.D.Disk c.args.disk.now disk1 bodies name c.args.limit grows disk2 m t at found.2
    limit
    r c.serve_connections-served.ensures.kept c.serve_connections-served.ensures.left

pub returns-after-served-clause-over_any_disk : goal.returns-after-served-clause-over_any_disk
returns-after-served-clause-over_any_disk g c =
    let r = c.serve_connections-served.result in
    let m = c.in-Ok-Some.engine in
    let name = c.args.offer.now.collection.now in
    let disk1 = c.open.new.disk in
    let disk2 = c.serve_connections-served.new.disk in
    let same : c.match-served.result ≡ ended_of r = elim c.match-served.branch [
      | in-Ok w ↦ w.result-is ∙ sym (ap ended_of w.in-Ok.is)
      | in-Err-served w ↦ w.result-is ∙ sym (ap ended_of w.in-Err-served.is)
    ] in
    let old : Outside =
    told_by g.L.Listen g.K.Sink c.args.door.now c.args.out.now in
    let new : Outside =
    told_by g.L.Listen g.K.Sink c.serve_connections-served.new.door
    c.serve_connections-served.new.out in
    let given : List ℕ → Type 0 = λ moments. g.C.Clock.tells
    → GivesMoments (g.C.Clock.given c.args.clock.now)
    (g.C.Clock.given c.serve_connections-served.new.clock) moments in
    let somewhere = c.in-Ok-Some.ensures.found_somewhere in
    let found : Finds name somewhere.0 (Some m) =
    subst (λ (o : Option MasterEngine). Finds name somewhere.0 o) c.in-Ok-Some.field-0-is
    somewhere.1 in (
      somewhere.0,
      subst (λ (e : Ended). ServesTo e g.L.W.Wire.tells g.K.Sink.tells name
          c.args.offer.now.port c.args.offer.now.connections somewhere.0 old new given
          (λ why sure more. ⊤))
          (sym same)
          (serves_to g.L.W.Wire.tells g.K.Sink.tells name c.args.offer.now.port
          c.args.offer.now.connections somewhere.0
          old
          new given (λ why sure more. ⊤) m found (HasStopped g.D.Disk disk1 disk2 m)
          (HasKept g.D.Disk disk1 disk2 m) (λ why sure more left. tt) (λ m' commits kept. tt) r
          c.serve_connections-served.ensures.served c.serve_connections-served.ensures.halted),
    )

pub returns-after-served-clause-illegal : goal.returns-after-served-clause-illegal
returns-after-served-clause-illegal g c = λ t illegal.
    not_both (g.D.Disk.content c.args.disk.now) illegal (c.in-Ok-Some.ensures.stood t)

pub returns-after-served-clause-full : goal.returns-after-served-clause-full
returns-after-served-clause-full g c = λ would most full t bodies w start.
    let r = c.serve_connections-served.result in
    let m = c.in-Ok-Some.engine in
    let name = c.args.offer.now.collection.now in
    let disk1 = c.open.new.disk in
    let disk2 = c.serve_connections-served.new.disk in
    let same : c.match-served.result ≡ ended_of r = elim c.match-served.branch [
      | in-Ok w ↦ w.result-is ∙ sym (ap ended_of w.in-Ok.is)
      | in-Err-served w ↦ w.result-is ∙ sym (ap ended_of w.in-Err-served.is)
    ] in
    let is = c.in-Ok-Some.field-0-is in
    let found : Finds name w (Some m) = subst (λ (o : Option MasterEngine). Finds name w o) is
    (c.in-Ok-Some.ensures.found t bodies w start.legal) in
    let safe = c.in-Ok-Some.ensures.safe t bodies w start.legal in
    let grows = safe.moments start.alike in
    let at : IsAt g.D.Disk disk1 m (bodies ++ []) =
    subst (λ (o : Option MasterEngine). IsAtIfFound g.D.Disk disk1 o (bodies ++ [])) is safe.at in
    let limit : limit_of m ≡ c.args.limit =
    subst (λ (o : Option MasterEngine). IfSome o (λ e. limit_of e ≡ c.args.limit)) is
    c.in-Ok-Some.ensures.limit in
    full_to g.D.Disk c.args.disk.now disk1 bodies name c.args.limit grows disk2 m t at found.2 limit
    r would most (sym same ∙ full) c.serve_connections-served.ensures.left

pub returns-after-served-clause-cause : goal.returns-after-served-clause-cause
returns-after-served-clause-cause g c =
    let r = c.serve_connections-served.result in
    let disk0 = c.args.disk.now in
    let disk2 = c.serve_connections-served.new.disk in
    let door = c.args.door.now in
    let door' = c.serve_connections-served.new.door in
    let clock = c.args.clock.now in
    let clock' = c.serve_connections-served.new.clock in
    let out = c.args.out.now in
    let out' = c.serve_connections-served.new.out in
    let same : c.match-served.result ≡ ended_of r = elim c.match-served.branch [
      | in-Ok w ↦ w.result-is ∙ sym (ap ended_of w.in-Ok.is)
      | in-Err-served w ↦ w.result-is ∙ sym (ap ended_of w.in-Err-served.is)
    ] in
    subst (HasServeCause g.K.Sink g.D.Disk g.L.Listen out out' disk0 disk2 door door' clock clock')
    (sym same)
    (halt_cause g.K.Sink g.D.Disk g.L.Listen disk0 disk2 door door' clock clock' c.open.new.disk
    c.open.ensures.cause.later out out' r c.serve_connections-served.ensures.cause
    (λ is. given_up_or _ _ _ (c.serve_connections-served.ensures.given_up is)))

pub returns-after-served-clause-counts : goal.returns-after-served-clause-counts
returns-after-served-clause-counts g c =
    let later = c.serve_connections-served.ensures.counts in
    record {
      door = later.door;
      disk = omega (arith, c.open.ensures.cause.later, later.disk);
      sink = later.sink;
    }

-- ---- it holds no such collection, or that is a fork

pub returns-in-Ok-None-clause-serves : goal.returns-in-Ok-None-clause-serves
returns-in-Ok-None-clause-serves g c = λ t bodies w start.
    let safe = c.in-Ok-None.ensures.safe t bodies w start.legal in (
      subst (λ (o : Option MasterEngine). Finds c.args.offer.now.collection.now w o)
          c.in-Ok-None.field-0-is (c.in-Ok-None.ensures.found t bodies w start.legal),
      record {
        opened = λ told. refl;
        accepted = λ told. refl;
        talks = λ told. refl;
        written = λ told. refl;
        moments = λ told. inl (sym (append-nil (g.C.Clock.given c.args.clock.now)));
      },
      none_kept g.D.Disk c.args.disk.now c.open.new.disk bodies c.args.offer.now.collection.now
          c.args.limit (safe.moments start.alike)
          (λ s f le now. g.met.D.Disk.counts_now c.open.new.disk s f t le now) None
          (λ would most is. cc),
    )

pub returns-in-Ok-None-clause-legal : goal.returns-in-Ok-None-clause-legal
returns-in-Ok-None-clause-legal g c = λ t bodies w start.
    stays_legal g.D.Disk c.args.disk.now c.open.new.disk bodies []
    ((c.in-Ok-None.ensures.safe t bodies w start.legal).moments start.alike)
    (λ s f le now. g.met.D.Disk.counts_now c.open.new.disk s f t le now)

-- ---- it wasn't opened

pub returns-in-Err-clause-serves : goal.returns-in-Err-clause-serves
returns-in-Err-clause-serves g c = λ t bodies w start.
    let safe = c.in-Err.ensures.safe t bodies w start.legal in inl (
      c.in-Err.stop,
      refl,
      record {
        opened = λ told. refl;
        accepted = λ told. refl;
        talks = λ told. refl;
        written = λ told. refl;
        moments = λ told. inl (sym (append-nil (g.C.Clock.given c.args.clock.now)));
      },
      none_kept g.D.Disk c.args.disk.now c.open.new.disk bodies c.args.offer.now.collection.now
          c.args.limit (safe.moments start.alike)
          (λ s f le now. g.met.D.Disk.counts_now c.open.new.disk s f t le now) (Some c.in-Err.stop)
          (λ would most is.
          let same : c.in-Err.stop ≡ Full would most = cc in
          c.in-Err.ensures.no_full would most (ap Err same)),
    )

pub returns-in-Err-clause-legal : goal.returns-in-Err-clause-legal
returns-in-Err-clause-legal g c = λ t bodies w start.
    stays_legal g.D.Disk c.args.disk.now c.open.new.disk bodies []
    ((c.in-Err.ensures.safe t bodies w start.legal).moments start.alike)
    (λ s f le now. g.met.D.Disk.counts_now c.open.new.disk s f t le now)

pub returns-in-Err-clause-over_any_disk : goal.returns-in-Err-clause-over_any_disk
returns-in-Err-clause-over_any_disk g c = (
  empty,
  inl (
    c.in-Err.stop,
    refl,
    record {
      opened = λ told. refl;
      accepted = λ told. refl;
      talks = λ told. refl;
      written = λ told. refl;
      moments = λ told. inl (sym (append-nil (g.C.Clock.given c.args.clock.now)));
    },
    tt,
  ),
)

pub returns-in-Err-clause-cause : goal.returns-in-Err-clause-cause
returns-in-Err-clause-cause g c =
    unopened_cause g.K.Sink g.D.Disk g.L.Listen c.args.disk.now c.open.new.disk c.args.door.now
    c.args.clock.now c.args.out.now c.in-Err.stop c.in-Err.ensures.cause
    (λ t is bodies w legal. (c.in-Err.ensures.safe t bodies w legal).not_journal (ap Err is))
