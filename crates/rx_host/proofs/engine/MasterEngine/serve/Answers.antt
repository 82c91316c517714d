use Rattle.std.proofs.Common.{◌≡◌, ◌∙◌, ℕ, List, [], sym, ap, subst, rules}
use Rattle.rx_collection.specs.Held.{Held}
use Rattle.rx_serve.specs.Answered.{Commits}
use Rattle.rx_serve.specs.Ends.{EndsBy, IsStopped, joined_since}
use Rattle.rx_serve.proofs.Courses.{since}
use Rattle.rx_host.specs.Engine.{IsAt, collection_of}
use Rattle.rx_host.specs.Hosting.{IsWorking, collection_in, limit_in, served_name, stop_in}
use Rattle.rx_host.specs.Moments.{GivesMoments}
use Rattle.rx_host.specs.Serving.{HasKept, HasStopped}
use Rattle.rx_host.specs.declared.host.Work.{Work}
use Rattle.rx_host.specs.declared.host.Work.TheVariants.{Going}
use Rattle.rx_host.proofs.Ends.{ends_too, stopped_too}
use Rattle.rx_host.proofs.Hosts.{cause_err, cause_ok, kept_from, lawful_err, stopped_from}
use Rattle.rx_host.proofs.engine.MasterEngine.serve.Goals as goal

-- the same clock at another name
gave : {C : Type 0} (given : C → List ℕ) (x x' y y' : C) (moments : List ℕ) → x ≡ x' → y ≡ y'
    → GivesMoments (given x) (given y) moments → GivesMoments (given x') (given y') moments
gave given x x' y y' moments same same' gives =
    subst (λ v. GivesMoments (given x') (given v) moments) same'
    (subst (λ v. GivesMoments (given v) (given y) moments) same gives)

pub returns-in-Ok-Going-clause-served : goal.returns-in-Ok-Going-clause-served
returns-in-Ok-Going-clause-served g c =
    let a = c.new-host.result in
    let b = c.serve-ended.new.answer in
    let engine = c.in-Ok-Going.engine in
    let ended = c.in-Ok-Going.ended in
    let work : a.state.work ≡ Going c.args.self = search rules in
    let work' : b.state.work ≡ Going engine = search rules in
    let disk : a.disk.now ≡ c.args.disk.now = search rules in
    let disk' : b.disk.now ≡ c.disk-1.given.0 = search rules in
    let clock : a.clock.now ≡ c.args.clock.now = search rules in
    let clock' : b.clock.now ≡ c.clock-1.given.0 = search rules in
    let kept = rw c.in-Ok-Going.is-0 at c.serve-ended.ensures.keeps in
    let ticks = kept.1.3 in
    let moments = joined_since a.state.moments.items b.state.moments.items in
    let ends = rw c.in-Ok-Going.is-0 at c.serve-ended.ensures.served in
    let K : Commits → Type 0 = λ commits.
    HasKept g.D.Disk c.args.disk.now c.disk-1.given.0 c.args.self engine commits in
    let sent =
    joined_since (g.W.Wire.sent c.args.wire.now) (g.W.Wire.sent c.serve-ended.new.wire) in
    let P : Held → Type 0 = λ h. EndsBy ended.why ended.requests K (record {
      before = h;
      after = collection_in b.state.work;
      moments = moments;
      coming = g.W.Wire.left c.args.wire.now;
      sent = sent;
    }) in
    let Q : Held → Type 0 = λ h. EndsBy ended.why ended.requests K (record {
      before = collection_of c.args.self;
      after = h;
      moments = moments;
      coming = g.W.Wire.left c.args.wire.now;
      sent = sent;
    }) in
    let here : g.W.Wire.tells → P (collection_in a.state.work) = λ told. ends_too _ K
    (λ commits holds. kept_from g.D.Disk a.disk.now c.args.disk.now b.disk.now c.disk-1.given.0
    a.state.work b.state.work c.args.self disk disk' work engine work' commits holds.2)
    _ ended.why ended.requests (ends told) in
    let R : List ℕ → Type 0 = λ v. g.C.Clock.tells
    → GivesMoments (g.C.Clock.given c.args.clock.now) (g.C.Clock.given c.clock-1.given.0) v in
    let given : R ticks.joined = λ told.
    gave (g.C.Clock.given) a.clock.now c.args.clock.now b.clock.now c.clock-1.given.0
    ticks.joined clock clock' (ticks.of_clock told) in (
      moments,
      subst R (sym (since a.state.moments.items b.state.moments.items ticks.joined ticks.more))
          given,
      λ told. subst Q (ap collection_in work') (subst P (ap collection_in work) (here told)),
    )

pub returns-in-Ok-Going-clause-kept : goal.returns-in-Ok-Going-clause-kept
returns-in-Ok-Going-clause-kept g c =
    let a = c.new-host.result in
    let b = c.serve-ended.new.answer in
    let engine = c.in-Ok-Going.engine in
    let work : a.state.work ≡ Going c.args.self = search rules in
    let work' : b.state.work ≡ Going engine = search rules in
    let disk : a.disk.now ≡ c.args.disk.now = search rules in
    let disk' : b.disk.now ≡ c.disk-1.given.0 = search rules in
    let kept = rw c.in-Ok-Going.is-0 at c.serve-ended.ensures.keeps in (
      kept.0,
      kept_from g.D.Disk a.disk.now c.args.disk.now b.disk.now c.disk-1.given.0 a.state.work
          b.state.work c.args.self disk disk' work engine work' kept.0 kept.1.2,
    )

pub returns-in-Ok-Going-clause-at : goal.returns-in-Ok-Going-clause-at
returns-in-Ok-Going-clause-at g c = λ told.
    let b = c.serve-ended.new.answer in
    let engine = c.in-Ok-Going.engine in
    let work' : b.state.work ≡ Going engine = search rules in
    let disk' : b.disk.now ≡ c.disk-1.given.0 = search rules in
    let ready = rw c.in-Ok-Going.is-0 at c.serve-ended.ensures.ready in
    let here = ready told in
    let P : Work → Type 0 = λ w. IsWorking g.D.Disk b.disk.now w here.0 in
    let there : IsAt g.D.Disk b.disk.now engine here.0 = subst P work' here.1 in
    (here.0, subst (λ v. IsAt g.D.Disk v engine here.0) disk' there)

pub returns-in-Ok-Going-clause-same : goal.returns-in-Ok-Going-clause-same
returns-in-Ok-Going-clause-same g c =
    let a = c.new-host.result in
    let b = c.serve-ended.new.answer in
    let work : a.state.work ≡ Going c.args.self = search rules in
    let work' : b.state.work ≡ Going c.in-Ok-Going.engine = search rules in
    let kept = rw c.in-Ok-Going.is-0 at c.serve-ended.ensures.keeps in
    record {
      name = sym (ap served_name work') ∙ kept.1.2.name (ap stop_in work') ∙ ap served_name work;
      limit = sym (ap limit_in work') ∙ kept.1.2.limit (ap stop_in work') ∙ ap limit_in work;
    }

pub returns-in-Ok-Going-clause-wire : goal.returns-in-Ok-Going-clause-wire
returns-in-Ok-Going-clause-wire g c = record {
  sent = c.serve-ended.ensures.sent;
  whole = c.serve-ended.ensures.whole;
  count = c.serve-ended.ensures.count;
}

pub returns-in-Err-default-clause-wire : goal.returns-in-Err-default-clause-wire
returns-in-Err-default-clause-wire g c = record {
  sent = c.serve-ended.ensures.sent;
  whole = c.serve-ended.ensures.whole;
  count = c.serve-ended.ensures.count;
}

pub returns-in-Ok-Going-clause-cause : goal.returns-in-Ok-Going-clause-cause
returns-in-Ok-Going-clause-cause g c =
    let a = c.new-host.result in
    let b = c.serve-ended.new.answer in
    let work : a.state.work ≡ Going c.args.self = search rules in
    let disk : a.disk.now ≡ c.args.disk.now = search rules in
    let disk' : b.disk.now ≡ c.disk-1.given.0 = search rules in
    let kept = rw c.in-Ok-Going.is-0 at c.serve-ended.ensures.keeps in
    cause_ok g.D.Disk a.disk.now c.args.disk.now b.disk.now c.disk-1.given.0 a.state.work
    b.state.work c.args.self disk disk' work _ kept.0 [] kept.1.2

pub returns-in-Err-default-clause-left : goal.returns-in-Err-default-clause-left
returns-in-Err-default-clause-left g c =
    let a = c.new-host.result in
    let b = c.serve-ended.new.answer in
    let work : a.state.work ≡ Going c.args.self = search rules in
    let disk : a.disk.now ≡ c.args.disk.now = search rules in
    let disk' : b.disk.now ≡ c.disk-1.given.0 = search rules in
    let left = rw c.in-Err-default.is-0 at c.serve-ended.ensures.leaves in (
      left.0,
      left.1,
      stop_in b.state.work,
      rw c.in-Err-default.is-0 at c.serve-ended.ensures.stop,
      stopped_from g.D.Disk a.disk.now c.args.disk.now b.disk.now c.disk-1.given.0 a.state.work
          b.state.work c.args.self disk disk' work left.0 left.1 left.2.2,
    )

pub returns-in-Err-default-clause-cause : goal.returns-in-Err-default-clause-cause
returns-in-Err-default-clause-cause g c =
    let a = c.new-host.result in
    let b = c.serve-ended.new.answer in
    let work : a.state.work ≡ Going c.args.self = search rules in
    let disk : a.disk.now ≡ c.args.disk.now = search rules in
    let disk' : b.disk.now ≡ c.disk-1.given.0 = search rules in
    let left = rw c.in-Err-default.is-0 at c.serve-ended.ensures.leaves in
    let of = rw c.in-Err-default.is-0 at c.serve-ended.ensures.stop in
    cause_err g.D.Disk a.disk.now c.args.disk.now b.disk.now c.disk-1.given.0 a.state.work
    b.state.work c.args.self disk disk' work c.in-Err-default.stop left.0 left.1 of left.2.2

pub returns-in-Err-default-clause-not_journal : goal.returns-in-Err-default-clause-not_journal
returns-in-Err-default-clause-not_journal g c =
    let a = c.new-host.result in
    let b = c.serve-ended.new.answer in
    let work : a.state.work ≡ Going c.args.self = search rules in
    let disk : a.disk.now ≡ c.args.disk.now = search rules in
    let disk' : b.disk.now ≡ c.disk-1.given.0 = search rules in
    let left = rw c.in-Err-default.is-0 at c.serve-ended.ensures.leaves in
    let of = rw c.in-Err-default.is-0 at c.serve-ended.ensures.stop in
    lawful_err g.D.Disk a.disk.now c.args.disk.now b.disk.now c.disk-1.given.0 a.state.work
    b.state.work c.args.self disk disk' work c.in-Err-default.stop left.0 left.1 of left.2.2

pub returns-in-Err-default-clause-stopped : goal.returns-in-Err-default-clause-stopped
returns-in-Err-default-clause-stopped g c =
    let a = c.new-host.result in
    let b = c.serve-ended.new.answer in
    let work : a.state.work ≡ Going c.args.self = search rules in
    let disk : a.disk.now ≡ c.args.disk.now = search rules in
    let disk' : b.disk.now ≡ c.disk-1.given.0 = search rules in
    let moments = joined_since a.state.moments.items b.state.moments.items in
    let after = collection_in b.state.work in
    let clock : a.clock.now ≡ c.args.clock.now = search rules in
    let clock' : b.clock.now ≡ c.clock-1.given.0 = search rules in
    let stopped = rw c.in-Err-default.is-0 at c.serve-ended.ensures.stopped in
    let ticks = (rw c.in-Err-default.is-0 at c.serve-ended.ensures.leaves).2.3 in
    let K : Commits → Commits → Type 0 = λ sure more.
    HasStopped g.D.Disk c.args.disk.now c.disk-1.given.0 c.args.self
    (stop_in b.state.work) sure more in
    let P : Held → Type 0 = λ h. IsStopped K (record {
      before = h;
      after = after;
      moments = moments;
      coming = g.W.Wire.left c.args.wire.now;
      sent = joined_since (g.W.Wire.sent c.args.wire.now) (g.W.Wire.sent c.serve-ended.new.wire);
    }) in
    let here : g.W.Wire.tells → P (collection_in a.state.work) = λ told. stopped_too _ K
    (λ sure more holds. stopped_from g.D.Disk a.disk.now c.args.disk.now b.disk.now
    c.disk-1.given.0 a.state.work b.state.work c.args.self disk disk' work sure more holds.2)
    _ (stopped told) in
    let of = rw c.in-Err-default.is-0 at c.serve-ended.ensures.stop in
    let R : List ℕ → Type 0 = λ v. g.C.Clock.tells
    → GivesMoments (g.C.Clock.given c.args.clock.now) (g.C.Clock.given c.clock-1.given.0) v in
    let given : R ticks.joined = λ told.
    gave (g.C.Clock.given) a.clock.now c.args.clock.now b.clock.now c.clock-1.given.0
    ticks.joined clock clock' (ticks.of_clock told) in (
      moments,
      subst R (sym (since a.state.moments.items b.state.moments.items ticks.joined ticks.more))
          given,
      λ told. (after, stop_in b.state.work, of, subst P (ap collection_in work) (here told)),
    )
