use Rattle.std.proofs.Common.{◌≡◌, ◌∙◌, ap, map, List, Ok, sym, subst, rules}
use Rattle.rx_handler.specs.Shown.{kinds_of}
use Rattle.rx_record.specs.Content.{Content}
use Rattle.rx_record.specs.Shown.{content}
use Rattle.rx_store.specs.Safe.{IsCrashSafe}
use Rattle.rx_store.proofs.Crashes.{answered, ran_out, same_stop}
use Rattle.rx_store.proofs.Growing.{stays}
use Rattle.rx_store.proofs.Stops.{memory_stop}
use Rattle.rx_sync.specs.Exchange.{Planned}
use Rattle.rx_sync.specs.Laws.{IsDueIn}
use Rattle.rx_sync.specs.Remote.{heard_exchange}
use Rattle.rx_sync.specs.Shown.{heard_of}
use Rattle.rx_world.specs.World.{World}
use Rattle.rx_engine.specs.Meaning.{bodies_of}
use Rattle.rx_engine.specs.Play.{IsPlayAt}
use Rattle.rx_engine.specs.Turning.{terms}
use Rattle.rx_engine.proofs.Staging.{may_commit, so_far}
use Rattle.rx_engine.proofs.calling.keep_heard.Goals as goal

pub hear-requires-clause-asked : goal.hear-requires-clause-asked
hear-requires-clause-asked g c =
    subst (λ (v : World). IsDueIn v c.args.name.now c.args.asked.now) (sym c.world-world.ensures)
    c.requires.asked

pub returns-in_err-records-clause-safe : goal.returns-in_err-records-clause-safe
returns-in_err-records-clause-safe g c told bodies at =
    ran_out g.D.Disk c.args.disk.now c.args.disk.now bodies _ c.args.play.journal.limit _
    c.from_residual.result (memory_stop c.from_residual.result c.from_residual.ensures.1)
    (λ alike. stays g.D.Disk c.args.disk.now c.args.play.journal bodies _ _ at.0
    (λ left e. g.met.D.Disk.only_now c.args.disk.now left told e))

pub returns-in_err-play-clause-safe : goal.returns-in_err-play-clause-safe
returns-in_err-play-clause-safe g c told bodies at =
    ran_out g.D.Disk c.args.disk.now c.args.disk.now bodies _ c.args.play.journal.limit _
    c.from_residual-in_err-play.result
    (memory_stop c.from_residual-in_err-play.result c.from_residual-in_err-play.ensures.1)
    (λ alike. stays g.D.Disk c.args.disk.now c.args.play.journal bodies _ _ at.0
    (λ left e. g.met.D.Disk.only_now c.args.disk.now left told e))

pub commit-requires : goal.commit-requires
commit-requires g c told =
    let at = c.requires.at told in
    may_commit g.D.Disk c.args.disk.now c.args.play c.in_ok-play.play _ c.in_ok-play.ensures at.0
    at.1

pub returns-in_err-play-2-clause-safe : goal.returns-in_err-play-2-clause-safe
returns-in_err-play-2-clause-safe g c told bodies at =
    let t = terms c.args.name.now c.args.now (kinds_of c.args.handlers.now) in
    let due : World → List Content =
    λ w. (heard_exchange t c.args.asked.now (heard_of c.args.heard.now) w).records in
    let planned : due c.args.play.playing.world ≡ map content c.in_ok-records.field-0.records.items
    =
    ap due (sym c.world-world.ensures) ∙ ap (λ (p : Planned). p.records)
    c.in_ok-records.ensures.exact in
    let cs = map content c.in_ok-records.field-0.records.items in
    let new = c.commit.new.disk in
    subst (λ (cs : List Content). IsCrashSafe g.D.Disk c.args.disk.now new bodies (bodies_of cs)
    c.args.play.journal.limit (λ p. IsPlayAt g.D.Disk new p.0) c.from_residual-in_err-play-2.result)
    (sym planned)
    (same_stop g.D.Disk c.args.disk.now new bodies (bodies_of cs) c.args.play.journal.limit _ _
    c.in_err-play-2.field-0.0 c.from_residual-in_err-play-2.result (search rules)
    (c.in_err-play-2.ensures.safe told bodies c.args.play.journal c.args.play.playing.world cs at.0
    (so_far g.D.Disk c.args.disk.now c.args.play c.in_ok-play.play cs c.in_ok-play.ensures bodies
    at)))

pub returns-clause-safe : goal.returns-clause-safe
returns-clause-safe g c told bodies at =
    let t = terms c.args.name.now c.args.now (kinds_of c.args.handlers.now) in
    let due : World → List Content =
    λ w. (heard_exchange t c.args.asked.now (heard_of c.args.heard.now) w).records in
    let planned : due c.args.play.playing.world ≡ map content c.in_ok-records.field-0.records.items
    =
    ap due (sym c.world-world.ensures) ∙ ap (λ (p : Planned). p.records)
    c.in_ok-records.ensures.exact in
    let cs = map content c.in_ok-records.field-0.records.items in
    let new = c.commit.new.disk in
    answered g.D.Disk c.args.disk.now new bodies (bodies_of (due c.args.play.playing.world))
    c.args.play.journal.limit (IsPlayAt g.D.Disk new) (λ p. IsPlayAt g.D.Disk new p.0)
    c.in_ok-play-2.play (c.in_ok-play-2.play, c.in_ok-records.field-0.came)
    (subst (λ (cs : List Content). IsCrashSafe g.D.Disk c.args.disk.now new bodies (bodies_of cs)
    c.args.play.journal.limit (IsPlayAt g.D.Disk new) (Ok c.in_ok-play-2.play)) (sym planned)
    (c.in_ok-play-2.ensures.safe told bodies c.args.play.journal c.args.play.playing.world cs at.0
    (so_far g.D.Disk c.args.disk.now c.args.play c.in_ok-play.play cs c.in_ok-play.ensures bodies
    at)))
    (λ held. held)
