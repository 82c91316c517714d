use Rattle.std.proofs.Common.{◌≡◌, ℕ, ◌+◌, [], ◌∷◌, ◌++◌, Ok, Err, ◌∙◌, ap, sym, subst, rules}
use Rattle.rx_session.specs.Placed.{world_of}
use Rattle.rx_store.specs.Holds.{Holds}
use Rattle.rx_store.proofs.Crashes.{answered, ran_out, same_stop, sooner}
use Rattle.rx_world.specs.Sound.{IsSoundWorld}
use Rattle.rx_world.specs.World.{World}
use Rattle.rx_engine.specs.Opening.{epoch_body, next_epoch}
use Rattle.rx_engine.proofs.Opened.{begun_safely, cause_behind}
use Rattle.rx_engine.proofs.opening.open.Goals as goal

pub returns-in_err-opened-clause-safe : goal.returns-in_err-opened-clause-safe
returns-in_err-opened-clause-safe g c told bodies w lawful =
    sooner g.D.Disk c.args.disk.now c.open.new.disk bodies [] (epoch_body w ∷ []) c.args.limit _ _
    c.in_err-opened.field-0.0 c.from_residual.result (search rules)
    (c.in_err-opened.ensures.safe told bodies w lawful)

pub returns-in_err-journal-clause-safe : goal.returns-in_err-journal-clause-safe
returns-in_err-journal-clause-safe g c told bodies w lawful =
    let opened = c.in_ok-opened.ensures.safe told bodies w lawful in
    let number : c.epoch.result + 1 ≡ w.epoch + 1 =
    ap (λ (n : ℕ). n + 1) c.epoch.ensures
    ∙ ap (λ (x : World). x.epoch + 1) (c.in_ok-opened.ensures.world told bodies w lawful) in
    same_stop g.D.Disk c.args.disk.now c.keep.new.disk bodies (epoch_body w ∷ []) c.args.limit _ _
    c.in_err-journal.field-0.0 c.from_residual-in_err-journal.result (search rules)
    (begun_safely g.D.Disk c.args.disk.now c.open.new.disk c.keep.new.disk
    c.in_ok-opened.opened.0 bodies w
    (c.epoch.result + 1) c.args.limit _ _ (Err c.in_err-journal.field-0.0) opened opened.at
    c.in_ok-opened.ensures.limit number
    (λ fits. c.in_err-journal.ensures.safe told (bodies ++ []) w opened.at fits opened.at.sound))

pub returns-in_err-world-clause-safe : goal.returns-in_err-world-clause-safe
returns-in_err-world-clause-safe g c told bodies w lawful =
    let opened = c.in_ok-opened.ensures.safe told bodies w lawful in
    let number : c.epoch.result + 1 ≡ w.epoch + 1 =
    ap (λ (n : ℕ). n + 1) c.epoch.ensures
    ∙ ap (λ (x : World). x.epoch + 1) (c.in_ok-opened.ensures.world told bodies w lawful) in
    let safe = begun_safely g.D.Disk c.args.disk.now c.open.new.disk c.keep.new.disk
    c.in_ok-opened.opened.0 bodies w
    (c.epoch.result + 1) c.args.limit _ _ (Ok c.in_ok-journal.journal) opened opened.at
    c.in_ok-opened.ensures.limit number
    (λ fits. c.in_ok-journal.ensures.safe told (bodies ++ []) w opened.at fits opened.at.sound) in
    ran_out g.D.Disk c.args.disk.now c.keep.new.disk bodies (epoch_body w ∷ []) c.args.limit _
    c.from_residual-in_err-world.result (search rules) safe.moments

pub returns-clause-safe : goal.returns-clause-safe
returns-clause-safe g c told bodies w lawful =
    let opened = c.in_ok-opened.ensures.safe told bodies w lawful in
    let number : c.epoch.result + 1 ≡ w.epoch + 1 =
    ap (λ (n : ℕ). n + 1) c.epoch.ensures
    ∙ ap (λ (x : World). x.epoch + 1) (c.in_ok-opened.ensures.world told bodies w lawful) in
    answered g.D.Disk c.args.disk.now c.keep.new.disk bodies (epoch_body w ∷ []) c.args.limit _
    (λ o all. Holds g.D.Disk c.keep.new.disk o.journal all (next_epoch w)) _ _
    (begun_safely g.D.Disk c.args.disk.now c.open.new.disk c.keep.new.disk
    c.in_ok-opened.opened.0 bodies w
    (c.epoch.result + 1) c.args.limit _ _ (Ok c.in_ok-journal.journal) opened opened.at
    c.in_ok-opened.ensures.limit number
    (λ fits. c.in_ok-journal.ensures.safe told (bodies ++ []) w opened.at fits opened.at.sound))
    (λ holds. holds)

pub returns-clause-opened : goal.returns-clause-opened
returns-clause-opened g c told bodies w lawful =
    c.in_ok-world.ensures.world ∙ ap next_epoch (c.in_ok-opened.ensures.world told bodies w lawful)

pub returns-clause-begun : goal.returns-clause-begun
returns-clause-begun g c = (world_of c.in_ok-opened.opened.1, c.in_ok-world.ensures.world)

pub keep-requires-clause-holds : goal.keep-requires-clause-holds
keep-requires-clause-holds g c told =
    let stood = c.in_ok-opened.ensures.stood told in
    let opened = c.in_ok-opened.ensures.safe told stood.0 stood.1 stood.2 in
    (stood.0 ++ [], stood.1, opened.at)

pub returns-in_err-journal-clause-illegal : goal.returns-in_err-journal-clause-illegal
returns-in_err-journal-clause-illegal g c told illegal =
    let stood = c.in_ok-opened.ensures.stood told in absurd (illegal stood.0 stood.1 stood.2)

pub returns-in_err-world-clause-illegal : goal.returns-in_err-world-clause-illegal
returns-in_err-world-clause-illegal g c told illegal =
    let stood = c.in_ok-opened.ensures.stood told in absurd (illegal stood.0 stood.1 stood.2)

pub returns-clause-illegal : goal.returns-clause-illegal
returns-clause-illegal g c told illegal =
    let stood = c.in_ok-opened.ensures.stood told in absurd (illegal stood.0 stood.1 stood.2)

pub returns-clause-sound : goal.returns-clause-sound
returns-clause-sound g c =
    subst IsSoundWorld (sym c.in_ok-world.ensures.world) c.in_ok-opened.ensures.sound

pub returns-in_err-journal-clause-cause : goal.returns-in_err-journal-clause-cause
returns-in_err-journal-clause-cause g c =
    cause_behind (g.D.Disk.faults c.args.disk.now) (g.D.Disk.faults c.open.new.disk)
    (g.D.Disk.faults c.keep.new.disk) c.in_err-journal.field-0.0
    c.from_residual-in_err-journal.result (search rules) c.in_ok-opened.ensures.cause.later
    c.in_err-journal.ensures.cause
