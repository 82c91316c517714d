use Rattle.std.proofs.Common.{[], sym, ◌∙◌, subst, rules}
use Rattle.rx_world.specs.Sound.{IsSoundWorld}
use Rattle.rx_store.proofs.Crashes.{answered, ran_out, same_stop}
use Rattle.rx_store.specs.Holds.{Holds}
use Rattle.rx_engine.proofs.Opened.{unwatched_all}
use Rattle.rx_engine.proofs.lives.open.Goals as goal

pub returns-in_err-opened-clause-safe : goal.returns-in_err-opened-clause-safe
returns-in_err-opened-clause-safe g c told bodies w lawful =
    same_stop g.D.Disk c.args.disk.now c.open.new.disk bodies [] c.args.limit _ _
    c.in_err-opened.field-0.0 c.from_residual.result (search rules)
    (c.in_err-opened.ensures.safe told bodies w lawful)

pub returns-in_err-world-clause-safe : goal.returns-in_err-world-clause-safe
returns-in_err-world-clause-safe g c told bodies w lawful =
    ran_out g.D.Disk c.args.disk.now c.open.new.disk bodies [] c.args.limit _
    c.from_residual-in_err-world.result (search rules)
    (c.in_ok-opened.ensures.safe told bodies w lawful).moments

pub returns-clause-safe : goal.returns-clause-safe
returns-clause-safe g c told bodies w lawful =
    answered g.D.Disk c.args.disk.now c.open.new.disk bodies [] c.args.limit _
    (λ p all. Holds g.D.Disk c.open.new.disk p.0 all w) _ _
    (c.in_ok-opened.ensures.safe told bodies w lawful) (λ holds. holds)

pub returns-clause-world : goal.returns-clause-world
returns-clause-world g c told bodies w lawful =
    c.in_ok-world.ensures.same ∙ c.in_ok-opened.ensures.world told bodies w lawful

pub returns-clause-sound : goal.returns-clause-sound
returns-clause-sound g c =
    subst IsSoundWorld (sym c.in_ok-world.ensures.same) c.in_ok-opened.ensures.sound

pub returns-clause-unwatched : goal.returns-clause-unwatched
returns-clause-unwatched g c =
    unwatched_all _ _ (λ held live made. record { none = search rules; unbroken = search rules })
    c.in_ok-world.ensures.made

pub returns-in_err-world-clause-illegal : goal.returns-in_err-world-clause-illegal
returns-in_err-world-clause-illegal g c told illegal =
    let stood = c.in_ok-opened.ensures.stood told in absurd (illegal stood.0 stood.1 stood.2)

pub returns-clause-illegal : goal.returns-clause-illegal
returns-clause-illegal g c told illegal =
    let stood = c.in_ok-opened.ensures.stood told in absurd (illegal stood.0 stood.1 stood.2)
