use Rattle.std.proofs.Common.{◌≡◌, ◌∙◌, [], ◌++◌, true, false, sym, ap, subst}
use Rattle.std.proofs.lemmas.Result.{IfOk-from_err}
use Rattle.rx_store.proofs.Crashes.{answered, ran_out, same_stop}
use Rattle.rx_store.proofs.Stops.{done_cause, handed_on, memory_cause, memory_stop}
use Rattle.rx_store.specs.Holds.{Holds}
use Rattle.rx_world.specs.World.{World}
use Rattle.rx_host.specs.Engine.{IsAtIfFound}
use Rattle.rx_host.specs.Worlds.{is_served, world_of}
use Rattle.rx_host.proofs.engine.MasterEngine.open.Goals as goal

pub returns-in_err-opened-clause-safe : goal.returns-in_err-opened-clause-safe
returns-in_err-opened-clause-safe g c told bodies w lawful =
    same_stop g.D.Disk c.args.disk.now c.open.new.disk bodies [] c.args.limit _ _
    c.in_err-opened.field-0.0 c.from_residual.result
    (handed_on c.from_residual.result c.in_err-opened.field-0.0 c.from_residual.ensures.1)
    (c.in_err-opened.ensures.safe told bodies w lawful)

pub returns-in_err-name-clause-safe : goal.returns-in_err-name-clause-safe
returns-in_err-name-clause-safe g c told bodies w lawful =
    ran_out g.D.Disk c.args.disk.now c.open.new.disk bodies [] c.args.limit _
    c.from_residual-in_err-name.result
    (memory_stop c.from_residual-in_err-name.result c.from_residual-in_err-name.ensures.1)
    (c.in_ok-opened.ensures.safe told bodies w lawful).moments

pub returns-in_err-name-clause-cause : goal.returns-in_err-name-clause-cause
returns-in_err-name-clause-cause g c =
    memory_cause _ _ _ c.from_residual-in_err-name.result
    (memory_stop c.from_residual-in_err-name.result c.from_residual-in_err-name.ensures.1)
    c.in_ok-opened.ensures.cause

pub returns-then-not-serves-clause-found : goal.returns-then-not-serves-clause-found
returns-then-not-serves-clause-found g c told bodies w lawful =
    let world = world_of c.in_ok-opened.opened.1 in
    let same : world ≡ w = c.in_ok-opened.ensures.world told bodies w lawful in
    let served : is_served c.args.name.now world ≡ false =
    sym c.serves.ensures ∙ c.if-not-serves.true in
    ap (is_served c.args.name.now) (sym same) ∙ served

pub returns-then-not-serves-clause-found_somewhere :
    goal.returns-then-not-serves-clause-found_somewhere
returns-then-not-serves-clause-found_somewhere g c =
    (world_of c.in_ok-opened.opened.1, sym c.serves.ensures ∙ c.if-not-serves.true)

pub returns-then-not-serves-clause-safe : goal.returns-then-not-serves-clause-safe
returns-then-not-serves-clause-safe g c told bodies w lawful =
    answered g.D.Disk c.args.disk.now c.open.new.disk bodies [] c.args.limit _
    (IsAtIfFound g.D.Disk c.open.new.disk) _ _
    (c.in_ok-opened.ensures.safe told bodies w lawful) (λ holds. tt)

pub returns-clause-safe : goal.returns-clause-safe
returns-clause-safe g c told bodies w lawful =
    answered g.D.Disk c.args.disk.now c.open.new.disk bodies [] c.args.limit _
    (IsAtIfFound g.D.Disk c.open.new.disk) _ _
    (c.in_ok-opened.ensures.safe told bodies w lawful)
    (λ holds. subst (λ (x : World). Holds g.D.Disk c.open.new.disk c.in_ok-opened.opened.0
    (bodies ++ []) x) (sym (c.in_ok-opened.ensures.world told bodies w lawful)) holds)

pub returns-clause-found : goal.returns-clause-found
returns-clause-found g c told bodies w lawful =
    let world = world_of c.in_ok-opened.opened.1 in
    let same : world ≡ w = c.in_ok-opened.ensures.world told bodies w lawful in
    let served : is_served c.args.name.now world ≡ true =
    sym c.serves.ensures ∙ c.if-not-serves.false in
    (ap (is_served c.args.name.now) (sym same) ∙ served, same, c.in_ok-name.ensures)

pub returns-clause-at : goal.returns-clause-at
returns-clause-at g c told =
    let stood = c.in_ok-opened.ensures.stood told in
    let safe = c.in_ok-opened.ensures.safe told stood.0 stood.1 stood.2 in
    let same = c.in_ok-opened.ensures.world told stood.0 stood.1 stood.2 in (
      stood.0 ++ [],
      subst (λ (x : World). Holds g.D.Disk c.open.new.disk c.in_ok-opened.opened.0
          (stood.0 ++ []) x) (sym same) safe.at,
    )

-- a search for these takes long

pub returns-then-not-serves-clause-stood : goal.returns-then-not-serves-clause-stood
returns-then-not-serves-clause-stood g c = c.in_ok-opened.ensures.stood

pub returns-then-not-serves-clause-cause : goal.returns-then-not-serves-clause-cause
returns-then-not-serves-clause-cause g c = done_cause _ _ _ _ c.in_ok-opened.ensures.cause

pub returns-clause-stood : goal.returns-clause-stood
returns-clause-stood g c = c.in_ok-opened.ensures.stood

pub returns-clause-cause : goal.returns-clause-cause
returns-clause-cause g c = done_cause _ _ _ _ c.in_ok-opened.ensures.cause

pub returns-in_err-opened-clause-found : goal.returns-in_err-opened-clause-found
returns-in_err-opened-clause-found g c told bodies w lawful =
    IfOk-from_err c.from_residual.result _ c.from_residual.ensures.0

pub returns-in_err-name-clause-found : goal.returns-in_err-name-clause-found
returns-in_err-name-clause-found g c told bodies w lawful =
    IfOk-from_err c.from_residual-in_err-name.result _ c.from_residual-in_err-name.ensures.0
