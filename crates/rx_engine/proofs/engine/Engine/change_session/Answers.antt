use Rattle.std.proofs.Common.{◌∙◌, sym, subst, ap}
use Rattle.rx_journal.specs.declared.journal.Journal.{Journal}
use Rattle.rx_session.specs.Session.{Session}
use Rattle.rx_session.specs.Shown.{done_by}
use Rattle.rx_store.specs.Holds.{Holds}
use Rattle.rx_store.proofs.Stops.{memory_stop}
use Rattle.rx_world.specs.World.{World}
use Rattle.rx_engine.specs.Engine.{session_of}
use Rattle.rx_engine.specs.Meaning.{records_of}
use Rattle.rx_engine.proofs.Committing.{none_committed, none_to_commit}
use Rattle.rx_engine.proofs.Keeping.{no_record, world_kept}
use Rattle.rx_engine.proofs.engine.Engine.change_session.Goals as goal

pub returns-in-Write-clause-commits : goal.returns-in-Write-clause-commits
returns-in-Write-clause-commits g c = rw c.in-Write.is c.write_record.ensures.commits

pub returns-in_err-change-in_default-clause-commits :
    goal.returns-in_err-change-in_default-clause-commits
returns-in_err-change-in_default-clause-commits g c =
    none_committed g.D.Disk c.args.disk.now c.args.self
    (λ told left e. g.met.D.Disk.only_now c.args.disk.now left told e) _ _ c.from_residual.result
    (memory_stop c.from_residual.result c.from_residual.ensures.1)

pub returns-in_ok-change-in_default-clause-commits :
    goal.returns-in_ok-change-in_default-clause-commits
returns-in_ok-change-in_default-clause-commits g c =
    let d = g.D.Disk in
    let disk = c.args.disk.now in
    let self = c.args.self in
    let doing = done_by c.args.doing in
    let none = no_record c.args.doing c.in_default.not-Write in
    let e = c.in_ok-change-in_default.field-0.0 in
    let made = c.in_ok-change-in_default.ensures in
    let world = ap (λ (s : Session). s.world) made.session
    ∙ world_kept doing (session_of self) none in
    none_to_commit d disk self (λ told left e. g.met.D.Disk.only_now disk left told e)
    (records_of doing) none _ _
    (λ bodies at.
    subst (λ (j : Journal). Holds d disk j bodies (session_of e).world) (sym made.journal)
    (subst (λ (w : World). Holds d disk self.journal bodies w) (sym world) at))
    (ap (λ (j : Journal). j.limit) made.journal)
