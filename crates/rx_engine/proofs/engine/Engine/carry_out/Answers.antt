use Rattle.std.proofs.Common.{refl, rules}
use Rattle.rx_engine.specs.declared.engine.Engine.{Engine}
use Rattle.rx_engine.proofs.Committing.{commits_so, commits_stopped}
use Rattle.rx_engine.proofs.engine.Engine.carry_out.Goals as goal

pub returns-in-InSession-clause-commits : goal.returns-in-InSession-clause-commits
returns-in-InSession-clause-commits g c =
    rw c.in-InSession.is c.change_session.ensures.commits

pub returns-in-Migrate-clause-commits : goal.returns-in-Migrate-clause-commits
returns-in-Migrate-clause-commits g c =
    rw c.in-Migrate.is c.migrate.ensures.commits

pub returns-in_err-reopen-in-Restart-clause-commits :
    goal.returns-in_err-reopen-in-Restart-clause-commits
returns-in_err-reopen-in-Restart-clause-commits g c =
    rw c.in-Restart.is (commits_stopped g.D.Disk c.args.disk.now c.reopen.new.disk c.args.self _
    (λ (e : Engine). e) _ c.in_err-reopen-in-Restart.field-0.0 c.from_residual.result (search rules)
    c.in_err-reopen-in-Restart.ensures.commits)

pub returns-in_ok-reopen-in-Restart-clause-commits :
    goal.returns-in_ok-reopen-in-Restart-clause-commits
returns-in_ok-reopen-in-Restart-clause-commits g c =
    rw c.in-Restart.is (commits_so g.D.Disk c.args.disk.now c.reopen.new.disk c.args.self _
    (λ (e : Engine). e) _ _ _ (λ bodies held. held) refl
    c.in_ok-reopen-in-Restart.ensures.commits)
