use Rattle.std.proofs.Common.{◌≡◌, ◌∙◌, Err, ap}
use Rattle.std.proofs.lemmas.Result.{IfOk-from_err}
use Rattle.rx_outside.specs.declared.stop.Stop.TheVariants as Stop
use Rattle.rx_host.specs.Report.{report_of}
use Rattle.rx_host.specs.Worlds.{world_of}
use Rattle.rx_store.proofs.Stops.{done_cause, memory_cause, memory_stop}
use Rattle.rx_host.proofs.checking.check.Goals as goal

pub returns-in-Err-clause-not_journal : goal.returns-in-Err-clause-not_journal
returns-in-Err-clause-not_journal g c told is =
    let same : c.in-Err.stop ≡ Stop.NotJournal = cc in
    c.in-Err.ensures.not_journal told (ap (λ s. Err s) same)

-- a search for these takes long

pub returns-in_err-report-clause-report : goal.returns-in_err-report-clause-report
returns-in_err-report-clause-report g c told bodies w lawful =
    IfOk-from_err c.from_residual.result _ c.from_residual.ensures.0

pub returns-in_err-report-clause-cause : goal.returns-in_err-report-clause-cause
returns-in_err-report-clause-cause g c =
    memory_cause _ _ _ c.from_residual.result
    (memory_stop c.from_residual.result c.from_residual.ensures.1) c.in-Ok.ensures.cause

pub returns-clause-cause : goal.returns-clause-cause
returns-clause-cause g c = done_cause _ _ _ _ c.in-Ok.ensures.cause

pub returns-clause-report : goal.returns-clause-report
returns-clause-report g c told bodies w lawful =
    let shown = c.in-Ok.ensures.shown told bodies w lawful in
    c.in_ok-report.ensures ∙ (λ i. report_of (shown.0 i) (shown.2 i) (shown.1 i))

pub returns-clause-somewhere : goal.returns-clause-somewhere
returns-clause-somewhere g c = (
  world_of c.in-Ok.looked.world,
  c.in-Ok.looked.end,
  c.in-Ok.looked.records,
  c.in_ok-report.ensures,
)
