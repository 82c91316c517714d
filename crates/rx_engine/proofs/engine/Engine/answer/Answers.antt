use Rattle.std.proofs.Common.{List, ◌++◌, length, string_bytes, ◌∙◌, refl, ap, rules}
use Rattle.rx_observe.specs.declared.emission.Emission.{Emission}
use Rattle.rx_engine.specs.Meaning.{lines_of}
use Rattle.rx_engine.proofs.Committing.{commits_before, commits_so, commits_stopped}
use Rattle.rx_engine.proofs.Meanings.{alone}
use Rattle.rx_store.proofs.Stops.{memory_stop}
use Rattle.rx_engine.proofs.engine.Engine.answer.Goals as goal

pub returns-in_err-engine-clause-commits : goal.returns-in_err-engine-clause-commits
returns-in_err-engine-clause-commits g c =
    commits_stopped g.D.Disk c.args.disk.now c.carry_out.new.disk c.args.self _ _ _
    c.in_err-engine.field-0.0 c.from_residual.result (search rules) c.in_err-engine.ensures.commits

pub returns-in_err-output-clause-commits : goal.returns-in_err-output-clause-commits
returns-in_err-output-clause-commits g c =
    commits_before g.D.Disk c.args.disk.now c.carry_out.new.disk c.args.self _ _ _ _
    c.from_residual-in_err-output.result
    (memory_stop c.from_residual-in_err-output.result c.from_residual-in_err-output.ensures.1)
    c.in_ok-engine.ensures.commits

pub returns-clause-text : goal.returns-clause-text
returns-clause-text g c =
    c.in_ok-output.ensures.text
    ∙ ap (λ (es : List Emission). string_bytes c.args.printed.text ++ lines_of es)
    (c.as_slice.ensures.value ∙ c.in_ok-engine.ensures.emissions)

pub returns-clause-emitted : goal.returns-clause-emitted
returns-clause-emitted g c =
    c.in_ok-output.ensures.emissions
    ∙ ap (λ (es : List Emission). length es)
    (c.as_slice.ensures.value ∙ c.in_ok-engine.ensures.emissions)

pub returns-clause-commits : goal.returns-clause-commits
returns-clause-commits g c =
    commits_so g.D.Disk c.args.disk.now c.carry_out.new.disk c.args.self _ _ _ _ _
    (λ bodies held. held) refl c.in_ok-engine.ensures.commits

pub returns-clause-idle : goal.returns-clause-idle
returns-clause-idle g c idle =
    let left = c.in_ok-engine.ensures.idle idle in
    let none = c.as_slice.ensures.value ∙ left.1 in (
      left.0,
      c.in_ok-output.ensures.text ∙ alone (string_bytes c.args.printed.text) _ none,
      c.in_ok-output.ensures.emissions ∙ ap (λ (es : List Emission). length es) none,
    )
