use Rattle.std.proofs.Common.{◌∙◌, List, ◌++◌, length, string_bytes, ap}
use Rattle.rx_observe.specs.declared.emission.Emission.{Emission}
use Rattle.rx_engine.specs.Meaning.{lines_of}
use Rattle.rx_engine.proofs.Ahead.{answers_changed, left_as_it_is}
use Rattle.rx_engine.proofs.engine.Engine.stage_printed.Goals as goal

pub returns-in-Migrate : goal.returns-in-Migrate
returns-in-Migrate c = left_as_it_is c.args.self

pub returns-in-Restart : goal.returns-in-Restart
returns-in-Restart c = left_as_it_is c.args.self

pub returns-in_ok-output-in-Done : goal.returns-in_ok-output-in-Done
returns-in_ok-output-in-Done c =
    let out = c.in_ok-output-in-Done.ensures in
    answers_changed c.args.printed c.in-InSession.doing c.in-InSession.is c.args.self
    c.in-Done.engine c.in-Done.emissions.items (rw c.in-Done.is at c.in_ok-engine.ensures)
    c.in_ok-output-in-Done.output
    (out.text ∙ ap (λ (es : List Emission). string_bytes c.args.printed.text ++ lines_of es)
    c.as_slice.ensures.value)
    (out.emissions ∙ ap (λ (es : List Emission). length es) c.as_slice.ensures.value)
    out.refused out.end
