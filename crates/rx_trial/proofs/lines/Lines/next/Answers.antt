use Rattle.std.proofs.Common.{◌≡◌, refl, Some, None}
use Rattle.std.specs.Prelude.{slice_get}
use Rattle.rx_value.proofs.Lists.{drop_at}
use Rattle.rx_trial.proofs.Listed.{drop_past, drawn_first}
use Rattle.rx_trial.specs.Lines.{opening}
use Rattle.rx_trial.proofs.lines.Lines.next.Goals as goal

pub returns-in-Some-clause-line : goal.returns-in-Some-clause-line
returns-in-Some-clause-line c =
    let first : slice_get opening c.args.self.now.given ≡ Some c.in-Some.line = cc in
    rw (drop_at opening c.args.self.now.given c.in-Some.line first) refl

pub returns-then-self-gt0-clause-line : goal.returns-then-self-gt0-clause-line
returns-then-self-gt0-clause-line c =
    let past : slice_get opening c.args.self.now.given ≡ None = cc in
    rw (
      drop_past opening c.args.self.now.given past,
      drawn_first c.args.self.now.left c.args.self.now.state c.if-self-gt0.true,
      ← c.line.ensures.line,
      ← c.line.ensures.state,
    ) refl
