use Rattle.std.proofs.Common.{ap, ◌/◌, ◌%◌, ℕ}
use Rattle.rx_trial.specs.Drawing.{draw}
use Rattle.rx_trial.proofs.drawing.draw.Goals as goal

pub returns-clause-drawn : goal.returns-clause-drawn
unfolding draw
returns-clause-drawn c = ap (λ (x : ℕ). x / 8589934592 % c.args.most) c.stirred.ensures
