use Rattle.std.proofs.Common.{◌*◌, ◌^◌}
use Rattle.std.proofs.Math.Nat.{mod-add-mod}
use Rattle.rx_trial.specs.Drawing.{stirred}
use Rattle.rx_trial.proofs.drawing.stirred.Goals as goal

pub returns : goal.returns
unfolding stirred
returns c = mod-add-mod (c.args.state * 6364136223846793005) (2 ^ 64) 1442695040888963407
