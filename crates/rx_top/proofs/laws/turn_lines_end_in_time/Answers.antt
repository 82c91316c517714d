use Rattle.rx_top.proofs.RunTurns.{run_turns_in_time}
use Rattle.rx_top.proofs.TurnLines.{turn_lines_in_time}
use Rattle.rx_top.proofs.laws.turn_lines_end_in_time.Goals as goal

pub returns : goal.returns
returns g c = record {
  lines = turn_lines_in_time;
  run = run_turns_in_time g.S.Source g.K.Sink g.D.Disk g.N.Dial g.N.W.Wire.tells;
}
