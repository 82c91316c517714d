use Rattle.rx_steps.proofs.Courses.{exchanges_are_steps}
use Rattle.rx_steps.proofs.Histories.{histories_are_steps}
use Rattle.rx_steps.proofs.Records.{records_are_steps, replications_begin}
use Rattle.rx_steps.proofs.Turns.{turns_are_steps}
use Rattle.rx_steps.proofs.laws.step_laws.Goals as goal

pub returns-clause-exchanges : goal.returns-clause-exchanges
returns-clause-exchanges c = exchanges_are_steps

pub returns-clause-turns : goal.returns-clause-turns
returns-clause-turns c = turns_are_steps

pub returns-clause-records : goal.returns-clause-records
returns-clause-records c = records_are_steps

pub returns-clause-begin : goal.returns-clause-begin
returns-clause-begin c = replications_begin

pub returns-clause-histories : goal.returns-clause-histories
returns-clause-histories c = histories_are_steps
