use Rattle.rx_steps.proofs.Numbers.{few_requests_have_numbers, lines_ask_no_more, scripts_ask_no_more}
use Rattle.rx_steps.proofs.laws.number_laws.Goals as goal

pub returns-clause-lines : goal.returns-clause-lines
returns-clause-lines c = lines_ask_no_more

pub returns-clause-scripts : goal.returns-clause-scripts
returns-clause-scripts c = scripts_ask_no_more

pub returns-clause-few : goal.returns-clause-few
returns-clause-few c = few_requests_have_numbers
