use Rattle.rx_steps.proofs.TextsOfMessages.{requests_short, replies_short, long_keys}
use Rattle.rx_steps.proofs.TextsOfStates.{states_short, keys_short}
use Rattle.rx_steps.proofs.TextsRead.{requests_again, replies_again}
use Rattle.rx_steps.proofs.TextsUnderstood.{asks_understood, answers_understood, taken_short}
use Rattle.rx_steps.proofs.texts.text_laws.Goals as goal

pub returns-clause-state : goal.returns-clause-state
returns-clause-state c = states_short

pub returns-clause-key : goal.returns-clause-key
returns-clause-key c = keys_short

pub returns-clause-request : goal.returns-clause-request
returns-clause-request c = requests_short

pub returns-clause-reply : goal.returns-clause-reply
returns-clause-reply c = replies_short

pub returns-clause-long_keys : goal.returns-clause-long_keys
returns-clause-long_keys c = long_keys

pub returns-clause-request_reads_back : goal.returns-clause-request_reads_back
returns-clause-request_reads_back c = requests_again

pub returns-clause-reply_reads_back : goal.returns-clause-reply_reads_back
returns-clause-reply_reads_back c = replies_again

pub returns-clause-asks : goal.returns-clause-asks
returns-clause-asks c = asks_understood

pub returns-clause-answers : goal.returns-clause-answers
returns-clause-answers c = answers_understood

pub returns-clause-taken : goal.returns-clause-taken
returns-clause-taken c = taken_short
