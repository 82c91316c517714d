use Rattle.rx_sync.proofs.Lawful.{answers_its_fork, answers_lawfully, asks_lawfully}
use Rattle.rx_sync.proofs.laws.message_laws.Goals as goal

pub returns-clause-asks : goal.returns-clause-asks
returns-clause-asks c = asks_lawfully

pub returns-clause-answers : goal.returns-clause-answers
returns-clause-answers c = answers_lawfully

pub returns-clause-answers_fork : goal.returns-clause-answers_fork
returns-clause-answers_fork c = answers_its_fork
