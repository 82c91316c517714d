use Rattle.rx_compact.proofs.Tokens.{revisions_are_tokened}
use Rattle.rx_compact.proofs.Whole.{copy_makes_world, front_makes_none}
use Rattle.rx_compact.proofs.laws.copy_laws.Goals as goal

pub returns-clause-whole : goal.returns-clause-whole
returns-clause-whole c = copy_makes_world

pub returns-clause-front : goal.returns-clause-front
returns-clause-front c = front_makes_none

pub returns-clause-tokened : goal.returns-clause-tokened
returns-clause-tokened c = revisions_are_tokened
