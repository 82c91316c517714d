use Rattle.rx_update.proofs.Standing as standing
use Rattle.rx_update.proofs.attached.attached_laws.Goals as goal

pub returns-clause-which : goal.returns-clause-which
returns-clause-which c = standing.which

pub returns-clause-texts : goal.returns-clause-texts
returns-clause-texts c = standing.texts
