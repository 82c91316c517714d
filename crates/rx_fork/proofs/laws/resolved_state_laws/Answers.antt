use Rattle.rx_fork.proofs.Validity.{resolves_keys, resolves_valid}
use Rattle.rx_fork.proofs.laws.resolved_state_laws.Goals as goal

pub returns-clause-key : goal.returns-clause-key
returns-clause-key c = resolves_keys

pub returns-clause-valid : goal.returns-clause-valid
returns-clause-valid c = resolves_valid
