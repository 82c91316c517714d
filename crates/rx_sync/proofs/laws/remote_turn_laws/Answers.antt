use Rattle.rx_sync.proofs.Elsewhere.{remote_turn_again, remote_turn_sound, remote_turn_unharmed}
use Rattle.rx_sync.proofs.laws.remote_turn_laws.Goals as goal

pub returns-clause-sound : goal.returns-clause-sound
returns-clause-sound c = remote_turn_sound

pub returns-clause-again : goal.returns-clause-again
returns-clause-again c = remote_turn_again

pub returns-clause-unharmed : goal.returns-clause-unharmed
returns-clause-unharmed c = remote_turn_unharmed
