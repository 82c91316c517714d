use Rattle.rx_sync.proofs.Deliveries.{delivery_again, delivery_sound, delivery_waits}
use Rattle.rx_sync.proofs.Levels.{level_is_equal}
use Rattle.rx_sync.proofs.laws.delivery_laws.Goals as goal

pub returns-clause-sound : goal.returns-clause-sound
returns-clause-sound c = delivery_sound

pub returns-clause-untouched : goal.returns-clause-untouched
returns-clause-untouched c = delivery_waits

pub returns-clause-again : goal.returns-clause-again
returns-clause-again c = delivery_again

pub returns-clause-level : goal.returns-clause-level
returns-clause-level c = level_is_equal
