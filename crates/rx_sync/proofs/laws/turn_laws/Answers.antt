use Rattle.rx_sync.proofs.Refusals.{by_the_clock_alone}
use Rattle.rx_sync.proofs.Repeats.{twice_is_once}
use Rattle.rx_sync.proofs.Turns.{turn_sound, turn_again, turn_quiet}
use Rattle.rx_sync.proofs.Updates.{turn_keeps}
use Rattle.rx_sync.proofs.laws.turn_laws.Goals as goal

pub returns-clause-sound : goal.returns-clause-sound
returns-clause-sound c = turn_sound

pub returns-clause-again : goal.returns-clause-again
returns-clause-again c = turn_again

pub returns-clause-quiet : goal.returns-clause-quiet
returns-clause-quiet c = turn_quiet

pub returns-clause-no_lost_update : goal.returns-clause-no_lost_update
returns-clause-no_lost_update c = turn_keeps

pub returns-clause-twice : goal.returns-clause-twice
returns-clause-twice c = twice_is_once

pub returns-clause-clock : goal.returns-clause-clock
returns-clause-clock c = by_the_clock_alone
