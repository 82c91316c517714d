use Rattle.rx_sync.proofs.AnyReply.{taking_changes_nothing_else, taking_loses_none, taking_lowers_none, taking_may_come, taking_sound_at_port, taking_stays_made, taking_stays_sound, taking_stays_valid}
use Rattle.rx_sync.proofs.laws.any_reply_laws.Goals as goal

pub returns-clause-may_come : goal.returns-clause-may_come
returns-clause-may_come c = taking_may_come

pub returns-clause-no_checkpoint_falls : goal.returns-clause-no_checkpoint_falls
returns-clause-no_checkpoint_falls c = taking_lowers_none

pub returns-clause-valid : goal.returns-clause-valid
returns-clause-valid c = taking_stays_valid

pub returns-clause-sound_without_the_master : goal.returns-clause-sound_without_the_master
returns-clause-sound_without_the_master c = taking_stays_sound

pub returns-clause-no_lost_update : goal.returns-clause-no_lost_update
returns-clause-no_lost_update c = taking_loses_none

pub returns-clause-nothing_else : goal.returns-clause-nothing_else
returns-clause-nothing_else c = taking_changes_nothing_else

pub returns-clause-made : goal.returns-clause-made
returns-clause-made c = taking_stays_made

pub returns-clause-sound_at_port : goal.returns-clause-sound_at_port
returns-clause-sound_at_port c = taking_sound_at_port
