use Rattle.rx_steps.proofs.Keeps.{lines_keep_sound, sound_scripts_are_histories}
use Rattle.rx_steps.proofs.Scripts.{lines_are_events, openings_are_events, scripts_are_histories}
use Rattle.rx_steps.proofs.Sounds.{sound_lines_may_be_played}
use Rattle.rx_steps.proofs.laws.script_laws.Goals as goal

pub returns-clause-lines : goal.returns-clause-lines
returns-clause-lines c = lines_are_events

pub returns-clause-openings : goal.returns-clause-openings
returns-clause-openings c = openings_are_events

pub returns-clause-scripts : goal.returns-clause-scripts
returns-clause-scripts c = scripts_are_histories

pub returns-clause-may : goal.returns-clause-may
returns-clause-may c = sound_lines_may_be_played

pub returns-clause-keep : goal.returns-clause-keep
returns-clause-keep c = lines_keep_sound

pub returns-clause-sound : goal.returns-clause-sound
returns-clause-sound c = sound_scripts_are_histories
