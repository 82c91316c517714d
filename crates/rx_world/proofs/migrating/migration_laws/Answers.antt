use Rattle.rx_world.proofs.Migrates.{keeps_made, migrates}
use Rattle.rx_world.proofs.Settled.{keeps_sound}
use Rattle.rx_world.proofs.migrating.migration_laws.Goals as goal

pub returns-clause-migrates : goal.returns-clause-migrates
returns-clause-migrates c = migrates

pub returns-clause-made : goal.returns-clause-made
returns-clause-made c = keeps_made

pub returns-clause-sound : goal.returns-clause-sound
returns-clause-sound c = keeps_sound
