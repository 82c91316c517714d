use Rattle.rx_replication.specs.Interleaving.{IsSoundSystem, HasNumbersApart, IsEachAnswered, IsQuietThen, LosesNoUpdate, IsPendingUntilHeld}
use Rattle.rx_replication.proofs.Runs.{always, kept_quiet}
use Rattle.rx_replication.proofs.Throughout.{throughout}
use Rattle.rx_replication.proofs.Updates.{kept_updates, kept_pending}
use Rattle.rx_replication.proofs.interleaving.every_interleaving.Goals as goal

pub returns-clause-sound : goal.returns-clause-sound
returns-clause-sound c = always IsSoundSystem (λ resolve law w k. k.sound)

pub returns-clause-numbers : goal.returns-clause-numbers
returns-clause-numbers c = always HasNumbersApart (λ resolve law w k. k.differ)

pub returns-clause-answered : goal.returns-clause-answered
returns-clause-answered c =
    always IsEachAnswered (λ resolve law w k o e r m n. (k.good o e r m n).answered)

pub returns-clause-quiet : goal.returns-clause-quiet
returns-clause-quiet c = always IsQuietThen kept_quiet

pub returns-clause-no_lost_update : goal.returns-clause-no_lost_update
returns-clause-no_lost_update c = always LosesNoUpdate kept_updates

pub returns-clause-pending_until_held : goal.returns-clause-pending_until_held
returns-clause-pending_until_held c = always IsPendingUntilHeld kept_pending

pub returns-clause-throughout : goal.returns-clause-throughout
returns-clause-throughout c = throughout
