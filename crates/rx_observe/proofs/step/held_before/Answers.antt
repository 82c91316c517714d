use Rattle.std.proofs.Common.{◌≡◌, None, Option, Some, arith, refl}
use Rattle.rx_value.specs.Named.{named}
use Rattle.rx_document.specs.declared.stored.Stored.{Stored}
use Rattle.rx_collection.specs.Commit.{IsNext, IsNextHeight}
use Rattle.rx_collection.specs.Held.{Held}
use Rattle.rx_collection.specs.Lawful.{IsLawful}
use Rattle.rx_collection.proofs.Lawful.{later}
use Rattle.rx_observe.proofs.step.held_before.Goals as goal

-- a row of height 1 is the first one of its key, since each that is held counts its writes from 1
first_of_key : (c : Held) (row : Stored) → IsLawful c → IsNext c row → row.rev.height ≡ 1
    → (o : Option Stored) → named c.documents row.state.key ≡ o
    → IsNextHeight o row.lwt row.rev.height → None ≡ o
first_of_key c row lawful next one None at is = refl
first_of_key c row lawful next one (Some d) at is =
    let counted = (later c row lawful next d at).1 in absurd (omega arith)

pub returns-then-row-eq1 : goal.returns-then-row-eq1
returns-then-row-eq1 c =
    let held = c.args.collection.now in
    let row = c.args.row.now in
    first_of_key held row c.requires.lawful c.requires.next c.if-row-eq1.true
    (named held.documents row.state.key) refl c.requires.next.height
