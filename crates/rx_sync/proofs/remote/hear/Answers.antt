use Rattle.std.proofs.Common.{rules, subst}
use Rattle.rx_handler.specs.Shown.{kinds_of}
use Rattle.rx_world.specs.Holders.{world_in}
use Rattle.rx_sync.specs.Exchange.{Planned, Terms}
use Rattle.rx_sync.specs.Laws.{ComeSoundly}
use Rattle.rx_sync.specs.Shown.{heard_of}
use Rattle.rx_sync.proofs.Elsewhere.{heard_come}
use Rattle.rx_sync.proofs.remote.hear.Goals as goal
use Rattle.rx_sync.proofs.remote.hear.Goals.{in-NoDial+in_ok-planned-in-NoDial, in-NoWire+in_ok-planned-in-NoWire, in-NoLine+in_ok-planned-in-NoLine, in-Line+in_ok-planned-in-Line}

pub returns-clause-exact : goal.returns-clause-exact
returns-clause-exact g c =
    elim c.match-heard.branch [
      | in-NoDial+in_ok-planned-in-NoDial b ↦ search rules
      | in-NoWire+in_ok-planned-in-NoWire b ↦ search rules
      | in-NoLine+in_ok-planned-in-NoLine b ↦ search rules
      | in-Line+in_ok-planned-in-Line b ↦ search rules
    ]

pub returns-clause-next : goal.returns-clause-next
returns-clause-next g c =
    let w = world_in g.H.Holder.held c.args.world.now in
    let t : Terms =
    record { name = c.args.name.now; now = c.args.now; kinds = kinds_of c.args.handlers.now } in
    subst (λ (p : Planned). ComeSoundly w p.records) (returns-clause-exact g c)
    (heard_come t w c.requires.ready c.args.asked.now c.requires.asked (heard_of c.args.heard.now))
