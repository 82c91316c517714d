use Rattle.std.proofs.Common.{◌∙◌, ap, rules}
use Rattle.rx_handler.specs.Shown.{kinds_of}
use Rattle.rx_script.specs.declared.happening.Happening.{Happening}
use Rattle.rx_world.specs.Holders.{world_in}
use Rattle.rx_sync.specs.Exchange.{Terms, exchange}
use Rattle.rx_sync.proofs.Calls.{asked_lawful, exchange_pulled, exchange_soundly}
use Rattle.rx_sync.proofs.Repeats.{twice_is_once}
use Rattle.rx_sync.proofs.exchanging.exchange.Goals as goal
use Rattle.rx_sync.proofs.exchanging.exchange.Goals.{in-LoseRequest+in_ok-lost_by-in-LoseRequest, in-LoseReply+in_ok-planned-in-LoseReply, in-Stale+in_ok-planned-in-Stale, in-Ok+in_ok-planned-in-Ok, in-Twice+in_ok-planned-in-Twice}

pub reply_lost-requires-clause-lawful : goal.reply_lost-requires-clause-lawful
reply_lost-requires-clause-lawful g c =
    asked_lawful (world_in g.H.Holder.held c.args.world.now) c.args.name.now
    (kinds_of c.args.handlers.now) c.requires.ready c.args.asked.now c.requires.asked c.args.now

pub reply_lost-requires-in-Stale-clause-lawful : goal.reply_lost-requires-in-Stale-clause-lawful
reply_lost-requires-in-Stale-clause-lawful g c =
    asked_lawful (world_in g.H.Holder.held c.args.world.now) c.args.name.now
    (kinds_of c.args.handlers.now) c.requires.ready c.args.asked.now c.requires.asked c.args.now

pub returns-clause-exact : goal.returns-clause-exact
returns-clause-exact g c =
    let w = world_in g.H.Holder.held c.args.world.now in
    let asked = c.args.asked.now in
    let t : Terms =
    record { name = c.args.name.now; now = c.args.now; kinds = kinds_of c.args.handlers.now } in
    elim c.match-happening.branch [
      | in-LoseRequest+in_ok-lost_by-in-LoseRequest b ↦ search rules
      | in-LoseReply+in_ok-planned-in-LoseReply b ↦ search rules
      | in-Stale+in_ok-planned-in-Stale b ↦ search rules
      | in-Ok+in_ok-planned-in-Ok b ↦ search rules
      -- a second handling changes nothing
      | in-Twice+in_ok-planned-in-Twice b ↦ rw b.planned-is
          (ap (λ (x : Happening). exchange t asked x w) b.in-Twice.is
          ∙ twice_is_once t w c.requires.ready asked c.requires.asked
          ∙ b.in_ok-planned-in-Twice.ensures.exact)
    ]

pub returns-clause-next : goal.returns-clause-next
returns-clause-next g c =
    exchange_soundly (world_in g.H.Holder.held c.args.world.now) c.args.name.now
    (kinds_of c.args.handlers.now) c.requires.ready c.args.asked.now c.requires.asked c.args.now
    c.args.happening c.match-happening.planned (returns-clause-exact g c)

pub returns-clause-pulled : goal.returns-clause-pulled
returns-clause-pulled g c =
    exchange_pulled (world_in g.H.Holder.held c.args.world.now) c.args.name.now
    (kinds_of c.args.handlers.now) c.requires.ready c.args.asked.now c.requires.asked c.args.now
    c.args.happening c.match-happening.planned (returns-clause-exact g c)
