use Rattle.std.proofs.Common.{◌∙◌, ℕ, List, Some, ap, sym}
use Rattle.rx_value.specs.Named.{named}
use Rattle.rx_value.proofs.Outcomes.{some_is}
use Rattle.rx_reply.specs.declared.turn.Exchanged.{Exchanged}
use Rattle.rx_reply.specs.declared.turn.Lost.TheVariants as lost
use Rattle.rx_sync.specs.Asking.{asked_in}
use Rattle.rx_sync.specs.Asks.{next_number}
use Rattle.rx_sync.specs.Exchange.{asked_to_pull}
use Rattle.rx_sync.proofs.HeardPulls.{lost_leaves_none}
use Rattle.rx_engine.proofs.dialling.miss_turn.Goals as goal

pub returns-clause-none : goal.returns-clause-none
returns-clause-none c is =
    let w = c.args.play.playing.world in
    let name = c.args.wanted.now.name in
    let n = next_number c.args.asks.now in
    let r = some_is (named w.replications name) c.requires.held in
    lost_leaves_none w c.requires.made name r.0 r.1 n c.args.wanted.now.batch c.requires.batch
    c.in_ok-asked.asked
    (ap (λ (k : List ℕ). asked_in w k n c.args.wanted.now.batch) (sym c.as_str.ensures)
    ∙ c.in_ok-asked.ensures.asked)
    lost.Dial
    (ap (λ (e : Exchanged). asked_to_pull (Some e)) (sym c.in_ok-lost.ensures)
    ∙ sym c.asked_to_pull-pulled.ensures ∙ is)
