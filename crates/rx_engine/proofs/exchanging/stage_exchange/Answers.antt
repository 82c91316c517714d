use Rattle.std.proofs.Common.{◌≡◌, ◌∙◌, ap, map, List, sym, subst}
use Rattle.rx_handler.specs.Shown.{kinds_of}
use Rattle.rx_record.specs.Content.{Content}
use Rattle.rx_record.specs.Shown.{content}
use Rattle.rx_sync.specs.Exchange.{Planned, exchange}
use Rattle.rx_world.specs.World.{World}
use Rattle.rx_engine.specs.Play.{Follows}
use Rattle.rx_engine.specs.Turning.{terms}
use Rattle.rx_engine.proofs.exchanging.stage_exchange.Goals as goal

pub returns-clause-staged : goal.returns-clause-staged
returns-clause-staged g c =
    let t = terms c.args.name.now c.args.now (kinds_of c.args.handlers.now) in
    let due : World → List Content = λ w. (exchange t c.args.asked.now c.args.happening w).records
    in
    let planned : due c.args.play.playing.world ≡ map content c.in_ok-records.field-0.records.items
    =
    ap due (sym c.world-world.ensures) ∙ ap (λ (p : Planned). p.records)
    c.in_ok-records.ensures.exact in
    subst (λ (cs : List Content). Follows c.args.play cs c.in_ok-play.play) (sym planned)
    c.in_ok-play.ensures
