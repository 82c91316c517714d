use Rattle.std.proofs.lemmas.Result.{IfOk-weaker}
use Rattle.rx_collection.proofs.Hinted.{spread_hinted}
use Rattle.rx_collection.proofs.hints.Hints.doubled.Goals as goal

pub returns-then-self : goal.returns-then-self
returns-then-self c = λ known.
    IfOk-weaker c.spread.result _ _ (λ hints all whole.
    spread_hinted c.args.self.now.places.items hints.places.items c.args.rows.now c.args.count
    (all whole) (known c.if-self.true)) c.spread.ensures
