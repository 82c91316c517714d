use Rattle.std.proofs.Common.{ap}
use Rattle.std.specs.Option.{option_copied}
use Rattle.rx_observe.proofs.deciding.decide.Goals as goal

pub new-answers-requires-clause-edges : goal.new-answers-requires-clause-edges
new-answers-requires-clause-edges c =
    c.requires.edges c.in-false-false-Some.edges.now
    (ap option_copied c.in-false-false-Some.is-2)
