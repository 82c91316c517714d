use Rattle.std.proofs.Common.{ap, ◌∙◌, take_all, arith}
use Rattle.rx_schema.specs.Writing.{kinds_of}
use Rattle.rx_schema.proofs.Written.{kinds_rising}
use Rattle.rx_schema.proofs.writing.kinds_of.Goals as goal

pub new-requires : goal.new-requires
new-requires c =
    rw (c.loop-name.invariant
    ∙ ap kinds_of (take_all c.loop-name.name-index c.args.properties.now
    (omega (arith, c.loop-name-test.false))))
    (kinds_rising c.args.properties.now c.requires)
