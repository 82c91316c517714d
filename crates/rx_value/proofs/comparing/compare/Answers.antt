use Rattle.std.proofs.Common.{◌∙◌, ap₂}
use Rattle.std.specs.Ordering.{ordering_then}
use Rattle.rx_value.proofs.Settling.{decided}
use Rattle.rx_value.proofs.comparing.compare.Goals as goal

pub returns : goal.returns
returns c =
    c.then.ensures ∙ ap₂ ordering_then c.cmp.ensures c.cmp-2.ensures
    ∙ decided c.args.a.now c.args.b.now _ _ _ c.min-both.ensures c.numbers-x.ensures
