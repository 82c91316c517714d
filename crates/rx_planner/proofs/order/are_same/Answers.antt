use Rattle.std.proofs.Common.{sym, ◌∙◌}
use Rattle.std.specs.Cmp.Derive.Mapped.{pointwise-map}
use Rattle.std.specs.Str.{bytes_eq}
use Rattle.rx_planner.proofs.order.are_same.Goals as goal

pub returns : goal.returns
returns c =
    c.eq.ensures ∙ sym (pointwise-map (λ f. f.now) bytes_eq c.args.these.now c.args.those.now)
