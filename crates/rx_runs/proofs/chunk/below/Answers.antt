use Rattle.std.proofs.Common.{rules, ◌∙◌}
use Rattle.std.proofs.lemmas.Fn.{always_returns_same}
use Rattle.std.specs.Ordering.{is_lt}
use Rattle.rx_value.specs.Order.{text_cmp}
use Rattle.rx_runs.proofs.Joined.{below_first, below_point}
use Rattle.rx_runs.proofs.chunk.below.Goals as goal

-- the closure compares a pair's name
pub returns : goal.returns
returns g c =
    let k = c.args.name.now in
    let es = c.args.pairs.now in
    let point = c.partition_point-at.ensures.partitioned (λ e. is_lt (text_cmp e.0 k))
    (always_returns_same _ _ _ (λ a r f called. search rules)) (below_first k es c.requires) in
    c.split_at.ensures.front
    ∙ below_point k es c.partition_point-at.result c.partition_point-at.ensures.bound point
