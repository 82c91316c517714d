use Rattle.std.proofs.Common.{rules, ◌∙◌, ap, sym, subst, drop}
use Rattle.std.proofs.lemmas.Fn.{always_returns_same}
use Rattle.std.specs.Ordering.{is_lt}
use Rattle.rx_value.specs.Named.{AreRising}
use Rattle.rx_value.specs.Order.{text_cmp}
use Rattle.rx_runs.specs.Run.{from_name}
use Rattle.rx_runs.proofs.Joined.{below_first, from_point, from_rising}
use Rattle.rx_runs.proofs.chunk.Chunk.from.Goals as goal

-- the closure compares a pair's name
pub returns : goal.returns
returns g c =
    let k = c.args.name.now in
    let es = c.as_slice.result.now in
    let at = c.partition_point-at.result in
    let rising = subst AreRising (sym c.as_slice.ensures.value) c.self.invariant in
    let point = c.partition_point-at.ensures.partitioned (λ e. is_lt (text_cmp e.0 k))
    (always_returns_same _ _ _ (λ a r f called. search rules)) (below_first k es rising) in
    let those = c.split_at.ensures.back
    ∙ ap (drop at) (c.as_slice-2.ensures.value ∙ sym c.as_slice.ensures.value)
    ∙ from_point k es at c.partition_point-at.ensures.bound point in
    record {
      value = those ∙ ap (λ es. from_name es k) (c.as_slice.ensures.value ∙ c.self.view_is);
      rising = subst AreRising (sym those) (from_rising k es rising);
    }
