use Rattle.std.proofs.Common.{◌≡◌, ◌+◌, ◌∷◌, ◌++◌, drop, sym, ap, ◌∙◌}
use Rattle.rx_value.proofs.Lists.{drop_at}
use Rattle.rx_wire.specs.Printing.{tokens_left}
use Rattle.rx_wire.proofs.state_printing.put_state.Goals as goal

-- one field more
pub loop-i-preserved : goal.loop-i-preserved
loop-i-preserved c =
    let ps = c.args.state.now.fields in
    let i = c.loop-i.i in
    let deleted = c.args.state.now.deleted in
    let here : drop i ps ≡ (c.as_str.result.now, c.at.result.1.now) ∷ drop (i + 1) ps =
    drop_at ps i (c.at.result.0.now, c.at.result.1.now) c.at.ensures
    ∙ ap (λ n. (n, c.at.result.1.now) ∷ drop (i + 1) ps) (sym c.as_str.ensures) in
    record {
      before = c.in_ok-marked.ensures.before ∙ c.loop-i.invariant.before;
      tokens = c.in_ok-marked.ensures.tokens (drop (i + 1) ps)
          ∙ ap (λ qs. c.loop-i.writer.tokens ++ tokens_left c.loop-i.marked deleted qs) (sym here)
          ∙ c.loop-i.invariant.tokens;
    }
