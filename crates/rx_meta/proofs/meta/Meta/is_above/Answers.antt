use Rattle.std.proofs.Common.{◌≡◌, ◌∙◌, ap, sym, ℕ, List, reverse, Some, None, slice_get, rules}
use Rattle.std.specs.Ordering.{is_lt}
use Rattle.rx_value.specs.Order.{text_cmp}
use Rattle.rx_value.specs.declared.state.State.{State}
use Rattle.rx_meta.specs.Side.{Side, is_above_known}
use Rattle.rx_meta.proofs.Above.{above_last, above_none}
use Rattle.rx_meta.proofs.meta.Meta.is_above.Goals as goal

pub returns-in-Some : goal.returns-in-Some
returns-in-Some c =
    let known = c.self.inside.known in
    let key = c.args.key.now in
    let last : List ℕ × State = (c.in-Some.last.now, c.in-Some.field-0-1.now) in
    let is : c.is_lt.result ≡ is_lt (text_cmp c.in-Some.last.now key) = search rules in
    let at : slice_get (reverse known) 0 ≡ Some last = search rules in
    is ∙ sym (above_last known last key at c.self.invariant.rising)
    ∙ ap (λ (side : Side). is_above_known side.known key) c.self.view_is

pub returns-in-None : goal.returns-in-None
returns-in-None c =
    let known = c.self.inside.known in
    let key = c.args.key.now in
    let at : slice_get (reverse known) 0 ≡ None = search rules in
    sym (above_none known key at)
    ∙ ap (λ (side : Side). is_above_known side.known key) c.self.view_is
