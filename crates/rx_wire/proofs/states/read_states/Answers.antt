use Rattle.std.proofs.Common.{◌≡◌, ◌+◌, false, Some, drop, sym, ap, ◌∙◌, rules, map, arith}
use Rattle.std.specs.BTreeSet.{contains_text}
use Rattle.std.specs.List.{list_any}
use Rattle.std.specs.Str.{bytes_eq}
use Rattle.serde_json.specs.View.{view, items_view}
use Rattle.rx_wire.specs.States.{state_of, state_key, read_after}
use Rattle.rx_wire.proofs.Keys.{seen_more, one_more}
use Rattle.rx_wire.proofs.states.read_states.Goals as goal

-- one state more
pub loop-item-preserved : goal.loop-item-preserved
loop-item-preserved c =
    let schema = c.args.schema.now in
    let items = c.args.items.now in
    let i = c.loop-item.item-index in
    let states = c.loop-item.states in
    let state = c.in-Some.state in
    let read : state_of schema (view c.item-item.result) ≡ Some state = search rules in
    let new : contains_text c.loop-item.seen state.key ≡ false = grind arith in
    record {
      due = c.loop-item.invariant.due
          ∙ one_more (state_of schema) state_key states items i c.item-item.result state
          c.loop-item-test.true c.item-item.is read
          (sym (c.loop-item.invariant.seen state.key) ∙ new)
          ∙ ap (λ rs. read_after (state_of schema) state_key rs (items_view (drop (i + 1) items)))
          (sym c.in_ok-push.ensures.ok);
      seen = λ q.
          seen_more state_key states state (contains_text c.loop-item.seen q)
          (contains_text c.is_first.new.seen q) q (c.loop-item.invariant.seen q)
          (c.in_ok-is_first.ensures.added q)
          ∙ ap (λ rs. list_any (bytes_eq q) (map state_key rs)) (sym c.in_ok-push.ensures.ok);
    }
