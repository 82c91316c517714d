use Rattle.std.proofs.Common.{◌≡◌, ◌+◌, false, Some, map, drop, sym, ap, ◌∙◌, rules, arith}
use Rattle.std.specs.BTreeSet.{contains_text}
use Rattle.std.specs.List.{list_any}
use Rattle.std.specs.Str.{bytes_eq}
use Rattle.serde_json.specs.View.{view, items_view}
use Rattle.rx_wire.specs.States.{row_of, row_key, read_after}
use Rattle.rx_wire.proofs.Keys.{seen_more, one_more}
use Rattle.rx_wire.proofs.states.read_rows.Goals as goal

-- one row more
pub loop-item-preserved : goal.loop-item-preserved
loop-item-preserved c =
    let schema = c.args.schema.now in
    let items = c.args.items.now in
    let i = c.loop-item.item-index in
    let rows = c.loop-item.rows in
    let row = c.in-Some.row in
    let read : row_of schema (view c.item-item.result) ≡ Some row = search rules in
    let new : contains_text c.loop-item.seen row.new.key ≡ false = grind arith in
    record {
      due = c.loop-item.invariant.due
          ∙ one_more (row_of schema) row_key rows items i c.item-item.result row
          c.loop-item-test.true c.item-item.is read
          (sym (c.loop-item.invariant.seen row.new.key) ∙ new)
          ∙ ap (λ rs. read_after (row_of schema) row_key rs (items_view (drop (i + 1) items)))
          (sym c.in_ok-push.ensures.ok);
      seen = λ q.
          seen_more row_key rows row (contains_text c.loop-item.seen q)
          (contains_text c.is_first.new.seen q) q (c.loop-item.invariant.seen q)
          (c.in_ok-is_first.ensures.added q)
          ∙ ap (λ rs. list_any (bytes_eq q) (map row_key rs)) (sym c.in_ok-push.ensures.ok);
    }
