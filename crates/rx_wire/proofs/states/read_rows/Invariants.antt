use Rattle.std.proofs.Common.{◌≡◌, ℕ, List, map, drop}
use Rattle.std.specs.BTreeSet.{contains_text}
use Rattle.std.specs.List.{list_any}
use Rattle.std.specs.Str.{bytes_eq}
use Rattle.serde_json.specs.View.{items_view}
use Rattle.rx_wire.specs.States.{row_of, row_key, rows_of, read_after}
use Rattle.rx_wire.proofs.states.read_rows.Given as goal

-- what is due of all items is due of those that are left, after the rows so far, whose keys were
-- seen
abbrev pub invariant-loop-item : goal.invariant-loop-item
invariant-loop-item l = record {
  due : rows_of l.schema (items_view l.items)
      ≡ read_after (row_of l.schema) row_key l.rows (items_view (drop l.item-index l.items));
  seen : (q : List ℕ) → contains_text l.seen q ≡ list_any (bytes_eq q) (map row_key l.rows);
}
