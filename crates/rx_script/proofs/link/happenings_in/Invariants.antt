use Rattle.std.proofs.Common.{◌≡◌, [], drop}
use Rattle.std.specs.List.{AllByRecursion}
use Rattle.serde_json.specs.View.{items_view}
use Rattle.rx_script.specs.Link.{happenings_after, IsHappening}
use Rattle.rx_script.proofs.link.happenings_in.Given as goal

-- what is due of all items is due of those that are left, after the happenings so far
abbrev pub invariant-loop-item : goal.invariant-loop-item
invariant-loop-item l = record {
  due : happenings_after [] (items_view l.items)
      ≡ happenings_after l.link.items (items_view (drop l.item-index l.items));
  late : AllByRecursion IsHappening l.link.items;
}
