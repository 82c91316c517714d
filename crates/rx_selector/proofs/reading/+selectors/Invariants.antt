use Rattle.std.proofs.Common.{◌≡◌, map, drop}
use Rattle.serde_json.specs.View.{members_view, items_view}
use Rattle.rx_selector.specs.Reading.{members_clauses, items_clauses}
use Rattle.rx_selector.specs.Tree.{clause_view}
use Rattle.rx_selector.proofs.Lists.{before}
use Rattle.rx_selector.proofs.reading.+selectors.Given as goal

-- the clauses so far, before those of the members that are left, are those of all members
abbrev pub invariant-read_members-loop-name : goal.invariant-read_members-loop-name
invariant-read_members-loop-name l =
    members_clauses l.kinds l.depth (members_view l.members.entries)
    ≡ before (map clause_view l.clauses.items)
    (members_clauses l.kinds l.depth (members_view l.name-iterator))

-- the same of a list's selectors
abbrev pub invariant-read_items-loop-item : goal.invariant-read_items-loop-item
invariant-read_items-loop-item l =
    items_clauses l.kinds l.depth (items_view l.item-items)
    ≡ before (map clause_view l.clauses.items)
    (items_clauses l.kinds l.depth (items_view (drop l.item-index l.item-items)))
