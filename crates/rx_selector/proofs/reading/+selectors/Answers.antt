use Rattle.std.proofs.Common.{rules, arith, ◌≡◌, ◌==◌, length, ◌+◌, ◌∷◌, suc, drop, drop-cons, map, Ok, ap, sym, ◌∙◌}
use Rattle.serde_json.proofs.Views.{view-Array}
use Rattle.serde_json.specs.View.{view, members_view, items_view}
use Rattle.rx_selector.specs.Reading.{members_clauses, list_read, items_clauses}
use Rattle.rx_selector.specs.Tree.{clause_view}
use Rattle.rx_selector.proofs.Empty.{some_items}
use Rattle.rx_selector.proofs.Lists.{before, more_seen}
use Rattle.rx_selector.proofs.Views.{view-All}
use Rattle.rx_selector.proofs.reading.+selectors.Goals as goal

-- the clause of the next member goes to the end of those so far
pub read_members-loop-name-preserved : goal.read_members-loop-name-preserved
read_members-loop-name-preserved t c =
    let done = c.loop-name.clauses.items in
    let kinds = c.args.kinds.now in
    let depth = c.args.depth in
    let left = members_clauses kinds depth (members_view c.next.new.self) in
    c.loop-name.invariant
    ∙ ap (λ es. before (map clause_view done) (members_clauses kinds depth (members_view es)))
    c.in-Some.ensures.steps
    ∙ more_seen clause_view done c.in_ok-clause.clause _ left
    (rw (← c.as_str.ensures.value) c.in_ok-clause.ensures)
    ∙ ap (λ cs. before (map clause_view cs) left) (sym c.in_ok-push.ensures.items)

-- so does that of the next selector
pub read_items-loop-item-preserved : goal.read_items-loop-item-preserved
read_items-loop-item-preserved t c =
    let done = c.loop-item.clauses.items in
    let kinds = c.args.kinds.now in
    let depth = c.args.depth in
    let ds = c.deref-item-items.result.now in
    let i = c.loop-item.item-index in
    let item = c.item-item.result in
    let left = items_clauses kinds depth (items_view (drop (i + 1) ds)) in
    let next : suc i ≡ i + 1 = omega arith in
    c.loop-item.invariant
    ∙ ap (λ es. before (map clause_view done) (items_clauses kinds depth (items_view es)))
    (drop-cons ds i item c.loop-item-test.true
    ∙ ap (λ d. d ∷ drop (suc i) ds) (sym c.item-item.is)
    ∙ ap (λ n. item ∷ drop n ds) next)
    ∙ more_seen clause_view done _ _ left
    (rw c.in_ok-members.ensures (ap Ok (sym (view-All c.in_ok-members.members))))
    ∙ ap (λ cs. before (map clause_view cs) left) (sym c.in_ok-push.ensures.items)

-- a list that isn't empty
pub read_list-returns-in_ok-read_items-in-Array : goal.read_list-returns-in_ok-read_items-in-Array
read_list-returns-in_ok-read_items-in-Array t c =
    let kinds = c.args.kinds.now in
    let depth = c.args.depth in
    let name = c.args.name.now in
    let ds = c.in-Array.items.items in
    let none : c.is_empty.result ≡ (length ds == 0) = search rules in
    ap (list_read kinds depth name) (ap view c.in-Array.is ∙ view-Array c.in-Array.items)
    ∙ some_items name ds c.is_empty.result none c.if-is_empty.false
    (items_clauses kinds depth (items_view ds))
    ∙ c.in_ok-read_items-in-Array.ensures
