use Rattle.std.proofs.Common.{map, ap, sym, ◌∙◌}
use Rattle.serde_json.specs.View.{members_view}
use Rattle.rx_selector.specs.Operators.{members_tests}
use Rattle.rx_selector.specs.Tree.{test_view}
use Rattle.rx_selector.proofs.Lists.{before, more_seen}
use Rattle.rx_selector.proofs.operators.+tests.Goals as goal

-- the test of the next member goes to the end of those so far
pub read_members-loop-name-preserved : goal.read_members-loop-name-preserved
read_members-loop-name-preserved t c =
    let done = c.loop-name.tests.items in
    let depth = c.args.depth in
    let left = members_tests depth (members_view c.next.new.self) in
    c.loop-name.invariant
    ∙ ap (λ es. before (map test_view done) (members_tests depth (members_view es)))
    c.in-Some.ensures.steps
    ∙ more_seen test_view done c.in_ok-test.test _ left
    (rw (← c.as_str.ensures.value) c.in_ok-test.ensures)
    ∙ ap (λ ts. before (map test_view ts) left) (sym c.in_ok-push.ensures.items)
