use Rattle.std.proofs.Common.{◌≡◌, ◌++◌, map}
use Rattle.rx_engine.proofs.listing.lend_page.Given as goal

-- the documents so far, before those that are left, are those of the page
abbrev pub invariant-loop-document : goal.invariant-loop-document
invariant-loop-document l =
    (map (λ d. d.now) l.docs.items ++ l.document-iterator ≡ l.fn.page)
    × (goal.iterator-loop-document).can_next l.document-iterator
    × (goal.iterator-loop-document).is_finite l.document-iterator
