use Rattle.std.specs.List.Sorted.{IsStrictlySortedBy}
use Rattle.std.proofs.Common.{rules, ◌≡◌, List, ◌∷◌, ◌++◌, [], subst, sym}
use Rattle.rx_record.specs.Writable.{KeysRise}
use Rattle.rx_record.specs.declared.record.RowOut.{RowOut}
use Rattle.rx_sync_tests.proofs.forks.row.Goals as goal

-- one key rises
one : (written : RowOut) → KeysRise (written ∷ [])
unfolding IsStrictlySortedBy
one written = (tt, tt)

first : (rows : List RowOut) (written : RowOut) → rows ≡ [] → KeysRise (rows ++ written ∷ [])
first rows written none =
    subst (λ (rs : List RowOut). KeysRise (rs ++ written ∷ [])) (sym none) (one written)

pub returns : goal.returns
returns c =
    subst KeysRise (sym c.in_ok-push.ensures.items) (first c.new-rows.result.items _ (search rules))
