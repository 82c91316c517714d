use Rattle.std.proofs.Common.{◌≡◌, drop}
use Rattle.serde_json.specs.View.{view}
use Rattle.rx_schema.specs.Names.{first_unbounded_in}
use Rattle.rx_schema.proofs.names.first_unbounded_in.Given as goal

-- the indexes that are left decide
abbrev pub invariant-loop-index : goal.invariant-loop-index
invariant-loop-index l =
    first_unbounded_in (view l.json) l.indexes
    ≡ first_unbounded_in (view l.json) (drop l.index-index l.indexes)
