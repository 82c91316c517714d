use Rattle.std.proofs.Common.{◌≡◌, drop}
use Rattle.serde_json.specs.View.{view}
use Rattle.rx_schema.specs.Names.{first_stranger}
use Rattle.rx_schema.proofs.names.first_stranger.Given as goal

-- the names that are left decide
abbrev pub invariant-loop-name : goal.invariant-loop-name
invariant-loop-name l =
    first_stranger (view l.json) l.names
    ≡ first_stranger (view l.json) (drop l.name-index l.names)
