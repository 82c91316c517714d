use Rattle.std.proofs.Common.{◌≡◌, drop}
use Rattle.serde_json.specs.View.{view}
use Rattle.rx_value.specs.Form.{texts, missing}
use Rattle.rx_value.proofs.form.first_missing.Given as goal

-- the names that are left decide
abbrev pub invariant-loop-name : goal.invariant-loop-name
invariant-loop-name l =
    missing (texts l.needed) (view l.json)
    ≡ missing (texts (drop l.name-index l.needed)) (view l.json)
