use Rattle.std.proofs.Common.{◌≡◌, ◌∷◌, Some, map, take}
use Rattle.rx_value.specs.Named.{named}
use Rattle.rx_value.specs.declared.value.Value.TheVariants.{Flag}
use Rattle.rx_planner.proofs.walk.cut_at.Given as goal

-- the values so far
abbrev pub invariant-loop-name : goal.invariant-loop-name
invariant-loop-name l =
    l.values.items
    ≡ Some (Flag l.document.state.deleted)
    ∷ map (λ f. named l.document.state.fields f) (map (λ f. f.now) (take l.name-index l.names))
