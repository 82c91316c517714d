-- The operands of an update as its reading sees them.
use Rattle.std.specs.Prelude.{option_map}
use Rattle.serde_json.specs.View.{view}
use Rattle.rx_update.specs.Reading.{Under, under_each}
use Rattle.rx_update.specs.declared.operands.Operands.{Operands}

abbrev pub seen : Operands → Under
seen o =
    under_each (option_map (λ j. view j.now) o.inc) (option_map (λ j. view j.now) o.max)
    (option_map (λ j. view j.now) o.min) (option_map (λ j. view j.now) o.set)
    (option_map (λ j. view j.now) o.unset)
