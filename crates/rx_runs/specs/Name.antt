-- What a name is kept in, as its bytes.
use Rattle.std.specs.Prelude.{ℕ, List}
use Rattle.rx_runs.specs.declared.name.Kept.{Kept}
use Rattle.rx_runs.specs.declared.name.Kept.TheVariants.{Short, Long}

-- those of a short name, or of the bytes that are shared
abbrev pub kept_bytes : Kept → List ℕ
kept_bytes (Short name) = name
kept_bytes (Long name) = name.value.items
