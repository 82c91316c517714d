-- Things that were read one after another.
use Rattle.std.proofs.Common.{List, ◌++◌, Option, Some}
use Rattle.rx_value.specs.Due.{◌>>=◌}

-- the things so far, before those that are left
abbrev pub after : {X : Type 0} → List X → Option (List X) → Option (List X)
after done rest = rest >>= λ xs. Some (done ++ xs)
