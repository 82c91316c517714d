-- A place as a line gives it.
use Rattle.std.specs.Prelude.{ℕ, List, [], ◌∷◌, codes, Option, Some, None, is_none, Result, Ok}
use Rattle.serde_json.specs.Data.{Data}
use Rattle.serde_json.specs.Find.{get}
use Rattle.rx_value.specs.Due.{◌>>◌, ◌>>=◌, only_if, or_fault}
use Rattle.rx_value.specs.Form.{unexpected, text_at, whole_within}
use Rattle.rx_value.specs.Value.{largest}
use Rattle.rx_script.specs.declared.fault.LineFault.{LineFault}
use Rattle.rx_script.specs.declared.fault.LineFault.TheVariants.{WrongType}
use Rattle.rx_script.specs.declared.since.Since.{Since}

abbrev pub since_with : List ℕ → ℕ → Since
since_with id lwt = record { id = id; lwt = lwt }

-- exactly a text `id` and a number `lwt`
abbrev pub since_of : Data → Option Since
since_of d =
    only_if (is_none (unexpected (codes "id" ∷ codes "lwt" ∷ []) [] d))
    (text_at (codes "id") d >>= λ id. whole_within (codes "lwt") 0 largest d >>= λ lwt.
    Some (since_with id lwt))

-- a place at a name, as what stands there says, if anything does
abbrev pub since_at : List ℕ → Option Data → Result (Option Since) LineFault
since_at name None = Ok None
since_at name (Some d) = or_fault (WrongType name) (since_of d) >> λ since. Ok (Some since)

-- a place that may be missing
abbrev pub maybe_since : List ℕ → Data → Result (Option Since) LineFault
maybe_since name d = since_at name (get name d)
