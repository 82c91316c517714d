-- The members of a message: which there are, and the numbers and the place among them.
use Rattle.std.specs.Prelude.{⊤, ℕ, List, [], ◌∷◌, codes, is_none, Option, Some, None, Result, Ok}
use Rattle.serde_json.specs.Data.{Data}
use Rattle.serde_json.specs.Find.{get}
use Rattle.rx_value.specs.Due.{◌>>◌, ◌>>=◌, only_if, or_fault, unless}
use Rattle.rx_value.specs.Form.{missing, unexpected, text_at, whole_within}
use Rattle.rx_value.specs.Value.{largest}
use Rattle.rx_document.specs.declared.place.Place.{Place}
use Rattle.rx_wire.specs.declared.fault.WireFault.{WireFault}
use Rattle.rx_wire.specs.declared.fault.WireFault.TheVariants as fault

-- each of the needed members is there
abbrev pub has_needed : List (List ℕ) → Data → Result ⊤ WireFault
has_needed needed d = unless fault.Missing (missing needed d) (Ok tt)

-- and there is no other but those that may be missing
abbrev pub has_form : List (List ℕ) → List (List ℕ) → Data → Result ⊤ WireFault
has_form needed optional d =
    has_needed needed d >> λ _.
    unless fault.Unexpected (unexpected needed optional d) (Ok tt)

-- a whole number from 1
abbrev pub number_at : List ℕ → ℕ → Data → Result ℕ WireFault
number_at name most d = or_fault (fault.WrongType name) (whole_within name 1 most d)

-- a count
abbrev pub count_at : List ℕ → Data → Result ℕ WireFault
count_at name d = number_at name largest d

-- the place that an object of `id` and `lwt` is
abbrev pub place_of : Data → Option Place
place_of d =
    text_at (codes "id") d >>= λ id.
    whole_within (codes "lwt") 1 largest d >>= λ lwt.
    only_if (is_none (unexpected (codes "id" ∷ codes "lwt" ∷ []) [] d))
    (Some (record { lwt = lwt; id = id }))

-- a place that may be missing
abbrev pub maybe_place : Option Data → Result (Option Place) WireFault
maybe_place None = Ok None
maybe_place (Some d) =
    or_fault (fault.WrongType (codes "place")) (place_of d) >> λ place. Ok (Some place)

-- the place of a message
abbrev pub place_at : Data → Result (Option Place) WireFault
place_at d = maybe_place (get (codes "place") d)
