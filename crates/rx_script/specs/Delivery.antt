-- What happens to the queued events of a stream, as a line says it.
use Rattle.std.specs.Prelude.{ℕ, List, [], ◌∷◌, ◌++◌, codes, Option, Some, None, Result, Ok}
use Rattle.serde_json.specs.Data.{Data, Items, no_items, item}
use Rattle.serde_json.specs.Find.{get, as_array, as_str}
use Rattle.rx_value.specs.Due.{◌>>◌, ◌>>=◌, or_fault}
use Rattle.rx_value.specs.Named.{named}
use Rattle.rx_script.specs.declared.delivery.Delivery.{Delivery}
use Rattle.rx_script.specs.declared.delivery.Delivery.TheVariants as delivery
use Rattle.rx_script.specs.declared.fault.LineFault.{LineFault}
use Rattle.rx_script.specs.declared.fault.LineFault.TheVariants.{WrongType}

-- the deliveries by their words
abbrev pub deliveries : List (List ℕ × Delivery)
deliveries =
    (codes "ok", delivery.Ok)
    ∷ (codes "lose", delivery.Lose)
    ∷ (codes "twice", delivery.Twice)
    ∷ (codes "later", delivery.Later)
    ∷ []

-- the delivery of a word
abbrev pub delivery_of : Data → Option Delivery
delivery_of d = as_str d >>= named deliveries

-- those of items, after the ones so far
abbrev pub deliveries_after : List Delivery → Items → Option (List Delivery)
deliveries_after ds no_items = Some ds
deliveries_after ds (item j js) = delivery_of j >>= λ d. deliveries_after (ds ++ d ∷ []) js

-- a list of deliveries
abbrev pub deliveries_of : Data → Option (List Delivery)
deliveries_of d = as_array d >>= deliveries_after []

-- a list of deliveries at a name, as what stands there says, if anything does
abbrev pub deliveries_at : List ℕ → Option Data → Result (Option (List Delivery)) LineFault
deliveries_at name None = Ok None
deliveries_at name (Some d) = or_fault (WrongType name) (deliveries_of d) >> λ link. Ok (Some link)

-- a list of deliveries that may be missing
abbrev pub maybe_deliveries : List ℕ → Data → Result (Option (List Delivery)) LineFault
maybe_deliveries name d = deliveries_at name (get name d)
