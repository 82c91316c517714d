-- What happens to the exchanges of a turn, as a line says it.
use Rattle.std.specs.Prelude.{⊤, ◌≤◌, ℕ, List, [], ◌∷◌, ◌++◌, codes, Option, Some, None, is_none, Result, Ok}
use Rattle.serde_json.specs.Data.{Data, Items, no_items, item}
use Rattle.serde_json.specs.Find.{get, as_array, as_str}
use Rattle.rx_value.specs.Due.{◌>>◌, ◌>>=◌, only_if, or_fault}
use Rattle.rx_value.specs.Form.{unexpected, whole_within}
use Rattle.rx_value.specs.Named.{named}
use Rattle.rx_script.specs.declared.fault.LineFault.{LineFault}
use Rattle.rx_script.specs.declared.fault.LineFault.TheVariants.{WrongType}
use Rattle.rx_script.specs.declared.happening.Happening.{Happening}
use Rattle.rx_script.specs.declared.happening.Happening.TheVariants as happening

-- how many requests back a late one may be
abbrev pub max_late : ℕ
max_late = 16

-- the happenings that are a word
abbrev pub words : List (List ℕ × Happening)
words =
    (codes "ok", happening.Ok)
    ∷ (codes "lose_request", happening.LoseRequest)
    ∷ (codes "lose_reply", happening.LoseReply)
    ∷ (codes "twice", happening.Twice)
    ∷ (codes "stale", happening.Stale)
    ∷ []

-- the number of an object of exactly the member `late`
abbrev pub late_of : Data → Option ℕ
late_of d =
    only_if (is_none (unexpected (codes "late" ∷ []) [] d))
    (whole_within (codes "late") 1 max_late d)

-- the happening of a word; where there is no word, that of an object
abbrev pub happening_by : Option (List ℕ) → Data → Option Happening
happening_by (Some word) d = named words word
happening_by None d = late_of d >>= λ back. Some (happening.Late back)

abbrev pub happening_of : Data → Option Happening
happening_of d = happening_by (as_str d) d

-- those of items, after the ones so far
abbrev pub happenings_after : List Happening → Items → Option (List Happening)
happenings_after hs no_items = Some hs
happenings_after hs (item d ds) = happening_of d >>= λ h. happenings_after (hs ++ h ∷ []) ds

-- a list of happenings
abbrev pub link_of : Data → Option (List Happening)
link_of d = as_array d >>= happenings_after []

-- a list of happenings at a name, as what stands there says, if anything does
abbrev pub link_at : List ℕ → Option Data → Result (Option (List Happening)) LineFault
link_at name None = Ok None
link_at name (Some d) = or_fault (WrongType name) (link_of d) >> λ link. Ok (Some link)

-- a list of happenings that may be missing
abbrev pub maybe_link : List ℕ → Data → Result (Option (List Happening)) LineFault
maybe_link name d = link_at name (get name d)

-- a late request is one of the last
abbrev pub IsHappening : Happening → Type 0
IsHappening (happening.Late back) = (1 ≤ back) × (back ≤ max_late)
IsHappening _ = ⊤
