-- The text of a line: compact JSON, its members in the order of their names.
use Rattle.std.specs.Prelude.{ℕ, Bool, List, [], ◌∷◌, ◌++◌, codes, decimal, if◌then◌else◌}
use Rattle.std.specs.List.{concat}
use Rattle.rx_trial.specs.declared.line.Side.{Side}
use Rattle.rx_trial.specs.declared.line.Side.TheVariants.{Fork, Master}
use Rattle.rx_trial.specs.declared.line.Happening.{Happening}
use Rattle.rx_trial.specs.declared.line.Happening.TheVariants.{Fine, LosesRequest, LosesReply, Twice, Stale}
use Rattle.rx_trial.specs.declared.line.Line.{Line}
use Rattle.rx_trial.specs.declared.line.Line.TheVariants.{Collection, Replicate, ObserveFork, ObserveMaster, Upsert, Remove, Patch, Tick, Restart, LinkedTurn, Turn, LastTurn}

abbrev pub side_name : Side → List ℕ
side_name Fork = codes "f"
side_name Master = codes "m"

abbrev pub happening_name : Happening → List ℕ
happening_name Fine = codes "ok"
happening_name LosesRequest = codes "lose_request"
happening_name LosesReply = codes "lose_reply"
happening_name Twice = codes "twice"
happening_name Stale = codes "stale"

abbrev pub flag_text : Bool → List ℕ
flag_text on = if on then codes "true" else codes "false"

-- the schema of both collections
abbrev pub schema : List ℕ
schema = codes "{\"primaryKey\":\"id\",\"properties\":{"
    ++ codes "\"id\":{\"maxLength\":8,\"type\":\"string\"},"
    ++ codes "\"n\":{\"type\":\"integer\"},\"on\":{\"type\":\"boolean\"}},"
    ++ codes "\"type\":\"object\",\"version\":0}"

abbrev pub collection_text : Side → List ℕ
collection_text side = concat (codes "{\"do\":\"collection\",\"name\":\"" ∷ side_name side
    ∷ codes "\",\"schema\":" ∷ schema ∷ codes "}" ∷ [])

-- a document of a key, which is `k` and its number
abbrev pub upsert_text : Side → ℕ → ℕ → Bool → List ℕ
upsert_text side key n on = concat (codes "{\"do\":\"upsert\",\"doc\":{\"id\":\"k" ∷ decimal key
    ∷ codes "\",\"n\":" ∷ decimal n ∷ codes ",\"on\":" ∷ flag_text on
    ∷ codes "},\"in\":\"" ∷ side_name side ∷ codes "\"}" ∷ [])

abbrev pub remove_text : Side → ℕ → List ℕ
remove_text side key = concat (codes "{\"do\":\"remove\",\"in\":\"" ∷ side_name side
    ∷ codes "\",\"key\":\"k" ∷ decimal key ∷ codes "\"}" ∷ [])

abbrev pub patch_text : ℕ → ℕ → List ℕ
patch_text key n = concat (codes "{\"do\":\"patch\",\"in\":\"f\",\"key\":\"k" ∷ decimal key
    ∷ codes "\",\"set\":{\"n\":" ∷ decimal n ∷ codes "}}" ∷ [])

abbrev pub tick_text : ℕ → List ℕ
tick_text at = concat (codes "{\"at\":" ∷ decimal at ∷ codes ",\"do\":\"tick\"}" ∷ [])

abbrev pub linked_turn_text : ℕ → Happening → Happening → Happening → List ℕ
linked_turn_text batch first second third = concat (codes "{\"batch\":" ∷ decimal batch
    ∷ codes ",\"budget\":20,\"do\":\"turn\",\"link\":[\"" ∷ happening_name first
    ∷ codes "\",\"" ∷ happening_name second ∷ codes "\",\"" ∷ happening_name third
    ∷ codes "\"],\"name\":\"r\"}" ∷ [])

abbrev pub text : Line → List ℕ
text (Collection side) = collection_text side
text Replicate = codes "{\"do\":\"replicate\",\"field\":\"n\",\"fork\":\"f\","
    ++ codes "\"handler\":\"greater\",\"master\":\"m\",\"name\":\"r\"}"
text ObserveFork = codes "{\"do\":\"observe\",\"in\":\"f\",\"name\":\"q\",\"query\":"
    ++ codes "{\"limit\":10,\"selector\":{\"n\":{\"$gte\":50}},\"sort\":[{\"n\":\"desc\"}]}}"
text ObserveMaster = codes "{\"do\":\"observe\",\"in\":\"m\",\"name\":\"p\",\"query\":"
    ++ codes "{\"selector\":{\"on\":true},\"skip\":2}}"
text (Upsert side key n on) = upsert_text side key n on
text (Remove side key) = remove_text side key
text (Patch key n) = patch_text key n
text (Tick at) = tick_text at
text Restart = codes "{\"do\":\"restart\"}"
text (LinkedTurn batch first second third) = linked_turn_text batch first second third
text Turn = codes "{\"do\":\"turn\",\"name\":\"r\"}"
text LastTurn = codes "{\"batch\":100,\"budget\":100000,\"do\":\"turn\",\"name\":\"r\"}"
