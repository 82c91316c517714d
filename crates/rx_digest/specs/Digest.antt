-- The digest of a collection.
use Rattle.std.specs.Prelude.{ℕ, List, [], ◌∷◌, ◌++◌}
use Rattle.std.specs.List.{flat_map}
use Rattle.std.specs.Map.{values_of}
use Rattle.hex.specs.Hex.{encode_lower}
use Rattle.serde_json.specs.Written.{compact_text}
use Rattle.sha2.specs.Sha256.{sha256}
use Rattle.rx_value.specs.State.{state_data}
use Rattle.rx_value.specs.declared.state.State.{State}
use Rattle.rx_document.specs.Documents.{Documents}
use Rattle.rx_document.specs.declared.stored.Stored.{Stored}

-- the text of a state, and a line feed
abbrev pub state_line : State → List ℕ
state_line s = compact_text (state_data s) ++ 10 ∷ []

-- the lines of the states of documents, one after another
abbrev pub states_text : List Stored → List ℕ
states_text ds = flat_map (λ d. state_line d.state) ds

-- the SHA-256, in lower-case hex, of the lines of all states, tombstones too, by rising key
unfoldable pub digest_of : Documents → List ℕ
digest_of documents = encode_lower (sha256 (states_text (values_of documents)))
