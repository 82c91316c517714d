-- What a change of states makes of documents and of known states: keys, heights, write times and so
-- places stay.
use Rattle.std.specs.Prelude.{map}
use Rattle.rx_value.specs.declared.state.State.{State}
use Rattle.rx_document.specs.Documents.{Documents}
use Rattle.rx_document.specs.declared.stored.Stored.{Stored}
use Rattle.rx_collection.specs.Held.{Held}
use Rattle.rx_replication.specs.Known.{KnownStates}

-- a document, with its revision and its write time
abbrev pub changed_document : (State → State) → Stored → Stored
changed_document change d = record d { state = change d.state }

-- documents with their keys
abbrev pub changed_documents : (State → State) → Documents → Documents
changed_documents change es = map (λ e. (e.0, changed_document change e.1)) es

-- a collection with its name and its schema
abbrev pub changed_collection : (State → State) → Held → Held
changed_collection change c = record c { documents = changed_documents change c.documents }

-- known states with their keys
abbrev pub changed_known : (State → State) → KnownStates → KnownStates
changed_known change known = map (λ e. (e.0, change e.1)) known
