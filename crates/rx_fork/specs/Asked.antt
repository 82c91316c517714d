-- What a fork asks, and what is asked of the messages that it takes.
use Rattle.std.specs.Prelude.{ℕ, map}
use Rattle.std.specs.List.{IsDistinct}
use Rattle.std.specs.Str.{bytes_eq}
use Rattle.rx_document.specs.Documents.{Documents}
use Rattle.rx_collection.specs.Time.{last_lwt}
use Rattle.rx_meta.specs.Side.{Side}
use Rattle.rx_wire.specs.declared.message.AskKind.{AskKind}
use Rattle.rx_wire.specs.declared.message.AskKind.TheVariants.{Push, Pull}
use Rattle.rx_wire.specs.declared.message.Body.{Body}
use Rattle.rx_wire.specs.declared.message.Body.TheVariants.{Conflicts, Docs}
use Rattle.rx_replication.specs.Request.{ask_of}
use Rattle.rx_fork.specs.declared.ask.Asked.{Asked}

-- the request of these numbers, with the last write time of the documents
abbrev pub asked_of : Documents → Side → ℕ → ℕ → ℕ → Asked
asked_of documents side epoch n batch = record {
  request = record {
    epoch = epoch;
    n = n;
    ask = ask_of documents side.known side.down batch;
  };
  lwt = last_lwt documents;
}

-- no key comes twice among the rows of a push
abbrev pub HasRowsApart : AskKind → Type 0
HasRowsApart (Push rows) = IsDistinct bytes_eq (map (λ row. row.new.key) rows)
HasRowsApart (Pull place batch) = Unit {0}

-- no key comes twice among the documents of an answer to a pull
abbrev pub HasStatesApart : Body → Type 0
HasStatesApart (Conflicts cs) = Unit {0}
HasStatesApart (Docs ss to) = IsDistinct bytes_eq (map (λ s. s.key) ss)
