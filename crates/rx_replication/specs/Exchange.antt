-- Exchanges without loss: each request is handled once, and its reply is taken at once.
use Rattle.std.specs.Prelude.{◌≡◌, ℕ, ◌+◌, ◌≤◌, ◌<◌, List, [], ◌∷◌, take, filter, length, Option, Some, None}
use Rattle.std.specs.List.{AllByRecursion}
use Rattle.std.specs.Str.{bytes_eq}
use Rattle.rx_document.specs.declared.place.Place.{Place}
use Rattle.rx_document.specs.declared.stored.Stored.{Stored}
use Rattle.rx_collection.specs.Held.{Held}
use Rattle.rx_collection.specs.Since.{since}
use Rattle.rx_wire.specs.declared.message.AskKind.{AskKind}
use Rattle.rx_replication.specs.Known.{KnownStates, with_learnt, pending}
use Rattle.rx_replication.specs.Master.{body_of, master_then}
use Rattle.rx_replication.specs.Request.{ask_of}
use Rattle.rx_replication.specs.Taking.{Resolve, Taking, taking}
use Rattle.rx_replication.specs.Write.{write, AreByKey}

-- a fork and a master, and what the fork knows
pub record Link : Type 0 where
  pub fork : Held
  pub master : Held
  pub known : KnownStates
  pub up : Option Place
  pub down : Option Place

-- the batch of an exchange, and the moments of its handling and its taking
pub record Exchange : Type 0 where
  pub batch : ℕ
  pub handled : ℕ
  pub taken : ℕ

-- the documents of both are by key
pub record IsLink (l : Link) : Type 0 where
  pub fork : AreByKey l.fork.documents
  pub master : AreByKey l.master.documents

-- what is asked
abbrev pub asked : Link → ℕ → AskKind
asked l batch = ask_of l.fork.documents l.known l.down batch

-- the documents that are pushed, none by a pull
abbrev pub pushed : Link → ℕ → List Stored
pushed l batch = take batch (pending l.fork.documents l.known)

-- ---- one exchange

abbrev pub link_with : Link → Held → Taking → Option Held → Option Link
link_with l master t None = None
link_with l master t (Some fork) = Some (record {
  fork = fork;
  master = master;
  known = with_learnt l.known t.known;
  up = t.up;
  down = t.down;
})

abbrev pub link_after_taking : Link → Held → Option Taking → ℕ → Option Link
link_after_taking l master None now = None
link_after_taking l master (Some t) now = link_with l master t (write l.fork t.rows now)

abbrev pub answered_by : Resolve → Link → AskKind → Option Held → ℕ → Option Link
answered_by resolve l ask None now = None
answered_by resolve l ask (Some master) now =
    link_after_taking l master
    (taking resolve l.fork.documents l.up l.down ask (body_of l.master.documents ask)) now

-- the link after an exchange; none where a commit finds no write time
abbrev pub exchange_over_link : Resolve → Link → Exchange → Option Link
exchange_over_link resolve l x =
    answered_by resolve l (asked l x.batch) (master_then l.master (asked l x.batch) x.handled)
    x.taken

-- a pull that brings fewer documents than its batch
pub record IsQuiet (l : Link) (batch : ℕ) : Type 0 where
  pub settled : pending l.fork.documents l.known ≡ []
  pub few : length (since l.master.documents l.down batch) < batch

-- ---- exchanges that follow each other

-- each asks for one document at least
abbrev pub HaveBatches : List Exchange → Type 0
HaveBatches xs = AllByRecursion (λ x. 1 ≤ x.batch) xs

-- each is made, and none is quiet
abbrev pub GoOn : Resolve → Link → List Exchange → Type 0
GoOn resolve l [] = Unit {0}
GoOn resolve l (x ∷ xs) =
    (next : Link) × (exchange_over_link resolve l x ≡ Some next) × (IsQuiet l x.batch → ⊥)
    × GoOn resolve next xs

-- how often a document is pushed
abbrev pub pushes_of : Resolve → List ℕ → Option Link → List Exchange → ℕ
pushes_of resolve key None xs = 0
pushes_of resolve key (Some l) [] = 0
pushes_of resolve key (Some l) (x ∷ xs) =
    length (filter (λ d. bytes_eq d.state.key key) (pushed l x.batch))
    + pushes_of resolve key (exchange_over_link resolve l x) xs
