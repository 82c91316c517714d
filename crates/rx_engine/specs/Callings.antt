-- A turn to a master that is elsewhere, in play.
use Rattle.std.specs.Prelude.{◌≡◌, ℕ, List, [], ◌∷◌, ◌++◌, length, map, true, Some, Option, IsSome, Result, IfOk, IsOk, OnOk, IsErrOf}
use Rattle.std.specs.List.{AllByRecursion}
use Rattle.rx_disk.specs.declared.disk.Disk.{Ghosts}
use Rattle.rx_fork.specs.declared.ask.Asked.{Asked}
use Rattle.rx_outside.specs.Failed.{Rises}
use Rattle.rx_outside.specs.Sink.{WritesFront}
use Rattle.rx_outside.specs.Talk.{talk}
use Rattle.rx_outside.specs.declared.stop.Stop.{Stop}
use Rattle.rx_outside.specs.declared.wire.Wire.{Ghosts as WireGhosts}
use Rattle.rx_outside.specs.declared.stop.Stop.TheVariants.{Memory}
use Rattle.rx_reply.specs.declared.turn.Exchanged.{Exchanged}
use Rattle.rx_reply.specs.declared.turn.Lost.TheVariants as lost
use Rattle.rx_reply.specs.declared.turn.TurnEnd.TheVariants.{Lost}
use Rattle.rx_schema.specs.declared.shape.Shape.{Shape}
use Rattle.rx_serve.specs.Lines.{is_within}
use Rattle.rx_serve.specs.Served.{as_line}
use Rattle.rx_session.specs.Session.{Session}
use Rattle.rx_store.specs.Safe.{IsCrashSafe}
use Rattle.rx_sync.specs.Asking.{asked_in}
use Rattle.rx_sync.specs.Asks.{Asks, next_number, with_request}
use Rattle.rx_sync.specs.Exchange.{Course, Terms, lost_by}
use Rattle.rx_sync.specs.Remote.{Heard, no_dial, no_wire, no_line, line, RemoteTurned, heard_course, schema_in}
use Rattle.rx_wire.specs.Writing.{request_text}
use Rattle.rx_wire.specs.declared.message.Request.{Request}
use Rattle.rx_world.specs.World.{World}
use Rattle.rx_engine.specs.Dialled.{DialStanding, IsDialled, IsHeardIn, IsWithoutLine}
use Rattle.rx_engine.specs.Meaning.{bodies_of}
use Rattle.rx_engine.specs.Play.{IsMade, IsMadeByName, IsPlayAt}
use Rattle.rx_engine.specs.Turning.{written}
use Rattle.rx_engine.specs.declared.play.Play.{Play}
use Rattle.rx_engine.specs.declared.turning.Turned.{Turned as Made}

-- ---- a wire

-- how a wire stands: what it gave, what it has left, what it was sent, and the count of its calls
-- that failed
pub record WireStanding : Type 0 where
  pub given : List ℕ
  pub left : List ℕ
  pub sent : List ℕ
  pub faults : ℕ

abbrev pub wire_stands : {W : Type 0} → WireGhosts W → W → WireStanding
wire_stands w x =
    record { given = w.given x; left = w.left x; sent = w.sent x; faults = w.faults x }

-- a line was sent, and that was heard; nothing behind the end of a line was received
abbrev pub Hears : List ℕ → Heard → WireStanding → WireStanding → Type 0
Hears text no_dial old new = ⊥
Hears text (line l) old new =
    (is_within l ≡ true) × (new.given ≡ old.given ++ as_line l)
    × (new.sent ≡ old.sent ++ as_line text)
Hears text no_wire old new =
    ((part : List ℕ) × (is_within part ≡ true) × (new.given ≡ old.given ++ part))
    × WritesFront old.sent new.sent (as_line text)
Hears text no_line old new =
    ((part : List ℕ) × (is_within part ≡ true) × (new.given ≡ old.given ++ part)
    × IsWithoutLine part new.left)
    × (new.sent ≡ old.sent ++ as_line text)

-- ---- an exchange

-- it is made with what was heard, of a request that is made before
abbrev pub course_heard : Terms → ℕ → Heard → World → Asks → Course
course_heard t batch h w a = heard_course t h w a (asked_in w t.name (next_number a) batch)

-- a request was made and sent, by the fork's schema, and that was heard over the wire
abbrev pub HearsAsked : Terms → ℕ → World → Asks → Heard → WireStanding → WireStanding → Type 0
HearsAsked t batch w a h old new =
    (asked : Asked) × (asked_in w t.name (next_number a) batch ≡ Some asked)
    × ((schema : Shape) → schema_in w t.name ≡ Some schema
    → Hears (request_text schema asked.request) h old new)

-- an exchange was made over a wire
pub record MakesHeard
    {D : Type 0}
    (d : Ghosts D)
    (old new : D)
    (tells : Type 0)
    (wire wire' : WireStanding)
    (t : Terms)
    (batch : ℕ)
    (play : Play)
    (a b : Asks)
    (result : Result (Play × Option Exchanged) Stop) : Type 0 where
  pub heard : Heard
  pub came : IfOk result (λ p. p.1 ≡ (course_heard t batch heard play.playing.world a).came)
  pub asks : OnOk result (b ≡ (course_heard t batch heard play.playing.world a).asks)
  pub session : IfOk result (λ p. p.0.playing
      ≡ written (course_heard t batch heard play.playing.world a).records play.playing)
  pub limit : IfOk result (λ p. p.0.journal.limit ≡ play.journal.limit)
  pub safe : d.tells → (bodies : List (List ℕ)) → IsPlayAt d old play bodies
      → IsCrashSafe d old new bodies
      (bodies_of (course_heard t batch heard play.playing.world a).records)
      play.journal.limit (λ p. IsPlayAt d new p.0) result
  -- but where memory was wanting
  pub told : (IsErrOf result Memory → ⊥) → tells
      → HearsAsked t batch play.playing.world a heard wire wire'
  pub failed : (IsErrOf result Memory → ⊥) → heard ≡ no_wire → Rises wire.faults wire'.faults
  pub asked : (IsErrOf result Memory → ⊥)
      → IsSome (asked_in play.playing.world t.name (next_number a) batch)
  pub got : (IsErrOf result Memory → ⊥) → heard ≡ no_dial → ⊥

-- ---- a turn

-- these requests of a turn were made, and all of them but at a stop
abbrev pub HasMade : List Request → RemoteTurned → Type 0 → Type 0
HasMade requests u Done =
    (rest : List Request) × (u.requests ≡ requests ++ rest) × (Done → rest ≡ [])

-- A turn was made, and this was heard in it. What it comes to and what it writes is the same
-- whatever is to be heard later.
pub record TurnsRemotely
    {D A : Type 0}
    (d : Ghosts D)
    (old new : D)
    (limit : ℕ)
    (IsFirst : List (List ℕ) → Type 0)
    (IsThen : A → List (List ℕ) → Type 0)
    (turn : List Heard → RemoteTurned)
    (IsSo : RemoteTurned → List Heard → A → Type 0)
    (Shows : List Request → List Heard → Type 0)
    (result : Result A Stop) : Type 0 where
  pub heard : List Heard
  pub requests : List Request
  pub so : (later : List Heard) → IfOk result (IsSo (turn (heard ++ later)) later)
  pub safe : (later : List Heard) → d.tells → (bodies : List (List ℕ)) → IsFirst bodies
      → IsCrashSafe d old new bodies (bodies_of (turn (heard ++ later)).turned.records) limit IsThen
      result
  -- but where memory was wanting
  pub asked : (IsErrOf result Memory → ⊥) → (later : List Heard)
      → HasMade requests (turn (heard ++ later)) (IsOk result)
  pub shown : (IsErrOf result Memory → ⊥) → Shows requests heard

-- it was made from a session on, and that is still to be heard after it
pub record IsRemoteMade (first : Session) (remembered : Asks) (u : RemoteTurned)
    (later : List Heard) (made : Made) : Type 0 where
  pub made_so : IsMade u.turned first made remembered
  pub later_so : u.later ≡ later

-- the same, where its requests are remembered under the name of its replication
pub record IsRemoteMadeByName (name : List ℕ) (first : Session) (before now : List (List ℕ × Asks))
    (u : RemoteTurned) (later : List Heard) (made : Made) : Type 0 where
  pub made_so : IsMadeByName name u.turned first made before now
  pub later_so : u.later ≡ later

-- the texts of requests, by the schema of the fork in a world
abbrev pub OfTexts : World → List ℕ → List Request → (List (List ℕ) → Type 0) → Type 0
OfTexts w name requests P =
    (schema : Shape) → schema_in w name ≡ Some schema → P (map (request_text schema) requests)

-- a wire, over which nothing went before, shows what was heard in a turn, once after each request
pub record IsHeardOver (tells : Type 0) (w : World) (name : List ℕ) (wire wire' : WireStanding)
    (requests : List Request) (heard : List Heard) : Type 0 where
  pub each : length requests ≡ length heard
  pub got : AllByRecursion (λ h. h ≡ no_dial → ⊥) heard
  pub talks : tells → OfTexts w name requests (λ texts. IsHeardIn texts heard
      (talk wire'.given wire'.left wire'.sent wire'.faults))
  pub failed : (front : List Heard) → heard ≡ front ++ no_wire ∷ []
      → Rises wire.faults wire'.faults

-- a dial, which was dialled once, at a port, shows it
abbrev pub IsDialledBy : Type 0 → ℕ → World → List ℕ → DialStanding → DialStanding → List Request
    → List Heard → Type 0
IsDialledBy tells port w name dial dial' requests heard =
    OfTexts w name requests (λ texts. IsDialled tells port dial dial' texts heard)

-- ---- without a wire

-- A request was made and nothing was sent: the exchange is lost, and the turn ended so.
pub record IsMissed (name : List ℕ) (batch : ℕ) (play : Play) (a b : Asks) (made : Made)
    : Type 0 where
  pub asked : Asked
  pub asked_is : asked_in play.playing.world name (next_number a) batch ≡ Some asked
  pub asks : b ≡ with_request asked.request a
  pub same : made.play ≡ play
  pub exchanges : made.exchanges ≡ lost_by lost.Dial asked.request.ask ∷ []
  pub ended : made.ended ≡ Lost
