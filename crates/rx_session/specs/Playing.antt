-- A session in play: a line has written records, whose emissions are still due.
use Rattle.std.specs.Prelude.{ℕ, List, [], ◌∷◌, ◌++◌, Option, Some, None, if◌then◌else◌}
use Rattle.std.specs.List.{cons_option, find, list_any}
use Rattle.std.specs.Str.{bytes_eq}
use Rattle.rx_value.specs.Named.{named, change_named}
use Rattle.rx_observe.specs.declared.emission.Emission.{Emission}
use Rattle.rx_stream.specs.declared.stream.Stream.{Stream}
use Rattle.rx_update.specs.Shown.{hooking_of}
use Rattle.rx_world.specs.Holders.{holders_in}
use Rattle.rx_world.specs.Touch.{Touch}
use Rattle.rx_world.specs.Valid.{AreDistinct}
use Rattle.rx_session.specs.Applied.{coll_written}
use Rattle.rx_session.specs.Lives.{due_of, with_settled}
use Rattle.rx_session.specs.Placed.{Lives, ArePlaced, AreQuietUnless, queries_of, world_of}
use Rattle.rx_session.specs.Session.{Session}
use Rattle.rx_session.specs.Streams.{AreStreamed}
use Rattle.rx_session.specs.declared.query_place.QueryPlace.{QueryPlace}
use Rattle.rx_session.specs.declared.playing.Playing.TheInside.{Inside}

-- ---- the collections that were written

-- the collection whose documents are written, where any query is observed
abbrev pub coll_to_note : List QueryPlace → Touch → Option (List ℕ)
coll_to_note [] t = None
coll_to_note (p ∷ ps) t = coll_written t

-- the same, where any stream is open
abbrev pub coll_to_follow : List Stream → Touch → Option (List ℕ)
coll_to_follow [] t = None
coll_to_follow (st ∷ sts) t = coll_written t

-- with the name of one more, if there is one
abbrev pub add_written : Option (List ℕ) → List (List ℕ) → List (List ℕ)
add_written None written = written
add_written (Some coll) written =
    if list_any (bytes_eq coll) written then written else written ++ coll ∷ []

-- seen as the session after the records so far
abbrev pub session_in_play : Inside → Session
session_in_play s = record {
  world = world_of s.world;
  moment = s.moment;
  hooks = hooking_of s.hooks;
  streams = s.streams.items;
  queries = queries_of (holders_in s.world) s.places.items;
}

-- the places are those of the collections' queries, no name of a collection comes twice, each
-- stream has what its master committed, and nothing is to be emitted of a collection that wasn't
-- written
pub record IsInPlay (s : Inside) : Type 0 where
  pub placed : ArePlaced (holders_in s.world) s.places.items
      (queries_of (holders_in s.world) s.places.items)
  pub distinct : AreDistinct (world_of s.world)
  pub streamed : AreStreamed (world_of s.world) s.streams.items
  pub quiet : AreQuietUnless s.written.items (world_of s.world)
      (queries_of (holders_in s.world) s.places.items)

-- ---- their emissions

-- with all rows emitted in each of them
abbrev pub settled_each : List (List ℕ) → Lives → Lives
settled_each [] ls = ls
settled_each (coll ∷ written) ls = settled_each written (change_named ls coll with_settled)

-- the emissions due in each of them, one collection after another
abbrev pub due_each : List (List ℕ) → Lives → List Emission
due_each [] ls = []
due_each (coll ∷ written) ls =
    due_of (named ls coll) ++ due_each written (change_named ls coll with_settled)

-- the emission of a name, which comes once
abbrev pub emission_of : List ℕ → List Emission → Option Emission
emission_of name es = find (λ e. bytes_eq name e.name) es

-- all but that one
abbrev pub without_emission : List ℕ → List Emission → List Emission
without_emission name [] = []
without_emission name (e ∷ es) =
    if bytes_eq name e.name then es else e ∷ without_emission name es

-- emissions in the order of the places
abbrev pub in_places : List QueryPlace → List Emission → List Emission
in_places [] es = []
in_places (p ∷ ps) es =
    cons_option (emission_of p.name es) (in_places ps (without_emission p.name es))

-- those that are due: of one collection in the order of its queries, of several in that of the
-- places
abbrev pub due_in_all : List (List ℕ) → List QueryPlace → Lives → List Emission
due_in_all [] ps ls = []
due_in_all (coll ∷ []) ps ls = due_of (named ls coll)
due_in_all (coll ∷ next ∷ written) ps ls = in_places ps (due_each (coll ∷ next ∷ written) ls)
