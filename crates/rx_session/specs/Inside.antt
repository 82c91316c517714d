-- How the fields of a session are seen.
use Rattle.std.specs.Prelude.{[]}
use Rattle.rx_update.specs.Shown.{hooking_of}
use Rattle.rx_world.specs.Holders.{holders_in}
use Rattle.rx_world.specs.Valid.{AreDistinct}
use Rattle.rx_session.specs.Placed.{queries_of, world_of, ArePlaced, AreQuietUnless}
use Rattle.rx_session.specs.Session.{Session}
use Rattle.rx_session.specs.Streams.{AreStreamed}
use Rattle.rx_session.specs.declared.session.Session.TheInside.{Inside}

-- as its parts
abbrev pub session_in : Inside → Session
session_in s = record {
  world = world_of s.world;
  moment = s.moment;
  hooks = hooking_of s.hooks;
  streams = s.streams.items;
  queries = queries_of (holders_in s.world) s.places.items;
}

-- the places are those of the collections' queries, no name of a collection comes twice, each
-- stream has what its master committed, and nothing is to be emitted
pub record IsInOrder (s : Inside) : Type 0 where
  pub placed : ArePlaced (holders_in s.world) s.places.items
      (queries_of (holders_in s.world) s.places.items)
  pub distinct : AreDistinct (world_of s.world)
  pub streamed : AreStreamed (world_of s.world) s.streams.items
  pub quiet : AreQuietUnless [] (world_of s.world) (queries_of (holders_in s.world) s.places.items)
