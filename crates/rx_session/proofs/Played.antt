-- What a record makes of a session in play.
use Rattle.std.proofs.Common.{◌≡◌, ℕ, true, List, [], ◌∷◌, map, sym, subst}
use Rattle.rx_record.specs.Content.{Content}
use Rattle.rx_record.specs.Writable.{IsOrdered}
use Rattle.rx_observe.specs.Observing.{Observing}
use Rattle.rx_stream.specs.declared.stream.Stream.{Stream}
use Rattle.rx_update.specs.Attached.{Hooking}
use Rattle.rx_world.specs.Holders.{Holders, holders_in}
use Rattle.rx_world.specs.Made.{IsMadeWorld}
use Rattle.rx_world.specs.Step.{step, legal}
use Rattle.rx_world.specs.Touch.{Touch, touch}
use Rattle.rx_world.specs.Valid.{AreDistinct}
use Rattle.rx_world.specs.World.{World}
use Rattle.rx_world.proofs.Valid.{distinct_step}
use Rattle.rx_session.specs.Applied.{IsAfter, coll_written}
use Rattle.rx_session.specs.Doing.{session_after, query_after, still_open, stream_after, write, IsUnobserved}
use Rattle.rx_session.specs.Placed.{ArePlaced, AreQuietUnless, Lives, queries_of, world_of}
use Rattle.rx_session.specs.Playing.{coll_to_note, add_written}
use Rattle.rx_session.specs.Session.{Observed}
use Rattle.rx_session.specs.Streams.{AreStreamed}
use Rattle.rx_session.specs.declared.query_place.QueryPlace.{QueryPlace}
use Rattle.rx_session.proofs.Places.{placed_seen, seen, world_colls}
use Rattle.rx_session.proofs.Settling.{session_of}
use Rattle.rx_session.proofs.Streamed.{streamed_step}
use Rattle.rx_session.proofs.Writing.{all_follow, legal_unheld}

-- where no query is observed no collection need be noted
quiet_to_note : (w : World) (ls : Lives) (t : Touch) (written : List (List ℕ))
    (ps : List QueryPlace)
    → AreQuietUnless (add_written (coll_written t) written) w (queries_of ls ps)
    → AreQuietUnless (add_written (coll_to_note ps t) written) w (queries_of ls ps)
quiet_to_note w ls t written [] quiet = tt
quiet_to_note w ls t written (p ∷ ps) quiet = quiet

-- ---- one record

pub record IsPlayed (content : Content) (old new : Holders Observing) (ps : List QueryPlace)
    (written : List (List ℕ)) : Type 0 where
  pub placed : ArePlaced (holders_in old) ps (queries_of (holders_in old) ps)
  pub distinct : AreDistinct (world_of old)
  pub quiet : AreQuietUnless written (world_of old) (queries_of (holders_in old) ps)
  pub allowed : legal content (world_of old) ≡ true
  pub apart : IsUnobserved (touch content (world_of old)) (queries_of (holders_in old) ps)
  pub stepped : world_of new ≡ step content (world_of old)
  pub ordered : IsOrdered content
  pub was_made : IsMadeWorld (world_of old)
  pub is_made : IsMadeWorld (world_of new)
  pub applied : IsAfter (touch content (world_of old)) (holders_in old) (holders_in new)

module _ (content : Content) (old new : Holders Observing) (moment : ℕ) (hooks : Hooking)
    (streams : List Stream) (ps : List QueryPlace)
    (written : List (List ℕ)) (so : IsPlayed content old new ps written) where
  abbrev of : Touch
  of = touch content (world_of old)

  -- the queries after the record
  abbrev after : List Observed
  after = map (query_after (world_of old) of) (queries_of (holders_in old) ps)

  -- they follow it
  followed : ArePlaced (holders_in new) ps after
      × AreQuietUnless (add_written (coll_written of) written) (world_of new) after
  followed =
      all_follow (world_of old) (world_of new) (holders_in old) (holders_in new) (world_colls old)
      (world_colls new) ps (queries_of (holders_in old) ps) so.placed written so.quiet of
      (legal_unheld content (world_of old) so.allowed) so.apart so.applied

  queries_then : queries_of (holders_in new) ps ≡ after
  queries_then = seen (holders_in new) ps after followed.0

  pub played_placed : ArePlaced (holders_in new) ps (queries_of (holders_in new) ps)
  played_placed = placed_seen (holders_in new) ps after followed.0

  pub played_distinct : AreDistinct (world_of new)
  played_distinct =
      subst AreDistinct (sym so.stepped) (distinct_step content (world_of old) so.distinct)

  pub played_quiet : AreQuietUnless (add_written (coll_to_note ps of) written) (world_of new)
      (queries_of (holders_in new) ps)
  played_quiet =
      quiet_to_note (world_of new) (holders_in new) of written ps
      (subst (AreQuietUnless (add_written (coll_written of) written) (world_of new))
      (sym queries_then) followed.1)

  -- and so have the streams
  abbrev streams_then : List Stream
  streams_then =
      map (stream_after (world_of new) (coll_written (touch content (world_of old))))
      (still_open content (world_of old) streams)

  pub played_streamed : AreStreamed (world_of old) streams → AreStreamed (world_of new) streams_then
  played_streamed all =
      subst (λ w. AreStreamed w (map (stream_after w (coll_written (touch content (world_of old))))
      (still_open content (world_of old) streams)))
      (sym so.stepped)
      (streamed_step content (world_of old) so.allowed so.ordered so.was_made
      (subst IsMadeWorld so.stepped so.is_made) streams all)

  pub played_session : session_of new moment hooks streams_then ps
      ≡ session_after (write content) (session_of old moment hooks streams ps)
  played_session =
      λ i. record {
        world = so.stepped i;
        moment = moment;
        hooks = hooks;
        streams = map (stream_after (so.stepped i) (coll_written (touch content (world_of old))))
            (still_open content (world_of old) streams);
        queries = queries_then i;
      }
