use Rattle.std.proofs.Common.{◌≡◌, true, map, sym, ap, ◌∙◌, subst}
use Rattle.rx_record.specs.Shown.{content}
use Rattle.rx_update.specs.Shown.{hooking_of}
use Rattle.rx_world.specs.Holders.{holders_in}
use Rattle.rx_world.specs.Step.{legal}
use Rattle.rx_world.specs.Touch.{touch}
use Rattle.rx_session.specs.Applied.{coll_written}
use Rattle.rx_session.specs.Doing.{session_after, still_open, stream_after, write, IsUnobserved}
use Rattle.rx_session.specs.Placed.{AreQuietUnless, queries_of, world_of}
use Rattle.rx_session.specs.Playing.{coll_to_follow, coll_to_note, add_written}
use Rattle.rx_session.specs.Session.{Session}
use Rattle.rx_session.specs.Streams.{AreStreamed}
use Rattle.rx_session.proofs.Played.{IsPlayed, played_distinct, played_placed, played_quiet, played_session, played_streamed}
use Rattle.rx_session.proofs.Settling.{session_of}
use Rattle.rx_session.proofs.Streamed.{followed_by}
use Rattle.rx_session.proofs.playing.Playing.write.Goals as goal

-- what was done to the collections
done : (c : goal.In_ok-note)
    → IsPlayed
    (content c.args.entry) c.self.inside.world c.in_ok-world.world c.self.inside.places.items
    c.self.inside.written.items
done c = record {
  placed = c.self.invariant.placed;
  distinct = c.self.invariant.distinct;
  quiet = c.self.invariant.quiet;
  allowed =
      subst (λ (s : Session). legal (content c.args.entry) s.world ≡ true) (sym c.self.view_is)
      c.requires.legal;
  apart =
      subst (λ (s : Session). IsUnobserved (touch (content c.args.entry) s.world) s.queries)
      (sym c.self.view_is) c.requires.unobserved;
  stepped = c.in_ok-world.ensures.world;
  ordered = c.requires.ordered;
  was_made = c.in_ok-world.ensures.before;
  is_made = c.in_ok-world.ensures.made;
  applied = c.in_ok-world.ensures.lives;
}

-- the streams have followed
streams_then : (c : goal.In_ok-note) → c.in_ok-streams.streams.items
    ≡ map (stream_after (world_of c.in_ok-world.world)
    (coll_written (touch (content c.args.entry) (world_of c.self.inside.world))))
    (still_open (content c.args.entry) (world_of c.self.inside.world) c.self.inside.streams.items)
streams_then c =
    let new = world_of c.in_ok-world.world in
    let t = touch (content c.args.entry) (world_of c.self.inside.world) in
    let sts = c.still_open-streams.result.items in
    c.in_ok-streams.ensures
    ∙ ap (λ o. map (stream_after new o) sts)
    (c.in_ok-master.ensures ∙ ap (λ xs. coll_to_follow xs t) c.as_slice-2.ensures.value)
    ∙ followed_by new t sts
    ∙ ap (map (stream_after new (coll_written t))) c.still_open-streams.ensures

pub invariant_of-result : goal.invariant_of-result
invariant_of-result c =
    let i = c.self.inside in
    let entry = content c.args.entry in
    let new = c.in_ok-world.world in
    let ps = i.places.items in
    let written = i.written.items in
    record {
      placed = played_placed entry i.world new i.moment
          (hooking_of i.hooks) i.streams.items ps written (done c);
      streamed = subst (AreStreamed (world_of new)) (sym (streams_then c))
          (played_streamed entry i.world new i.moment
          (hooking_of i.hooks) i.streams.items ps written
          (done c) c.self.invariant.streamed);
      distinct = played_distinct entry i.world new i.moment
          (hooking_of i.hooks) i.streams.items ps written (done c);
      quiet = subst (λ names. AreQuietUnless names (world_of new)
          (queries_of (holders_in new) ps))
          (sym (c.in_ok-note.ensures ∙ ap (λ o. add_written o written)
          (c.in_ok-coll.ensures
          ∙ ap (λ qs. coll_to_note qs (touch entry (world_of i.world))) c.as_slice.ensures.value)))
          (played_quiet entry i.world new i.moment
          (hooking_of i.hooks) i.streams.items ps written (done c));
    }

pub returns : goal.returns
returns c =
    let i = c.self.inside in
    let entry = content c.args.entry in
    subst (λ (s : Session). session_of c.in_ok-world.world i.moment (hooking_of i.hooks)
    c.in_ok-streams.streams.items i.places.items ≡ session_after (write entry) s)
    c.self.view_is
    (ap (λ sts. session_of c.in_ok-world.world i.moment (hooking_of i.hooks) sts i.places.items)
    (streams_then c)
    ∙ played_session entry i.world c.in_ok-world.world i.moment
    (hooking_of i.hooks) i.streams.items i.places.items i.written.items
    (done c))
