use Rattle.std.proofs.Common.{◌≡◌, sym, ap, ap₂, ◌∙◌, subst}
use Rattle.rx_update.specs.Shown.{hooking_of}
use Rattle.rx_world.specs.Holders.{holders_in}
use Rattle.rx_world.specs.Valid.{AreDistinct}
use Rattle.rx_session.specs.Emissions.{emissions, settled_session}
use Rattle.rx_session.specs.Placed.{queries_of, world_of}
use Rattle.rx_session.specs.Playing.{due_in_all, settled_each}
use Rattle.rx_session.specs.Session.{Session}
use Rattle.rx_session.specs.Streams.{AreStreamed}
use Rattle.rx_session.proofs.Places.{world_colls}
use Rattle.rx_session.proofs.Settling.{IsTaken, session_of, taken_due, taken_placed, taken_quiet, taken_session, taken_world}
use Rattle.rx_session.proofs.playing.Playing.settle.Goals as goal

-- what was done to the collections
done : (c : goal.In_ok-due)
    → IsTaken (world_of c.self.inside.world) (holders_in c.self.inside.world)
    c.self.inside.places.items
    (queries_of (holders_in c.self.inside.world) c.self.inside.places.items)
    c.self.inside.written.items c.take_all.new.world
done c = record {
  placed = c.self.invariant.placed;
  collections = world_colls c.self.inside.world;
  quiet = c.self.invariant.quiet;
  emitted = c.in_ok-due.ensures.lives
      ∙ ap (λ names. settled_each names (holders_in c.self.inside.world))
      c.as_slice-2.ensures.value;
  replications = c.in_ok-due.ensures.replications;
  epochs = c.in_ok-due.ensures.epoch;
}

-- the same at the return
done_then : (c : goal.After-drop-written-2)
    → IsTaken (world_of c.self.inside.world) (holders_in c.self.inside.world)
    c.self.inside.places.items
    (queries_of (holders_in c.self.inside.world) c.self.inside.places.items)
    c.self.inside.written.items c.take_all.new.world
done_then c = record {
  placed = c.self.invariant.placed;
  collections = world_colls c.self.inside.world;
  quiet = c.self.invariant.quiet;
  emitted = c.in_ok-due.ensures.lives
      ∙ ap (λ names. settled_each names (holders_in c.self.inside.world))
      c.as_slice-2.ensures.value;
  replications = c.in_ok-due.ensures.replications;
  epochs = c.in_ok-due.ensures.epoch;
}

pub invariant_of-session : goal.invariant_of-session
invariant_of-session c =
    let same = sym (taken_world _ _ _ _ _ _ (done c)) in
    record {
      placed = taken_placed _ _ _ _ _ _ (done c);
      streamed = subst (λ v. AreStreamed v c.self.inside.streams.items) same
          c.self.invariant.streamed;
      distinct = subst AreDistinct same c.self.invariant.distinct;
      quiet = taken_quiet _ _ _ _ _ _ (done c);
    }

pub returns-clause-session : goal.returns-clause-session
returns-clause-session c =
    let i = c.self.inside in
    subst (λ (s : Session). session_of c.take_all.new.world i.moment (hooking_of i.hooks)
    i.streams.items i.places.items ≡ settled_session s) c.self.view_is
    (taken_session _ _ _ _ _ _ (done_then c) i.moment (hooking_of i.hooks) i.streams.items)

pub returns-clause-emissions : goal.returns-clause-emissions
returns-clause-emissions c =
    c.in_ok-due.ensures.due
    ∙ ap₂ (λ names ps. due_in_all names ps (holders_in c.self.inside.world))
    c.as_slice-2.ensures.value c.as_slice.ensures.value
    ∙ taken_due _ _ _ _ _ _ (done_then c)
    ∙ ap (λ (s : Session). emissions s) c.self.view_is
