use Rattle.std.proofs.Common.{◌≡◌, true, false, ◌∷◌, [], ◌++◌, sym, ap, ◌∙◌, subst}
use Rattle.rx_value.specs.Named.{named}
use Rattle.rx_query.specs.QuerySpec.{asked}
use Rattle.rx_update.specs.Shown.{hooking_of}
use Rattle.rx_world.specs.Holders.{holders_in}
use Rattle.rx_world.specs.Valid.{AreDistinct}
use Rattle.rx_session.specs.Applied.{watched_in}
use Rattle.rx_session.specs.Doing.{session_after, has_key, new_query, watch}
use Rattle.rx_session.specs.Emissions.{emissions, settled_session, IsSettled}
use Rattle.rx_session.specs.Inside.{session_in}
use Rattle.rx_session.specs.Placed.{place_of, world_of}
use Rattle.rx_session.specs.Session.{Session, is_observed}
use Rattle.rx_session.specs.Streams.{AreStreamed}
use Rattle.rx_session.proofs.Places.{is_free}
use Rattle.rx_session.proofs.Settling.{IsTaken, free_there, is_settled, session_of, taken_due, taken_placed, taken_quiet, taken_session, taken_world, watched}
use Rattle.rx_session.proofs.session.Session.watch.Goals as goal

pub observe_in-requires-clause-free : goal.observe_in-requires-clause-free
observe_in-requires-clause-free c =
    let i = c.self.inside in
    let w = c.args.watch in
    is_free w.name (named (holders_in i.world) w.coll)
    (free_there i c.self.invariant w.name w.coll (asked w.query)
    (subst (λ (s : Session). is_observed w.name s ≡ false) (sym c.self.view_is) c.requires.0))

pub observe_in-requires-clause-keyed : goal.observe_in-requires-clause-keyed
observe_in-requires-clause-keyed c =
    let w = c.args.watch in
    subst (λ (s : Session).
    has_key (asked w.query).primary (named s.world.collections w.coll) ≡ true) (sym c.self.view_is)
    c.requires.1

-- the places, with the new one
added : (c : goal.In_ok-add_place) → c.add_place.new.places.items
    ≡ c.self.inside.places.items
    ++ place_of (new_query (world_of c.self.inside.world) c.args.watch.name c.args.watch.coll
    (asked c.args.watch.query)) ∷ []
added c = c.in_ok-add_place.ensures

-- the emissions of its collection were taken
done : (c : goal.In_ok-add_place)
    → IsTaken (world_of c.self.inside.world)
    (watched_in c.args.watch.name c.args.watch.coll (asked c.args.watch.query)
    (holders_in c.self.inside.world)) c.add_place.new.places.items
    (session_after (watch c.args.watch.name c.args.watch.coll (asked c.args.watch.query))
    (session_in c.self.inside)).queries (c.args.watch.coll ∷ []) c.observe_in.new.world
done c =
    let i = c.self.inside in
    let w = c.args.watch in
    subst (λ ps. IsTaken (world_of i.world)
    (watched_in w.name w.coll (asked w.query) (holders_in i.world)) ps
    (session_after (watch w.name w.coll (asked w.query)) (session_in i)).queries (w.coll ∷ [])
    c.observe_in.new.world) (sym (added c))
    (watched i c.self.invariant w.name w.coll (asked w.query)
    (subst (λ (s : Session). is_observed w.name s ≡ false) (sym c.self.view_is) c.requires.0)
    (subst (λ (s : Session).
    has_key (asked w.query).primary (named s.world.collections w.coll) ≡ true)
    (sym c.self.view_is) c.requires.1) c.observe_in.new.world c.in_ok-due.ensures.lives
    c.in_ok-due.ensures.replications c.in_ok-due.ensures.epoch)

pub invariant_of-session : goal.invariant_of-session
invariant_of-session c =
    let i = c.self.inside in
    let same = sym (taken_world _ _ _ _ _ _ (done c)) in
    record {
      placed = taken_placed _ _ _ _ _ _ (done c);
      streamed = subst (λ v. AreStreamed v i.streams.items) same c.self.invariant.streamed;
      distinct = subst AreDistinct same c.self.invariant.distinct;
      quiet = taken_quiet _ _ _ _ _ _ (done c);
    }

pub returns-clause-session : goal.returns-clause-session
returns-clause-session c =
    let i = c.self.inside in
    let w = c.args.watch in
    subst (λ (s : Session).
    session_of c.observe_in.new.world i.moment (hooking_of i.hooks) i.streams.items
    c.add_place.new.places.items
    ≡ settled_session (session_after (watch w.name w.coll (asked w.query)) s)) c.self.view_is
    (taken_session _ _ _ _ _ _ (done c) i.moment (hooking_of i.hooks) i.streams.items)

pub returns-clause-emissions : goal.returns-clause-emissions
returns-clause-emissions c =
    let w = c.args.watch in
    c.in_ok-due.ensures.due ∙ taken_due _ _ _ _ _ _ (done c)
    ∙ ap (λ (s : Session). emissions (session_after (watch w.name w.coll (asked w.query)) s))
    c.self.view_is

pub returns-clause-before : goal.returns-clause-before
returns-clause-before c = subst IsSettled c.self.view_is (is_settled c.self.inside c.self.invariant)

pub returns-in_err-due-clause-before : goal.returns-in_err-due-clause-before
returns-in_err-due-clause-before c =
    subst IsSettled c.self.view_is (is_settled c.self.inside c.self.invariant)

pub returns-in_err-add_place-clause-before : goal.returns-in_err-add_place-clause-before
returns-in_err-add_place-clause-before c =
    subst IsSettled c.self.view_is (is_settled c.self.inside c.self.invariant)
