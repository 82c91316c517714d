use Rattle.std.proofs.Common.{◌≡◌, [], filter, not, sym, ap, ◌∙◌, subst}
use Rattle.std.specs.Str.{bytes_eq}
use Rattle.rx_update.specs.Shown.{hooking_of}
use Rattle.rx_world.specs.Holders.{holders_in}
use Rattle.rx_world.specs.Valid.{AreDistinct}
use Rattle.rx_session.specs.Applied.{without_observed}
use Rattle.rx_session.specs.Doing.{session_after, unwatch}
use Rattle.rx_session.specs.Emissions.{emissions, settled_session, IsSettled}
use Rattle.rx_session.specs.Placed.{ArePlaced, AreQuietUnless, place_named, queries_of, world_of}
use Rattle.rx_session.specs.Session.{Session}
use Rattle.rx_session.specs.Streams.{AreStreamed}
use Rattle.rx_session.proofs.Settling.{is_settled, left_due, left_placed, left_quiet, left_session, left_world, session_of}
use Rattle.rx_session.proofs.session.Session.unwatch.Goals as goal

-- what was done to the collections
dropped : (c : goal.After-drop_place) → holders_in c.unobserve_at.new.world
    ≡ without_observed c.args.name.now
    (place_named c.args.name.now c.self.inside.places.items) (holders_in c.self.inside.world)
dropped c =
    c.unobserve_at.ensures.lives
    ∙ ap (λ o. without_observed c.args.name.now o (holders_in c.self.inside.world))
    (c.find_place.ensures ∙ ap (place_named c.args.name.now) c.as_slice.ensures.value)

-- the places that are left
left : (c : goal.After-drop_place) → c.drop_place.new.places.items
    ≡ filter (λ p. not (bytes_eq c.args.name.now p.name)) c.self.inside.places.items
left c = c.drop_place.ensures

pub invariant_of-result : goal.invariant_of-result
invariant_of-result c =
    let i = c.self.inside in
    let so = c.self.invariant in
    let name = c.args.name.now in
    let new = c.unobserve_at.new.world in
    let same = sym (left_world i so name new (dropped c) c.unobserve_at.ensures.replications
    c.unobserve_at.ensures.epoch) in
    record {
      placed = subst (λ ps. ArePlaced (holders_in new) ps (queries_of (holders_in new) ps))
          (sym (left c)) (left_placed i so name new (dropped c)
          c.unobserve_at.ensures.replications c.unobserve_at.ensures.epoch);
      streamed = subst (λ v. AreStreamed v i.streams.items) same so.streamed;
      distinct = subst AreDistinct same so.distinct;
      quiet = subst (λ ps. AreQuietUnless [] (world_of new) (queries_of (holders_in new) ps))
          (sym (left c)) (left_quiet i so name new (dropped c)
          c.unobserve_at.ensures.replications c.unobserve_at.ensures.epoch);
    }

pub returns-clause-session : goal.returns-clause-session
returns-clause-session c =
    let i = c.self.inside in
    let name = c.args.name.now in
    let new = c.unobserve_at.new.world in
    subst (λ (s : Session).
    session_of new i.moment (hooking_of i.hooks) i.streams.items c.drop_place.new.places.items
    ≡ settled_session (session_after (unwatch name) s)) c.self.view_is
    (ap (session_of new i.moment (hooking_of i.hooks) i.streams.items) (left c)
    ∙ left_session i c.self.invariant name new (dropped c) c.unobserve_at.ensures.replications
    c.unobserve_at.ensures.epoch)

pub returns-clause-emissions : goal.returns-clause-emissions
returns-clause-emissions c =
    subst (λ (s : Session). emissions (session_after (unwatch c.args.name.now) s) ≡ [])
    c.self.view_is
    (left_due c.self.inside c.self.invariant c.args.name.now c.unobserve_at.new.world (dropped c)
    c.unobserve_at.ensures.replications c.unobserve_at.ensures.epoch)

pub returns-clause-before : goal.returns-clause-before
returns-clause-before c = subst IsSettled c.self.view_is (is_settled c.self.inside c.self.invariant)
