use Rattle.std.proofs.Common.{◌∙◌, List, ℕ, Bool, option_map, ap}
use Rattle.std.specs.List.{find}
use Rattle.rx_world.specs.Holders.{holders_in}
use Rattle.rx_world.specs.Migrating.{is_in_group}
use Rattle.rx_session.specs.Placed.{world_of}
use Rattle.rx_session.specs.Session.{Session, first_observed}
use Rattle.rx_session.specs.declared.query_place.QueryPlace.{QueryPlace}
use Rattle.rx_session.proofs.Places.{first_named}
use Rattle.rx_session.proofs.session.Session.first_observed.Goals as goal

pub returns-in-Some : goal.returns-in-Some
returns-in-Some c =
    let i = c.self.inside in
    let G : List ℕ → Bool = is_in_group (world_of i.world).replications c.args.name.now in
    ap (option_map (λ (p : QueryPlace). p.name))
    (c.in-Some.ensures ∙ ap (find (λ (p : QueryPlace). G p.coll)) c.as_slice.ensures.value)
    ∙ first_named (holders_in i.world) i.places.items _ c.self.invariant.placed G
    ∙ ap (λ (s : Session).
    first_observed (is_in_group s.world.replications c.args.name.now) s.queries)
    c.self.view_is

pub returns-in-None : goal.returns-in-None
returns-in-None c =
    let i = c.self.inside in
    let G : List ℕ → Bool = is_in_group (world_of i.world).replications c.args.name.now in
    ap (option_map (λ (p : QueryPlace). p.name))
    (c.in-None.ensures ∙ ap (find (λ (p : QueryPlace). G p.coll)) c.as_slice.ensures.value)
    ∙ first_named (holders_in i.world) i.places.items _ c.self.invariant.placed G
    ∙ ap (λ (s : Session).
    first_observed (is_in_group s.world.replications c.args.name.now) s.queries)
    c.self.view_is
