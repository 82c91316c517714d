use Rattle.std.proofs.Common.{is_some, ap, ◌∙◌}
use Rattle.rx_value.proofs.Outcomes.{some_mapped}
use Rattle.rx_world.specs.Holders.{holders_in}
use Rattle.rx_session.specs.Placed.{place_named}
use Rattle.rx_session.specs.Session.{Session, is_observed}
use Rattle.rx_session.proofs.Places.{any_place}
use Rattle.rx_session.proofs.session.Session.is_observed.Goals as goal

pub returns : goal.returns
returns c =
    let i = c.self.inside in
    let name = c.args.name.now in
    c.is_some.ensures ∙ some_mapped (λ p. p.now) c.find_place.result
    ∙ ap is_some (c.find_place.ensures ∙ ap (place_named name) c.as_slice.ensures.value)
    ∙ any_place (holders_in i.world) i.places.items _ c.self.invariant.placed name
    ∙ ap (λ (s : Session). is_observed name s) c.self.view_is
