use Rattle.std.proofs.Common.{◌≡◌, length, rules, ap, ◌∙◌}
use Rattle.rx_world.specs.Holders.{holders_in}
use Rattle.rx_session.specs.Session.{Session}
use Rattle.rx_session.proofs.Places.{as_many}
use Rattle.rx_session.proofs.session.Session.queries.Goals as goal

pub returns : goal.returns
returns c =
    let i = c.self.inside in
    let count : c.len.result ≡ length i.places.items = search rules in
    count ∙ as_many (holders_in i.world) i.places.items _ c.self.invariant.placed
    ∙ ap (λ (s : Session). length s.queries) c.self.view_is
