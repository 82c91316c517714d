use Rattle.std.proofs.Common.{◌≡◌, map, subst, IfOk}
use Rattle.std.proofs.lemmas.Iterator.{items_from_collect}
use Rattle.std.proofs.lemmas.Iterator.Consumers.{YieldsList-from_rest}
use Rattle.std.specs.List.{AllByRecursion}
use Rattle.std.specs.Map.{values_of}
use Rattle.rx_world.specs.Holders.{IsWhole, holders_in}
use Rattle.rx_world.proofs.Entries.{whole_by_bytes, values-by_bytes}
use Rattle.rx_world.proofs.world.World.release.Goals as goal

pub returns-clause-holders : goal.returns-clause-holders
returns-clause-holders g c =
    let es = c.self.inside.parts.holders.entries in
    let all = c.collect.result in
    subst (λ w. IfOk all (λ hs. hs.items ≡ map (λ e. e.1) (holders_in w))) c.self.view_is
    (subst (λ xs. IfOk all (λ hs. hs.items ≡ xs)) (values-by_bytes es)
    (items_from_collect all c.collect.ensures.ran
    (YieldsList-from_rest {shows = λ x. x} (values_of es) c.into_values.ensures.rest)))

pub returns-clause-whole : goal.returns-clause-whole
returns-clause-whole g c =
    let held = g.H.Holder.held in
    let broken = g.H.Holder.is_broken in
    subst (λ w. AllByRecursion (λ e. IsWhole held broken e.0 e.1) (holders_in w)) c.self.view_is
    (whole_by_bytes held broken c.self.inside.parts.holders.entries c.self.invariant.whole)
