use Rattle.std.proofs.Common.{Some, option_map, sym, ap, ◌∙◌}
use Rattle.rx_value.specs.Named.{named}
use Rattle.rx_observe.specs.Watched.{Watched}
use Rattle.rx_world.specs.Holders.{holders_in}
use Rattle.rx_session.specs.Placed.{place_named, queries_at}
use Rattle.rx_session.specs.Session.{Session, counts_of}
use Rattle.rx_session.proofs.Places.{counts_at, no_counts_at}
use Rattle.rx_session.proofs.session.Session.counts.Goals as goal

pub returns-in_err-place : goal.returns-in_err-place
returns-in_err-place c =
    let i = c.self.inside in
    let name = c.args.name.now in
    ap (option_map (λ x. x.now)) c.from_residual.ensures
    ∙ sym (no_counts_at (holders_in i.world) i.places.items _ c.self.invariant.placed name
    (sym (ap (place_named name) c.as_slice.ensures.value) ∙ sym c.in_err-place.ensures))
    ∙ ap (λ (s : Session). counts_of name s) c.self.view_is

pub returns-in_err-live : goal.returns-in_err-live
returns-in_err-live c =
    let i = c.self.inside in
    let name = c.args.name.now in
    let place = c.in_ok-place.place.now in
    ap (option_map (λ x. x.now)) c.from_residual-in_err-live.ensures
    ∙ ap (λ o. option_map (λ (v : Watched). v.counts) (named (queries_at o) name))
    (c.in_err-live.ensures.found ∙ ap (named (holders_in i.world)) c.as_str.ensures)
    ∙ sym (counts_at (holders_in i.world) i.places.items _ c.self.invariant.placed name place
    (sym (ap (place_named name) c.as_slice.ensures.value) ∙ sym c.in_ok-place.ensures))
    ∙ ap (λ (s : Session). counts_of name s) c.self.view_is

pub returns-in_err-observed : goal.returns-in_err-observed
returns-in_err-observed c =
    let i = c.self.inside in
    let name = c.args.name.now in
    let place = c.in_ok-place.place.now in
    let live = c.in_ok-live.live.now in
    ap (option_map (λ x. x.now)) c.from_residual-in_err-observed.ensures
    ∙ ap (option_map (λ (v : Watched). v.counts))
    (c.in_err-observed.ensures.value ∙ ap (named live.queries) c.as_str-2.ensures)
    ∙ ap (λ o. option_map (λ (v : Watched). v.counts) (named (queries_at o) name))
    (c.in_ok-live.ensures.found ∙ ap (named (holders_in i.world)) c.as_str.ensures)
    ∙ sym (counts_at (holders_in i.world) i.places.items _ c.self.invariant.placed name place
    (sym (ap (place_named name) c.as_slice.ensures.value) ∙ sym c.in_ok-place.ensures))
    ∙ ap (λ (s : Session). counts_of name s) c.self.view_is

pub returns : goal.returns
returns c =
    let i = c.self.inside in
    let name = c.args.name.now in
    let place = c.in_ok-place.place.now in
    let live = c.in_ok-live.live.now in
    ap (λ n. Some n) c.counts.ensures
    ∙ ap (option_map (λ (v : Watched). v.counts))
    (c.in_ok-observed.ensures.value ∙ ap (named live.queries) c.as_str-2.ensures)
    ∙ ap (λ o. option_map (λ (v : Watched). v.counts) (named (queries_at o) name))
    (c.in_ok-live.ensures.found ∙ ap (named (holders_in i.world)) c.as_str.ensures)
    ∙ sym (counts_at (holders_in i.world) i.places.items _ c.self.invariant.placed name place
    (sym (ap (place_named name) c.as_slice.ensures.value) ∙ sym c.in_ok-place.ensures))
    ∙ ap (λ (s : Session). counts_of name s) c.self.view_is
