use Rattle.std.proofs.Common.{◌≡◌, ◌∙◌, Option, Some, None, option_map, length, sym, ap}
use Rattle.std.specs.List.{last_or}
use Rattle.std.specs.Map.Iter.{deref}
use Rattle.rx_document.specs.declared.place.Place.{Place}
use Rattle.rx_collection.specs.Since.{since}
use Rattle.rx_replication.specs.Taking.{place_or}
use Rattle.rx_stream.proofs.Places.{last_drained, last_found}
use Rattle.rx_stream.proofs.queue.last_above.Goals as goal

pub returns-in_ok-place_of-in-Some : goal.returns-in_ok-place_of-in-Some
returns-in_ok-place_of-in-Some c =
    let documents = c.args.collection.now.documents in
    let place : Option Place = option_map (λ p. p.now) c.args.place in
    let ran = c.last.ensures.ran in
    let last : option_map deref c.last.result ≡ last_or None c.page.result =
    last_drained deref c.page.result ran.0 c.last.result ran.1 ran.2 in
    ap Some c.in_ok-place_of-in-Some.ensures
    ∙ sym (last_found documents place (length documents) c.page.result
    (option_map deref c.last.result)
    (c.page.ensures.documents ∙ ap (since documents place) c.len.ensures.count) last
    ∙ ap (λ o. place_or place (option_map deref o)) c.in-Some.is)

pub returns-in-None : goal.returns-in-None
returns-in-None c =
    let documents = c.args.collection.now.documents in
    let place : Option Place = option_map (λ p. p.now) c.args.place in
    let ran = c.last.ensures.ran in
    let last : option_map deref c.last.result ≡ last_or None c.page.result =
    last_drained deref c.page.result ran.0 c.last.result ran.1 ran.2 in
    rw (last_found documents place (length documents) c.page.result
    (option_map deref c.last.result)
    (c.page.ensures.documents ∙ ap (since documents place) c.len.ensures.count) last
    ∙ ap (λ o. place_or place (option_map deref o)) c.in-None.is)
    c.copy_if_some.ensures
