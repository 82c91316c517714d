use Rattle.std.proofs.Common.{rules, Bool, not}
use Rattle.std.proofs.lemmas.Iterator.Consumers.{YieldsList-from_rest}
use Rattle.std.proofs.lemmas.Iterator.Search.{any_from_yields_List}
use Rattle.std.specs.Borrow.{Bor}
use Rattle.std.specs.Map.{values_of}
use Rattle.std.specs.Ordering.{is_lt}
use borrow.Author.Tests.{tests}
use Rattle.rx_document.specs.Place.{place_cmp}
use Rattle.rx_document.specs.declared.stored.Stored.{Stored}
use Rattle.rx_collection.specs.Since.{place_of}
use Rattle.rx_world.proofs.Deciding.{decides_reach}
use Rattle.rx_world.proofs.soundness.reaches.Goals as goal

pub returns : goal.returns
returns c =
    let held = c.args.collection.now in
    let place = c.args.place.now in
    let test : Stored → Bool = λ d. not (is_lt (place_cmp (place_of d) place)) in
    decides_reach held c.all.ensures.lawful place c.any.result
    (any_from_yields_List test _ _ c.any.result c.any.ensures.ran
    (YieldsList-from_rest {shows = λ (r : Bor Stored). r.now}
    (values_of held.documents) c.all.ensures.documents)
    (λ x b q k. search (rules, tests)))
