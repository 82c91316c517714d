use Rattle.std.proofs.Common.{rules, Bool, ◌||◌}
use Rattle.std.proofs.lemmas.Iterator.Consumers.{YieldsList-from_rest}
use Rattle.std.proofs.lemmas.Iterator.Search.{all_from_yields_List}
use Rattle.std.specs.Borrow.{Bor}
use Rattle.std.specs.Map.{values_of}
use Rattle.std.specs.Ordering.{is_lt}
use borrow.Author.Tests.{tests}
use Rattle.rx_value.specs.Named.{named}
use Rattle.rx_document.specs.Place.{place_cmp}
use Rattle.rx_document.specs.declared.stored.Stored.{Stored}
use Rattle.rx_collection.specs.Since.{place_of}
use Rattle.rx_replication.specs.Known.{is_state}
use Rattle.rx_world.proofs.Deciding.{decides_known}
use Rattle.rx_world.proofs.soundness.are_known_up_to.Goals as goal

pub returns : goal.returns
returns c =
    let held = c.args.collection.now in
    let known = c.args.side.now.known in
    let place = c.args.place.now in
    let test : Stored → Bool =
    λ d. is_lt (place_cmp place (place_of d)) || is_state (named known d.state.key) d.state in
    decides_known held c.all.ensures.lawful known place c.all-2.result
    (all_from_yields_List test _ _ c.all-2.result c.all-2.ensures.ran
    (YieldsList-from_rest {shows = λ (r : Bor Stored). r.now}
    (values_of held.documents) c.all.ensures.documents)
    (λ x b q k. search (rules, tests)))
