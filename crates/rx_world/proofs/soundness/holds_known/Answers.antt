use Rattle.std.proofs.Common.{rules, Bool, is_some}
use Rattle.std.proofs.lemmas.Iterator.Consumers.{YieldsList-from_rest}
use Rattle.std.proofs.lemmas.Iterator.Search.{all_from_yields_List}
use Rattle.std.specs.Borrow.{Bor}
use Rattle.std.specs.Map.{values_of}
use borrow.Author.Tests.{tests}
use Rattle.rx_value.specs.Named.{named}
use Rattle.rx_value.specs.declared.state.State.{State}
use Rattle.rx_world.proofs.Deciding.{decides_held}
use Rattle.rx_world.proofs.soundness.holds_known.Goals as goal

pub returns : goal.returns
returns c =
    let held = c.args.collection.now in
    let known = c.args.side.now.known in
    let test : State → Bool = λ s. is_some (named held.documents s.key) in
    decides_held held known c.all.ensures.lawful c.all-2.result
    (all_from_yields_List test _ _ c.all-2.result c.all-2.ensures.ran
    (YieldsList-from_rest {shows = λ (r : Bor State). r.now} (values_of known) c.all.ensures.states)
    (λ x b q k. search (rules, tests)))
