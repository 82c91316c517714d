use Rattle.std.proofs.Common.{◌∙◌, ap, sym, subst}
use Rattle.std.specs.List.{AllByRecursion}
use Rattle.rx_wire.specs.declared.message.AskKind.TheVariants.{Push}
use Rattle.rx_world.specs.Step.{IsValidState}
use Rattle.rx_sync.proofs.Calls.{writes_valid}
use Rattle.rx_sync.proofs.handling.answer.Goals as goal

pub commit_all-requires-clause-valid : goal.commit_all-requires-clause-valid
commit_all-requires-clause-valid c =
    let held = c.args.collection.now in
    subst (AllByRecursion (IsValidState held.schema)) (sym c.in_ok-writes-in-Push.ensures.writes)
    (writes_valid held.schema held.documents c.args.ask.now c.as_slice.result.now c.requires.valid
    (c.in-Push.is ∙ ap Push (sym c.as_slice.ensures)))
