use Rattle.std.proofs.Common.{ap, ◌∙◌}
use Rattle.rx_document.specs.Change.{before_of}
use Rattle.rx_document.specs.Documents.{live}
use Rattle.rx_observe.proofs.Steps.{change_is}
use Rattle.rx_observe.proofs.step.change_by.Goals as goal

pub returns : goal.returns
returns c =
    let held = c.args.collection.now in
    let before = c.in_ok-before.ensures ∙ ap (λ o. before_of (live o)) c.requires in
    (λ i. record {
      id = c.in_ok-copy.ensures i;
      before = before i;
      after = c.in_ok-live.ensures i;
    })
    ∙ change_is held c.args.row.now
