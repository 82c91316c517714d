use Rattle.std.proofs.Common.{◌≡◌, [], ◌∙◌, subst, rules}
use Rattle.rx_observe.proofs.Making.{IsTaking, all_taken, takes}
use Rattle.rx_observe.proofs.indexes.index_by.Goals as goal

pub loop-document-preserved : goal.loop-document-preserved
loop-document-preserved c =
    let held = c.args.collection.now in
    let i = c.loop-document.filling in
    let d = c.in-Some.document.now in
    let left = c.next.new.self in
    let inv = c.loop-document.invariant in
    record {
      lawful = inv.lawful;
      fields = c.in_ok-take.ensures.fields ∙ inv.fields;
      taking =
          takes held inv.lawful d left i
          (subst (λ ds. IsTaking held.documents ds i) c.in-Some.ensures.steps inv.taking)
          c.take.new.self c.in_ok-take.ensures.ok;
    }

-- and the index of what was taken up holds all
pub returns-clause-index : goal.returns-clause-index
returns-clause-index c =
    let held = c.args.collection.now in
    let i = c.loop-document.filling in
    let inv = c.loop-document.invariant in
    let none : c.loop-document.documents ≡ [] = search rules in
    record {
      fields_are = c.in_ok-index.ensures.fields ∙ inv.fields;
      held =
          c.in_ok-index.ensures.held held.documents
          (all_taken held.documents i
          (subst (λ ds. IsTaking held.documents ds i) none inv.taking));
    }
