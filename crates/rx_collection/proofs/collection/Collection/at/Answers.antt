use Rattle.std.proofs.Common.{◌∙◌, ap, sym}
use Rattle.rx_value.specs.Named.{named}
use Rattle.rx_runs.proofs.InSlots.{shown_some}
use Rattle.rx_collection.specs.Held.{Held}
use Rattle.rx_runs.specs.Marked.{all_slots}
use Rattle.rx_collection.proofs.collection.Collection.at.Goals as goal

-- a document in a slot is that of its key
pub returns-clause-held : goal.returns-clause-held
returns-clause-held c =
    let i = c.self.inside in
    let w = c.self.invariant.0 in
    let d = c.at.result.now in
    sym (ap (λ (h : Held). named h.documents d.state.key) c.self.view_is)
    ∙ shown_some i.rows (all_slots i.names) d.state.key c.args.slot d w.slots.within
    (w.logged.keyed c.args.slot d c.at.ensures) c.at.ensures
