use Rattle.std.proofs.Common.{◌∙◌, ◌<◌, ap, sym, length}
use Rattle.rx_value.specs.Named.{named}
use Rattle.rx_runs.proofs.InSlots.{named_slot, shown_none, shown_some}
use Rattle.rx_collection.specs.Held.{Held}
use Rattle.rx_runs.specs.Marked.{all_slots}
use Rattle.rx_collection.proofs.collection.Collection.get.Goals as goal

pub slot_of-requires : goal.slot_of-requires
slot_of-requires c = record {
  slots = c.self.invariant.0.slots;
  keyed = c.self.invariant.0.logged.keyed;
  known = c.self.invariant.1;
}

pub at-requires : goal.at-requires
at-requires c =
    let i = c.self.inside in
    named_slot (λ s. s < length i.rows) (all_slots i.names) c.args.key.now c.in-Some.slot
    c.self.invariant.0.slots.within
    (sym c.in-Some.ensures)

pub returns-in-Some-clause-value : goal.returns-in-Some-clause-value
returns-in-Some-clause-value c =
    let i = c.self.inside in
    let k = c.args.key.now in
    sym (shown_some i.rows (all_slots i.names) k c.in-Some.slot c.at.result.now c.self.invariant.0.slots.within
    (sym c.in-Some.ensures) c.at.ensures)
    ∙ ap (λ (h : Held). named h.documents k) c.self.view_is

pub returns-in-None-clause-value : goal.returns-in-None-clause-value
returns-in-None-clause-value c =
    let i = c.self.inside in
    let k = c.args.key.now in
    sym (shown_none i.rows (all_slots i.names) k c.self.invariant.0.slots.within (sym c.in-None.ensures))
    ∙ ap (λ (h : Held). named h.documents k) c.self.view_is
