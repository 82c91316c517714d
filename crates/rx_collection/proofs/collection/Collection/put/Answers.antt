use Rattle.std.proofs.Common.{◌∙◌, ◌++◌, ◌∷◌, [], ap, sym, subst}
use Rattle.rx_runs.specs.Rows.{shown}
use Rattle.rx_collection.specs.Commit.{IsNext, with_row}
use Rattle.rx_collection.specs.Held.{held_with}
use Rattle.rx_document.specs.Documents.{Documents}
use Rattle.rx_collection.specs.Log.{IsWhole}
use Rattle.rx_collection.specs.Marks.{AreMarked}
use Rattle.rx_collection.proofs.Lawful.{none_before_first}
use Rattle.rx_collection.proofs.Logged.{none_slotted, whole_put}
use Rattle.rx_runs.specs.Marked.{all_slots}
use Rattle.rx_collection.proofs.collection.Collection.put.Goals as goal

pub write-requires-clause-first : goal.write-requires-clause-first
write-requires-clause-first c one =
    let i = c.self.inside in
    let next = subst (λ h. IsNext h c.args.row) (sym c.self.view_is) c.requires in
    none_slotted i.rows (all_slots i.names) c.args.row.state.key c.self.invariant.0.slots
    (none_before_first (held_with i.name i.schema (shown i.rows (all_slots i.names))) c.args.row
    c.self.invariant.0.lawful next one)

pub invariant_of-self-2 : goal.invariant_of-self-2
invariant_of-self-2 c =
    let i = c.self.inside in
    let next = subst (λ h. IsNext h c.args.row) (sym c.self.view_is) c.requires in
    let log = c.push_reserved.ensures.items ∙ ap (λ l. l ++ (c.args.row.lwt, c.in_ok-slot.slot)
    ∷ []) c.reserve.ensures.same in (
      subst (IsWhole i.name i.schema c.write.new.rows (all_slots c.write.new.names)) (sym log)
          (whole_put i.name i.schema i.rows (all_slots i.names) i.log.items c.args.row c.write.new.rows
          (all_slots c.write.new.names) c.in_ok-slot.slot
          c.self.invariant.0 next c.in_ok-slot.ensures.ok).0,
      c.write.ensures.known,
      subst (λ (es : Documents). AreMarked es c.write.new.names)
          (sym (whole_put i.name i.schema i.rows (all_slots i.names) i.log.items c.args.row
          c.write.new.rows (all_slots c.write.new.names) c.in_ok-slot.slot
          c.self.invariant.0 next c.in_ok-slot.ensures.ok).1)
          (c.in_ok-slot.ensures.marks c.self.invariant.2),
    )

pub returns-clause-ok : goal.returns-clause-ok
returns-clause-ok c =
    let i = c.self.inside in
    let next = subst (λ h. IsNext h c.args.row) (sym c.self.view_is) c.requires in
    c.compact.ensures ∙ ap (held_with i.name i.schema)
    (whole_put i.name i.schema i.rows (all_slots i.names) i.log.items c.args.row c.write.new.rows
    (all_slots c.write.new.names) c.in_ok-slot.slot
    c.self.invariant.0 next c.in_ok-slot.ensures.ok).1
    ∙ ap (λ h. with_row h c.args.row) c.self.view_is
