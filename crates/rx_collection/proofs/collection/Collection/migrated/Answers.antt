use Rattle.std.proofs.Common.{◌∙◌, List, ap, sym, subst}
use Rattle.rx_document.specs.declared.stored.Stored.{Stored}
use Rattle.rx_runs.specs.Rows.{shown}
use Rattle.rx_collection.specs.Held.{Held, held_with}
use Rattle.rx_collection.specs.Hints.{AreKnown}
use Rattle.rx_collection.specs.Log.{IsWhole}
use Rattle.rx_collection.specs.Migrated.{CarryAfter, migrated_collection}
use Rattle.rx_document.specs.Documents.{Documents}
use Rattle.rx_collection.specs.Marks.{AreMarked}
use Rattle.rx_collection.proofs.Marks.{marked_after}
use Rattle.rx_collection.proofs.Migrated.{known_after, shown_after, whole_after}
use Rattle.rx_runs.specs.Marked.{all_slots}
use Rattle.rx_collection.proofs.collection.Collection.migrated.Goals as goal

pub invariant_of-migrated : goal.invariant_of-migrated
invariant_of-migrated c =
    let i = c.migrated.inside in
    let names = all_slots i.names in
    subst (λ (rows : List Stored). IsWhole i.name c.args.schema rows names i.log.items
    × AreKnown i.hints rows × AreMarked (shown rows names) i.names)
    (sym c.in_ok-migrate_rows.ensures) (
      whole_after c.args.steps.now i.name i.schema c.args.schema i.rows names i.log.items
          c.migrated.invariant.0
          (subst (λ (h : Held). CarryAfter c.args.schema c.args.steps.now h.documents)
          (sym c.migrated.view_is) c.requires),
      known_after c.args.steps.now i.hints i.rows c.migrated.invariant.1,
      subst (λ (es : Documents). AreMarked es i.names)
          (sym (shown_after c.args.steps.now i.rows names))
          (marked_after c.args.steps.now (shown i.rows names) i.names c.migrated.invariant.2),
    )

pub returns : goal.returns
returns c =
    let i = c.migrated.inside in
    let names = all_slots i.names in
    ap (λ (rows : List Stored). held_with i.name c.args.schema (shown rows names))
    c.in_ok-migrate_rows.ensures
    ∙ ap (held_with i.name c.args.schema) (shown_after c.args.steps.now i.rows names)
    ∙ ap (migrated_collection c.args.schema c.args.steps.now) c.migrated.view_is
