use Rattle.std.proofs.Common.{ℕ, List, Bor, option_map, sym, ap, ◌∙◌, subst, arith}
use Rattle.std.proofs.Math.Seq.{map-set_same}
use Rattle.rx_document.specs.declared.stored.Stored.{Stored}
use Rattle.rx_index.specs.Index.{Indexed}
use Rattle.rx_observe.proofs.Indexing.{Before, After, replaces, until_at, until_step, until_end, all_put, as_many}
use Rattle.rx_observe.proofs.indexes.put_in_each.Goals as goal

pub put-requires : goal.put-requires
put-requires c =
    let held = c.args.collection.now in
    let row = c.args.row.now in
    let next = c.requires.next in
    let lawful = c.requires.indexed.lawful in
    let i = c.index_mut-index.result.now in
    let old = option_map (λ (d : Bor Stored). d.now) c.args.old in
    let many = as_many c.args.indexes.now.items c.loop-i.indexes.items c.loop-i.invariant.fields in
    let before = until_at (After held row next lawful) (Before held row next lawful) c.loop-i.i
    c.loop-i.indexes.items i c.loop-i.invariant.held (omega (arith, many)) in (
      held.documents,
      replaces held row next lawful old c.requires.old i
          (subst (Before held row next lawful) (sym c.index_mut-index.ensures.value) before),
    )

pub loop-i-preserved : goal.loop-i-preserved
loop-i-preserved c =
    let held = c.args.collection.now in
    let row = c.args.row.now in
    let next = c.requires.next in
    let lawful = c.requires.indexed.lawful in
    let indexes = c.loop-i.indexes.items in
    let i = c.index_mut-index.result.now in
    let now = c.put.new.self in
    let fields_of : Indexed → List (List ℕ) = λ i. i.fields in
    let old = option_map (λ (d : Bor Stored). d.now) c.args.old in
    let many = as_many c.args.indexes.now.items c.loop-i.indexes.items c.loop-i.invariant.fields in
    let before = until_at (After held row next lawful) (Before held row next lawful) c.loop-i.i
    indexes i c.loop-i.invariant.held (omega (arith, many)) in
    let may = replaces held row next lawful old c.requires.old i
    (subst (Before held row next lawful) (sym c.index_mut-index.ensures.value) before) in
    record {
      fields =
          map-set_same fields_of indexes c.loop-i.i now i
          (c.in_ok-put.ensures.fields ∙ ap fields_of c.index_mut-index.ensures.value)
          ∙ c.loop-i.invariant.fields;
      held =
          until_step (After held row next lawful) (Before held row next lawful) c.loop-i.i
          indexes now c.loop-i.invariant.held (c.in_ok-put.ensures.ok held.documents may);
    }

pub returns : goal.returns
returns c =
    let held = c.args.collection.now in
    let row = c.args.row.now in
    let next = c.requires.next in
    let lawful = c.requires.indexed.lawful in
    let indexes = c.loop-i.indexes.items in
    let many = as_many c.args.indexes.now.items indexes c.loop-i.invariant.fields in
    all_put held row next lawful c.args.indexes.now.items indexes c.requires.indexed
    c.loop-i.invariant.fields
    (until_end (After held row next lawful) (Before held row next lawful) c.loop-i.i indexes
    c.loop-i.invariant.held (omega (arith, many)))
