use Rattle.std.proofs.Common.{◌≡◌, ◌∷◌, false, refl, rules, sym, ap, ◌∙◌, subst}
use Rattle.std.proofs.lemmas.List.{nil_from_length}
use Rattle.std.specs.Vec.Iter.{into_iter_items}
use Rattle.rx_collection.specs.Commit.{AreNext}
use Rattle.rx_collection.specs.Held.{Held}
use Rattle.rx_observe.specs.Observing.{Observing, put_all}
use Rattle.rx_observe.proofs.Putting.{whole, whole_put, put_on, put_none}
use Rattle.rx_observe.proofs.live.LiveHolder.put_rows.Goals as goal

pub loop-row-init : goal.loop-row-init
loop-row-init c =
    let i = c.self.inside in
    let unbroken : i.broken ≡ false =
    ap (λ (o : Observing). o.broken) c.self.view_is ∙ c.requires.whole in
    let given : into_iter_items c.into_iter-row-iterator.result ≡ c.args.rows.items =
    search rules in
    let same : whole i.collection i.queries.items ≡ c.args.self.now =
    (λ k. record { collection = i.collection; queries = i.queries.items; broken = sym unbroken k })
    ∙ c.self.view_is in
    let next : AreNext i.collection c.args.rows.items =
    subst (λ (o : Observing). AreNext o.collection c.args.rows.items) (sym c.self.view_is)
    c.requires.next in (
      c.self.invariant unbroken,
      ap (put_all (whole i.collection i.queries.items)) given
          ∙ ap (λ o. put_all o c.args.rows.items) same,
      subst (AreNext i.collection) (sym given) next,
      refl,
    )

pub loop-row-preserved : goal.loop-row-preserved
loop-row-preserved c =
    let i = c.loop-row.self-inside in
    let row = c.in-Some.row in
    let now = c.put_row.new.collection in
    let queries = c.put_row.new.queries.items in
    let put = c.in_ok-put_row.ensures in
    let rest = into_iter_items c.next.new.self in
    let step : into_iter_items c.loop-row.row-iterator ≡ row ∷ rest = c.in-Some.ensures.steps.0 in
    let next : AreNext i.collection (row ∷ rest) =
    subst (AreNext i.collection) step c.loop-row.invariant.2 in (
      whole_put i.collection now row i.queries.items queries put.collection put.queries
          i.fronts.items c.put_row.new.fronts.items i.indexes.items c.put_row.new.indexes.items
          c.loop-row.invariant.0 put.fronts put.indexed,
      put_on i.collection now row i.queries.items queries put.collection put.queries rest
          ∙ ap (put_all (whole i.collection i.queries.items)) (sym step)
          ∙ c.loop-row.invariant.1,
      subst (λ (d : Held). AreNext d rest) (sym put.collection) next.1,
      c.loop-row.invariant.3,
    )

pub returns-clause-rows : goal.returns-clause-rows
returns-clause-rows c =
    let i = c.loop-row.self-inside in
    let rest = c.loop-row.row-iterator.rest in
    let none = nil_from_length rest.items (sym rest.ok.0 ∙ c.in-None.ensures.steps.0) in
    ap (λ rows. (put_all (whole i.collection i.queries.items) rows).collection) (sym none)
    ∙ ap (λ (o : Observing). o.collection) c.loop-row.invariant.1

pub returns-clause-written : goal.returns-clause-written
returns-clause-written c =
    let i = c.loop-row.self-inside in
    let rest = c.loop-row.row-iterator.rest in
    let none = nil_from_length rest.items (sym rest.ok.0 ∙ c.in-None.ensures.steps.0) in
    sym (put_none (whole i.collection i.queries.items))
    ∙ ap (put_all (whole i.collection i.queries.items)) (sym none) ∙ c.loop-row.invariant.1
