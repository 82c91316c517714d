use Rattle.std.proofs.Common.{◌++◌, Bor, map, drop, take, length, refl, sym, ap, ◌∙◌, subst, arith}
use Rattle.std.proofs.lemmas.List.{length-map}
use Rattle.rx_document.specs.declared.stored.Stored.{Stored}
use Rattle.rx_query.proofs.Rows.{map-drop}
use Rattle.rx_query.specs.QuerySpec.{asked}
use Rattle.rx_query.specs.Lists.{sorted}
use Rattle.rx_query.specs.Result.{stored_before}
use Rattle.rx_index.specs.Index.{ids_between}
use Rattle.rx_planner.specs.Rows.{due_among, IsFull}
use Rattle.rx_planner.proofs.Best.{read_at}
use Rattle.rx_planner.proofs.Runs.{first_distinct, first_strict, first_apart, ordered_result, sorted_result, short_result, few_result}
use Rattle.rx_planner.proofs.planned.Plan.run.Goals as goal
use Rattle.rx_planner.proofs.planned.Plan.run.Goals.{then-not-self+in_ok-improve, else-not-self}

pub put_in_order-requires : goal.put_in_order-requires
put_in_order-requires g c =
    let i = c.at-index in
    first_distinct (asked c.args.query.now)
    (g.T.Lookup.documents c.args.docs.now) c.args.indexes.now
    c.args.self.now i.result (read_at c.args.indexes.now c.args.self.now.index i.result i.ensures) c.requires.planned c.requires.keyed c.requires.held
    c.range-ids.ensures.rising (map (λ (r : Bor Stored). r.now) c.in_ok-rows.rows.items)
    c.first_due.new.ids c.range-ids.result c.in_ok-rows.ensures.split c.range-ids.ensures.ids

pub improve-requires-clause-in_order : goal.improve-requires-clause-in_order
improve-requires-clause-in_order g c =
    let i = c.at-index in
    let now : Bor Stored → Stored = λ r. r.now in
    first_strict (asked c.args.query.now) (g.T.Lookup.documents c.args.docs.now) c.args.indexes.now
    c.args.self.now i.result (read_at c.args.indexes.now c.args.self.now.index i.result i.ensures) c.requires.planned c.requires.keyed c.requires.held
    c.range-ids.ensures.rising (map now c.in_ok-rows.rows.items)
    c.first_due.new.ids c.range-ids.result c.in_ok-rows.ensures.split c.range-ids.ensures.ids
    (map now c.put_in_order.new.rows.items) c.put_in_order.ensures

pub improve-requires-clause-apart : goal.improve-requires-clause-apart
improve-requires-clause-apart g c =
    let i = c.at-index in
    let now : Bor Stored → Stored = λ r. r.now in
    first_apart (asked c.args.query.now) (g.T.Lookup.documents c.args.docs.now) c.args.indexes.now
    c.args.self.now i.result (read_at c.args.indexes.now c.args.self.now.index i.result i.ensures) c.requires.planned c.requires.keyed c.requires.held
    c.range-ids.ensures.rising (map now c.in_ok-rows.rows.items)
    c.first_due.new.ids c.range-ids.result c.in_ok-rows.ensures.split c.range-ids.ensures.ids
    (map now c.put_in_order.new.rows.items) c.put_in_order.ensures

pub returns-then-is_skipped : goal.returns-then-is_skipped
returns-then-is_skipped g c =
    let plan = c.args.self.now in
    let i = c.at-index in
    ap (map (λ (r : Bor Stored). r.now)) c.new.ensures.items
    ∙ sym (few_result (asked c.args.query.now) (g.T.Lookup.documents c.args.docs.now)
    c.args.indexes.now plan i.result (read_at c.args.indexes.now c.args.self.now.index i.result i.ensures) c.requires.planned c.requires.keyed c.requires.held
    (c.if-is_skipped.ensures.rising refl) (ids_between plan.low plan.high i.result.keys) refl
    (c.if-is_skipped.ensures.few refl))

pub returns-then-are_skipped : goal.returns-then-are_skipped
returns-then-are_skipped g c =
    let q = asked c.args.query.now in
    let i = c.at-index in
    let now : Bor Stored → Stored = λ r. r.now in
    let items = c.in_ok-rows.rows.items in
    let ids = c.first_due.new.ids in
    let most = c.most_rows.result in
    let as_many = length-map items now in
    let long = c.len.ensures in
    let few = c.if-are_skipped.ensures.skipped refl in
    ap (map now) c.new-then-are_skipped.ensures.items
    ∙ sym (short_result q (g.T.Lookup.documents c.args.docs.now) c.args.indexes.now
    c.args.self.now i.result (read_at c.args.indexes.now c.args.self.now.index i.result i.ensures) c.requires.planned c.requires.keyed c.requires.held
    c.range-ids.ensures.rising (map now items) ids c.range-ids.result c.in_ok-rows.ensures.split
    c.range-ids.ensures.ids most c.most_rows.ensures
    (subst (λ n. IsFull most n ids) (sym as_many) c.in_ok-rows.ensures.full)
    (omega (arith, as_many, long, few)))

pub returns : goal.returns
returns g c =
    let q = asked c.args.query.now in
    let documents = g.T.Lookup.documents c.args.docs.now in
    let i = c.at-index in
    let now : Bor Stored → Stored = λ r. r.now in
    let rows = map now c.in_ok-rows.rows.items in
    let ids = c.first_due.new.ids in
    let most = c.most_rows.result in
    let full : IsFull most (length rows) ids =
    subst (λ n. IsFull most n ids)
    (sym (length-map c.in_ok-rows.rows.items now)) c.in_ok-rows.ensures.full in
    ap (map now) c.skip_rows.ensures
    ∙ map-drop now c.skip.result c.if-not-self.rows.items
    ∙ ap (λ n. drop n (map now c.if-not-self.rows.items)) c.skip.ensures
    ∙ (elim c.if-not-self.branch [
      | then-not-self+in_ok-improve w ↦
          let first = map now w.put_in_order.new.rows.items in
          ap (λ v. drop q.skip (map now v.items)) w.rows-is
          ∙ sorted_result q documents c.args.indexes.now c.args.self.now i.result (read_at c.args.indexes.now c.args.self.now.index i.result i.ensures)
          c.requires.planned c.requires.keyed c.requires.held c.range-ids.ensures.rising rows ids
          c.range-ids.result c.in_ok-rows.ensures.split c.range-ids.ensures.ids most
          c.most_rows.ensures full first (map now w.improve.new.rows.items) w.put_in_order.ensures
          (w.in_ok-improve.ensures
          ∙ ap (λ n. take n (sorted (stored_before q) (first ++ due_among q documents ids)))
          (sym (length-map w.put_in_order.new.rows.items now)))
      | else-not-self w ↦
          ap (λ v. drop q.skip (map now v.items)) w.rows-is
          ∙ ordered_result q documents c.args.indexes.now c.args.self.now i.result (read_at c.args.indexes.now c.args.self.now.index i.result i.ensures)
          c.requires.planned c.requires.keyed c.requires.held c.range-ids.ensures.rising rows ids
          c.range-ids.result c.in_ok-rows.ensures.split c.range-ids.ensures.ids most
          c.most_rows.ensures full w.if-not-self.false
    ])
