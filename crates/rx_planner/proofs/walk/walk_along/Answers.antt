use Rattle.std.proofs.Common.{Bor, List, ℕ, map, sym, subst, arith}
use Rattle.rx_document.specs.declared.stored.Stored.{Stored}
use Rattle.rx_query.specs.QuerySpec.{asked}
use Rattle.rx_planner.specs.Way.{IsUnderWay, HasStepped}
use Rattle.rx_planner.proofs.Walks.{starts}
use Rattle.rx_planner.proofs.Windows.{of_whole, of_enough, first_ones, some_rows}
use Rattle.rx_planner.proofs.walk.walk_along.Goals as goal

pub parts-init : goal.parts-init
parts-init g c =
    let now : Bor Stored → Stored = λ r. r.now in
    let q = asked c.args.query.now in
    let documents = g.T.Lookup.documents c.args.docs.now in
    let index = c.args.index.now in
    let walk = c.in_ok-walk.walk in
    let none = c.in_ok-walk.ensures.looked in
    record {
      under =
          subst (λ (p : List Stored × ℕ). IsUnderWay q documents index p.0 p.1 walk.low walk.high)
          (λ i. (map now (sym c.in_ok-walk.ensures.none i), sym none i))
          (starts q documents index (map (λ (f : Bor (List ℕ)). f.now) c.args.names.now) c.requires
          c.requires.rising walk.low walk.high c.in_ok-walk.ensures.low c.in_ok-walk.ensures.high);
      within = omega (arith, none);
      cost = omega (arith, none);
    }

pub returns-in-Whole-clause-rows : goal.returns-in-Whole-clause-rows
returns-in-Whole-clause-rows g c =
    let q = asked c.args.query.now in
    let documents = g.T.Lookup.documents c.args.docs.now in
    let walk = c.advance.new.walk in
    let whole = subst (HasStepped q documents c.args.index.now c.args.most c.args.budget
    c.parts.walk.looked (map (λ (r : Bor Stored). r.now) walk.rows.items) walk.looked walk.low
    walk.high) c.in-Whole.is c.in_ok-advance.ensures in
    first_ones q documents c.args.most walk.rows.items c.found.result.rows (λ rows. rows.items)
    c.found.ensures.rows (of_whole q documents c.args.most walk.rows.items whole.0)

pub returns-in-Whole-clause-given_up : goal.returns-in-Whole-clause-given_up
returns-in-Whole-clause-given_up g c = λ none.
    absurd (some_rows c.found.result.rows c.found.ensures.some none)

pub returns-clause-rows : goal.returns-clause-rows
returns-clause-rows g c =
    let q = asked c.args.query.now in
    let documents = g.T.Lookup.documents c.args.docs.now in
    let walk = c.parts.walk in
    let many = c.len.ensures in
    first_ones q documents c.args.most walk.rows.items c.found-2.result.rows (λ rows. rows.items)
    c.found-2.ensures.rows
    (of_enough q documents c.args.most walk.rows.items c.args.index.now walk.looked walk.low
    walk.high
    c.parts.invariant.under (let enough = c.parts-test.false in omega (arith, many, enough)))

pub returns-clause-given_up : goal.returns-clause-given_up
returns-clause-given_up g c = λ none.
    absurd (some_rows c.found-2.result.rows c.found-2.ensures.some none)
