use Rattle.std.proofs.Common.{◌≡◌, ◌+◌, Bor, ℕ, suc, List, [], false, true, map, drop, get_or, slice_get, sym, ap, ◌∙◌, arith}
use Rattle.std.proofs.Math.Seq.{drop-cons}
use Rattle.rx_query.specs.QuerySpec.{asked}
use Rattle.rx_planner.specs.Way.{falls, goes_by, matched}
use Rattle.rx_planner.proofs.Ways.{matched_at, matched_none, drop_past}
use Rattle.rx_planner.proofs.way.matched.Goals as goal

pub returns-then-not-goes_by-clause-value : goal.returns-then-not-goes_by-clause-value
returns-then-not-goes_by-clause-value c =
    let q = asked c.args.query.now in
    let now : Bor (List ℕ) → List ℕ = λ f. f.now in
    let fields = c.args.fields.now in
    let i = c.loop-i.i in
    let d : Bor (List ℕ) = record { ref_ptr = (0, 0); now = [] } in
    let fails : goes_by (slice_get q.sorts i) (get_or fields i d).now (falls q) ≡ false =
    ap (goes_by (slice_get q.sorts i) (get_or fields i d).now) (sym c.falls-desc.ensures)
    ∙ sym c.goes_by.ensures ∙ c.if-not-goes_by.true in
    let here : matched (falls q) (drop i q.sorts) (map now (drop i fields)) ≡ 0 =
    ap (λ xs. matched (falls q) (drop i q.sorts) (map now xs))
    (drop-cons fields i d c.loop-i-test.true)
    ∙ matched_at (falls q) q.sorts i (now (get_or fields i d)) (map now (drop (suc i) fields)) false
    fails in
    let all = c.loop-i.invariant in omega (arith, all, here)

pub loop-i-preserved : goal.loop-i-preserved
loop-i-preserved c =
    let q = asked c.args.query.now in
    let now : Bor (List ℕ) → List ℕ = λ f. f.now in
    let fields = c.args.fields.now in
    let i = c.loop-i.i in
    let d : Bor (List ℕ) = record { ref_ptr = (0, 0); now = [] } in
    let holds : goes_by (slice_get q.sorts i) (get_or fields i d).now (falls q) ≡ true =
    ap (goes_by (slice_get q.sorts i) (get_or fields i d).now) (sym c.falls-desc.ensures)
    ∙ sym c.goes_by.ensures ∙ c.if-not-goes_by.false in
    let next : suc i ≡ i + 1 = omega arith in
    let here : matched (falls q) (drop i q.sorts) (map now (drop i fields))
    ≡ suc (matched (falls q) (drop (i + 1) q.sorts) (map now (drop (i + 1) fields))) =
    ap (λ xs. matched (falls q) (drop i q.sorts) (map now xs))
    (drop-cons fields i d c.loop-i-test.true)
    ∙ matched_at (falls q) q.sorts i (now (get_or fields i d)) (map now (drop (suc i) fields)) true
    holds
    ∙ ap (λ n. suc (matched (falls q) (drop (i + 1) q.sorts) (map now (drop n fields)))) next in
    let all = c.loop-i.invariant in omega (arith, all, here)

pub returns-clause-value : goal.returns-clause-value
returns-clause-value c =
    let q = asked c.args.query.now in
    let now : Bor (List ℕ) → List ℕ = λ f. f.now in
    let fields = c.args.fields.now in
    let i = c.loop-i.i in
    let none : matched (falls q) (drop i q.sorts) (map now (drop i fields)) ≡ 0 =
    ap (λ xs. matched (falls q) (drop i q.sorts) (map now xs))
    (drop_past i fields c.loop-i-test.false)
    ∙ matched_none (falls q) (drop i q.sorts) in
    let all = c.loop-i.invariant in omega (arith, all, none)
