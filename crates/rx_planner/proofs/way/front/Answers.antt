use Rattle.std.proofs.Common.{◌≡◌, ◌+◌, ◌-◌, ◌==◌, Bor, ℕ, List, not, map, take, drop, length, sym, ap, ◌∙◌, arith}
use Rattle.std.proofs.lemmas.List.{take_rest, take-map}
use Rattle.rx_query.proofs.Rows.{map-drop}
use Rattle.rx_query.specs.QuerySpec.{QuerySpec, asked}
use Rattle.rx_planner.specs.Plan.{Names, leading, rest_of, path_of}
use Rattle.rx_planner.specs.Way.{falls, matched}
use Rattle.rx_planner.proofs.Ways.{front_is, some_more}
use Rattle.rx_planner.proofs.way.front.Goals as goal

-- how many fields are fixed
fixed_is : (q : QuerySpec) (path whole : List (Bor (List ℕ))) (fields : Names) (n : ℕ)
    → map (λ f. f.now) path ≡ path_of q fields → whole ≡ path
    → n ≡ leading q (map (λ f. f.now) whole) → n ≡ leading q (path_of q fields)
fixed_is q path whole fields n path_is same is =
    is ∙ ap (λ xs. leading q (map (λ (f : Bor (List ℕ)). f.now) xs)) same ∙ ap (leading q) path_is

-- and how many of the others the sort begins with
more_is : (q : QuerySpec) (path whole : List (Bor (List ℕ))) (fields : Names) (n m : ℕ)
    → map (λ f. f.now) path ≡ path_of q fields → whole ≡ path → n ≡ leading q (path_of q fields)
    → m ≡ matched (falls q) q.sorts (map (λ f. f.now) (take (length whole - n) (drop n whole)))
    → m ≡ matched (falls q) q.sorts (rest_of q (path_of q fields))
more_is q path whole fields n m path_is same fixed is =
    let now : Bor (List ℕ) → List ℕ = λ f. f.now in
    is
    ∙ ap (matched (falls q) q.sorts)
    (ap (map now) (take_rest whole n) ∙ map-drop now n whole
    ∙ ap (λ xs. drop n (map now xs)) same ∙ ap (drop n) path_is
    ∙ ap (λ k. drop k (path_of q fields)) fixed)

pub returns-then-more-eq0-clause-fits : goal.returns-then-more-eq0-clause-fits
returns-then-more-eq0-clause-fits c =
    let q = asked c.args.query.now in
    let path = c.in_ok-path.path.items in
    let fields = c.args.fields.now in
    let fixed =
    fixed_is q path c.as_slice.result.now fields c.leading-fixed.result c.in_ok-path.ensures
    c.as_slice.ensures.value c.leading-fixed.ensures.value in
    let more = more_is q path c.as_slice-2.result.now fields c.leading-fixed.result
    c.matched-more.result c.in_ok-path.ensures c.as_slice-2.ensures.value fixed
    c.matched-more.ensures.value in
    sym (ap (λ n. not (n == 0)) (sym more ∙ c.if-more-eq0.true))

pub returns-clause-fits : goal.returns-clause-fits
returns-clause-fits c =
    let q = asked c.args.query.now in
    let path = c.in_ok-path.path.items in
    let fields = c.args.fields.now in
    let fixed =
    fixed_is q path c.as_slice.result.now fields c.leading-fixed.result c.in_ok-path.ensures
    c.as_slice.ensures.value c.leading-fixed.ensures.value in
    let more = more_is q path c.as_slice-2.result.now fields c.leading-fixed.result
    c.matched-more.result c.in_ok-path.ensures c.as_slice-2.ensures.value fixed
    c.matched-more.ensures.value in
    some_more c.matched-more.result (matched (falls q) q.sorts (rest_of q (path_of q fields))) more
    (λ z. omega arith)

pub returns-clause-front : goal.returns-clause-front
returns-clause-front c =
    let q = asked c.args.query.now in
    let now : Bor (List ℕ) → List ℕ = λ f. f.now in
    let path = c.in_ok-path.path.items in
    let fields = c.args.fields.now in
    let n = c.leading-fixed.result in
    let m = c.matched-more.result in
    let fixed = fixed_is q path c.as_slice.result.now fields n c.in_ok-path.ensures
    c.as_slice.ensures.value c.leading-fixed.ensures.value in
    let more = more_is q path c.as_slice-2.result.now fields n m c.in_ok-path.ensures
    c.as_slice-2.ensures.value fixed c.matched-more.ensures.value in
    ap (map now) c.truncate.ensures.items
    ∙ sym (take-map now (n + m) path)
    ∙ ap (take (n + m)) c.in_ok-path.ensures
    ∙ (λ i. take (fixed i + more i) (path_of q fields))
    ∙ front_is q (path_of q fields)
