use Rattle.std.proofs.Common.{◌≡◌, ◌&&◌, Bor, ℕ, ◌-◌, List, map, take, drop, length, sym, ap, ◌∙◌}
use Rattle.std.proofs.lemmas.List.{take_rest}
use Rattle.std.specs.Cmp.Lexicographic.{pointwise}
use Rattle.std.specs.Str.{bytes_eq}
use Rattle.rx_query.proofs.Rows.{map-drop}
use Rattle.rx_query.specs.QuerySpec.{asked}
use Rattle.rx_planner.specs.Plan.{sort_path, rest_of}
use Rattle.rx_planner.proofs.order.is_ordered.Goals as goal

pub returns : goal.returns
returns c =
    let q = asked c.args.query.now in
    let now : Bor (List ℕ) → List ℕ = λ f. f.now in
    let path = c.args.path.now in
    let sorts : map now c.as_slice.result.now ≡ sort_path q =
    ap (map now) c.as_slice.ensures.value ∙ c.in_ok-sorts.ensures in
    let rest : map now (take (length path - c.leading.result) (drop c.leading.result path))
    ≡ rest_of q (map now path) =
    ap (map now) (take_rest path c.leading.result) ∙ map-drop now c.leading.result path
    ∙ ap (λ n. drop n (map now path)) c.leading.ensures.value in
    c.are_same.ensures
    ∙ ap (λ xs. pointwise bytes_eq xs
    (map now (take (length path - c.leading.result) (drop c.leading.result path)))) sorts
    ∙ ap (pointwise bytes_eq (sort_path q)) rest
    ∙ ap (λ b. b && pointwise bytes_eq (sort_path q) (rest_of q (map now path)))
    (sym (sym c.rises_freely.ensures ∙ c.if-not-rises_freely.false))
