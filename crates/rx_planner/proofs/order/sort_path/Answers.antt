use Rattle.std.proofs.Common.{ℕ, Bor, List, [], ◌∷◌, ◌++◌, map, take, sym, ap, ◌∙◌}
use Rattle.std.proofs.lemmas.List.{map-append}
use Rattle.rx_query.specs.QuerySpec.{asked}
use Rattle.rx_planner.proofs.Lists.{take_up_to}
use Rattle.rx_planner.proofs.order.sort_path.Goals as goal

pub loop-i-preserved : goal.loop-i-preserved
loop-i-preserved c =
    let sorts = (asked c.args.query.now).sorts in
    let i = c.loop-i.i in
    let now : Bor (List ℕ) → List ℕ = λ f. f.now in
    ap (map now) c.in_ok-push.ensures.items
    ∙ map-append now c.loop-i.path.items (c.as_str.result ∷ [])
    ∙ ap (λ xs. xs ++ now c.as_str.result ∷ []) c.loop-i.invariant
    ∙ ap (λ x. map (λ s. s.0) (take i sorts) ++ x ∷ []) c.as_str.ensures
    ∙ sym (ap (map (λ s. s.0))
    (take_up_to sorts i (c.sort.result.0.now, c.sort.result.1) c.sort.ensures)
    ∙ map-append (λ s. s.0) (take i sorts) ((c.sort.result.0.now, c.sort.result.1) ∷ []))
