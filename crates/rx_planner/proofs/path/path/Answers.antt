use Rattle.std.proofs.Common.{ℕ, List, [], ◌∷◌, ◌++◌, take, map, Bor, ap, sym, ◌∙◌}
use Rattle.std.proofs.lemmas.List.{take_all, take_more, map_push}
use Rattle.rx_planner.proofs.path.path.Goals as goal

-- one field more
pub loop-field-preserved : goal.loop-field-preserved
loop-field-preserved c =
    let now : Bor (List ℕ) → List ℕ = λ f. f.now in
    let fields = c.args.fields.now in
    let i = c.loop-field.field-index in
    ap (map now) c.in_ok-push.ensures.items
    ∙ map_push now c.loop-field.path.items c.as_str.result
    ∙ ap (λ v. v ++ c.as_str.result.now ∷ []) c.loop-field.invariant
    ∙ ap (λ f. take i fields ++ f ∷ []) (c.as_str.ensures ∙ c.field-item.is)
    ∙ sym (take_more fields i c.field-item.result c.loop-field-test.true)

-- all fields, and then the primary key
pub returns : goal.returns
returns c =
    let now : Bor (List ℕ) → List ℕ = λ f. f.now in
    let fields = c.args.fields.now in
    ap (map now) c.in_ok-push-2.ensures.items
    ∙ map_push now c.loop-field.path.items c.primary.result
    ∙ ap (λ v. v ++ c.primary.result.now ∷ [])
    (c.loop-field.invariant ∙ take_all c.loop-field.field-index fields c.loop-field-test.false)
    ∙ ap (λ p. fields ++ p ∷ []) c.primary.ensures
