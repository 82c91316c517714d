use Rattle.std.proofs.Common.{Bor, ℕ, List, [], ◌∷◌, ◌++◌, Option, Some, map, take, get_or, sym, ap, ◌∙◌}
use Rattle.std.proofs.lemmas.List.{take_more, map-append}
use Rattle.rx_value.specs.Named.{named}
use Rattle.rx_value.specs.declared.value.Value.{Value}
use Rattle.rx_value.specs.declared.value.Value.TheVariants.{Flag}
use Rattle.rx_planner.proofs.walk.cut_at.Goals as goal

pub loop-name-preserved : goal.loop-name-preserved
loop-name-preserved c =
    let now : Bor (List ℕ) → List ℕ = λ f. f.now in
    let state = c.args.document.now.state in
    let at : List ℕ → Option Value = λ f. named state.fields f in
    let names = c.args.names.now in
    let i = c.loop-name.name-index in
    let d : Bor (List ℕ) = record { ref_ptr = (0, 0); now = [] } in
    let so = map now (take i names) in
    let name = now (get_or names i d) in
    c.in_ok-push-2.ensures.items
    ∙ ap (λ v. c.loop-name.values.items ++ v ∷ []) (c.in_ok-copy_value.ensures ∙ c.get.ensures)
    ∙ ap (λ vs. vs ++ at name ∷ []) c.loop-name.invariant
    ∙ ap (λ xs. Some (Flag state.deleted) ∷ xs)
    (sym (ap (λ xs. map at (map now xs)) (take_more names i d c.loop-name-test.true)
    ∙ ap (map at) (map-append now (take i names) (get_or names i d ∷ []))
    ∙ map-append at so (name ∷ [])))
