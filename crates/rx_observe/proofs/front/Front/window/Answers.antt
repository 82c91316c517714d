use Rattle.std.proofs.Common.{◌≡◌, ◌++◌, ◌∷◌, [], List, insert, length, take, refl, sym, ap, ◌∙◌, arith}
use Rattle.rx_query.specs.declared.results.Row.{Row}
use Rattle.rx_planner.proofs.Lists.{take_up_to}
use Rattle.rx_observe.proofs.front.Front.window.Goals as goal

-- to put one in at the end
at_end : (xs : List Row) (x : Row) → insert xs (length xs) x ≡ xs ++ x ∷ []
at_end [] x = refl
at_end (y ∷ ys) x = ap (λ zs. y ∷ zs) (at_end ys x)

pub loop-i-preserved : goal.loop-i-preserved
loop-i-preserved c =
    let window = c.loop-i.window in
    let row = c.in_ok-copy.field-0 in
    let rows = c.args.self.now.rows in
    let i = c.loop-i.i in (
      c.in_ok-insert.ensures.ok ∙ ap (λ n. insert window n row) c.len.ensures ∙ at_end window row
          ∙ ap (λ xs. xs ++ row ∷ []) c.loop-i.invariant.0
          ∙ ap (λ r. take i rows ++ r ∷ []) c.in_ok-copy.ensures
          ∙ sym (take_up_to rows i c.row.result.now c.row.ensures),
      omega arith,
    )
