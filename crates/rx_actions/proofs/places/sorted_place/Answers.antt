use Rattle.std.proofs.Common.{◌≡◌, Bool, inl, inr, false, rules, ap, ◌∙◌, arith}
use Rattle.std.proofs.lemmas.Bool.{cases_lt}
use Rattle.std.proofs.lemmas.Option.{get_or_from_slice_get}
use Rattle.rx_query.specs.QuerySpec.{asked}
use Rattle.rx_query.specs.States.{precedes}
use Rattle.rx_query.specs.declared.results.Row.{Row}
use Rattle.rx_actions.proofs.places.sorted_place.Goals as goal
use Rattle.rx_actions.proofs.places.sorted_place.Goals.{else-i-out-via-then-i-out+else-is_lt, else-i-out-via-else-i-out}

-- an earlier row, or this one, which is left out or not preceded
pub loop-i-preserved : goal.loop-i-preserved
loop-i-preserved c k other lt apart =
    let i = c.loop-i.i in
    let rows = c.args.results.now in
    let holds : Row → Bool = λ row. precedes (asked c.args.query.now) c.args.fields.now
    row.fields in
    elim (cases_lt k i) [
      | inl below ↦ c.loop-i.invariant k other below apart
      | inr up ↦
          let here : k ≡ i = omega arith in
          elim c.else-i-out.branch [
            | else-i-out-via-then-i-out+else-is_lt w ↦
                let fails : holds w.row.result.now ≡ false = search rules in
                rw here (ap holds (get_or_from_slice_get rows i w.row.result.now other
                w.row.ensures) ∙ fails)
            | else-i-out-via-else-i-out w ↦ absurd (apart (here ∙ w.if-i-out.false))
          ]
    ]
