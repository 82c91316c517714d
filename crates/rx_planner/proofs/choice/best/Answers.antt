use Rattle.std.proofs.Common.{◌≡◌, map, sym, ap, ◌∙◌, arith}
use Rattle.rx_query.specs.QuerySpec.{asked}
use Rattle.rx_planner.specs.Plan.{score, path_at}
use Rattle.rx_planner.proofs.Best.{path_read, read_at, stays, moves}
use Rattle.rx_planner.proofs.choice.best.Goals as goal
use Rattle.rx_planner.proofs.choice.best.Goals.{then-score-greatest, else-score-greatest}

pub loop-i-preserved : goal.loop-i-preserved
loop-i-preserved c =
    let q = asked c.args.query.now in
    let names = map (λ i. i.fields) c.args.indexes.now in
    let i = c.loop-i.i in
    let wins = c.loop-i.invariant.wins in
    let was = c.loop-i.invariant.scored in
    let is : c.in_ok-score.score ≡ score q (path_at q names i) =
    c.in_ok-score.ensures
    ∙ ap (score q)
    (sym (path_read q c.args.indexes.now i c.at-in-loop-i.result
    (read_at c.args.indexes.now i c.at-in-loop-i.result c.at-in-loop-i.ensures)
    (omega arith))) in
    elim c.if-score-greatest.branch [
      | then-score-greatest w ↦
          rw (w.best-is, w.greatest-is)
          (record {
            wins = moves q names i c.loop-i.best wins
                (let t = w.if-score-greatest.true in omega (arith, is, was, t));
            scored = is;
          })
      | else-score-greatest w ↦
          rw (w.best-is, w.greatest-is)
          (record {
            wins = stays q names i c.loop-i.best wins
                (let t = w.if-score-greatest.false in omega (arith, is, was, t));
            scored = was;
          })
    ]
