use Rattle.std.proofs.Common.{◌<◌, ◌≢◌, length, arith, get_or-set_other, get_or-set_same}
use Rattle.std.proofs.Common.{below_more}
use Rattle.std.proofs.Math.ListN.{length-set}
use Rattle.rx_tree.proofs.roots.own_roots.Goals as goal

pub loop-i-preserved : goal.loop-i-preserved
loop-i-preserved c = record {
  whole = simp length-set c.loop-i.invariant.whole;
  each = below_more _ _
      (λ n h. let other : n ≢ c.loop-i.i = omega arith in
      rw get_or-set_other (c.loop-i.invariant.each n h))
      (let within : c.loop-i.i < length c.loop-i.roots =
      omega (arith, c.loop-i.invariant.whole, c.loop-i-test.true) in rw get_or-set_same);
}

pub returns : goal.returns
returns c = record {
  whole = c.loop-i.invariant.whole;
  each = λ n small. c.loop-i.invariant.each n (omega (arith, c.loop-i-test.false));
}
