use Rattle.std.proofs.Common.{◌≡◌, ℕ, List, length, get_or, arith, set, length-set, add-one, refl, sym, ap, ◌∙◌, subst}
use Rattle.rx_observe.specs.Front.{IsFront, AreFronts}
use Rattle.rx_observe.specs.Watched.{Watched, stepped, IsRight}
use Rattle.rx_observe.proofs.Beside.{Until, until_at, until_step, until_end, each_beside}
use Rattle.rx_observe.proofs.Done.{read-done, length-done, step-done, end-done, all_at}
use Rattle.rx_observe.proofs.step.step_all.Goals as goal

pub step-requires-clause-follows : goal.step-requires-clause-follows
step-requires-clause-follows c =
    let f : List ℕ × Watched → List ℕ × Watched =
    λ q. (q.0, stepped c.args.collection.now.documents c.args.change.now q.1) in
    let inv = c.loop-i.invariant.following in
    let before = c.args.queries.now.items in
    let x = c.index_mut-query.result.now in
    let y = c.index_mut-front.result.now in
    let same = read-done f c.loop-i.i before c.loop-i.queries.items c.loop-i.invariant.stepped x
    c.index_mut-query.ensures.value in
    let long = inv.aligned in
    record {
      old = inv.old;
      becomes = inv.becomes;
      right = subst (λ q. IsRight inv.old q.1) (sym same)
          (all_at (λ q. IsRight inv.old q.1) c.loop-i.i before x inv.right (omega arith));
      front = subst (λ (q : List ℕ × Watched). IsFront q.1.query inv.old.documents y) (sym same)
          (subst (IsFront (get_or before c.loop-i.i x).1.query inv.old.documents)
          (sym c.index_mut-front.ensures.value)
          (until_at c.args.collection.now inv.old c.loop-i.i before c.loop-i.fronts.items x y
          (omega arith) (omega arith) inv.fronts));
    }

pub loop-i-init : goal.loop-i-init
loop-i-init c = record {
  stepped = refl;
  sides = c.new-memo.ensures;
  following = record {
    old = c.requires.follow.old;
    becomes = c.requires.follow.becomes;
    right = c.requires.follow.right;
    fronts = c.requires.follow.fronts;
    aligned = c.requires.aligned;
  };
}

pub loop-i-preserved : goal.loop-i-preserved
loop-i-preserved c =
    let f : List ℕ × Watched → List ℕ × Watched =
    λ q. (q.0, stepped c.args.collection.now.documents c.args.change.now q.1) in
    let inv = c.loop-i.invariant.following in
    let before = c.args.queries.now.items in
    let new = c.args.collection.now in
    let i = c.loop-i.i in
    let x = c.index_mut-query.result.now in
    let fronts = c.loop-i.fronts.items in
    let g = c.step.new.front in
    let same = read-done f i before c.loop-i.queries.items c.loop-i.invariant.stepped x
    c.index_mut-query.ensures.value in
    let long = inv.aligned in
    record {
      stepped =
          ap (λ o. set c.loop-i.queries.items i (x.0, o)) c.in_ok-step.ensures.observed
          ∙ step-done f i before c.loop-i.queries.items c.loop-i.invariant.stepped x
          c.index_mut-query.ensures.value (omega arith);
      sides = c.step.ensures.memo ∙ c.loop-i.invariant.sides;
      following = record {
        old = inv.old;
        becomes = inv.becomes;
        right = inv.right;
        fronts = subst (λ n. Until new inv.old n before (set fronts i g)) (sym (add-one i))
            (until_step new inv.old i before fronts x g (omega arith) (omega arith) inv.fronts
            (subst (λ (q : List ℕ × Watched). IsFront q.1.query new.documents g) same
            c.in_ok-step.ensures.front));
        aligned = simp length-set inv.aligned;
      };
    }

pub returns-clause-queries : goal.returns-clause-queries
returns-clause-queries c =
    let f : List ℕ × Watched → List ℕ × Watched =
    λ q. (q.0, stepped c.args.collection.now.documents c.args.change.now q.1) in
    end-done f c.loop-i.i c.args.queries.now.items c.loop-i.queries.items
    c.loop-i.invariant.stepped (omega arith)

pub returns-clause-fronts : goal.returns-clause-fronts
returns-clause-fronts c =
    let f : List ℕ × Watched → List ℕ × Watched =
    λ q. (q.0, stepped c.args.collection.now.documents c.args.change.now q.1) in
    let inv = c.loop-i.invariant.following in
    let before = c.args.queries.now.items in
    let new = c.args.collection.now in
    let fronts = c.loop-i.fronts.items in
    let last : c.loop-i.i ≡ length before = omega arith in
    subst (λ qs. AreFronts new qs fronts)
    (sym (end-done f c.loop-i.i before c.loop-i.queries.items c.loop-i.invariant.stepped last))
    (each_beside new (stepped new.documents c.args.change.now) (λ w. refl) before fronts
    (until_end new inv.old before fronts
    (subst (λ n. Until new inv.old n before fronts) last inv.fronts)))

pub index_mut-query-requires : goal.index_mut-query-requires
index_mut-query-requires c =
    let f : List ℕ × Watched → List ℕ × Watched =
    λ q. (q.0, stepped c.args.collection.now.documents c.args.change.now q.1) in
    let long = ap length c.loop-i.invariant.stepped
    ∙ length-done f c.loop-i.i c.args.queries.now.items in
    omega arith
