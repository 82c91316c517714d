-- A walk that counts the questions that it asks.
use Rattle.std.proofs.Common.{◌≡◌, ◌≢◌, ℕ, suc, ◌+◌, ◌-◌, ◌<◌, ◌≤◌, ◌^◌, ◌↔◌, ◌⊎◌, inl, inr, Bool, true, false, List, length, refl, sym, ap, ◌∙◌, subst, arith}
use Rattle.std.proofs.Math.Pow.{pow_mono}
use Rattle.std.proofs.lemmas.Bool.{cases_eq}
use Rattle.rx_table.specs.declared.action.Action.{Action}
use Rattle.rx_table.specs.Rows.{table_of}
use Rattle.rx_table.specs.States.{is_set, index_of}
use Rattle.rx_diagram.specs.declared.node.Edge.{Edge}
use Rattle.rx_diagram.specs.declared.node.Edge.TheVariants.{Act, To}
use Rattle.rx_diagram.specs.declared.node.Node.{Node}
use Rattle.rx_diagram.specs.Nodes.{node, level, edge_of, answers_of, root_of, IsDiagram, final, From}
use Rattle.rx_diagram.specs.Asked.{Matters, IsAsked}
use Rattle.rx_diagram.proofs.Apart.{index_small}
use Rattle.rx_diagram.proofs.Differ.{rank, child_rank}
use Rattle.rx_diagram.proofs.Walks.{final-act}
use Rattle.rx_diagram.proofs.Paths.{IsRight, Reaches, reaches_root, reaches_next, matters, matters_not}
use Rattle.rx_diagram.proofs.Numbers.{bit-above, bit-low, bit-here, pow-suc}

-- where the walk is for these answers, and that it asked exactly the questions before i that matter
pub record Along (ns : List Node) (root : Edge) (n i : ℕ) (e : Edge) (asked : ℕ) : Type 0 where
  pub reaches : Reaches ns root n i e
  pub within : i ≤ 19
  pub small : asked < 2 ^ i
  pub exact : (j : ℕ) → j < i → is_set asked j ≡ true ↔ Matters n j

-- it begins at the root
pub along_root : (ns : List Node) (root : Edge) (n : ℕ) → From ns 0 root → Along ns root n 0 root 0
along_root ns root n f = record {
  reaches = reaches_root ns root n f;
  within = omega arith;
  small = omega arith;
  exact = λ j lt. absurd (omega arith);
}

-- a node on the way: its question is asked, and none between i and it
pub along_next : (ns : List Node) (root : Edge) → IsRight ns root → (n i k asked : ℕ)
    → Along ns root n i (To k) asked
    → Along ns root n (suc (level ns k)) (edge_of (is_set n (level ns k)) (node ns k))
    (asked + 2 ^ level ns k)
along_next ns root w n i k asked a = record {
  reaches = reaches_next ns root n i k w.reduced a.reaches;
  within = let s = index_small (node ns k).state in omega arith;
  small = rw (pow-suc l) (let s = fits in omega arith);
  exact = λ j lt. elim (cases_eq j l) [
    | inl e ↦ subst (λ (m : ℕ). is_set (asked + 2 ^ l) m
        ≡ true ↔ Matters n m) (sym e) (
          λ _. matters ns root w n i k a.reaches,
          λ _. bit-here asked l fits,
        )
    | inr ne ↦ by_place j (omega arith) (cases_eq (suc j - i) 0)
  ];
}
  where
    l : ℕ
    l = level ns k

    fits : asked < 2 ^ l
    fits = let le = a.reaches.from.1 in let p : 2 ^ i ≤ 2 ^ l = pow_mono le in let s = a.small in
        omega arith

    by_place : (j : ℕ) → j < l → (suc j - i ≡ 0) ⊎ (suc j - i ≢ 0)
        → is_set (asked + 2 ^ l) j ≡ true ↔ Matters n j
    by_place j lt (inl e) = let x = a.exact j (omega arith) in
        let same = bit-low asked l j lt in (λ h. x.0 (sym same ∙ h), λ m. same ∙ x.1 m)
    by_place j lt (inr e) =
        let none = bit-low asked l j lt ∙ bit-above asked i j a.small (omega arith) in (
          λ h. let bad : false ≡ true = sym none ∙ h in
              cc,
          λ m. absurd (matters_not ns root w n i j (To k) a.reaches (omega arith)
              (a.reaches.from.0, lt) m),
        )

-- at an action it is the one of the answers
pub along_action : (ns : List Node) (root : Edge) → IsRight ns root → (n i asked : ℕ) (act : Action)
    → n < 2 ^ 19 → Along ns root n i (Act act) asked → act ≡ table_of n
along_action ns root w n i asked act lt a =
    let e : Act act ≡ Act (table_of n) = sym (final-act ns (answers_of n) act)
    ∙ sym (a.reaches.same (answers_of n) (λ j below. refl)) ∙ w.right n lt in cc

-- and what it asked are all questions that matter
pub along_end : (ns : List Node) (root : Edge) → IsRight ns root → (n i asked : ℕ) (act : Action)
    → Along ns root n i (Act act) asked → IsAsked n asked
along_end ns root w n i asked act a = record {
  in_range = let p : 2 ^ i ≤ 2 ^ 19 = pow_mono a.within in let s = a.small in omega arith;
  exact = λ j lt. by_place j (cases_eq (suc j - i) 0);
}
  where
    by_place : (j : ℕ) → (suc j - i ≡ 0) ⊎ (suc j - i ≢ 0) → is_set asked j ≡ true ↔ Matters n j
    by_place j (inl e) = a.exact j (omega arith)
    by_place j (inr e) =
        let none = bit-above asked i j a.small (omega arith) in (
          λ h. let bad : false ≡ true = sym none ∙ h in
              cc,
          λ m. absurd (matters_not ns root w n i j (Act act) a.reaches (omega arith) tt m),
        )

-- the root of the diagram is right
pub right_of_diagram : (ns : List Node) → IsDiagram ns → IsRight ns (root_of ns)
unfolding final
right_of_diagram ns d = record {
  reduced = d.reduced;
  from = (let some = d.some in omega arith, omega arith);
  right = d.right;
}

-- a walk from the root
pub record Walked (ns : List Node) (n : ℕ) (e : Edge) (asked : ℕ) : Type 0 where
  pub i : ℕ
  pub along : Along ns (root_of ns) n i e asked

-- it begins at the root
pub walked_root : (ns : List Node) (n : ℕ) → IsDiagram ns → Walked ns n (root_of ns) 0
walked_root ns n d = record {
  i = 0;
  along = along_root ns (root_of ns) n (let some = d.some in
      (omega arith, omega arith));
}

-- it goes on along the edge of the answer
pub walked_next : (ns : List Node) (n k asked : ℕ) → IsDiagram ns → Walked ns n (To k) asked
    → Walked ns n (edge_of (is_set n (level ns k)) (node ns k)) (asked + 2 ^ level ns k)
walked_next ns n k asked d w = record {
  i = suc (level ns k);
  along = along_next ns (root_of ns) (right_of_diagram ns d) n w.i k asked w.along;
}

-- at an action it is the one of the answers
pub walked_action : (ns : List Node) (n asked : ℕ) (act : Action) → IsDiagram ns → n < 2 ^ 19
    → Walked ns n (Act act) asked → act ≡ table_of n
walked_action ns n asked act d lt w = along_action ns (root_of ns) (right_of_diagram ns d) n w.i
    asked act lt w.along

-- and what it asked are all questions that matter
pub walked_end : (ns : List Node) (n asked : ℕ) (act : Action) → IsDiagram ns
    → Walked ns n (Act act) asked → IsAsked n asked
walked_end ns n asked act d w = along_end ns (root_of ns) (right_of_diagram ns d) n w.i asked act
    w.along

-- at a node: it is there, and no question from its own on was asked
pub walked_here : (ns : List Node) (n k asked : ℕ) → Walked ns n (To k) asked
    → (k < length ns) × (asked < 2 ^ level ns k)
walked_here ns n k asked w =
    let le = w.along.reaches.from.1 in
    let p : 2 ^ w.i ≤ 2 ^ level ns k = pow_mono le in
    let s = w.along.small in
    (w.along.reaches.from.0, omega arith)

-- a step as the code takes it
pub walked_step : (ns : List Node) (n k asked asked' : ℕ) (e e' : Edge) (nd : Node) (answer : Bool)
    → IsDiagram ns → Walked ns n e asked → e ≡ To k → nd ≡ node ns k
    → answer ≡ is_set n (index_of nd.state) → e' ≡ edge_of answer nd
    → asked' ≡ asked + 2 ^ index_of nd.state → Walked ns n e' asked'
walked_step ns n k asked asked' e e' nd answer d w is node_is answer_is edge_is asked_is =
    let w' : Walked ns n (To k) asked = subst (λ (x : Edge). Walked ns n x asked) is w in
    let level_is : index_of nd.state ≡ level ns k = ap (λ (x : Node). index_of x.state) node_is in
    let there : edge_of (is_set n (level ns k)) (node ns k) ≡ e' =
    sym (edge_is ∙ ap (λ (x : Node). edge_of answer x) node_is
    ∙ ap (λ (v : Bool). edge_of v (node ns k)) (answer_is
    ∙ ap (λ (j : ℕ). is_set n j) level_is)) in
    let sum : asked + 2 ^ level ns k ≡ asked' = sym (asked_is
    ∙ ap (λ (j : ℕ). asked + 2 ^ j) level_is) in
    subst (λ (x : Edge). Walked ns n x asked') there
    (subst (λ (m : ℕ). Walked ns n (edge_of (is_set n (level ns k)) (node ns k)) m) sum
    (walked_next ns n k asked d w'))

-- each step comes nearer to the end
pub step_smaller : (ns : List Node) (n k asked : ℕ) (e e' : Edge) (nd : Node) (answer : Bool)
    → IsDiagram ns → Walked ns n e asked → e ≡ To k → nd ≡ node ns k
    → e' ≡ edge_of answer nd → rank e' < rank e
step_smaller ns n k asked e e' nd answer d w is node_is edge_is =
    let w' : Walked ns n (To k) asked = subst (λ (x : Edge). Walked ns n x asked) is w in
    let below : rank (edge_of answer (node ns k)) ≤ k =
    child_rank ns d.reduced answer k (walked_here ns n k asked w').0 in
    let there : e' ≡ edge_of answer (node ns k) = edge_is
    ∙ ap (λ (x : Node). edge_of answer x) node_is in
    rw (there, is) (omega arith)

-- no later question was asked
pub step_fits : (ns : List Node) (n k asked : ℕ) (e : Edge) (nd : Node) → Walked ns n e asked
    → e ≡ To k → nd ≡ node ns k → asked < 2 ^ index_of nd.state
step_fits ns n k asked e nd w is node_is =
    let w' : Walked ns n (To k) asked = subst (λ (x : Edge). Walked ns n x asked) is w in
    let level_is : index_of nd.state ≡ level ns k = ap (λ (x : Node). index_of x.state) node_is in
    rw level_is ((walked_here ns n k asked w').1)
