-- Nodes that are added keep what older ones give.
use Rattle.std.proofs.Common.{◌≡◌, ◌≢◌, ℕ, zero, suc, ◌+◌, ◌<◌, ◌⊎◌, inl, inr, Bool, true, false, ◌||◌, List, [], ◌∷◌, ◌++◌, length, refl, sym, ap, ◌∙◌, subst, arith, length-append}
use Rattle.std.specs.List.{list_any}
use Rattle.std.proofs.lemmas.List.Folds.{Any-from_list_any, list_any_at}
use Rattle.std.proofs.lemmas.List.{get_or_append_left, get_or_push, get_or_default}
use Rattle.std.proofs.lemmas.Bool.Decides.{nat_tests}
use Rattle.std.proofs.lemmas.Bool.{or_right, or_left, cases_eq}
use Rattle.rx_table.specs.States.{index_of}
use Rattle.rx_diagram.specs.declared.node.Edge.{Edge}
use Rattle.rx_diagram.specs.declared.node.Edge.TheVariants.{Act, To}
use Rattle.rx_diagram.specs.declared.node.Node.{Node}
use Rattle.rx_diagram.specs.Nodes.{node, level, edge_of, walk, final, From, is_to, leads_to, IsReduced}
use Rattle.rx_diagram.specs.Building.{IsLater, IsLonger, IsShared}
use Rattle.rx_diagram.proofs.Walks.{from_lower, from_next, walk-zero, walk-act, walk-to, final-to}

-- nodes begin with themselves
pub longer_refl : (ns : List Node) → IsLonger ns ns
longer_refl ns = record { longer = omega arith; kept = λ j lt. refl }

-- and with what those begin with that they begin with
pub longer_trans : (a b c : List Node) → IsLonger a b → IsLonger b c → IsLonger a c
longer_trans a b c g h = record {
  longer = let x = g.longer in let y = h.longer in omega arith;
  kept = λ j lt. let x = g.longer in h.kept j (omega arith) ∙ g.kept j lt;
}

-- an edge leads to later questions among more nodes too
pub from_longer : (old new : List Node) → IsLonger old new → (i : ℕ) (e : Edge) → From old i e
    → From new i e
from_longer old new g i (Act a) f = tt
from_longer old new g i (To k) f =
    let x = g.longer in
    let same : level new k ≡ level old k = ap (λ (nd : Node). index_of nd.state) (g.kept k f.0) in
    (let lt = f.0 in omega arith, let le = f.1 in omega arith)

-- and walks are the same
walk_longer : (old new : List Node) → IsReduced old → IsLonger old new
    → (t : ℕ) (b : ℕ → Bool) (e : Edge) → From old 0 e → walk t new b e ≡ walk t old b e
walk_longer old new r g zero b e f = walk-zero new b e ∙ sym (walk-zero old b e)
walk_longer old new r g (suc t) b (Act a) f = walk-act (suc t) new b a
    ∙ sym (walk-act (suc t) old b a)
walk_longer old new r g (suc t) b (To k) f =
    let child = edge_of (b (level old k)) (node old k) in
    walk-to t new b k ∙ ap (λ (nd : Node). walk t new b (edge_of (b (index_of nd.state)) nd))
    (g.kept k f.0)
    ∙ walk_longer old new r g t b child (from_lower old 0 (suc (level old k)) child (omega arith)
    (from_next old r k f.0 (b (level old k))))
    ∙ sym (walk-to t old b k)

-- and so are their ends
pub final_longer : (old new : List Node) → IsReduced old → IsLonger old new
    → (b : ℕ → Bool) (e : Edge) → From old 0 e → final new b e ≡ final old b e
unfolding final
final_longer old new r g b e f = walk_longer old new r g 19 b e f

-- and what some node does, some node does
pub any_longer : (p : Node → Bool) (old new : List Node) → IsLonger old new → list_any p old ≡ true
    → list_any p new ≡ true
any_longer p old new g h =
    let at = Any-from_list_any p old h in
    let x = g.longer in
    let lt : at.0 < length new = let y = at.2 in omega arith in
    let old_is : node old at.0 ≡ at.1 = get_or_default old at.0 _ at.1 at.2 ∙ at.3 in
    list_any_at p new at.0 _ lt (ap p (g.kept at.0 at.2 ∙ old_is) ∙ at.4)

-- an edge leads to its node
pub is_to_here : (j : ℕ) → is_to j (To j) ≡ true
is_to_here j = grind (arith, nat_tests)

-- and where it does, it is that edge
pub to_is : (j : ℕ) (e : Edge) → is_to j e ≡ true → e ≡ To j
to_is j (Act a) h = let bad : false ≡ true = h in cc
to_is j (To k) h = let same : k ≡ j = grind (arith, nat_tests) in ap To same

-- a node that leads to j is among them
pub any_leads : (ns : List Node) (k j : ℕ) (answer : Bool) → k < length ns
    → edge_of answer (node ns k) ≡ To j → list_any (leads_to j) ns ≡ true
any_leads ns k j answer lt is = list_any_at (leads_to j) ns k _ lt (leads answer is)
  where
    leads : (answer : Bool) → edge_of answer (node ns k) ≡ To j → leads_to j (node ns k) ≡ true
    leads true is = by_yes (is_to j (node ns k).no) (is_to j (node ns k).yes) (ap (is_to j) is
        ∙ is_to_here j)
      where
        by_yes : (x y : Bool) → y ≡ true → (x || y) ≡ true
        by_yes true y h = refl
        by_yes false y h = h
    leads false is = ap (λ x. x || is_to j (node ns k).yes) (ap (is_to j) is ∙ is_to_here j)

-- two equal edges need no node
pub shared_same : (ns : List Node) (nd : Node) → IsReduced ns → IsLater ns nd → nd.no ≡ nd.yes
    → IsShared ns ns nd nd.no
shared_same ns nd r l same = record {
  grown = longer_refl ns;
  few = omega arith;
  reduced = r;
  from = from_lower ns (index_of nd.state) (suc (index_of nd.state)) nd.no (omega arith)
      (l.later false);
  gives = λ b. ap (final ns b) (both (b (index_of nd.state)));
  led = λ answer j is. or_left (is_to j nd.no) (list_any (leads_to j) ns)
      (ap (is_to j) (both answer ∙ is) ∙ is_to_here j);
  fresh = λ j le lt. absurd (omega arith);
}
  where
    both : (answer : Bool) → nd.no ≡ edge_of answer nd
    both true = same
    both false = refl

-- a node that is there
pub shared_found : (ns : List Node) (nd : Node) (k : ℕ) → IsReduced ns → k < length ns
    → node ns k ≡ nd → IsShared ns ns nd (To k)
shared_found ns nd k r lt is = record {
  grown = longer_refl ns;
  few = omega arith;
  reduced = r;
  from = (
    lt,
    let same : index_of (node ns k).state ≡ index_of nd.state =
        ap (λ (x : Node). index_of x.state) is in omega arith,
  );
  gives = λ b. final-to ns r b k lt
      ∙ ap (λ (x : Node). final ns b (edge_of (b (index_of x.state)) x)) is;
  led = λ answer j to. or_right (is_to j (To k)) (list_any (leads_to j) ns)
      (any_leads ns k j answer lt (ap (edge_of answer) is ∙ to));
  fresh = λ j le small. absurd (omega arith);
}

-- with one more they are longer
pub longer_push : (ns : List Node) (nd : Node) → IsLonger ns (ns ++ nd ∷ [])
longer_push ns nd = record {
  longer = omega (arith, length-append ns (nd ∷ []));
  kept = λ j lt. get_or_append_left ns (nd ∷ []) _ j lt;
}

-- a node that is new
pub shared_new : (ns : List Node) (nd : Node) → IsReduced ns → IsLater ns nd → nd.no ≢ nd.yes
    → ((j : ℕ) → j < length ns → node ns j ≢ nd) → IsShared ns (ns ++ nd ∷ []) nd (To (length ns))
shared_new ns nd r l two absent = record {
  grown = g;
  few = omega (arith, size);
  reduced = r';
  from = (
    omega (arith, size),
    let same : index_of (node ns' n).state ≡ index_of nd.state =
        ap (λ (x : Node). index_of x.state) last in omega arith,
  );
  gives = λ b. final-to ns' r' b n (omega (arith, size))
      ∙ ap (λ (x : Node). final ns' b (edge_of (b (index_of x.state)) x)) last;
  led = λ answer j to. or_right (is_to j (To n)) (list_any (leads_to j) ns')
      (any_leads ns' n j answer (omega (arith, size)) (ap (edge_of answer) last ∙ to));
  fresh = λ j le lt. let same : j ≡ n = omega (arith, size) in rw same (is_to_here n);
}
  where
    n : ℕ
    n = length ns

    ns' : List Node
    ns' = ns ++ nd ∷ []

    size : length ns' ≡ length ns + 1
    size = omega (arith, length-append ns (nd ∷ []))

    g : IsLonger ns ns'
    g = longer_push ns nd

    last : node ns' n ≡ nd
    last = get_or_push ns nd _ n refl

    old_or_last : (j : ℕ) → j < length ns' → (j < length ns) ⊎ (j ≡ n)
    old_or_last j lt = elim (cases_eq j n) [ inl e ↦ inr e | inr ne ↦ inl (omega (arith, size)) ]

    ordered : (answer : Bool) (j k : ℕ) → (j < length ns) ⊎ (j ≡ n)
        → edge_of answer (node ns' j) ≡ To k → (k < j) × (level ns' j < level ns' k)
    ordered answer j k (inl lt) is =
        let o = r.ordered answer j k lt (sym (ap (edge_of answer) (g.kept j lt)) ∙ is) in
        let less = o.0 in
        let here : level ns' j ≡ level ns j = ap (λ (x : Node). index_of x.state) (g.kept j lt) in
        let there : level ns' k ≡ level ns k =
        ap (λ (x : Node). index_of x.state) (g.kept k (omega arith)) in
        let above = o.1 in
        (less, omega arith)
    ordered answer j k (inr e) is =
        let node_is : node ns' j ≡ nd = ap (node ns') e ∙ last in
        let f : From ns (suc (index_of nd.state)) (To k) =
        subst (λ (x : Edge). From ns (suc (index_of nd.state)) x)
        (sym (ap (edge_of answer) node_is) ∙ is) (l.later answer) in
        let less = f.0 in
        let here : level ns' j ≡ index_of nd.state = ap (λ (x : Node). index_of x.state) node_is in
        let there : level ns' k ≡ level ns k =
        ap (λ (x : Node). index_of x.state) (g.kept k less) in
        let above = f.1 in
        (omega arith, omega arith)

    two_edges : (j : ℕ) → (j < length ns) ⊎ (j ≡ n) → (node ns' j).no ≢ (node ns' j).yes
    two_edges j (inl lt) h = r.two_edges j lt (sym (ap (edge_of false) (g.kept j lt)) ∙ h
        ∙ ap (edge_of true) (g.kept j lt))
    two_edges j (inr e) h =
        let node_is : node ns' j ≡ nd = ap (node ns') e ∙ last in
        two (sym (ap (edge_of false) node_is) ∙ h ∙ ap (edge_of true) node_is)

    one_node : (j k : ℕ) → (j < length ns) ⊎ (j ≡ n) → (k < length ns) ⊎ (k ≡ n)
        → node ns' j ≡ node ns' k → j ≡ k
    one_node j k (inl lt) (inl lt') h = r.one_node j k lt lt' (sym (g.kept j lt) ∙ h ∙ g.kept k lt')
    one_node j k (inl lt) (inr e) h = absurd (absent j lt (sym (g.kept j lt) ∙ h ∙ ap (node ns') e
        ∙ last))
    one_node j k (inr e) (inl lt) h = absurd (absent k lt (sym (g.kept k lt) ∙ sym h
        ∙ ap (node ns') e ∙ last))
    one_node j k (inr e) (inr e') h = e ∙ sym e'

    r' : IsReduced ns'
    r' = record {
      ordered = λ answer j k lt. ordered answer j k (old_or_last j lt);
      two_edges = λ j lt. two_edges j (old_or_last j lt);
      one_node = λ j k lt lt'. one_node j k (old_or_last j lt) (old_or_last k lt');
    }
