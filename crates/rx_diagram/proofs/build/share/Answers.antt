use Rattle.std.proofs.Common.{◌≡◌, ◌≢◌, ℕ, ◌<◌, List, length, sym, ap, ◌∙◌, subst}
use Rattle.rx_diagram.specs.declared.node.Edge.TheVariants.{To}
use Rattle.rx_diagram.specs.declared.node.Node.{Node}
use Rattle.rx_diagram.specs.Nodes.{node}
use Rattle.rx_diagram.specs.Building.{IsShared}
use Rattle.rx_diagram.proofs.Grows.{shared_same, shared_found, shared_new}
use Rattle.rx_diagram.proofs.build.share.Goals as goal

pub returns-then-is_same_edge : goal.returns-then-is_same_edge
returns-then-is_same_edge c = shared_same _ _ c.requires.reduced c.requires.later
    (c.is_same_edge.ensures.yes c.if-is_same_edge.true)

pub returns-in-Some : goal.returns-in-Some
returns-in-Some c =
    let here : c.in-Some.k < length c.args.nodes.now.items =
    subst (λ (ns : List Node). c.in-Some.k < length ns) c.as_slice.ensures.value
    c.in-Some.ensures.0 in
    let there : node c.args.nodes.now.items c.in-Some.k ≡ c.args.node =
    subst (λ (ns : List Node). node ns c.in-Some.k
    ≡ c.args.node) c.as_slice.ensures.value c.in-Some.ensures.1 in
    shared_found _ _ c.in-Some.k c.requires.reduced here there

pub returns : goal.returns
returns c =
    let items = c.args.nodes.now.items in
    let absent : (k : ℕ) → k < length items → node items k ≢ c.args.node =
    subst (λ (ns : List Node). (k : ℕ) → k < length ns
    → node ns k ≢ c.args.node) c.as_slice.ensures.value c.in_default.ensures in
    let size : length items ≡ c.len-k.result = sym (c.len-k.ensures ∙ sym c.as_slice.ensures.len
    ∙ ap length c.as_slice.ensures.value) in
    subst (λ (k : ℕ). IsShared items c.push.new.self.items c.args.node (To k)) size
    (subst (λ (ns : List Node). IsShared items ns c.args.node (To (length items)))
    (sym c.in_ok-push.ensures.items)
    (shared_new items c.args.node c.requires.reduced c.requires.later
    (c.is_same_edge.ensures.no c.if-is_same_edge.false) absent))
