use Rattle.std.proofs.Common.{◌≡◌, List, Bor, ◌∷◌, ◌++◌, map, length, option_map, rules, sym, ap, ◌∙◌, subst}
use Rattle.rx_document.specs.declared.stored.Stored.{Stored}
use Rattle.rx_query.specs.QuerySpec.{asked}
use Rattle.rx_planner.specs.Rows.{due_among, StandsFor}
use Rattle.rx_planner.proofs.Standing.{next_some}
use Rattle.rx_planner.proofs.rows.improve.Goals as goal

pub loop-entry-preserved-in-Continue-branch-3 : goal.loop-entry-preserved-in-Continue-branch-3
loop-entry-preserved-in-Continue-branch-3 g c =
    let now : Bor Stored → Stored = λ r. r.now in
    let q = asked c.args.query.now in
    let documents = g.T.Lookup.documents c.args.docs.now in
    let n = length c.args.rows.now.items in
    let all : List Stored = map now c.args.rows.now.items ++ due_among q documents c.args.ids in
    let seen = map now c.loop-entry.rows.items in
    let d = c.in-Some-2.document.now in
    let left = c.next.new.self in
    let rest = due_among q documents left in
    let many : c.len-wanted.result ≡ n = search rules in
    let before = next_some q documents n all seen c.loop-entry.entry-iterator c.in-Some.entry left
    c.in-Some.ensures.steps c.loop-entry.invariant.stand d
    (sym c.in_ok-document.ensures ∙ ap (option_map now) c.in-Some-2.is) in
    record {
      stand =
          subst (λ k. StandsFor q k all (map now c.consider.new.rows.items) rest) many
          (c.in_ok-consider.ensures all rest
          (subst (λ k. StandsFor q k all seen (d ∷ rest)) (sym many) before));
      can_next = search rules;
      finite = search rules;
    }
