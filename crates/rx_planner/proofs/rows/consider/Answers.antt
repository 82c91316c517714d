use Rattle.std.proofs.Common.{[], ◌∷◌, ◌++◌, ◌-◌, Bor, map, sym, ap, ◌∙◌, subst, arith}
use Rattle.std.proofs.Math.ListN.{get_or-map}
use Rattle.std.proofs.lemmas.List.{map-append, get_or_default}
use Rattle.std.specs.Ordering.{eq_by_cmp}
use Rattle.rx_document.specs.declared.stored.Stored.{Stored}
use Rattle.rx_query.specs.QuerySpec.{asked}
use Rattle.rx_query.specs.Result.{stored_before, stored_cmp}
use Rattle.rx_planner.specs.Rows.{StandsFor}
use Rattle.rx_planner.proofs.Members.{distinct_front}
use Rattle.rx_planner.proofs.Rising.{differ}
use Rattle.rx_planner.proofs.Standing.{stand_without, comes_after, stand_with, stand_settled}
use Rattle.rx_planner.proofs.rows.consider.Goals as goal

pub returns-then-wanted-eq0 : goal.returns-then-wanted-eq0
returns-then-wanted-eq0 c = λ all rest s.
    stand_without (asked c.args.query.now) c.args.wanted all
    (map (λ (r : Bor Stored). r.now) c.args.rows.now.items) rest c.args.document.now s
    (λ k e h. absurd (omega (arith, h)))

pub returns-then-not-precedes : goal.returns-then-not-precedes
returns-then-not-precedes c = λ all rest s.
    let now : Bor Stored → Stored = λ r. r.now in
    let q = asked c.args.query.now in
    let n = c.args.wanted in
    let d = c.args.document.now in
    let rows = c.args.rows.now.items in
    let last = c.index-last.result.now in
    let many = s.as_many in
    stand_without q n all (map now rows) rest d s
    (comes_after q n all (map now rows) rest d s
    (λ e. ap (stored_before q d)
    (get_or_default (map now rows) (n - 1) e last.now (omega (arith, many))
    ∙ get_or-map now rows (n - 1) last ∙ ap now (sym c.index-last.ensures))
    ∙ sym c.precedes.ensures ∙ c.if-not-precedes.true))

pub settle-requires : goal.settle-requires
settle-requires c =
    let now : Bor Stored → Stored = λ r. r.now in
    let q = asked c.args.query.now in
    let n = c.args.wanted in
    let d = c.args.document.now in
    let rows = c.args.rows.now.items in
    let all = c.requires.0 in
    let rest = c.requires.1.0 in
    let more = stand_with q n all (map now rows) rest d c.requires.1.1 in
    subst (differ q)
    (sym (ap (map now) c.in_ok-push.ensures.items ∙ map-append now rows (c.args.document ∷ [])))
    (distinct_front (eq_by_cmp (stored_cmp q)) (map now rows ++ d ∷ []) rest more.apart)

pub returns : goal.returns
returns c = λ all rest s.
    let now : Bor Stored → Stored = λ r. r.now in
    let q = asked c.args.query.now in
    let n = c.args.wanted in
    let d = c.args.document.now in
    let rows = c.args.rows.now.items in
    let pushed = ap (map now) c.in_ok-push.ensures.items
    ∙ map-append now rows (c.args.document ∷ []) in
    stand_settled q n all (map now c.push.new.self.items) (map now c.settle.new.rows.items) rest
    (subst (λ xs. StandsFor q n all xs rest) (sym pushed)
    (stand_with q n all (map now rows) rest d s))
    c.settle.ensures
