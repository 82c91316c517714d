use Rattle.std.proofs.Common.{None, refl, sym, ap, ◌∙◌}
use Rattle.rx_observe.specs.Applied.{answer_for}
use Rattle.rx_observe.specs.Inside.{watched_in}
use Rattle.rx_observe.specs.Watched.{Watched}
use Rattle.rx_observe.proofs.Applying.{not_full, full_run, untouched, answer_patched, patched_is, patched_fresh, full_is, there_for}
use Rattle.rx_observe.proofs.observed.Observed.follow.Goals as goal

pub returns-then-is_full-clause-answer : goal.returns-then-is_full-clause-answer
returns-then-is_full-clause-answer c =
    let full = full_run c.args.action (sym c.is_full.ensures ∙ c.if-is_full.true) in
    ap answer_for (sym full ∙ c.requires.action)

pub returns-then-is_full-clause-value : goal.returns-then-is_full-clause-value
returns-then-is_full-clause-value c =
    let full = full_run c.args.action (sym c.is_full.ensures ∙ c.if-is_full.true) in
    full_is (watched_in c.self.inside) c.args.self.now c.args.change.now c.args.action
    c.args.asked None
    c.count.new.self c.self.view_is c.requires.action c.requires.asked c.count.ensures full refl

pub patch-requires-clause-known : goal.patch-requires-clause-known
patch-requires-clause-known c = not_full c.args.action (sym c.is_full.ensures ∙ c.if-is_full.false)

pub invariant_of-self-2 : goal.invariant_of-self-2
invariant_of-self-2 c =
    let i = c.self.inside in
    record {
      touched =
          untouched i.touched c.changes_rows.result c.args.action
          (watched_in i).query c.args.change.now i.rows
          c.patch.new.rows i.emitted c.changes_rows.ensures c.in_ok-patch.ensures.ok
          c.self.invariant.touched;
      edges = c.patch.ensures.edges;
    }

pub patch-requires-clause-there : goal.patch-requires-clause-there
patch-requires-clause-there c =
    let now = c.args.self.now in
    let known = not_full c.args.action (sym c.is_full.ensures ∙ c.if-is_full.false) in
    there_for c.args.action c.args.change.now now.query now.rows c.self.inside.rows
    (ap (λ (w : Watched). w.rows) c.self.view_is) known c.requires.action c.requires.ready

pub returns-clause-answer : goal.returns-clause-answer
returns-clause-answer c =
    let known = not_full c.args.action (sym c.is_full.ensures ∙ c.if-is_full.false) in
    answer_patched c.args.action known ∙ ap answer_for c.requires.action

pub returns-clause-value : goal.returns-clause-value
returns-clause-value c =
    let known = not_full c.args.action (sym c.is_full.ensures ∙ c.if-is_full.false) in
    patched_is (watched_in c.self.inside) c.args.self.now c.args.change.now
    c.args.action c.args.asked
    c.patch.new.rows c.count-2.new.self c.self.view_is c.requires.action c.requires.asked
    c.count-2.ensures known c.in_ok-patch.ensures.ok

pub returns-clause-fresh : goal.returns-clause-fresh
returns-clause-fresh c =
    let known = not_full c.args.action (sym c.is_full.ensures ∙ c.if-is_full.false) in
    patched_fresh (watched_in c.self.inside) c.args.self.now c.args.change.now
    c.args.action c.args.asked
    c.patch.new.rows c.count-2.new.self c.self.view_is c.requires.action c.requires.asked
    c.count-2.ensures c.self.inside.query.limited known c.in_ok-patch.ensures.ok
