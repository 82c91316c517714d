use Rattle.std.proofs.Common.{◌∙◌, refl, sym, rules}
use Rattle.rx_handler.specs.Shown.{kinds_of}
use Rattle.rx_top.proofs.Gathering.{blank_adds, staged_adds}
use Rattle.rx_top.proofs.group.Group.add.Goals as goal
use Rattle.rx_top.proofs.group.Group.add.Goals.{else-refused, then-refused}

pub returns-then-is_blank : goal.returns-then-is_blank
returns-then-is_blank g c =
    blank_adds (kinds_of c.args.handlers.now) c.args.line.now c.args.self
    (sym c.is_blank.ensures ∙ c.if-is_blank.true)

pub returns-after-refused : goal.returns-after-refused
returns-after-refused g c =
    staged_adds (kinds_of c.args.handlers.now) c.args.line.now c.args.self
    (sym c.is_blank.ensures ∙ c.if-is_blank.false) _ c.in-Played.output
    (rw c.in-Played.is at c.in_ok-engine.ensures) refl (search rules)
    (elim c.if-refused.branch [ then-refused w ↦ search rules | else-refused w ↦ search rules ])

pub returns-in-Alone : goal.returns-in-Alone
returns-in-Alone g c = record {
  number = refl;
  text = refl;
  refused = refl;
  left = rw c.in-Alone.is at c.in_ok-engine.ensures;
}
