use Rattle.std.proofs.Common.{List, rules, subst, sym, ℕ}
use Rattle.rx_store.specs.Holds.{IsLegalFile}
use Rattle.rx_compact.proofs.Filling.{copied_seen, epoch_seen, full_seen, moments_seen}
use Rattle.rx_compact.proofs.compacting.compact.Goals as goal

pub returns-in_err-looked-clause-not_journal : goal.returns-in_err-looked-clause-not_journal
returns-in_err-looked-clause-not_journal g c told is bodies w lawful =
    c.in_err-looked.ensures.not_journal told (search rules) bodies w
    (subst (λ (l : List ℕ). IsLegalFile l bodies w) (sym (c.sync.ensures.same told)) lawful)

pub returns-clause-copied : goal.returns-clause-copied
returns-clause-copied g c told here_told empty bodies w lawful =
    let here = subst (λ (l : List ℕ). IsLegalFile l bodies w)
    (sym (c.sync.ensures.same told)) lawful in
    let seen = c.in_ok-looked.ensures.shown told bodies w here in
    copied_seen g.E.Disk c.args.copy.now c.fill.new.copy
    (g.D.Disk.content c.args.disk.now) _ _ _ c.fill.result c.fill.ensures bodies w lawful seen.0
    seen.2 here_told

pub returns-clause-moments : goal.returns-clause-moments
returns-clause-moments g c told here_told empty bodies w lawful =
    let here = subst (λ (l : List ℕ). IsLegalFile l bodies w)
    (sym (c.sync.ensures.same told)) lawful in
    let seen = c.in_ok-looked.ensures.shown told bodies w here in
    moments_seen g.E.Disk c.args.copy.now c.fill.new.copy
    (g.D.Disk.content c.args.disk.now) _ _ _ c.fill.result c.fill.ensures bodies w lawful seen.0
    seen.2 here_told empty

pub returns-clause-epoch : goal.returns-clause-epoch
returns-clause-epoch g c told is bodies w lawful =
    let here = subst (λ (l : List ℕ). IsLegalFile l bodies w)
    (sym (c.sync.ensures.same told)) lawful in
    let seen = c.in_ok-looked.ensures.shown told bodies w here in
    epoch_seen g.E.Disk c.args.copy.now c.fill.new.copy
    (g.D.Disk.content c.args.disk.now) _ _ _ c.fill.result c.fill.ensures bodies w lawful seen.0
    seen.2 is

pub returns-clause-full : goal.returns-clause-full
returns-clause-full g c told here_told empty bodies w lawful would most is =
    let here = subst (λ (l : List ℕ). IsLegalFile l bodies w)
    (sym (c.sync.ensures.same told)) lawful in
    let seen = c.in_ok-looked.ensures.shown told bodies w here in
    full_seen g.E.Disk c.args.copy.now c.fill.new.copy
    (g.D.Disk.content c.args.disk.now) _ _ _ c.fill.result c.fill.ensures bodies w lawful seen.0
    seen.2 here_told would most is
