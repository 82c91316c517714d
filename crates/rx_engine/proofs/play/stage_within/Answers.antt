use Rattle.std.proofs.Common.{Option, Err, ap, subst}
use Rattle.rx_outside.specs.declared.stop.Stop.{Stop}
use Rattle.rx_record.specs.Shown.{content}
use Rattle.rx_engine.specs.Play.{IsAfter}
use Rattle.rx_engine.specs.declared.play.Past.{Past}
use Rattle.rx_engine.proofs.Staging.{after_full, after_one, after_past}
use Rattle.rx_store.proofs.Staged.{adds_one}
use Rattle.rx_engine.proofs.play.stage_within.Goals as goal

pub returns-in-Some-clause-staged : goal.returns-in-Some-clause-staged
returns-in-Some-clause-staged c first v w all is fits sound =
    after_past first c.args.journal.now v w _ all (content c.args.entry.now) c.in-Some.past
    (subst (λ (o : Option Past). IsAfter first v all c.args.journal.now o w) c.in-Some.is is)

pub returns-in-Ok-clause-staged : goal.returns-in-Ok-clause-staged
returns-in-Ok-clause-staged c first v w all is fits sound =
    after_one first c.args.journal.now c.stage.new.journal v w all (content c.args.entry.now)
    c.args.past c.in_default.is is
    (adds_one c.args.journal.now c.stage.new.journal w (content c.args.entry.now) _ c.in-Ok.ensures
    fits sound)

pub returns-in-Err-Full-clause-staged : goal.returns-in-Err-Full-clause-staged
returns-in-Err-Full-clause-staged c first v w all is fits sound =
    let s = c.in-Err-Full.ensures in
    let f = s.full c.in-Err-Full.would c.in-Err-Full.limit
    (ap (λ (stop : Stop). Err stop) c.in-Err-Full.field-0-is) in
    after_full first c.args.journal.now c.stage.new.journal v w all (content c.args.entry.now)
    c.args.past (record { would = c.in-Err-Full.would; limit = c.in-Err-Full.limit })
    c.in_default.is is s.same_end s.same_limit s.kept f.0 f.1 f.2
