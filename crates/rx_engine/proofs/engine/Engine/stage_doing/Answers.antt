use Rattle.rx_session.specs.Shown.{done_by}
use Rattle.rx_engine.proofs.Ahead.{changes_alone}
use Rattle.rx_engine.proofs.Keeping.{no_record}
use Rattle.rx_engine.proofs.engine.Engine.stage_doing.Goals as goal

pub returns-in_ok-engine-in_default : goal.returns-in_ok-engine-in_default
returns-in_ok-engine-in_default c =
    let did = c.in_ok-engine-in_default.ensures in
    changes_alone c.args.self c.in_ok-engine-in_default.engine
    c.in_ok-engine-in_default.emissions.items (done_by c.args.doing)
    (no_record c.args.doing c.in_default.not-Write) did.session did.emissions did.asks did.journal
