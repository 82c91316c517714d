use Rattle.rx_record.specs.Shown.{content}
use Rattle.rx_engine.specs.Engine.{asks_in, session_of}
use Rattle.rx_engine.proofs.Ahead.{changes_with, left_without_room}
use Rattle.rx_engine.proofs.engine.Engine.stage_record.Goals as goal

pub change-requires-clause-may : goal.change-requires-clause-may
unfolding session_of
change-requires-clause-may c = c.requires.may

pub returns-in-Ok : goal.returns-in-Ok
unfolding session_of asks_in
returns-in-Ok c =
    let did = c.in_ok-engine-in-Ok.ensures in
    changes_with c.args.self c.in_ok-engine-in-Ok.engine c.in_ok-engine-in-Ok.emissions.items
    c.in-Ok.field-0 (content c.args.entry) c.stage-room.new.journal c.requires.held c.requires.may
    c.requires.apart c.in-Ok.ensures did.session did.emissions did.asks did.journal

pub returns-in-Err-Full : goal.returns-in-Err-Full
returns-in-Err-Full c =
    let s = c.stage-room.ensures in
    left_without_room c.args.self c.stage-room.new.journal s.same_end s.same_limit
    (rw c.in-Err-Full.is at s.kept)
