use Rattle.std.proofs.Common.{sym}
use Rattle.rx_session.specs.Placed.{world_of}
use Rattle.rx_value.specs.Named.{by_bytes}
use Rattle.rx_engine.proofs.Forgetting.{none_forgotten}
use Rattle.rx_engine.proofs.remembered.forget.Goals as goal

pub returns-in_default : goal.returns-in_default
returns-in_default c =
    sym (none_forgotten c.args.entry.now (world_of c.args.world.now)
    (by_bytes c.args.asks.now.entries)
    c.in_default.not-Migration)
