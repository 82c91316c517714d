-- What the link makes of a request.
use Rattle.rx_fork.specs.declared.ask.Asked.{Asked}
use Rattle.rx_script.specs.declared.happening.Happening.{Happening}
use Rattle.rx_sync.specs.Asks.{Asks}
use Rattle.rx_sync.specs.Exchange.{Planned, Terms, late_records, late_request, once_late}
use Rattle.rx_world.specs.World.{World}

-- of a request that was just made and is remembered: an earlier one first, where one comes late
abbrev pub carried : Terms → Asked → Happening → Asks → World → Planned
carried t asked x a w =
    once_late t asked x w (late_records t.name t.now w (late_request x a))
