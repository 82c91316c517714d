-- What the link makes of a request, step by step.
use Rattle.std.proofs.Common.{◌≡◌, ℕ, List, ◌++◌, Some, ap}
use Rattle.rx_fork.specs.declared.ask.Asked.{Asked}
use Rattle.rx_record.specs.Content.{Content}
use Rattle.rx_script.specs.declared.happening.Happening.{Happening}
use Rattle.rx_sync.specs.Asking.{asked_in}
use Rattle.rx_sync.specs.Asks.{Asks, next_number, with_request}
use Rattle.rx_sync.specs.Exchange.{Planned, Terms, world_after, behind, course, course_by, course_with, exchange, late_records, late_request, once_late}
use Rattle.rx_sync.specs.Laws.{ComeSoundly, IsAskedIn, IsReady, RemembersLawful}
use Rattle.rx_sync.proofs.Staying.{ready_after}
use Rattle.rx_sync.proofs.Turns.{exchange_well, late_asked, late_well}
use Rattle.rx_world.specs.World.{World}
use Rattle.rx_engine.specs.Carried.{carried}

-- an exchange is what the link makes of the request that its fork has to make
pub course_is : (t : Terms) (batch : ℕ) (x : Happening) (w : World) (a : Asks) (asked : Asked)
    → asked_in w t.name (next_number a) batch ≡ Some asked
    → course t batch x w a
    ≡ course_with (with_request asked.request a) (carried t asked x (with_request asked.request a)
    w)
course_is t batch x w a asked is = ap (course_by t x w a) is

-- each record of an exchange may come, and leaves a sound world
pub exchange_soundly : (t : Terms) (w : World) → IsReady w t.name t.kinds → (asked : Asked)
    → IsAskedIn w t.name asked → (x : Happening) → ComeSoundly w (exchange t asked x w).records
exchange_soundly t w ready asked is x =
    (exchange_well t w ready is.0 is.1 is.2 asked is.3 x).come

module _ (t : Terms) (w : World) (ready : IsReady w t.name t.kinds) (asked : Asked)
    (is : IsAskedIn w t.name asked) (x : Happening) (a : Asks)
    (lawful : RemembersLawful w t.name a) where
  -- so may each where an earlier request may come late
  pub carried_soundly : ComeSoundly w (carried t asked x a w).records
  carried_soundly = (late_well t w ready is.0 is.1 is.2 asked is.3 x a lawful).come

  -- an earlier request was handled first, where one comes late
  module _ (cs : List Content)
      (at : late_records t.name t.now w (late_request x a) ≡ Some cs) where
    carried_is : carried t asked x a w ≡ behind cs (exchange t asked x (world_after cs w))
    carried_is = ap (once_late t asked x w) at

    pub records_are : (carried t asked x a w).records
        ≡ cs ++ (exchange t asked x (world_after cs w)).records
    records_are = ap (λ (p : Planned). p.records) carried_is

    pub came_is : (carried t asked x a w).came ≡ (exchange t asked x (world_after cs w)).came
    came_is = ap (λ (p : Planned). p.came) carried_is

    pub still_asked : IsAskedIn (world_after cs w) t.name asked
    still_asked = (
      is.0,
      is.1,
      is.2,
      late_asked t w ready is.0 is.1 is.2 asked is.3 x a lawful cs at,
    )

    pub still_ready : ComeSoundly w cs → IsReady (world_after cs w) t.name t.kinds
    still_ready come = ready_after cs w t.name t.kinds ready come
