-- Sessions whose worlds are sound, with what is remembered of their requests.
use Rattle.std.specs.Prelude.{ℕ, List, refl}
use Rattle.std.specs.Coded.{Coded, code_by, coded×, coded_list}
use Rattle.rx_session.specs.Codes.{session_code, text_code}
use Rattle.rx_session.specs.Session.{Session}
use Rattle.rx_sync.specs.Asks.{Asks}
use Rattle.rx_sync.specs.contracts.asks.Asks as asks
use Rattle.rx_world.specs.Made.{IsMadeWorld}
use Rattle.rx_world.specs.Sound.{IsSoundWorld}
use Rattle.rx_engine.specs.Remembered.{AreRemembered}

-- a session, and what is remembered of the requests of replications, by their names
pub record SessionWithAsks : Type 0 where
  pub session : Session
  pub asks : List (List ℕ × Asks)

abbrev pub with_asks : Session → List (List ℕ × Asks) → SessionWithAsks
with_asks session asks = record { session = session; asks = asks }

-- as the pair of its parts
abbrev pub with_asks_code : Coded SessionWithAsks
with_asks_code =
    code_by (Session × List (List ℕ × Asks))
    (coded× session_code (coded_list (coded× text_code asks.the_row.coded)))
    (λ s. (s.session, s.asks))
    (λ p. record { session = p.0; asks = p.1 })
    (λ _. refl)

-- records made the session's world, it is sound, and the requests are lawful
pub record HasSoundWorld (s : SessionWithAsks) : Type 0 where
  pub made : IsMadeWorld s.session.world
  pub sound : IsSoundWorld s.session.world
  pub remembered : AreRemembered s.session.world s.asks
