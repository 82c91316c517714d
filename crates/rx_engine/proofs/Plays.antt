-- Records that a line writes, one after another.
use Rattle.std.proofs.Common.{◌≡◌, List, [], ◌∷◌, ◌++◌, refl}
use Rattle.std.proofs.lemmas.List.{map-append}
use Rattle.rx_record.specs.Content.{Content, content_bytes}
use Rattle.rx_session.specs.Doing.{write, session_after}
use Rattle.rx_session.specs.Session.{Session}
use Rattle.rx_sync.specs.Exchange.{world_after as world_after}
use Rattle.rx_sync.specs.Laws.{ComeSoundly}
use Rattle.rx_world.specs.Step.{step}
use Rattle.rx_world.specs.World.{World}
use Rattle.rx_engine.specs.Meaning.{bodies_of}
use Rattle.rx_engine.specs.Turning.{written}

pub bodies-append : (cs ds : List Content) → bodies_of (cs ++ ds) ≡ bodies_of cs ++ bodies_of ds
bodies-append cs ds = map-append content_bytes cs ds

-- a session after records has the world after them
pub written-world : (cs : List Content) (s : Session)
    → (written cs s).world ≡ world_after cs s.world
written-world [] s = refl
written-world (c ∷ cs) s = written-world cs (session_after (write c) s)

pub written-append : (cs ds : List Content) (s : Session)
    → written (cs ++ ds) s ≡ written ds (written cs s)
written-append [] ds s = refl
written-append (c ∷ cs) ds s = written-append cs ds (session_after (write c) s)

-- of records that come soundly, so do those behind the first
pub soundly_behind : (cs ds : List Content) (w : World) → ComeSoundly w (cs ++ ds)
    → ComeSoundly (world_after cs w) ds
soundly_behind [] ds w come = come
soundly_behind (c ∷ cs) ds w come = soundly_behind cs ds (step c w) come.2
