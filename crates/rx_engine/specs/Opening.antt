-- What an opening adds.
use Rattle.std.specs.Prelude.{ℕ, ◌+◌, List, []}
use Rattle.rx_record.specs.Content.{epoch, content_bytes}
use Rattle.rx_world.specs.World.{World}
use Rattle.rx_world.specs.Step.{step}
use Rattle.rx_handler.specs.Handlers.{Kinds}
use Rattle.rx_handler.specs.Shown.{kinds_of}
use Rattle.rx_handler.specs.declared.handlers.Handlers.{Handlers}
use Rattle.rx_session.specs.Session.{Session}
use Rattle.rx_update.specs.Hooks.{HookKinds}
use Rattle.rx_update.specs.Shown.{hook_kinds}
use Rattle.rx_update.specs.declared.hooks.Hooks.{Hooks}
use Rattle.rx_sync.specs.Remote.{Heard}
use Rattle.rx_engine.specs.Standing.{Standing, standing_with}

-- the record of the next epoch
abbrev pub epoch_body : World → List ℕ
epoch_body w = content_bytes (epoch (w.epoch + 1))

-- a session on a world, of a run that knows these hooks: its moment is 0, no hook stands before a
-- write, no stream is open, and nothing is observed
abbrev pub session_on : HookKinds → World → Session
session_on known w = record {
  world = w;
  moment = 0;
  hooks = record { known = known; attached = [] };
  streams = [];
  queries = [];
}

-- the world in its next epoch
abbrev pub next_epoch : World → World
next_epoch w = step (epoch (w.epoch + 1)) w

-- what a run is given: what its handlers do, and the hooks that it knows, by their names
pub record Host : Type 0 where
  pub kinds : Kinds
  pub hooks : HookKinds

abbrev pub host_with : Kinds → HookKinds → Host
host_with kinds hooks = record { kinds = kinds; hooks = hooks }

abbrev pub host_of
    : {a : _} {b : _} {c : _} {x : _} {y : _} {z : _} → Handlers a b c → Hooks x y z → Host
host_of handlers hooks = host_with (kinds_of handlers) (hook_kinds hooks)

-- how things stand after an opening, where that is to be heard
unfoldable pub opened : Host → List Heard → World → Standing
opened host heard w =
    standing_with (session_on host.hooks (next_epoch w)) [] host.kinds heard
