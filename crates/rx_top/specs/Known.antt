-- What lines may name.
use Rattle.std.specs.Prelude.{◌∷◌, [], codes}
use Rattle.rx_engine.specs.Opening.{Host, host_with}
use Rattle.rx_handler.specs.Handlers.{Kinds}
use Rattle.rx_handler.specs.declared.kind.HandlerKind.TheVariants.{MasterWins, ForkWins, Greater, Join}
use Rattle.rx_update.specs.Hooks.{HookKinds}
use Rattle.rx_update.specs.declared.kind.HookKind.TheVariants.{Count, Zero, Lock}

-- the handlers that a replication may name
unfoldable pub known_handlers : Kinds
known_handlers =
    (codes "master_wins", MasterWins) ∷ (codes "fork_wins", ForkWins)
    ∷ (codes "greater", Greater) ∷ (codes "join", Join) ∷ []

-- the hooks that a collection may have
unfoldable pub known_hooks : HookKinds
known_hooks = (codes "count", Count) ∷ (codes "zero", Zero) ∷ (codes "lock", Lock) ∷ []

-- both
abbrev pub known : Host
known = host_with known_handlers known_hooks
