-- Handlers as their callers see them.
use Rattle.rx_value.specs.Named.{by_name}
use Rattle.rx_handler.specs.Handlers.{Kinds}
use Rattle.rx_handler.specs.declared.handlers.Handlers.{Handlers}

-- what each gives, by its name
abbrev pub kinds_of : {i : _} {f : _} {g : _} → Handlers i f g → Kinds
kinds_of handlers = by_name (λ h. h.kind) handlers.held.entries
