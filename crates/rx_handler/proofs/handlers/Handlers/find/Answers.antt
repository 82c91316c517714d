use Rattle.std.proofs.Common.{◌∙◌, ap, option_map}
use Rattle.rx_value.proofs.Named.{lookup-by_name, map-copied}
use Rattle.rx_handler.proofs.Called.{called_found}
use Rattle.rx_handler.proofs.handlers.Handlers.find.Goals as goal

pub returns-clause-kind : goal.returns-clause-kind
returns-clause-kind g c =
    map-copied (λ h. h.kind) c.get.result ∙ ap (option_map (λ h. h.kind)) c.get.ensures.value
    ∙ lookup-by_name (λ h. h.kind) c.args.self.now.held.entries c.args.name.now

pub returns-clause-name : goal.returns-clause-name
returns-clause-name g c =
    called_found (λ h. h.name) c.get.result c.args.self.now.held.entries c.args.name.now
    c.get.ensures.value c.args.self.now.called
