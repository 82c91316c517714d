use Rattle.std.proofs.Common.{◌≡◌, ◌∙◌, true, sym, subst}
use Rattle.rx_handler.specs.Handlers.{are_called}
use Rattle.rx_handler.proofs.Added.{added}
use Rattle.rx_handler.proofs.Called.{called_put}
use Rattle.rx_handler.proofs.handlers.put.Goals as goal

pub returns-clause-ok : goal.returns-clause-ok
returns-clause-ok g c =
    added (λ h. h.kind) c.args.held.now.entries c.insert.new.self.entries c.in_ok-name.name
    c.args.handler.name c.args.handler
    (c.in_ok-name.ensures.ok ∙ c.as_str.ensures ∙ c.name.ensures)
    c.in_ok-insert.ensures.entries c.requires.none

pub returns-clause-called : goal.returns-clause-called
returns-clause-called g c =
    subst (λ es. are_called (λ h. h.name) es ≡ true) (sym c.in_ok-insert.ensures.entries)
    (called_put (λ h. h.name) c.args.held.now.entries c.in_ok-name.name c.args.handler
    (c.in_ok-name.ensures.ok ∙ c.as_str.ensures ∙ c.name.ensures) c.requires.called)
