use Rattle.std.proofs.Common.{◌∙◌, ap, sym}
use Rattle.rx_reply.specs.Answer.{remove}
use Rattle.rx_engine.specs.Shown.{outcome_of}
use Rattle.rx_engine.specs.Writes.{remove_line}
use Rattle.rx_writes.specs.States.{remove_state}
use Rattle.rx_writes.specs.declared.fault.Fault.TheVariants.{Memory}
use Rattle.rx_engine.proofs.OneRow.{refused_on, state_refused, state_written}
use Rattle.rx_engine.proofs.writes.remove_line.Goals as goal

pub returns-in_err-doing-clause-exact : goal.returns-in_err-doing-clause-exact
returns-in_err-doing-clause-exact g c =
    refused_on Memory outcome_of c.from_residual-in_err-doing.result
    (remove_line c.args.coll.now c.args.key c.args.rev.now c.args.session.now)
    c.in_err-doing.field-0.0 c.from_residual-in_err-doing.ensures.1
    (state_refused c.args.coll.now
    (λ held. remove_state held c.args.session.now.hooks.attached c.args.key c.args.rev.now) remove
    c.args.session.now c.in_ok-collection.collection.now c.in_ok-state.state
    c.in_ok-collection.ensures.exact c.in_ok-collection.ensures.called
    (ap (λ hooks. remove_state c.in_ok-collection.collection.now hooks c.args.key c.args.rev.now)
    (sym c.attached_in-attached.ensures) ∙ c.in_ok-state.ensures.exact)
    c.in_err-doing.field-0.0 (c.in_err-doing.ensures.exact remove))

pub returns-clause-exact : goal.returns-clause-exact
returns-clause-exact g c =
    state_written c.args.coll.now
    (λ held. remove_state held c.args.session.now.hooks.attached c.args.key c.args.rev.now) remove
    c.args.session.now c.in_ok-collection.collection.now c.in_ok-state.state
    c.in_ok-collection.ensures.exact c.in_ok-collection.ensures.called
    (ap (λ hooks. remove_state c.in_ok-collection.collection.now hooks c.args.key c.args.rev.now)
    (sym c.attached_in-attached.ensures) ∙ c.in_ok-state.ensures.exact)
    ∙ c.in_ok-doing.ensures.exact remove
