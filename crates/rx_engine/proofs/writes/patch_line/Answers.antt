use Rattle.std.proofs.Common.{◌∙◌, ap, sym}
use Rattle.serde_json.specs.View.{view}
use Rattle.rx_reply.specs.Answer.{patch}
use Rattle.rx_engine.specs.Shown.{outcome_of}
use Rattle.rx_engine.specs.Writes.{patch_line}
use Rattle.rx_writes.specs.States.{patch_state}
use Rattle.rx_writes.specs.declared.fault.Fault.TheVariants.{Memory}
use Rattle.rx_engine.proofs.OneRow.{refused_on, state_refused, state_written}
use Rattle.rx_engine.proofs.writes.patch_line.Goals as goal

pub returns-in_err-doing-clause-exact : goal.returns-in_err-doing-clause-exact
returns-in_err-doing-clause-exact g c =
    refused_on Memory outcome_of c.from_residual-in_err-doing.result
    (patch_line c.args.coll.now c.args.key (view c.args.set.now) c.args.rev.now c.args.session.now)
    c.in_err-doing.field-0.0 c.from_residual-in_err-doing.ensures.1
    (state_refused c.args.coll.now (λ held. patch_state held c.args.session.now.hooks.attached
    c.args.key (view c.args.set.now) c.args.rev.now) patch
    c.args.session.now c.in_ok-collection.collection.now c.in_ok-state.state
    c.in_ok-collection.ensures.exact c.in_ok-collection.ensures.called
    (ap (λ hooks. patch_state c.in_ok-collection.collection.now hooks c.args.key
    (view c.args.set.now) c.args.rev.now) (sym c.attached_in-attached.ensures)
    ∙ c.in_ok-state.ensures.exact)
    c.in_err-doing.field-0.0 (c.in_err-doing.ensures.exact patch))

pub returns-clause-exact : goal.returns-clause-exact
returns-clause-exact g c =
    state_written c.args.coll.now (λ held. patch_state held c.args.session.now.hooks.attached
    c.args.key (view c.args.set.now) c.args.rev.now) patch
    c.args.session.now c.in_ok-collection.collection.now c.in_ok-state.state
    c.in_ok-collection.ensures.exact c.in_ok-collection.ensures.called
    (ap (λ hooks. patch_state c.in_ok-collection.collection.now hooks c.args.key
    (view c.args.set.now) c.args.rev.now) (sym c.attached_in-attached.ensures)
    ∙ c.in_ok-state.ensures.exact)
    ∙ c.in_ok-doing.ensures.exact patch
