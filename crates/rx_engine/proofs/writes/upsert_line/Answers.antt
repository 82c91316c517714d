use Rattle.std.proofs.Common.{◌∙◌, ap, sym}
use Rattle.serde_json.specs.View.{view}
use Rattle.rx_reply.specs.Answer.{upsert}
use Rattle.rx_engine.specs.Shown.{outcome_of}
use Rattle.rx_engine.specs.Writes.{upsert_line}
use Rattle.rx_writes.specs.States.{upsert_state}
use Rattle.rx_writes.specs.declared.fault.Fault.TheVariants.{Memory}
use Rattle.rx_engine.proofs.OneRow.{refused_on, state_refused, state_written}
use Rattle.rx_engine.proofs.writes.upsert_line.Goals as goal

pub returns-in_err-doing-clause-exact : goal.returns-in_err-doing-clause-exact
returns-in_err-doing-clause-exact g c =
    refused_on Memory outcome_of c.from_residual-in_err-doing.result
    (upsert_line c.args.coll.now (view c.args.doc.now) c.args.session.now) c.in_err-doing.field-0.0
    c.from_residual-in_err-doing.ensures.1
    (state_refused c.args.coll.now
    (λ held. upsert_state held c.args.session.now.hooks.attached (view c.args.doc.now)) upsert
    c.args.session.now c.in_ok-collection.collection.now c.in_ok-state.state
    c.in_ok-collection.ensures.exact c.in_ok-collection.ensures.called
    (ap (λ hooks. upsert_state c.in_ok-collection.collection.now hooks (view c.args.doc.now))
    (sym c.attached_in-attached.ensures) ∙ c.in_ok-state.ensures.exact)
    c.in_err-doing.field-0.0 (c.in_err-doing.ensures.exact upsert))

pub returns-clause-exact : goal.returns-clause-exact
returns-clause-exact g c =
    state_written c.args.coll.now
    (λ held. upsert_state held c.args.session.now.hooks.attached (view c.args.doc.now)) upsert
    c.args.session.now c.in_ok-collection.collection.now c.in_ok-state.state
    c.in_ok-collection.ensures.exact c.in_ok-collection.ensures.called
    (ap (λ hooks. upsert_state c.in_ok-collection.collection.now hooks (view c.args.doc.now))
    (sym c.attached_in-attached.ensures) ∙ c.in_ok-state.ensures.exact)
    ∙ c.in_ok-doing.ensures.exact upsert
