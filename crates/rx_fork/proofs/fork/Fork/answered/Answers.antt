use Rattle.std.proofs.Common.{◌∙◌, sym, subst, List, Option, option_map}
use Rattle.rx_value.specs.Due.{Due}
use Rattle.rx_value.specs.declared.state.State.{State}
use Rattle.rx_document.specs.declared.place.Place.{Place}
use Rattle.rx_wire.specs.declared.message.AskKind.{AskKind}
use Rattle.rx_wire.specs.declared.message.AskKind.TheVariants.{Pull}
use Rattle.rx_wire.specs.declared.message.Body.{Body}
use Rattle.rx_wire.specs.declared.message.Body.TheVariants.{Docs}
use Rattle.rx_handler.specs.Resolve.{resolve}
use Rattle.rx_fork.specs.Accept.{answered}
use Rattle.rx_fork.specs.declared.fault.AcceptFault.TheVariants.{Memory}
use Rattle.rx_fork.proofs.Items.{lent}
use Rattle.rx_fork.proofs.fork.Fork.answered.Goals as goal

-- the page that is lent is the one of the body
pub returns-in-Pull-Docs : goal.returns-in-Pull-Docs
returns-in-Pull-Docs g c =
    let w = c.in-Pull-Docs in
    let fork = c.args.collection.now.documents in
    let side = c.args.self.now.meta.now in
    let by = resolve c.args.handler.now.kind c.args.field.now in
    let place = option_map (λ p. p.now) c.as_ref.result in
    record {
      exact =
          subst (λ (ask : AskKind). Due Memory c.pulled.result
          (answered by fork side ask c.args.body.now)) (sym w.is-0)
          (subst (λ (body : Body). Due Memory c.pulled.result
          (answered by fork side (Pull w.place-0 w.batch) body)) (sym w.is-1)
          (subst (λ (to : Option Place). Due Memory c.pulled.result
          (answered by fork side (Pull w.place-0 w.batch) (Docs w.states to)))
          (lent c.as_ref.result ∙ c.as_ref.ensures.value)
          (subst (λ (ss : List State). Due Memory c.pulled.result
          (answered by fork side (Pull w.place-0 w.batch) (Docs ss place)))
          c.as_slice-in-Pull-Docs.ensures (c.pulled.ensures.exact by w.place-0))));
    }
