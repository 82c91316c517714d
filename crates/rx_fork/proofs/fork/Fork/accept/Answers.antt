use Rattle.rx_handler.specs.Resolve.{resolve}
use Rattle.rx_fork.specs.Valid.{is_valid}
use Rattle.rx_fork.proofs.Accepted.{when_made, plan_apart, plan_passes}
use Rattle.rx_fork.proofs.Validity.{resolves_keys, resolves_valid}
use Rattle.rx_fork.proofs.fork.Fork.accept.Goals as goal

pub returns-clause-apart : goal.returns-clause-apart
returns-clause-apart g c =
    let kind = c.args.handler.now.kind in
    let field = c.args.field.now in
    let fork = c.args.collection.now.documents in
    let side = c.args.self.now.meta.now in
    let asked = c.args.asked.now in
    let reply = c.args.reply.now in
    when_made (resolve kind field) fork side asked reply c.plan.result c.plan.ensures.exact
    (λ plan of. plan_apart (resolve kind field) (resolves_keys kind field) fork side
    asked.request.ask reply.body plan c.requires.rows c.requires.states of)

pub returns-clause-valid : goal.returns-clause-valid
returns-clause-valid g c = λ asks pass.
    let kind = c.args.handler.now.kind in
    let field = c.args.field.now in
    let schema = c.args.collection.now.schema in
    let fork = c.args.collection.now.documents in
    let side = c.args.self.now.meta.now in
    let asked = c.args.asked.now in
    let reply = c.args.reply.now in
    when_made (resolve kind field) fork side asked reply c.plan.result c.plan.ensures.exact
    (λ plan of. plan_passes (is_valid schema) (resolve kind field)
    (resolves_valid schema kind field) fork side asked.request.ask reply.body plan asks pass of)
