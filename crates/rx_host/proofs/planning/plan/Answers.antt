use Rattle.rx_host.proofs.Plans.{clock_so, lawful_request, may_so, none_of, reply_so, writes_so}
use Rattle.rx_host.proofs.planning.plan.Goals as goal

pub handle_by-requires : goal.handle_by-requires
handle_by-requires c =
    lawful_request c.args.collection.now.schema c.args.request.now c.requires

pub returns-clause-reply : goal.returns-clause-reply
returns-clause-reply c = reply_so c.args.collection.now c.args.now c.args.request.now
    c.handle_by.result c.handle_by.ensures.handled

pub returns-clause-written : goal.returns-clause-written
returns-clause-written c = writes_so c.args.collection.now c.args.now c.args.request.now
    c.handle_by.result c.handle_by.ensures.handled

pub returns-clause-may : goal.returns-clause-may
returns-clause-may c = λ w held. may_so w c.handle_by.result (c.handle_by.ensures.next w held)

pub returns-clause-clock_end : goal.returns-clause-clock_end
returns-clause-clock_end c = λ ended.
    let coll = c.args.collection.now in
    clock_so coll c.args.now c.args.request.now.ask
    (none_of coll c.args.now c.args.request.now (c.handle_by.ensures.clock_end ended))
