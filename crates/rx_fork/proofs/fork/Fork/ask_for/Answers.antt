use Rattle.std.proofs.Common.{◌∙◌, ap, sym, subst, map, take, option_map}
use Rattle.rx_replication.specs.Known.{pending}
use Rattle.rx_replication.specs.Request.{push_row, push_or_pull}
use Rattle.rx_fork.specs.Asked.{HasRowsApart}
use Rattle.rx_fork.proofs.Walk.{ask_apart}
use Rattle.rx_fork.proofs.fork.Fork.ask_for.Goals as goal

pub returns-clause-apart : goal.returns-clause-apart
returns-clause-apart c =
    let meta = c.args.self.now.meta.now in
    let documents = c.args.collection.now.documents in
    let due = map (push_row meta.known) (take c.args.batch (pending documents meta.known)) in
    subst HasRowsApart
    (sym (c.in_ok-ask.ensures
    ∙ ap (λ rows. push_or_pull rows (option_map (λ p. p.now) c.down.result) c.args.batch)
    c.requires
    ∙ ap (λ down. push_or_pull due down c.args.batch) c.down.ensures))
    (ask_apart c.args.collection.now meta.known meta.down c.args.batch c.last_lwt.ensures.lawful)
