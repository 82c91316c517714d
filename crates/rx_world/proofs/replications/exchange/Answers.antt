use Rattle.std.proofs.Common.{◌≡◌, ◌∙◌, ap, sym, None}
use Rattle.rx_value.specs.Named.{by_bytes, named}
use Rattle.rx_value.proofs.Named.{lookup-by_bytes, by_name-set_value, change_named-none}
use Rattle.rx_world.specs.Replicating.{with_exchange}
use Rattle.rx_world.specs.declared.replication.Replication.{Replication}
use Rattle.rx_world.proofs.replications.exchange.Goals as goal

pub returns-in_ok-take-in-Some : goal.returns-in_ok-take-in-Some
returns-in_ok-take-in-Some c =
    ap by_bytes (c.get_mut.follows.holds c.take.new.replication).0
    ∙ by_name-set_value (λ (r : Replication). r)
    (with_exchange c.args.known.items c.args.up c.args.down)
    c.args.replications.now.entries c.args.name.now c.in-Some.replication.now c.take.new.replication
    c.in_ok-take-in-Some.ensures (sym c.in-Some.ensures.value)

pub returns-in-None : goal.returns-in-None
returns-in-None c =
    let es = c.args.replications.now.entries in
    let none : named (by_bytes es) c.args.name.now ≡ None =
    sym (lookup-by_bytes es c.args.name.now) ∙ sym c.in-None.ensures.value in
    ap (λ m. by_bytes m.entries) c.get_mut.follows.holds-at-none
    ∙ change_named-none (with_exchange c.args.known.items c.args.up c.args.down)
    (by_bytes es) c.args.name.now none
