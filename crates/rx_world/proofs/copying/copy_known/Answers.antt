use Rattle.std.proofs.Common.{◌≡◌, ◌∙◌, ap, sym, false, Option, Some, None, IsErrOf, rules}
use Rattle.std.specs.Option.{option_map_or}
use Rattle.rx_value.specs.Named.{by_bytes, by_name, named}
use Rattle.rx_value.proofs.Named.{lookup-by_bytes, by_name-set_value}
use Rattle.rx_collection.specs.declared.holder.Plain.{Plain}
use Rattle.rx_world.specs.Copy.{takes_known}
use Rattle.rx_world.specs.Replicating.{with_exchange}
use Rattle.rx_world.specs.World.{Collections}
use Rattle.rx_world.specs.declared.fault.ApplyFault.TheVariants.{Illegal}
use Rattle.rx_world.specs.declared.replication.Replication.{Replication}
use Rattle.rx_world.proofs.copying.copy_known.Goals as goal

pub returns-in_err-take_known-in-Some-clause-illegal :
    goal.returns-in_err-take_known-in-Some-clause-illegal
returns-in_err-take_known-in-Some-clause-illegal c = λ is.
    let cs : Collections = by_name (λ (p : Plain). p.collection) c.args.holders.now.entries in
    let es = c.args.replications.now.entries in
    let old = c.in-Some.replication.now in
    let takes = takes_known cs c.args.known.items c.args.up c.args.down in
    let at : named (by_bytes es) c.args.name.now ≡ Some old =
    sym (lookup-by_bytes es c.args.name.now) ∙ sym c.in-Some.ensures.value in
    let refused : IsErrOf c.from_residual.result Illegal → takes old ≡ false = search rules in
    ap (λ (o : Option Replication). option_map_or takes o false) at ∙ refused is

pub returns-in_ok-take_known-in-Some-clause-replications :
    goal.returns-in_ok-take_known-in-Some-clause-replications
returns-in_ok-take_known-in-Some-clause-replications c =
    ap by_bytes (c.get_mut.follows.holds c.take_known.new.replication).0
    ∙ by_name-set_value (λ (r : Replication). r)
    (with_exchange c.args.known.items c.args.up c.args.down)
    c.args.replications.now.entries c.args.name.now c.in-Some.replication.now
    c.take_known.new.replication c.in_ok-take_known-in-Some.ensures.replication
    (sym c.in-Some.ensures.value)

pub returns-in_ok-take_known-in-Some-clause-may : goal.returns-in_ok-take_known-in-Some-clause-may
returns-in_ok-take_known-in-Some-clause-may c =
    let cs : Collections = by_name (λ (p : Plain). p.collection) c.args.holders.now.entries in
    let es = c.args.replications.now.entries in
    let takes = takes_known cs c.args.known.items c.args.up c.args.down in
    let at : named (by_bytes es) c.args.name.now ≡ Some c.in-Some.replication.now =
    sym (lookup-by_bytes es c.args.name.now) ∙ sym c.in-Some.ensures.value in
    ap (λ (o : Option Replication). option_map_or takes o false) at
    ∙ c.in_ok-take_known-in-Some.ensures.may

pub returns-in-None-clause-illegal : goal.returns-in-None-clause-illegal
returns-in-None-clause-illegal c = λ _.
    let cs : Collections = by_name (λ (p : Plain). p.collection) c.args.holders.now.entries in
    let es = c.args.replications.now.entries in
    let takes = takes_known cs c.args.known.items c.args.up c.args.down in
    let none : named (by_bytes es) c.args.name.now ≡ None =
    sym (lookup-by_bytes es c.args.name.now) ∙ sym c.in-None.ensures.value in
    ap (λ (o : Option Replication). option_map_or takes o false) none
