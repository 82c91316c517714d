use Rattle.std.proofs.Common.{◌≡◌, ◌∙◌, ap, sym, subst, false, Option, Some, None, IsErrOf, option_map, rules}
use Rattle.std.specs.Option.{option_map_or}
use Rattle.rx_value.specs.Named.{by_name, named}
use Rattle.rx_value.proofs.Named.{lookup-by_name, by_name-set_value}
use Rattle.rx_collection.specs.Held.{Held}
use Rattle.rx_collection.specs.declared.holder.Plain.{Plain}
use Rattle.rx_world.specs.Copy.{ArePlain, takes_part, with_part}
use Rattle.rx_world.specs.Holders.{IsWhole}
use Rattle.rx_world.specs.declared.fault.ApplyFault.TheVariants.{Illegal}
use Rattle.rx_world.proofs.Copied.{whole_part}
use Rattle.rx_world.proofs.Entries.{at_found, at_set}
use Rattle.rx_world.proofs.copying.copy_part.Goals as goal

pub returns-in_err-take_part-in-Some-clause-illegal :
    goal.returns-in_err-take_part-in-Some-clause-illegal
returns-in_err-take_part-in-Some-clause-illegal c = λ is.
    let es = c.args.holders.now.entries in
    let old = c.in-Some.holder.now in
    let takes = takes_part c.args.rows.items in
    let at : named (by_name (λ (p : Plain). p.collection) es) c.args.name.now
    ≡ Some old.collection =
    sym (lookup-by_name (λ (p : Plain). p.collection) es c.args.name.now)
    ∙ ap (option_map (λ (p : Plain). p.collection)) (sym c.in-Some.ensures.value) in
    let refused : IsErrOf c.from_residual.result Illegal → takes old.collection ≡ false =
    search rules in
    ap (λ (o : Option Held). option_map_or takes o false) at ∙ refused is

pub returns-in_ok-take_part-in-Some-clause-held : goal.returns-in_ok-take_part-in-Some-clause-held
returns-in_ok-take_part-in-Some-clause-held c =
    ap (by_name (λ (p : Plain). p.collection)) (c.get_mut.follows.holds c.take_part.new.holder).0
    ∙ by_name-set_value (λ (p : Plain). p.collection) (with_part c.args.rows.items)
    c.args.holders.now.entries c.args.name.now c.in-Some.holder.now c.take_part.new.holder
    c.in_ok-take_part-in-Some.ensures.rows (sym c.in-Some.ensures.value)

pub returns-in_ok-take_part-in-Some-clause-may : goal.returns-in_ok-take_part-in-Some-clause-may
returns-in_ok-take_part-in-Some-clause-may c =
    let es = c.args.holders.now.entries in
    let old = c.in-Some.holder.now in
    let at : named (by_name (λ (p : Plain). p.collection) es) c.args.name.now
    ≡ Some old.collection =
    sym (lookup-by_name (λ (p : Plain). p.collection) es c.args.name.now)
    ∙ ap (option_map (λ (p : Plain). p.collection)) (sym c.in-Some.ensures.value) in
    ap (λ (o : Option Held). option_map_or (takes_part c.args.rows.items) o false) at
    ∙ c.in_ok-take_part-in-Some.ensures.may

pub returns-in_ok-take_part-in-Some-clause-whole :
    goal.returns-in_ok-take_part-in-Some-clause-whole
returns-in_ok-take_part-in-Some-clause-whole c =
    let P = IsWhole (λ (p : Plain). p.collection) (λ (p : Plain). p.broken) in
    let es = c.args.holders.now.entries in
    let name = c.args.name.now in
    let old = c.in-Some.holder.now in
    let new = c.take_part.new.holder in
    let here = at_found P es name old c.requires.whole (sym c.in-Some.ensures.value) in
    let done = c.in_ok-take_part-in-Some.ensures in
    subst ArePlain (sym (c.get_mut.follows.holds new).0)
    (at_set P es name new
    (whole_part name old new c.args.rows.items here done.may done.rows done.same)
    c.requires.whole)

pub returns-in-None-clause-illegal : goal.returns-in-None-clause-illegal
returns-in-None-clause-illegal c = λ _.
    let es = c.args.holders.now.entries in
    let none : named (by_name (λ (p : Plain). p.collection) es) c.args.name.now ≡ None =
    sym (lookup-by_name (λ (p : Plain). p.collection) es c.args.name.now)
    ∙ ap (option_map (λ (p : Plain). p.collection)) (sym c.in-None.ensures.value) in
    ap (λ (o : Option Held). option_map_or (takes_part c.args.rows.items) o false) none
