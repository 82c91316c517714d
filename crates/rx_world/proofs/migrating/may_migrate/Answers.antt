use Rattle.std.proofs.Common.{◌≡◌, ◌∙◌, Bool, true, false, Some, IfOk, ap, sym, subst, rules}
use Rattle.rx_value.specs.Named.{named}
use Rattle.rx_schema.specs.declared.shape.Shape.{Shape}
use Rattle.rx_collection.specs.Held.{Held}
use Rattle.rx_world.specs.Holders.{holders_of, world_in}
use Rattle.rx_world.specs.Migrating.{is_next_schema}
use Rattle.rx_world.specs.Schema.{schema_in}
use Rattle.rx_world.proofs.Fitting.{may_as}
use Rattle.rx_world.proofs.migrating.may_migrate.Goals as goal

pub returns-then-not-is_next_schema : goal.returns-then-not-is_next_schema
returns-then-not-is_next_schema g c =
    let w = world_in g.H.Holder.held (holders_of c.args.parts.now) in
    let held = g.H.Holder.held c.in-Some.holder.now in
    let at : named w.collections c.args.name.now ≡ Some held = sym c.in-Some.ensures.held in
    let read : schema_in c.args.text.now ≡ Some c.in-Some-2.schema = search rules in
    let old : c.schema-2.result.now ≡ held.schema =
    c.schema-2.ensures ∙ ap (λ (x : Held). x.schema) c.collection.ensures in
    let next : is_next_schema c.in-Some-2.schema c.args.steps.now held.schema ≡ false =
    ap (λ (s : Shape). is_next_schema c.in-Some-2.schema c.args.steps.now s) (sym old)
    ∙ sym c.is_next_schema.ensures ∙ c.if-not-is_next_schema.true in
    sym (may_as c.args.name.now c.args.text.now c.args.steps.now w held c.in-Some-2.schema
    false at read next)

pub returns : goal.returns
returns g c =
    let w = world_in g.H.Holder.held (holders_of c.args.parts.now) in
    let held = g.H.Holder.held c.in-Some.holder.now in
    let at : named w.collections c.args.name.now ≡ Some held = sym c.in-Some.ensures.held in
    let read : schema_in c.args.text.now ≡ Some c.in-Some-2.schema = search rules in
    let old : c.schema-2.result.now ≡ held.schema =
    c.schema-2.ensures ∙ ap (λ (x : Held). x.schema) c.collection.ensures in
    let next : is_next_schema c.in-Some-2.schema c.args.steps.now held.schema ≡ true =
    ap (λ (s : Shape). is_next_schema c.in-Some-2.schema c.args.steps.now s) (sym old)
    ∙ sym c.is_next_schema.ensures ∙ c.if-not-is_next_schema.false in
    subst (λ (x : Bool). IfOk c.group_migrates.result (λ b. b ≡ x))
    (sym (may_as c.args.name.now c.args.text.now c.args.steps.now w held c.in-Some-2.schema true
    at read next))
    c.group_migrates.ensures
