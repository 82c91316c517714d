use Rattle.std.proofs.Common.{◌≡◌, ◌∙◌, inr, ℕ, List, Bool, true, false, Ok, sym, ap}
use Rattle.std.specs.List.{list_all}
use Rattle.rx_value.specs.Named.{by_bytes}
use Rattle.rx_schema.specs.declared.shape.Shape.{Shape}
use Rattle.rx_world.specs.Holders.{holders_of, world_in}
use Rattle.rx_world.specs.Migrating.{is_in_group, is_next_version, keeps_primary}
use Rattle.rx_world.specs.Migration.{is_here, states_fit}
use Rattle.rx_world.specs.declared.replication.Replication.{Replication}
use Rattle.rx_world.proofs.Fitting.{not_here, not_kept}
use Rattle.rx_world.proofs.migrating.check_group.Goals as goal

pub returns-then-not-keeps_primary : goal.returns-then-not-keeps_primary
returns-then-not-keeps_primary g c =
    let rs = by_bytes c.args.parts.now.replications.entries in
    let G : List ℕ → Bool = is_in_group rs c.args.collection.now.name in
    let s = c.args.schema.now in
    let steps = c.args.steps.now in
    let old = c.args.collection.now.schema in
    let is : is_next_version s old ≡ true =
    ap (λ (x : Shape). is_next_version s x) (sym c.schema-old.ensures)
    ∙ sym c.is_next_version.ensures ∙ c.if-not-is_next_version.false in
    let isnt : keeps_primary s steps old ≡ false =
    ap (λ (x : Shape). keeps_primary s steps x) (sym c.schema-old.ensures)
    ∙ sym c.keeps_primary.ensures ∙ c.if-not-keeps_primary.true in
    inr (not_kept (is_next_version s old) (keeps_primary s steps old)
    (list_all (λ (e : List ℕ × Replication). is_here G e.1) rs)
    (states_fit G s steps (world_in g.H.Holder.held (holders_of c.args.parts.now))) is isnt)

pub returns-then-not-are_here : goal.returns-then-not-are_here
returns-then-not-are_here g c =
    let rs = by_bytes c.args.parts.now.replications.entries in
    let w = world_in g.H.Holder.held (holders_of c.args.parts.now) in
    let called = c.args.collection.now.name in
    let G : List ℕ → Bool = is_in_group rs called in
    let s = c.args.schema.now in
    let steps = c.args.steps.now in
    let old = c.args.collection.now.schema in
    let is : is_next_version s old ≡ true =
    ap (λ (x : Shape). is_next_version s x) (sym c.schema-old.ensures)
    ∙ sym c.is_next_version.ensures ∙ c.if-not-is_next_version.false in
    let kept : keeps_primary s steps old ≡ true =
    ap (λ (x : Shape). keeps_primary s steps x) (sym c.schema-old.ensures)
    ∙ sym c.keeps_primary.ensures ∙ c.if-not-keeps_primary.false in
    let named_so : c.as_str.result.now ≡ called = c.as_str.ensures ∙ c.name.ensures in
    let named_too : c.as_str-2.result.now ≡ called = c.as_str-2.ensures ∙ c.name-2.ensures in
    let fit : states_fit G s steps w ≡ Ok tt =
    ap (λ (n : List ℕ). states_fit (is_in_group rs n) s steps w) (sym named_so)
    ∙ c.in_ok-check_states.ensures in
    let isnt : list_all (λ (e : List ℕ × Replication). is_here G e.1) rs ≡ false =
    ap (λ (n : List ℕ). list_all (λ (e : List ℕ × Replication). is_here (is_in_group rs n) e.1) rs)
    (sym named_too) ∙ sym c.are_here.ensures ∙ c.if-not-are_here.true in
    inr (not_here (is_next_version s old) (keeps_primary s steps old)
    (list_all (λ (e : List ℕ × Replication). is_here G e.1) rs)
    (states_fit G s steps w) is kept fit isnt)
