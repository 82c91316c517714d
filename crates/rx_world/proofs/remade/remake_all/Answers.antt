use Rattle.std.proofs.Common.{◌≡◌, ◌∙◌, ◌||◌, not, Bool, List, ◌∷◌, ℕ, String, Global, Ok, true, ap, sym, subst, string_bytes, rules}
use Rattle.std.proofs.lemmas.Bool.{and_parts}
use Rattle.rx_value.specs.Named.{by_bytes, by_name}
use Rattle.rx_world.specs.Holders.{AreWhole}
use Rattle.rx_world.specs.Migrating.{collections_migrate, documents_migrate, is_in_group}
use Rattle.rx_world.proofs.Regrouped.{AreSoFar, as_remade, none_left, none_yet, of_group, one_more, remade_held, remade_whole}
use Rattle.rx_world.proofs.remade.remake_all.Goals as goal

pub loop-entry-init : goal.loop-entry-init
loop-entry-init g c =
    let is : c.into_iter-entry-iterator.result ≡ c.args.holders.entries =
    c.into_iter-entry-iterator.ensures.into_iter_gives.0 in
    rw is (record {
      made = none_yet g.H.Holder.held g.H.Holder.is_broken
          (λ x h. g.F.Fn.post c.args.make.now (x, tt) (Ok h))
          (is_in_group (by_bytes c.args.replications.now.entries) c.args.name.now) c.args.schema.now
          c.args.steps.now
          (by_bytes c.args.holders.entries) (by_bytes c.new-all.result.entries) (search rules);
      whole = search rules;
      left = c.requires.whole;
      may = c.requires.migrate;
    })

pub remake_if-requires-clause-unbroken : goal.remake_if-requires-clause-unbroken
remake_if-requires-clause-unbroken g c =
    (subst (AreWhole g.H.Holder.held g.H.Holder.is_broken) c.in-Some.ensures.steps
    c.loop-entry.invariant.left).0.unbroken

pub remake_if-requires-clause-migrates : goal.remake_if-requires-clause-migrates
remake_if-requires-clause-migrates g c = λ is.
    let held = g.H.Holder.held in
    let G : List ℕ → Bool =
    is_in_group (by_bytes c.args.replications.now.entries) c.args.name.now in
    let entry = c.in-Some.entry in
    let docs = documents_migrate c.args.schema.now c.args.steps.now (held entry.1) in
    let may : collections_migrate G c.args.schema.now c.args.steps.now
    (by_name held (entry ∷ c.next.new.self)) ≡ true =
    subst (λ (es : List (String Global × g.row.H.Denot)).
    collections_migrate G c.args.schema.now c.args.steps.now (by_name held es) ≡ true)
    c.in-Some.ensures.steps c.loop-entry.invariant.may in
    let group : G (string_bytes entry.0) ≡ c.is_in_group-in_group.result =
    ap G (sym c.as_str.ensures.value) ∙ sym c.is_in_group-in_group.ensures in
    of_group (G (string_bytes entry.0)) docs
    (and_parts (not (G (string_bytes entry.0)) || docs)
    (collections_migrate G c.args.schema.now c.args.steps.now (by_name held c.next.new.self)) may).0
    (group ∙ is)

pub add-requires : goal.add-requires
add-requires g c =
    let held = g.H.Holder.held in
    let G : List ℕ → Bool =
    is_in_group (by_bytes c.args.replications.now.entries) c.args.name.now in
    let entry = c.in-Some.entry in
    let k = string_bytes entry.0 in
    let new = c.in_ok-holder.holder in
    let docs = documents_migrate c.args.schema.now c.args.steps.now (held entry.1) in
    let may : collections_migrate G c.args.schema.now c.args.steps.now
    (by_name held (entry ∷ c.next.new.self)) ≡ true =
    subst (λ (es : List (String Global × g.row.H.Denot)).
    collections_migrate G c.args.schema.now c.args.steps.now (by_name held es) ≡ true)
    c.in-Some.ensures.steps c.loop-entry.invariant.may in
    let left = subst (AreWhole held g.H.Holder.is_broken) c.in-Some.ensures.steps
    c.loop-entry.invariant.left in
    let group : G k ≡ c.is_in_group-in_group.result =
    ap G (sym c.as_str.ensures.value) ∙ sym c.is_in_group-in_group.ensures in
    remade_whole held g.H.Holder.is_broken (λ x h. g.F.Fn.post c.args.make.now (x, tt) (Ok h))
    G c.args.schema.now c.args.steps.now
    (λ x h post. c.requires.makes x (Ok h) post) k entry.1 new left.0
    (and_parts (not (G k) || docs)
    (collections_migrate G c.args.schema.now c.args.steps.now (by_name held c.next.new.self)) may).0
    (as_remade held g.H.Holder.is_broken (λ x h. g.F.Fn.post c.args.make.now (x, tt) (Ok h))
    G c.args.schema.now c.args.steps.now k entry.1 new c.is_in_group-in_group.result group
    c.in_ok-holder.ensures.made c.in_ok-holder.ensures.stays)

pub loop-entry-preserved : goal.loop-entry-preserved
loop-entry-preserved g c =
    let held = g.H.Holder.held in
    let broken = g.H.Holder.is_broken in
    let G : List ℕ → Bool =
    is_in_group (by_bytes c.args.replications.now.entries) c.args.name.now in
    let s = c.args.schema.now in
    let steps = c.args.steps.now in
    let entry = c.in-Some.entry in
    let k = string_bytes entry.0 in
    let old = by_bytes c.loop-entry.all.entries in
    let may : collections_migrate G s steps (by_name held (entry ∷ c.next.new.self)) ≡ true =
    subst (λ (es : List (String Global × g.row.H.Denot)).
    collections_migrate G s steps (by_name held es) ≡ true)
    c.in-Some.ensures.steps c.loop-entry.invariant.may in
    let left = subst (AreWhole held broken) c.in-Some.ensures.steps c.loop-entry.invariant.left in
    let group : G k ≡ c.is_in_group-in_group.result =
    ap G (sym c.as_str.ensures.value) ∙ sym c.is_in_group-in_group.ensures in
    record {
      made = one_more held broken (λ x h. g.F.Fn.post c.args.make.now (x, tt) (Ok h)) G s steps
          (by_bytes c.args.holders.entries) old (by_bytes c.add.new.holders.entries)
          (by_bytes c.next.new.self) (k, entry.1) c.in_ok-holder.holder c.requires.distinct
          (subst (λ (es : List (String Global × g.row.H.Denot)).
          AreSoFar held (λ x h. g.F.Fn.post c.args.make.now (x, tt) (Ok h)) G s steps
          (by_bytes c.args.holders.entries) old (by_bytes es)) c.in-Some.ensures.steps
          c.loop-entry.invariant.made)
          c.in_ok-add.ensures.holders
          (as_remade held broken (λ x h. g.F.Fn.post c.args.make.now (x, tt) (Ok h)) G s steps k
          entry.1 c.in_ok-holder.holder
          c.is_in_group-in_group.result group c.in_ok-holder.ensures.made
          c.in_ok-holder.ensures.stays);
      whole = c.in_ok-add.ensures.whole c.loop-entry.invariant.whole;
      left = left.1;
      may = (and_parts (not (G k) || documents_migrate s steps (held entry.1))
          (collections_migrate G s steps (by_name held c.next.new.self)) may).1;
    }

pub returns-clause-remade : goal.returns-clause-remade
returns-clause-remade g c =
    none_left g.H.Holder.held g.H.Holder.is_broken
    (λ x h. g.F.Fn.post c.args.make.now (x, tt) (Ok h))
    (is_in_group (by_bytes c.args.replications.now.entries) c.args.name.now) c.args.schema.now
    c.args.steps.now (by_bytes c.args.holders.entries) (by_bytes c.loop-entry.all.entries)
    (by_bytes c.loop-entry.entry-iterator)
    (search rules) c.loop-entry.invariant.made

pub returns-clause-held : goal.returns-clause-held
returns-clause-held g c =
    remade_held g.H.Holder.held g.H.Holder.is_broken
    (λ x h. g.F.Fn.post c.args.make.now (x, tt) (Ok h))
    (is_in_group (by_bytes c.args.replications.now.entries) c.args.name.now) c.args.schema.now
    c.args.steps.now
    (λ x h post. c.requires.makes x (Ok h) post) c.args.holders.entries c.loop-entry.all.entries
    (none_left g.H.Holder.held g.H.Holder.is_broken
    (λ x h. g.F.Fn.post c.args.make.now (x, tt) (Ok h))
    (is_in_group (by_bytes c.args.replications.now.entries) c.args.name.now) c.args.schema.now
    c.args.steps.now (by_bytes c.args.holders.entries) (by_bytes c.loop-entry.all.entries)
    (by_bytes c.loop-entry.entry-iterator)
    (search rules) c.loop-entry.invariant.made)
