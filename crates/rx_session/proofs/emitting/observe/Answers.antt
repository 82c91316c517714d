use Rattle.std.proofs.Common.{◌≡◌, ◌∙◌, ap, sym, subst, rules, OnOk, Some}
use Rattle.rx_query.specs.QuerySpec.{asked}
use Rattle.rx_value.specs.Named.{named, change_named}
use Rattle.rx_observe.specs.Observing.{Observing}
use Rattle.rx_world.specs.Holders.{holders_in}
use Rattle.rx_session.specs.Lives.{with_query}
use Rattle.rx_session.proofs.Editing.{edited_if, unedited, free_at, keyed_at}
use Rattle.rx_session.proofs.emitting.observe.Goals as goal

pub edit-observed-requires-clause-callable : goal.edit-observed-requires-clause-callable
edit-observed-requires-clause-callable c = λ x at whole p is.
    let old = c.args.world.now in
    let primary = (asked c.args.query).primary in
    let here : named (holders_in old) c.args.coll.now ≡ Some x =
    subst (λ n. named (holders_in old) n ≡ Some x) c.as_str.ensures at in (
      ap (λ (l : Observing). l.broken) is ∙ whole.unbroken,
      (
        ap (λ (l : Observing). named l.queries c.args.name) is
            ∙ free_at c.args.name c.args.coll.now (holders_in old) x c.requires.free here,
        keyed_at primary c.args.coll.now old x c.requires.keyed here
            ∙ sym (ap (λ (l : Observing). l.collection.schema.primary) is),
      ),
    )

pub returns-in-Some-clause-lives : goal.returns-in-Some-clause-lives
returns-in-Some-clause-lives c =
    let adds = with_query c.args.name (asked c.args.query) in
    let old = c.args.world.now in
    let new = c.edit-observed.new.self in
    subst (λ n. OnOk c.in-Some.observed (holders_in new ≡ change_named (holders_in old) n adds))
    c.as_str.ensures
    (edited_if _ _ c.as_str.result.now old new adds c.in-Some.observed c.in-Some.observed
    c.in-Some.ensures.done (λ x y met. search rules))

pub returns-in-None-clause-lives : goal.returns-in-None-clause-lives
returns-in-None-clause-lives c =
    let adds = with_query c.args.name (asked c.args.query) in
    let old = c.args.world.now in
    let new = c.edit-observed.new.self in
    subst (λ n. holders_in new ≡ change_named (holders_in old) n adds) c.as_str.ensures
    (unedited c.as_str.result.now old new adds c.in-None.ensures.none c.in-None.ensures.same)
