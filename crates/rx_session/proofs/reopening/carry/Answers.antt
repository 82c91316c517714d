use Rattle.std.proofs.Common.{◌≡◌, subst, rules}
use Rattle.rx_value.specs.Named.{change_named}
use Rattle.rx_observe.specs.Observing.{Observing, cooled, each, with_queries}
use Rattle.rx_world.specs.Holders.{holders_in}
use Rattle.rx_session.proofs.Editing.{edited_or_none}
use Rattle.rx_session.proofs.reopening.carry.Goals as goal

pub returns-clause-lives : goal.returns-clause-lives
returns-clause-lives c =
    let old = c.args.world.now in
    let new = c.edit.new.self in
    let gives : Observing → Observing = λ l. with_queries l (each cooled c.args.live.queries) in
    let name : c.as_str.result.now ≡ c.args.live.collection.name = search rules in
    subst (λ n. holders_in new ≡ change_named (holders_in old) n gives) name
    (edited_or_none _ _ c.as_str.result.now old new gives c.edit.result c.edit.ensures.done
    c.edit.ensures.none c.edit.ensures.same (λ r x y met. search rules))
