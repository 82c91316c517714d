use Rattle.std.proofs.Common.{◌≡◌, subst, rules}
use Rattle.rx_value.specs.Named.{change_named}
use Rattle.rx_world.specs.Holders.{holders_in}
use Rattle.rx_session.specs.Lives.{without_query}
use Rattle.rx_session.proofs.Editing.{edited_or_none}
use Rattle.rx_session.proofs.emitting.unobserve.Goals as goal

pub returns-clause-lives : goal.returns-clause-lives
returns-clause-lives c =
    let drops = without_query c.args.name.now in
    subst (λ n. holders_in c.edit.new.self ≡ change_named (holders_in c.args.world.now) n drops)
    c.as_str.ensures
    (edited_or_none _ _ c.as_str.result.now c.args.world.now c.edit.new.self drops c.edit.result
    c.edit.ensures.done c.edit.ensures.none c.edit.ensures.same (λ r x y met. search rules))
