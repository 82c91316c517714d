use Rattle.std.proofs.Common.{◌≡◌, subst, rules, OnOk}
use Rattle.rx_value.specs.Named.{change_named}
use Rattle.rx_world.specs.Holders.{holders_in}
use Rattle.rx_session.specs.Lives.{with_settled}
use Rattle.rx_session.proofs.Editing.{edited_if, unedited}
use Rattle.rx_session.proofs.emitting.take_due.Goals as goal

pub returns-in-Some-clause-lives : goal.returns-in-Some-clause-lives
returns-in-Some-clause-lives c =
    let old = c.args.world.now in
    let new = c.edit-due.new.self in
    let all = c.in-Some.due in
    subst (λ n. OnOk all (holders_in new ≡ change_named (holders_in old) n with_settled))
    c.as_str.ensures
    (edited_if _ _ c.as_str.result.now old new with_settled all all c.in-Some.ensures.done
    (λ x y met. search rules))

pub returns-in-None-clause-lives : goal.returns-in-None-clause-lives
returns-in-None-clause-lives c =
    let old = c.args.world.now in
    let new = c.edit-due.new.self in
    subst (λ n. holders_in new ≡ change_named (holders_in old) n with_settled) c.as_str.ensures
    (unedited c.as_str.result.now old new with_settled c.in-None.ensures.none
    c.in-None.ensures.same)
