use Rattle.std.proofs.Common.{◌≡◌, ◌∙◌, ap, sym, true, false, Result, Some, None, Ok, Err, IsErrOf, rules}
use Rattle.rx_outside.specs.declared.stop.Stop.TheVariants.{NotJournal}
use Rattle.rx_record.specs.Content.{Content, record_of}
use Rattle.rx_record.specs.Shown.{content_in}
use Rattle.rx_record.specs.declared.at.At.{At}
use Rattle.rx_world.specs.Copy.{after_copied, is_end, plain_world}
use Rattle.rx_world.specs.Holders.{holders_in}
use Rattle.rx_world.specs.Replay.{replay_from}
use Rattle.rx_world.specs.World.{World}
use Rattle.rx_store.proofs.Phases.{copies_none, copies_on, ends_copy, made_first}
use Rattle.rx_store.proofs.phase.copy_one.Goals as goal

pub returns-in_default-clause-not_journal : goal.returns-in_default-clause-not_journal
returns-in_default-clause-not_journal g c = λ _ more.
    let w = plain_world c.args.world in
    let is : record_of c.args.body.now ≡ Err c.in_default.field-0 = search rules in
    copies_none c.args.body.now w more (ap (λ (r : Result Content At). after_copied r w) is)

pub returns-in_err-copied-clause-not_journal : goal.returns-in_err-copied-clause-not_journal
returns-in_err-copied-clause-not_journal g c = λ refused more.
    let w = plain_world c.args.world in
    let is : record_of c.args.body.now ≡ Ok (content_in c.in-Ok.view) = search rules in
    let none : IsErrOf c.from_residual.result NotJournal
    → after_copied (Ok (content_in c.in-Ok.view)) w ≡ None =
    search rules in
    copies_none c.args.body.now w more
    (ap (λ (r : Result Content At). after_copied r w) is ∙ none refused)

pub returns-in_ok-with_holders-clause-ok : goal.returns-in_ok-with_holders-clause-ok
returns-in_ok-with_holders-clause-ok g c = λ more.
    let view = content_in c.in-Ok.view in
    let is : record_of c.args.body.now ≡ Ok view = search rules in
    let last : is_end (Ok view) ≡ true = search rules in
    ends_copy c.args.body.now view (plain_world c.args.world)
    (plain_world c.in_ok-copied.copied) more
    is last c.in_ok-copied.ensures.ok
    ∙ ap (λ (w : World). replay_from (Some w) more) (sym c.in_ok-with_holders.ensures.same)

pub returns-in_ok-with_holders-clause-made : goal.returns-in_ok-with_holders-clause-made
returns-in_ok-with_holders-clause-made g c =
    made_first (λ held h. g.F.Fn.post c.args.make.now (held, tt) (Ok h)) g.H.Holder.written
    (holders_in c.in_ok-with_holders.field-0) c.in_ok-with_holders.ensures.made

pub returns-else-is_end-clause-ok : goal.returns-else-is_end-clause-ok
returns-else-is_end-clause-ok g c = λ more.
    let view = content_in c.in-Ok.view in
    let is : record_of c.args.body.now ≡ Ok view = search rules in
    let last : is_end (Ok view) ≡ false = search rules in
    copies_on c.args.body.now view (plain_world c.args.world)
    (plain_world c.in_ok-copied.copied) more
    is last c.in_ok-copied.ensures.ok
