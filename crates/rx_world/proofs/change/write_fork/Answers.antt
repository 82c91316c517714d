use Rattle.std.proofs.Common.{rules, ◌≡◌, ◌<◌, ◌∙◌, length, List, ℕ, Some, ap, sym, subst, arith}
use Rattle.std.proofs.lemmas.Grind.{common_steps}
use Rattle.std.proofs.lemmas.Result.{on_ok_weaker}
use Rattle.rx_value.specs.Named.{by_bytes, named}
use Rattle.rx_world.specs.Holders.{After}
use Rattle.rx_world.specs.Touch.{Touch, new_rows, exchange_touch}
use Rattle.rx_world.proofs.Forks.{touches_fork}
use Rattle.rx_world.proofs.change.write_fork.Goals as goal

pub returns-in-Some-clause-holders : goal.returns-in-Some-clause-holders
returns-in-Some-clause-holders g c =
    let rs = by_bytes c.args.parts.now.replications.entries in
    let written = c.args.rows.items in
    let at : named rs c.args.name.now ≡ Some c.in-Some.replication.now = sym c.in-Some.ensures in
    let some : 0 < length written = first_of (search rules, grind (arith, common_steps)) in
    let touched : exchange_touch c.args.lwt written c.args.name.now rs
    ≡ new_rows c.as_str.result.now c.args.lwt written =
    touches_fork c.args.lwt written c.args.name.now rs c.in-Some.replication.now at some
    ∙ ap (λ (n : List ℕ). new_rows n c.args.lwt written) (sym c.as_str.ensures) in
    on_ok_weaker c.write.result
    (λ now. subst (λ (t : Touch). After g.H.Holder.held g.H.Holder.written (λ _ h. Unit {0}) t
    (by_bytes c.args.parts.now.holders.entries) (by_bytes c.write.new.holders.entries))
    (sym touched) now)
    c.write.ensures.holders
