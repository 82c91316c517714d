use Rattle.std.proofs.Common.{◌≡◌, ◌∙◌, ◌+◌, ◌&&◌, Bool, true, ap, drop, sym}
use Rattle.std.specs.List.{list_all}
use Rattle.rx_value.specs.Fields.{Pair}
use Rattle.rx_value.proofs.Lists.{drop_at}
use Rattle.rx_migrate.specs.Sure.{is_within}
use Rattle.rx_migrate.proofs.sure.are_within.Goals as goal

pub loop-i-preserved : goal.loop-i-preserved
loop-i-preserved c =
    let W : Pair → Bool = λ p. is_within c.args.most p.1 in
    let fields = c.args.fields.now in
    let i = c.loop-i.i in
    let v = c.at.result.1.now in
    let near : is_within c.args.most v ≡ true =
    sym c.is_within.ensures ∙ c.if-not-is_within.false in
    sym (ap (λ b. b && list_all W (drop (i + 1) fields)) near)
    ∙ sym (ap (list_all W) (drop_at fields i (c.at.result.0.now, v) c.at.ensures))
    ∙ c.loop-i.invariant
