use Rattle.std.proofs.Common.{◌≡◌, ◌∙◌, ◌-◌, ap, sym, take, option_map, Some, None, arith}
use Rattle.rx_value.specs.Named.{named}
use Rattle.rx_wire.specs.declared.message.PushRow.{PushRow}
use Rattle.rx_replication.specs.Taking.{place_or, pushed_place}
use Rattle.rx_fork.proofs.Pushes.{one_back, place_at}
use Rattle.rx_fork.proofs.pushed.pushed_place.Goals as goal

pub returns-in-Some : goal.returns-in-Some
returns-in-Some c =
    let fork = c.args.collection.now.documents in
    let up = option_map (λ p. p.now) c.args.up in
    let row = c.index-rows-i.result in
    let held = c.in-Some.held.now in
    let there : named fork row.new.key ≡ Some held =
    ap (λ (r : PushRow). named fork r.new.key) c.index-rows-i.is
    ∙ ap (named fork) (sym c.as_str.ensures) ∙ sym c.in-Some.ensures.value in
    ap (place_at held.lwt) c.in_ok-copy.ensures
    ∙ sym (one_back fork up c.args.rows.now c.loop-i.i row (omega arith) (omega arith)
    c.index-rows-i.is
    ∙ ap (place_or (pushed_place fork up (take (c.loop-i.i - 1) c.args.rows.now))) there)
    ∙ c.loop-i.invariant

pub loop-i-preserved : goal.loop-i-preserved
loop-i-preserved c =
    let fork = c.args.collection.now.documents in
    let up = option_map (λ p. p.now) c.args.up in
    let row = c.index-rows-i.result in
    let none : named fork row.new.key ≡ None =
    ap (λ (r : PushRow). named fork r.new.key) c.index-rows-i.is
    ∙ ap (named fork) (sym c.as_str.ensures) ∙ sym c.in_default.ensures.value in
    sym (one_back fork up c.args.rows.now c.loop-i.i row (omega arith) (omega arith)
    c.index-rows-i.is
    ∙ ap (place_or (pushed_place fork up (take (c.loop-i.i - 1) c.args.rows.now))) none)
    ∙ c.loop-i.invariant
