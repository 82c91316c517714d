use Rattle.std.proofs.Common.{◌≡◌, rules, Bor, IfOk, map, sym, subst}
use Rattle.std.specs.Map.{values_of}
use Rattle.rx_document.specs.declared.stored.Stored.{Stored}
use Rattle.rx_query.specs.QuerySpec.{asked}
use Rattle.rx_query.specs.Result.{AreKeyed, result_of}
use Rattle.rx_observe.proofs.Fresh.{keyed_for}
use Rattle.rx_observe.proofs.full.find_in.Goals as goal

pub scratch-requires : goal.scratch-requires
scratch-requires c =
    let held = c.args.collection.now in
    let primary = c.args.query.now.primary in
    let all : map (λ (d : Bor Stored). d.now) c.as_slice.result.now ≡ values_of held.documents =
    search rules in
    subst (AreKeyed primary) (sym all)
    (keyed_for primary held c.requires.keyed c.all.ensures.lawful)

pub returns : goal.returns
returns c =
    let held = c.args.collection.now in
    let q = asked c.args.query.now in
    let lent = c.as_slice.result.now in
    let all : map (λ (d : Bor Stored). d.now) lent ≡ values_of held.documents = search rules in
    subst (λ docs. IfOk c.scratch.result (λ rows. map (λ (d : Bor Stored). d.now) rows.items
    ≡ result_of q docs)) all c.scratch.ensures
