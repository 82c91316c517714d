use Rattle.std.proofs.Common.{◌∙◌, eqb-true, length, sym}
use Rattle.rx_collection.proofs.Hinted.{walk_cut, walk_none}
use Rattle.rx_collection.proofs.hints.walk.Goals as goal

pub returns-then-is_empty : goal.returns-then-is_empty
returns-then-is_empty c = walk_none c.args.places.now c.args.hash
    (eqb-true (length c.args.places.now) 0 (sym c.is_empty.ensures ∙ c.if-is_empty.true))

pub returns : goal.returns
returns c =
    walk_cut c.args.places.now c.args.hash c.min.result c.start_of.result c.start_of.ensures.value
    c.min.ensures
