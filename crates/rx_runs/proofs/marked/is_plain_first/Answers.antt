use Rattle.std.proofs.Common.{◌∙◌, ap, sym}
use Rattle.std.specs.Map.Iter.{deref_pair}
use Rattle.std.specs.Ordering.{is_lt}
use Rattle.rx_value.specs.Order.{text_cmp}
use Rattle.rx_runs.proofs.Sides.{decided, first_alone_there}
use Rattle.rx_runs.proofs.marked.is_plain_first.Goals as goal

pub returns-in_default-clause-yes : goal.returns-in_default-clause-yes
returns-in_default-clause-yes c = λ _.
    first_alone_there c.args.plain.now c.args.marked.now c.in_default.ensures

pub returns-in_default-at-clause-no : goal.returns-in_default-at-clause-no
returns-in_default-at-clause-no c = λ _.
    first_alone_there c.args.marked.now c.args.plain.now c.in_default-at.ensures

pub returns-clause-yes : goal.returns-clause-yes
returns-clause-yes c = λ yes.
    let e = deref_pair c.in-Some-at.plain in
    let f = deref_pair c.in-Some.marked in
    let test = c.is_lt.ensures
    ∙ ap is_lt (c.compare.ensures ∙ ap (text_cmp e.0) c.as_bytes.ensures) in
    (decided c.args.plain.now c.args.marked.now e f c.requires.plain c.requires.marked
    c.requires.apart c.in-Some-at.ensures c.in-Some.ensures).0 (sym test ∙ yes)

pub returns-clause-no : goal.returns-clause-no
returns-clause-no c = λ no.
    let e = deref_pair c.in-Some-at.plain in
    let f = deref_pair c.in-Some.marked in
    let test = c.is_lt.ensures
    ∙ ap is_lt (c.compare.ensures ∙ ap (text_cmp e.0) c.as_bytes.ensures) in
    (decided c.args.plain.now c.args.marked.now e f c.requires.plain c.requires.marked
    c.requires.apart c.in-Some-at.ensures c.in-Some.ensures).1 (sym test ∙ no)
