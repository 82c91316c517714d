use Rattle.std.proofs.Common.{sym, rules, arith}
use Rattle.rx_words.proofs.NumberFacts.{no_number}
use Rattle.rx_words.proofs.number.number_within.Goals as goal

pub returns-in_default-2-clause-number : goal.returns-in_default-2-clause-number
returns-in_default-2-clause-number c =
    sym (no_number c.args.least c.args.most _ c.args.word.now c.parse.result c.in_default.field-0
    (omega arith)
    c.in_default.is c.parse.ensures.value.0 (search rules))
