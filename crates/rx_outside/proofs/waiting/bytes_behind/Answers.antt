use Rattle.rx_outside.proofs.Feeds.{behind, ends_nowhere, ends_one}
use Rattle.rx_outside.proofs.waiting.bytes_behind.Goals as goal

pub returns-in-Some-clause-some : goal.returns-in-Some-clause-some
returns-in-Some-clause-some c = λ front rest is none.
    behind c.args.bytes.now front rest c.in-Some.at c.in-Some.ensures is none

pub returns-in-Some-clause-one : goal.returns-in-Some-clause-one
returns-in-Some-clause-one c = λ none.
    ends_one c.args.bytes.now c.in-Some.at c.in-Some.ensures.0.high c.in-Some.ensures.1 none

pub returns-in-None-clause-none : goal.returns-in-None-clause-none
returns-in-None-clause-none c = ends_nowhere c.args.bytes.now c.in-None.ensures
