use Rattle.std.proofs.Common.{◌≡◌, Some, subst, rules}
use Rattle.rx_words.proofs.Granted.{HasLimit, granted}
use Rattle.rx_words.specs.Words.{command_of}
use Rattle.rx_top.proofs.top.rx.Goals as goal

pub run-requires-clause-low : goal.run-requires-clause-low
run-requires-clause-low g c =
    let is : command_of c.args.words.now.words.items ≡ Some c.in-Ok-Some.command = search rules in
    (subst HasLimit c.in-Run.is (granted c.args.words.now.words.items c.in-Ok-Some.command is)).0

pub run-requires-clause-high : goal.run-requires-clause-high
run-requires-clause-high g c =
    let is : command_of c.args.words.now.words.items ≡ Some c.in-Ok-Some.command = search rules in
    (subst HasLimit c.in-Run.is (granted c.args.words.now.words.items c.in-Ok-Some.command is)).1

pub serve-requires-clause-low : goal.serve-requires-clause-low
serve-requires-clause-low g c =
    let is : command_of c.args.words.now.words.items ≡ Some c.in-Ok-Some.command = search rules in
    (subst HasLimit c.in-Serve.is (granted c.args.words.now.words.items c.in-Ok-Some.command is)).0

pub serve-requires-clause-high : goal.serve-requires-clause-high
serve-requires-clause-high g c =
    let is : command_of c.args.words.now.words.items ≡ Some c.in-Ok-Some.command = search rules in
    (subst HasLimit c.in-Serve.is (granted c.args.words.now.words.items c.in-Ok-Some.command is)).1

pub trial-requires-clause-low : goal.trial-requires-clause-low
trial-requires-clause-low g c =
    let is : command_of c.args.words.now.words.items ≡ Some c.in-Ok-Some.command = search rules in
    (subst HasLimit c.in-Trial.is (granted c.args.words.now.words.items c.in-Ok-Some.command is)).0

pub trial-requires-clause-high : goal.trial-requires-clause-high
trial-requires-clause-high g c =
    let is : command_of c.args.words.now.words.items ≡ Some c.in-Ok-Some.command = search rules in
    (subst HasLimit c.in-Trial.is (granted c.args.words.now.words.items c.in-Ok-Some.command is)).1

pub compact-requires-clause-low : goal.compact-requires-clause-low
compact-requires-clause-low g c =
    let is : command_of c.args.words.now.words.items ≡ Some c.in-Ok-Some.command = search rules in
    (subst HasLimit c.in-Compact.is
    (granted c.args.words.now.words.items c.in-Ok-Some.command is)).0

pub compact-requires-clause-high : goal.compact-requires-clause-high
compact-requires-clause-high g c =
    let is : command_of c.args.words.now.words.items ≡ Some c.in-Ok-Some.command = search rules in
    (subst HasLimit c.in-Compact.is
    (granted c.args.words.now.words.items c.in-Ok-Some.command is)).1
