use Rattle.std.proofs.Common.{[], ◌∷◌, rules}
use Rattle.rx_host.specs.Laws.{ticks_none}
use Rattle.rx_host.proofs.Ends.{gives_one}
use Rattle.rx_host.proofs.host.moment.Goals as goal

pub returns-in-Push-clause-ticks : goal.returns-in-Push-clause-ticks
returns-in-Push-clause-ticks g c = record {
  joined = c.now-now.result ∷ [];
  more = search rules;
  of_clock = λ told.
      gives_one (g.C.Clock.given c.args.clock.now) (g.C.Clock.given c.now-now.new.self)
      c.now-now.result (c.now-now.ensures.gives told);
}

pub returns-in-Pull-clause-ticks : goal.returns-in-Pull-clause-ticks
returns-in-Pull-clause-ticks g c =
    ticks_none g.C.Clock.tells (g.C.Clock.given c.args.clock.now) c.args.moments.now.items
