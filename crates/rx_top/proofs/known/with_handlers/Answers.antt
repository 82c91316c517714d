use Rattle.std.proofs.Common.{◌≡◌, subst, arith}
use Rattle.rx_engine.specs.Opening.{host_with}
use Rattle.rx_handler.specs.Handlers.{Kinds}
use Rattle.rx_handler.specs.Shown.{kinds_of}
use Rattle.rx_words.specs.Words.{command_of}
use Rattle.rx_top.specs.Known.{known_handlers, known_hooks}
use Rattle.rx_top.specs.Program.{Plays, reach}
use Rattle.rx_top.proofs.known.with_handlers.Goals as goal

-- What holds of the handlers that were made holds of those that are known.
pub returns-in-Ok-with_hooks-clause-ok : goal.returns-in-Ok-with_hooks-clause-ok
unfolding known_handlers
returns-in-Ok-with_hooks-clause-ok g c =
    let whole : c.loop-name.name-index ≡ 4 = omega arith in
    let all : kinds_of c.loop-name.handlers ≡ known_handlers = rw whole at c.loop-name.invariant in
    subst (λ (kinds : Kinds).
    Plays g.S.Source g.K.Sink g.D.Disk g.L.Listen g.L.W.Wire.tells g.N.Dial g.N.W.Wire.tells
    g.C.Clock g.E.Disk (host_with kinds known_hooks) c.in-Ok-with_hooks.status
    c.args.out.now c.with_hooks.new.out
    (reach c.args.source.now c.args.disk.now c.args.door.now c.args.dial.now c.args.clock.now
    c.args.copy.now)
    (reach c.with_hooks.new.source c.with_hooks.new.disk c.with_hooks.new.door
    c.with_hooks.new.dial c.with_hooks.new.clock c.with_hooks.new.copy)
    (command_of c.args.words.now.words.items))
    all c.in-Ok-with_hooks.ensures.ok
