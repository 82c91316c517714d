use Rattle.std.proofs.Common.{◌≡◌, subst, arith}
use Rattle.rx_engine.specs.Opening.{host_with}
use Rattle.rx_handler.specs.Shown.{kinds_of}
use Rattle.rx_update.specs.Hooks.{HookKinds}
use Rattle.rx_update.specs.Shown.{hook_kinds}
use Rattle.rx_words.specs.Words.{command_of}
use Rattle.rx_top.specs.Known.{known_hooks}
use Rattle.rx_top.specs.Program.{Plays, reach}
use Rattle.rx_top.proofs.known.with_hooks.Goals as goal

-- What holds of the hooks that were made holds of those that are known.
pub returns-clause-ok : goal.returns-clause-ok
unfolding known_hooks
returns-clause-ok g c =
    let whole : c.loop-name.name-index ≡ 3 = omega arith in
    let all : hook_kinds c.loop-name.hooks ≡ known_hooks = rw whole at c.loop-name.invariant in
    subst (λ (hooks : HookKinds).
    Plays g.S.Source g.K.Sink g.D.Disk g.L.Listen g.L.W.Wire.tells g.N.Dial g.N.W.Wire.tells
    g.C.Clock g.E.Disk (host_with (kinds_of c.args.handlers.now) hooks) c.rx.result
    c.args.out.now c.rx.new.out
    (reach c.args.source.now c.args.disk.now c.args.door.now c.args.dial.now c.args.clock.now
    c.args.copy.now)
    (reach c.rx.new.source c.rx.new.disk c.rx.new.door c.rx.new.dial c.rx.new.clock
    c.rx.new.copy)
    (command_of c.args.words.now.words.items))
    all c.rx.ensures
