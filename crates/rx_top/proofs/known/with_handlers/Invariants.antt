use Rattle.std.specs.Prelude.{◌≡◌, take, map}
use Rattle.rx_handler.specs.Shown.{kinds_of}
use Rattle.rx_top.proofs.known.with_handlers.Given as goal

abbrev pub invariant-loop-name : goal.invariant-loop-name
invariant-loop-name g l =
    kinds_of l.handlers ≡ map (λ e. (e.0.now, e.1)) (take l.name-index l.name-items)
