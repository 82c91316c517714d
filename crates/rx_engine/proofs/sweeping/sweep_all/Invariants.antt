use Rattle.rx_handler.specs.Shown.{kinds_of}
use Rattle.rx_sync.specs.Sweep.{sweep}
use Rattle.rx_value.specs.Named.{by_bytes}
use Rattle.rx_engine.specs.Sweeps.{sweep_terms}
use Rattle.rx_engine.proofs.SweepSteps.{IsSweeping}
use Rattle.rx_engine.proofs.sweeping.sweep_all.Given as goal

-- so many turns were made, and the sweep is these and the rest of it
abbrev pub invariant-loop-step : goal.invariant-loop-step
invariant-loop-step g l =
    let kinds = kinds_of l.handlers in
    IsSweeping kinds l.wanted.batch l.wanted.budget l.now l.fn.first l.step-items
    (sweep (sweep_terms l.wanted.batch l.wanted.budget l.now kinds) l.step-items
    l.fn.first.playing.world (by_bytes l.fn.remembered.asks.entries)) l.step-index
    l.play l.remembered l.turns
