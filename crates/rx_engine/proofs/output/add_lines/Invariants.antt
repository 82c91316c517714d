use Rattle.std.proofs.Common.{◌≡◌, ◌++◌, drop, string_bytes}
use Rattle.rx_engine.specs.Meaning.{lines_of}
use Rattle.rx_engine.proofs.output.add_lines.Given as goal

-- with the lines to come it is what it shall be
abbrev pub invariant-loop-emission : goal.invariant-loop-emission
invariant-loop-emission l =
    string_bytes l.text ++ lines_of (drop l.emission-index l.emissions)
    ≡ string_bytes l.initial.text ++ lines_of l.emissions
