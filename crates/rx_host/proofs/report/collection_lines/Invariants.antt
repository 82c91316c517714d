use Rattle.std.proofs.Common.{◌≡◌, ◌++◌, drop, string_bytes}
use Rattle.rx_host.specs.Report.{collection_lines}
use Rattle.rx_host.specs.Worlds.{world_of}
use Rattle.rx_host.proofs.report.collection_lines.Given as goal

-- the lines so far, before those of the collections that are left, are those that are due
abbrev pub invariant-loop-i : goal.invariant-loop-i
invariant-loop-i l =
    let cs = (world_of l.world).collections in
    collection_lines cs ≡ string_bytes l.text ++ collection_lines (drop l.i cs)
