use Rattle.std.proofs.Common.{map}
use Rattle.std.specs.Vec.Iter.{into_iter_items}
use Rattle.rx_record.specs.Shown.{content}
use Rattle.rx_engine.proofs.Staging.{IsStaging}
use Rattle.rx_engine.proofs.play.Play.stage_all.Given as goal

-- the records so far are staged, and the others are to be
abbrev pub invariant-loop-entry : goal.invariant-loop-entry
invariant-loop-entry l =
    IsStaging l.fn.self (map content l.fn.entries.items) l.play
    (map content (into_iter_items l.entry-iterator))
