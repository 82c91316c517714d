use Rattle.std.proofs.Common.{sym, subst}
use Rattle.rx_record.specs.Shown.{content}
use Rattle.rx_world.specs.Copy.{plain_world}
use Rattle.rx_world.specs.Holders.{holders_of}
use Rattle.rx_world.specs.Made.{IsMadeWorld}
use Rattle.rx_world.proofs.Copies.{made_copied}
use Rattle.rx_world.proofs.copying.copy.Goals as goal

-- the new world is one that records made
made : (c : goal.In_ok-copy_into) → IsMadeWorld (plain_world (holders_of c.copy_into.new.parts))
made c =
    subst IsMadeWorld (sym c.in_ok-copy_into.ensures.world)
    (made_copied (content c.args.entry) (plain_world (holders_of c.world.inside.parts))
    c.in_ok-copy_into.ensures.may c.requires.ordered c.world.invariant.made)

pub invariant_of-result : goal.invariant_of-result
invariant_of-result c = record { whole = c.in_ok-copy_into.ensures.whole; made = made c }

pub returns-clause-made : goal.returns-clause-made
returns-clause-made c = made c
