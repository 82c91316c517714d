use Rattle.std.proofs.Common.{◌≡◌, subst, Some}
use Rattle.rx_value.specs.Named.{named}
use Rattle.rx_world.specs.Holders.{holders_in}
use Rattle.rx_world.proofs.world.World.edit.Goals as goal

pub edit-requires-clause-keeps : goal.edit-requires-clause-keeps
edit-requires-clause-keeps g c = λ x at whole.
    c.requires.keeps x
    (subst (λ w. named (holders_in w) c.args.name.now ≡ Some x) c.self.view_is at) whole

pub edit-requires-clause-unbroken : goal.edit-requires-clause-unbroken
edit-requires-clause-unbroken g c = λ x at whole.
    c.requires.unbroken x
    (subst (λ w. named (holders_in w) c.args.name.now ≡ Some x) c.self.view_is at) whole
