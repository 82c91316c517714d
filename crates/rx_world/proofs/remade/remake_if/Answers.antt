use Rattle.std.proofs.Common.{sym, subst₂}
use Rattle.rx_schema.specs.declared.shape.Shape.{Shape}
use Rattle.rx_collection.specs.Held.{Held}
use Rattle.rx_collection.specs.Migrated.{CarryAfter}
use Rattle.rx_world.proofs.Migrates.{docs_carry}
use Rattle.rx_world.proofs.remade.remake_if.Goals as goal

pub migrated-requires : goal.migrated-requires
migrated-requires g c =
    let old = g.H.Holder.held c.args.old in
    subst₂ (λ (s : Shape) (x : Held). CarryAfter s c.args.steps.now x.documents)
    (sym c.in_ok-schema.ensures) (sym c.into_collection.ensures)
    (docs_carry c.args.schema.now c.args.steps.now old.documents
    (c.requires.migrates c.if-not-in_group.false))
