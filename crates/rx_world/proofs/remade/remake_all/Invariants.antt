use Rattle.std.proofs.Common.{◌≡◌, Ok, true}
use Rattle.rx_value.specs.Named.{by_bytes, by_name}
use Rattle.rx_world.specs.Holders.{AreWhole}
use Rattle.rx_world.specs.Migrating.{collections_migrate, is_in_group}
use Rattle.rx_world.proofs.Regrouped.{AreSoFar}
use Rattle.rx_world.proofs.remade.remake_all.Given as goal

-- the holders so far are made anew and whole, and those to come are whole and migrate
abbrev pub invariant-loop-entry : goal.invariant-loop-entry
invariant-loop-entry g l = record {
  made : AreSoFar g.H.Holder.held (λ c h. g.F.Fn.post l.make (c, tt) (Ok h))
      (is_in_group (by_bytes l.replications.entries) l.name) l.schema l.steps
      (by_bytes l.fn.holders.entries) (by_bytes l.all.entries) (by_bytes l.entry-iterator);
  whole : AreWhole g.H.Holder.held g.H.Holder.is_broken l.all.entries;
  left : AreWhole g.H.Holder.held g.H.Holder.is_broken l.entry-iterator;
  may : collections_migrate (is_in_group (by_bytes l.replications.entries) l.name) l.schema l.steps
      (by_name g.H.Holder.held l.entry-iterator) ≡ true;
}
