use Rattle.std.proofs.Common.{◌≡◌, ◌++◌, Ok}
use Rattle.rx_collection.specs.declared.holder.Plain.{Plain}
use Rattle.rx_value.specs.Named.{by_bytes, by_name}
use Rattle.rx_world.specs.Holders.{AreMadeFor, AreWhole}
use Rattle.rx_world.proofs.holders.make_all.Given as goal

-- the holders that are made hold the first collections, and the others are to come
abbrev pub invariant-loop-entry : goal.invariant-loop-entry
invariant-loop-entry g l = record {
  held : by_name g.H.Holder.held l.all.entries
      ++ by_name (λ (p : Plain). p.collection) l.entry-iterator
      ≡ by_name (λ (p : Plain). p.collection) l.fn.plain.entries;
  whole : AreWhole g.H.Holder.held g.H.Holder.is_broken l.all.entries;
  left : AreWhole (λ (p : Plain). p.collection) (λ (p : Plain). p.broken) l.entry-iterator;
  made : AreMadeFor (λ c h. g.F.Fn.post l.make (c, tt) (Ok h)) (by_bytes l.all.entries);
}
