use Rattle.std.proofs.Common.{◌∙◌, ◌||◌, ap, sym, subst}
use Rattle.std.specs.Vec.Iter.{into_iter_items}
use Rattle.rx_index.specs.Index.{has_key}
use Rattle.rx_index.specs.Packed.{AreKeys, positions}
use Rattle.rx_index.proofs.Keys.{added_over}
use Rattle.rx_index.proofs.filled.add_all.Goals as goal

pub add-requires : goal.add-requires
add-requires c =
    (subst AreKeys c.in-Some.ensures.steps.0 c.loop-entry.invariant.keys).0

pub loop-entry-preserved : goal.loop-entry-preserved
loop-entry-preserved c =
    let inv = c.loop-entry.invariant in
    let left = into_iter_items c.next.new.self in
    let steps = c.in-Some.ensures.steps.0 in
    record {
      fields = c.add.ensures.fields ∙ inv.fields;
      keys = (subst AreKeys steps inv.keys).1;
      had = λ k.
          ap (λ b. b || has_key (positions left) k) (c.in_ok-add.ensures.ok k)
          ∙ added_over c.loop-entry.index.keys c.in-Some.entry.0 c.in-Some.entry.1 left k
          ∙ ap (λ es. has_key c.loop-entry.index.keys k || has_key (positions es) k) (sym steps)
          ∙ inv.had k;
    }
