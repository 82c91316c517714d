use Rattle.std.proofs.Common.{◌≡◌, ◌∙◌, List, ℕ, true, sym, subst, rules}
use Rattle.rx_collection.specs.Commit.{IsNext}
use Rattle.rx_world.specs.Copy.{is_copied_row, part_stored}
use Rattle.rx_world.proofs.Copied.{copied_next}
use Rattle.rx_world.proofs.copying.copy_row.Goals as goal

pub put-requires : goal.put-requires
put-requires c =
    let old = c.args.collection.now in
    let is : is_copied_row old c.args.row ≡ true = search rules in
    subst (λ (t : List ℕ). IsNext old (part_stored t c.args.row))
    (sym (c.in_ok-token.ensures ∙ c.name.ensures))
    (copied_next old c.args.row c.is_copied_row.ensures.lawful is)
