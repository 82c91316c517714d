use Rattle.std.proofs.Common.{◌≡◌, ◌∙◌, ◌+◌, ◌++◌, ℕ, suc, List, ap, arith, drop, length, map, set, take}
use Rattle.rx_document.specs.declared.stored.Stored.{Stored}
use Rattle.rx_collection.specs.Migrated.{stored_after}
use Rattle.rx_collection.proofs.Migrated.{length_set, row_turn, set_twice}
use Rattle.rx_collection.proofs.migrating.migrate_rows.Goals as goal

pub loop-slot-preserved : goal.loop-slot-preserved
loop-slot-preserved c =
    let f : Stored → Stored = stored_after c.args.steps.now in
    let rows = c.loop-slot.rows in
    let s = c.loop-slot.slot in
    let d = c.replace-old.result in
    let is : c.replace-back.new.self ≡ set rows s (f d) =
    c.replace-back.ensures.new
    ∙ ap (λ (x : Stored). set c.replace-old.new.self s x) c.in_ok-new.ensures
    ∙ ap (λ (xs : List Stored). set xs s (f d)) c.replace-old.ensures.new
    ∙ set_twice rows s c.loop-slot.spare (f d) in
    let one : s + 1 ≡ suc s = omega arith in
    record {
      turned = ap (λ (xs : List Stored). take (s + 1) xs ++ map f (drop (s + 1) xs)) is
          ∙ ap (λ (n : ℕ). take n (set rows s (f d)) ++ map f (drop n (set rows s (f d)))) one
          ∙ row_turn f rows s d c.replace-old.ensures.old ∙ c.loop-slot.invariant.turned;
      same = ap (λ (xs : List Stored). length xs) is ∙ length_set rows s (f d)
          ∙ c.loop-slot.invariant.same;
    }
