use Rattle.std.proofs.Common.{◌<◌, ◌+◌, ◌∙◌, ◌++◌, ◌∷◌, [], List, ap, length, length-append, subst, sym}
use Rattle.rx_document.specs.declared.stored.Stored.{Stored}
use Rattle.rx_runs.proofs.InSlots.{named_slot}
use Rattle.rx_collection.specs.Hints.{AreHinted, AreKnown}
use Rattle.rx_collection.proofs.Hinted.{hinted_before, known_old}
use Rattle.rx_runs.specs.Marked.{all_slots}
use Rattle.rx_collection.proofs.log.write.Goals as goal

pub replace-old-requires : goal.replace-old-requires
replace-old-requires c =
    named_slot (λ s. s < length c.args.rows.now) (all_slots c.args.names.now) c.args.row.state.key
    c.in-Some.slot c.requires.slots.within (sym c.in-Some.ensures)

pub returns-in_ok-turn-in-Some-clause-known : goal.returns-in_ok-turn-in-Some-clause-known
returns-in_ok-turn-in-Some-clause-known c =
    subst (AreKnown c.args.hints.now) (sym c.replace-old.ensures.new)
    (known_old c.args.hints.now c.args.rows.now (all_slots c.args.names.now) c.in-Some.slot c.args.row
    c.requires.slots c.requires.keyed (sym c.in-Some.ensures) c.requires.known)

pub note-requires : goal.note-requires
note-requires c =
    let rows = c.args.rows.now in
    let more = c.in_ok-slot-in-None.ensures in
    record {
      last = ap length more.rows ∙ length-append rows (c.args.row ∷ [])
          ∙ ap (λ n. n + 1) (sym more.slot);
      known = λ whole.
          subst (λ (ds : List Stored).
          AreHinted c.args.hints.now.places.items ds c.in_ok-slot-in-None.slot)
          (sym more.rows)
          (subst (AreHinted c.args.hints.now.places.items (rows ++ c.args.row ∷ [])) (sym more.slot)
          (hinted_before c.args.hints.now.places.items rows c.args.row
          (c.requires.known.placed whole)));
    }
