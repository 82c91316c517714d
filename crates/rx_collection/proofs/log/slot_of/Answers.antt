use Rattle.std.proofs.Common.{◌∙◌, ap, sym}
use Rattle.rx_value.specs.Named.{named}
use Rattle.rx_collection.proofs.Hinted.{no_name}
use Rattle.rx_runs.specs.Marked.{all_slots}
use Rattle.rx_collection.proofs.log.slot_of.Goals as goal

-- the document that was found has the key
pub returns-in-Some : goal.returns-in-Some
returns-in-Some c =
    let held = c.in-Some.ensures.some in
    sym (ap (named (all_slots c.args.names.now)) (sym held.keyed)
    ∙ c.requires.keyed c.in-Some.slot held.row held.there)

-- and no document has it where a whole table gives none
pub returns-in-None : goal.returns-in-None
returns-in-None c =
    let known = c.requires.known.placed (sym c.is_whole.ensures ∙ c.if-is_whole.true) in
    sym (no_name c.args.rows.now (all_slots c.args.names.now) c.args.key.now c.requires.slots c.requires.keyed
    (c.in-None.ensures.none known))
