use Rattle.std.proofs.Common.{◌≡◌, map, true, Some, rules}
use Rattle.rx_value.specs.Named.{named}
use Rattle.rx_collection.specs.Commit.{rows_of}
use Rattle.rx_collection.specs.Time.{stamp}
use Rattle.rx_collection.proofs.Commits.{stamped}
use Rattle.rx_record.specs.Content.{Content, rows}
use Rattle.rx_record.specs.Writable.{IsOrdered}
use Rattle.rx_world.specs.Commit.{out_of}
use Rattle.rx_world.specs.Step.{legal}
use Rattle.rx_world.specs.World.{World}
use Rattle.rx_world.proofs.Commits.{IsFit, fit_at}
use Rattle.rx_world.proofs.Sounds.{sound_step}
use Rattle.rx_world.proofs.rows.commit.Goals as goal

-- the rows of the record fit the collection
fits : (c : goal.In_ok-rows_out) → IsFit c.args.collection.now
    (rows c.args.collection.now.name c.in-Some.lwt
    (map out_of (rows_of c.args.collection.now c.args.states.items c.in-Some.lwt)))
fits c =
    let coll = c.args.collection.now in
    let at : stamp coll.documents c.args.now ≡ Some c.in-Some.lwt = search rules in
    fit_at coll c.args.states.items c.in-Some.lwt
    (stamped coll c.args.now c.in-Some.lwt c.stamp.ensures.lawful at) c.requires.some
    c.requires.valid

-- what the record says
abbrev said : goal.In_ok-rows_out → Content
said c = rows c.in_ok-copy.field-0 c.in-Some.lwt c.in_ok-rows_out.field-0.items

legal_then : (c : goal.In_ok-rows_out) (w : World)
    → named w.collections c.args.collection.now.name ≡ Some c.args.collection.now
    → legal (said c) w ≡ true
legal_then c w held =
    let same : c.in_ok-copy.field-0 ≡ c.args.collection.now.name = search rules in
    let written : c.in_ok-rows_out.field-0.items
    ≡ map out_of (rows_of c.args.collection.now c.args.states.items c.in-Some.lwt) = search rules in
    rw (same, written) ((fits c).legal w held)

ordered_then : (c : goal.In_ok-rows_out) → IsOrdered (said c)
ordered_then c =
    let written : c.in_ok-rows_out.field-0.items
    ≡ map out_of (rows_of c.args.collection.now c.args.states.items c.in-Some.lwt) = search rules in
    rw written (fits c).ordered

pub returns-clause-legal : goal.returns-clause-legal
returns-clause-legal = legal_then

pub returns-clause-ordered : goal.returns-clause-ordered
returns-clause-ordered = ordered_then

pub returns-clause-sound : goal.returns-clause-sound
returns-clause-sound c = λ w made held sound.
    sound_step (said c) w (legal_then c w held) (ordered_then c) tt made sound
