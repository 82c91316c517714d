use Rattle.std.proofs.Common.{◌∙◌, List, ℕ, arith, rules, sym, subst, true≢false}
use Rattle.rx_journal.specs.Windows.{WillLend, version_of}
use Rattle.rx_world.specs.Holders.{world_in}
use Rattle.rx_store.specs.Versions.{replay_in}
use Rattle.rx_store.proofs.Opened.{some_is_not_none}
use Rattle.rx_store.proofs.Seen.{is_legal, is_shown, is_sound}
use Rattle.rx_store.proofs.Playing.{read_on}
use Rattle.rx_store.proofs.Stops.{ok_cause, refused_cause}
use Rattle.rx_store.proofs.Versions.{plays_told}
use Rattle.rx_store.proofs.looking.look.Goals as goal

-- a legal file's bodies make a world
pub returns-in_err-replayed-clause-not_journal : goal.returns-in_err-replayed-clause-not_journal
returns-in_err-replayed-clause-not_journal g c told is bodies w lawful =
    let file = g.D.Disk.content c.args.disk.now in
    let version = version_of c.in-Ok.windows in
    let will = subst (λ (l : List ℕ). WillLend l c.in-Ok.windows bodies)
    (sym (c.in-Ok.ensures.untouched told).same)
    ((c.in-Ok.ensures.shown told).to_come bodies lawful.stands lawful.short) in
    some_is_not_none (replay_in version bodies) w
    (plays_told file version bodies (c.in-Ok.ensures.version told) ∙ lawful.plays)
    (c.in_err-replayed.ensures.not_journal told (search rules) bodies will)

pub returns-then-not-sound-clause-not_journal : goal.returns-then-not-sound-clause-not_journal
returns-then-not-sound-clause-not_journal g c told is bodies w lawful =
    let file = g.D.Disk.content c.args.disk.now in
    let r = c.in_ok-replayed.ensures.counted told in
    let will = subst (λ (l : List ℕ). WillLend l c.in-Ok.windows r.0)
    (c.in-Ok.ensures.untouched told).same r.1 in
    let sound = is_sound file c.in-Ok.windows (c.in-Ok.ensures.shown told)
    (c.in-Ok.ensures.version told) r.0 will
    (world_in g.H.Holder.held c.in_ok-replayed.replayed.world) c.in_ok-replayed.replayed.records
    c.in_ok-replayed.replayed.bytes r.2 bodies w lawful in
    absurd (true≢false (sym (c.sound.ensures.1 sound) ∙ c.if-not-sound.true))

pub returns-then-not-sound-clause-untouched : goal.returns-then-not-sound-clause-untouched
returns-then-not-sound-clause-untouched g c told =
    read_on g.D.Disk c.args.disk.now c.look.new.disk c.replay.new.disk
    (c.in-Ok.ensures.untouched told) (c.replay.ensures.untouched told)

pub returns-clause-shown : goal.returns-clause-shown
returns-clause-shown g c told bodies w lawful =
    let file = g.D.Disk.content c.args.disk.now in
    let r = c.in_ok-replayed.ensures.counted told in
    let will = subst (λ (l : List ℕ). WillLend l c.in-Ok.windows r.0)
    (c.in-Ok.ensures.untouched told).same r.1 in
    is_shown file c.in-Ok.windows (c.in-Ok.ensures.shown told)
    (c.in-Ok.ensures.version told) r.0 will
    (world_in g.H.Holder.held c.in_ok-replayed.replayed.world) c.in_ok-replayed.replayed.records
    c.in_ok-replayed.replayed.bytes r.2 bodies w lawful

pub returns-clause-stood : goal.returns-clause-stood
returns-clause-stood g c told =
    let file = g.D.Disk.content c.args.disk.now in
    let world = world_in g.H.Holder.held c.in_ok-replayed.replayed.world in
    let r = c.in_ok-replayed.ensures.counted told in
    let will = subst (λ (l : List ℕ). WillLend l c.in-Ok.windows r.0)
    (c.in-Ok.ensures.untouched told).same r.1 in (
      r.0,
      world,
      is_legal file c.in-Ok.windows (c.in-Ok.ensures.shown told)
          (c.in-Ok.ensures.version told) r.0 will world
          c.in_ok-replayed.replayed.records c.in_ok-replayed.replayed.bytes r.2
          (c.sound.ensures.0 c.if-not-sound.false),
    )

pub returns-clause-untouched : goal.returns-clause-untouched
returns-clause-untouched g c told =
    read_on g.D.Disk c.args.disk.now c.look.new.disk c.replay.new.disk
    (c.in-Ok.ensures.untouched told) (c.replay.ensures.untouched told)

-- a search for these takes long
pub returns-then-not-sound-clause-cause : goal.returns-then-not-sound-clause-cause
returns-then-not-sound-clause-cause g c =
    refused_cause _ _ (omega (arith, c.look.ensures.faults, c.replay.ensures.faults))

pub returns-clause-cause : goal.returns-clause-cause
returns-clause-cause g c =
    ok_cause _ _ (omega (arith, c.look.ensures.faults, c.replay.ensures.faults)) _

pub returns-in_err-replayed-clause-only_reads : goal.returns-in_err-replayed-clause-only_reads
returns-in_err-replayed-clause-only_reads g c told =
    c.replay.ensures.only_reads told ∙ c.in-Ok.ensures.only_reads told

pub returns-then-not-sound-clause-only_reads : goal.returns-then-not-sound-clause-only_reads
returns-then-not-sound-clause-only_reads g c told =
    c.replay.ensures.only_reads told ∙ c.in-Ok.ensures.only_reads told

pub returns-clause-only_reads : goal.returns-clause-only_reads
returns-clause-only_reads g c told =
    c.replay.ensures.only_reads told ∙ c.in-Ok.ensures.only_reads told
