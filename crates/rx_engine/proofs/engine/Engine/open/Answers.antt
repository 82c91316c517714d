use Rattle.std.proofs.Common.{◌++◌, ◌∷◌, [], ◌∙◌, ap, sym, subst, rules}
use Rattle.rx_session.specs.Session.{Session}
use Rattle.rx_store.specs.Holds.{Holds}
use Rattle.rx_store.proofs.Crashes.{answered, same_stop}
use Rattle.rx_store.proofs.Stops.{ok_cause}
use Rattle.rx_world.specs.Made.{IsMadeWorld}
use Rattle.rx_world.specs.Sound.{IsSoundWorld}
use Rattle.rx_engine.specs.Engine.{IsAt, asks_in, session_of, standing_of}
use Rattle.rx_engine.specs.Marks.{AreMarked}
use Rattle.rx_engine.specs.Remembered.{AreRemembered}
use Rattle.rx_engine.specs.SoundSession.{SessionWithAsks}
use Rattle.rx_engine.proofs.Marking.{none_marked}
use Rattle.rx_engine.proofs.Meanings.{standing_same}
use Rattle.rx_engine.specs.Opening.{epoch_body, next_epoch, session_on, opened}
use Rattle.rx_engine.proofs.Opened.{not_begun, untouched}
use Rattle.rx_engine.proofs.engine.Engine.open.Goals as goal

pub returns-in_err-journal-clause-safe : goal.returns-in_err-journal-clause-safe
returns-in_err-journal-clause-safe g c told bodies w lawful =
    same_stop g.D.Disk c.args.disk.now c.open.new.disk bodies (epoch_body w ∷ []) c.args.limit _ _
    c.in_err-journal.field-0.0 c.from_residual-in_err-journal.result (search rules)
    (c.in_err-journal.ensures.safe told bodies w lawful)

pub new-sound-requires-clause-made : goal.new-sound-requires-clause-made
new-sound-requires-clause-made g c =
    subst IsMadeWorld (sym (ap (λ (x : Session). x.world) c.new-session.ensures))
    c.in_ok-journal.ensures.made

pub new-sound-requires-clause-sound : goal.new-sound-requires-clause-sound
new-sound-requires-clause-sound g c =
    subst IsSoundWorld (sym (ap (λ (x : Session). x.world) c.new-session.ensures))
    c.in_ok-journal.ensures.sound

pub new-sound-requires-clause-remembered : goal.new-sound-requires-clause-remembered
new-sound-requires-clause-remembered g c =
    subst (AreRemembered c.new-session.result.world) (sym (c.new-remembered.ensures.asks)) tt

pub new-sound-requires-clause-marked : goal.new-sound-requires-clause-marked
new-sound-requires-clause-marked g c =
    subst (AreMarked c.new-session.result.world) (sym c.new-remembered.ensures.marks)
    (none_marked _)

pub returns-clause-opened : goal.returns-clause-opened
unfolding session_of asks_in standing_of opened
returns-clause-opened g c told bodies w lawful kinds heard =
    standing_same kinds heard _ _ _ _
    (ap (λ (x : SessionWithAsks). x.session) c.new-sound.ensures ∙ c.new-session.ensures
    ∙ ap (session_on c.in_ok-known.known.items)
    (c.in_ok-journal.ensures.opened told bodies w lawful)
    ∙ ap (λ known. session_on known (next_epoch w)) c.in_ok-known.ensures)
    (ap (λ (x : SessionWithAsks). x.asks) c.new-sound.ensures
    ∙ c.new-remembered.ensures.asks)

pub returns-clause-begun : goal.returns-clause-begun
unfolding session_of asks_in standing_of opened
returns-clause-begun g c =
    let begun = c.in_ok-journal.ensures.begun in (
      begun.0,
      λ kinds heard. standing_same kinds heard _ _ _ _
          (ap (λ (x : SessionWithAsks). x.session) c.new-sound.ensures ∙ c.new-session.ensures
          ∙ ap (session_on c.in_ok-known.known.items) begun.1
          ∙ ap (λ known. session_on known (next_epoch begun.0)) c.in_ok-known.ensures)
          (ap (λ (x : SessionWithAsks). x.asks) c.new-sound.ensures
          ∙ c.new-remembered.ensures.asks),
    )

pub returns-clause-safe : goal.returns-clause-safe
unfolding session_of opened
returns-clause-safe g c told bodies w lawful =
    let session = ap (λ (x : SessionWithAsks). x.session) c.new-sound.ensures
    ∙ c.new-session.ensures ∙ ap (session_on c.in_ok-known.known.items)
    (c.in_ok-journal.ensures.opened told bodies w lawful) in
    answered g.D.Disk c.args.disk.now c.open.new.disk bodies (epoch_body w ∷ []) c.args.limit _
    (IsAt g.D.Disk c.open.new.disk) _ _ (c.in_ok-journal.ensures.safe told bodies w lawful)
    (λ holds. subst (λ (s : Session). Holds g.D.Disk c.open.new.disk c.in_ok-journal.field-0.journal
    (bodies ++ epoch_body w ∷ []) s.world) (sym session) holds)

pub returns-in_err-known-clause-safe : goal.returns-in_err-known-clause-safe
returns-in_err-known-clause-safe g c told bodies w lawful =
    not_begun g.D.Disk c.args.disk.now (λ left e. g.met.D.Disk.only_now c.args.disk.now left told e)
    bodies (epoch_body w ∷ []) w c.args.limit _ c.from_residual.result (search rules) lawful

pub returns-in_err-known-clause-illegal : goal.returns-in_err-known-clause-illegal
returns-in_err-known-clause-illegal g c told illegal =
    untouched g.D.Disk c.args.disk.now (λ left e. g.met.D.Disk.only_now c.args.disk.now left told e)

pub returns-in_err-built-clause-safe : goal.returns-in_err-built-clause-safe
returns-in_err-built-clause-safe g c told bodies w lawful =
    not_begun g.D.Disk c.args.disk.now (λ left e. g.met.D.Disk.only_now c.args.disk.now left told e)
    bodies (epoch_body w ∷ []) w c.args.limit _ c.from_residual-in_err-built.result
    (search rules) lawful

pub returns-in_err-built-clause-illegal : goal.returns-in_err-built-clause-illegal
returns-in_err-built-clause-illegal g c told illegal =
    untouched g.D.Disk c.args.disk.now (λ left e. g.met.D.Disk.only_now c.args.disk.now left told e)

pub returns-in_err-diagram-clause-safe : goal.returns-in_err-diagram-clause-safe
returns-in_err-diagram-clause-safe g c told bodies w lawful =
    not_begun g.D.Disk c.args.disk.now (λ left e. g.met.D.Disk.only_now c.args.disk.now left told e)
    bodies (epoch_body w ∷ []) w c.args.limit _ c.from_residual-in_err-diagram.result
    (search rules) lawful

pub returns-in_err-diagram-clause-illegal : goal.returns-in_err-diagram-clause-illegal
returns-in_err-diagram-clause-illegal g c told illegal =
    untouched g.D.Disk c.args.disk.now (λ left e. g.met.D.Disk.only_now c.args.disk.now left told e)

pub returns-in_err-share-clause-safe : goal.returns-in_err-share-clause-safe
returns-in_err-share-clause-safe g c told bodies w lawful =
    not_begun g.D.Disk c.args.disk.now (λ left e. g.met.D.Disk.only_now c.args.disk.now left told e)
    bodies (epoch_body w ∷ []) w c.args.limit _ c.from_residual-in_err-share.result
    (search rules) lawful

pub returns-in_err-share-clause-illegal : goal.returns-in_err-share-clause-illegal
returns-in_err-share-clause-illegal g c told illegal =
    untouched g.D.Disk c.args.disk.now (λ left e. g.met.D.Disk.only_now c.args.disk.now left told e)

pub returns-clause-cause : goal.returns-clause-cause
returns-clause-cause g c =
    ok_cause (g.D.Disk.faults c.args.disk.now) (g.D.Disk.faults c.open.new.disk)
    c.in_ok-journal.ensures.cause.later _
