use Rattle.std.proofs.Common.{◌≡◌, ℕ, [], ◌∷◌, ◌++◌, true, false, true≢false, Err, ◌∙◌, ap, sym, subst, rules}
use Rattle.rx_record.specs.Content.{epoch, content_bytes}
use Rattle.rx_session.specs.Doing.{restart, session_after}
use Rattle.rx_session.specs.Emissions.{emissions, settled_session}
use Rattle.rx_session.specs.Placed.{world_of}
use Rattle.rx_session.specs.Session.{Session}
use Rattle.rx_store.specs.Holds.{Holds}
use Rattle.rx_store.proofs.Crashes.{answered, ran_out, same_stop}
use Rattle.rx_store.proofs.Growing.{held_legal}
use Rattle.rx_world.specs.Made.{IsMadeWorld}
use Rattle.rx_world.specs.Sound.{IsSoundWorld}
use Rattle.rx_world.specs.Step.{step}
use Rattle.rx_engine.proofs.Keeping.{made_then}
use Rattle.rx_world.specs.World.{World}
use Rattle.rx_engine.specs.Engine.{IsAt, asks_in, session_of}
use Rattle.rx_engine.specs.Marks.{AreMarked}
use Rattle.rx_engine.specs.Remembered.{AreRemembered}
use Rattle.rx_engine.specs.SoundSession.{SessionWithAsks}
use Rattle.rx_engine.proofs.Marking.{none_marked}
use Rattle.rx_engine.proofs.Opened.{by_number}
use Rattle.rx_outside.specs.declared.stop.Stop.TheVariants.{Memory}
use Rattle.rx_store.proofs.Stops.{handed_on, memory_cause, memory_stop, ok_cause, refused_cause, same_cause}
use Rattle.rx_engine.proofs.Remotely.{if_err}
use Rattle.rx_engine.proofs.engine.Engine.reopen.Goals as goal

pub returns-in_err-journal-clause-commits : goal.returns-in_err-journal-clause-commits
unfolding session_of asks_in
returns-in_err-journal-clause-commits g c =
    let d = g.D.Disk in
    let old = c.args.self.journal in
    let w = c.args.self.session.session.world in
    let stop = c.in_err-journal.field-0.0 in
    let handed = handed_on c.from_residual.result stop c.from_residual.ensures.1 in
    record {
      safe = λ told bodies at.
          same_stop d c.args.disk.now c.open.new.disk bodies (content_bytes
          (epoch c.args.epoch) ∷ []) old.limit _ _ stop c.from_residual.result handed
          (by_number d c.args.disk.now c.open.new.disk bodies w c.args.epoch old.limit
          c.requires.next _ (Err stop) (c.in_err-journal.ensures.safe told bodies w
          (held_legal d c.args.disk.now old bodies w at)));
      limit = if_err _ c.from_residual.result stop handed;
      cause = same_cause (d.faults c.args.disk.now) (d.faults c.open.new.disk) stop
          c.from_residual.result handed c.in_err-journal.ensures.cause;
    }

pub returns-then-not-is_next-clause-commits : goal.returns-then-not-is_next-clause-commits
unfolding session_of asks_in
returns-then-not-is_next-clause-commits g c = record {
  safe = λ told bodies at.
      let w = c.args.self.session.session.world in
      let legal = held_legal g.D.Disk c.args.disk.now c.args.self.journal bodies w at in
      let opened = c.in_ok-journal.ensures.opened told bodies w legal in
      let goes : c.is_next.result ≡ true =
      c.is_next.ensures.1 (opened ∙ ap (λ (n : ℕ). step (epoch n) w) (sym c.requires.next)
      ∙ sym (ap
      (λ (x : Session). step (epoch c.args.epoch) x.world) c.into_session-before.ensures.same)) in
      let not : c.is_next.result ≡ false = search rules in
      absurd (true≢false (sym goes ∙ not));
  limit = tt;
  cause = refused_cause (g.D.Disk.faults c.args.disk.now) (g.D.Disk.faults c.open.new.disk)
      c.in_ok-journal.ensures.cause.later;
}

pub returns-in_err-session-clause-commits : goal.returns-in_err-session-clause-commits
unfolding session_of asks_in
returns-in_err-session-clause-commits g c =
    let d = g.D.Disk in
    let old = c.args.self.journal in
    let w = c.args.self.session.session.world in
    let out = memory_stop c.from_residual-in_err-session.result
    c.from_residual-in_err-session.ensures.1 in
    record {
      safe = λ told bodies at.
          let legal = held_legal d c.args.disk.now old bodies w at in
          let safe = by_number d c.args.disk.now c.open.new.disk bodies w c.args.epoch old.limit
          c.requires.next _ _ (c.in_ok-journal.ensures.safe told bodies w legal) in
          ran_out d c.args.disk.now c.open.new.disk bodies (content_bytes
          (epoch c.args.epoch) ∷ []) old.limit _ c.from_residual-in_err-session.result out
          safe.moments;
      limit = if_err _ c.from_residual-in_err-session.result Memory out;
      cause = memory_cause (d.faults c.args.disk.now) (d.faults c.open.new.disk)
          c.in_ok-journal.field-0 _ out c.in_ok-journal.ensures.cause;
    }

-- the world is the one before, in its next epoch
pub new-requires-clause-made : goal.new-requires-clause-made
unfolding session_of asks_in
new-requires-clause-made g c =
    let s = c.args.self.session.session in
    let goes : c.is_next.result ≡ true = search rules in
    let number : (world_of c.in_ok-journal.field-0.world).epoch ≡ c.args.epoch =
    ap (λ (x : World). x.epoch) (c.is_next.ensures.0 goes) in
    let is = ap (λ (x : Session). x.world) (c.in_ok-session.ensures.session
    ∙ ap (λ (n : ℕ). settled_session (session_after (restart n) c.into_session-before.result))
    number
    ∙ ap (λ (x : Session). settled_session (session_after
    (restart c.args.epoch) x)) c.into_session-before.ensures.same) in
    subst IsMadeWorld (sym is) (made_then (restart c.args.epoch) s c.requires.next
    c.into_session-before.ensures.made)

pub new-requires-clause-sound : goal.new-requires-clause-sound
unfolding session_of asks_in
new-requires-clause-sound g c =
    let goes : c.is_next.result ≡ true = search rules in
    let number : (world_of c.in_ok-journal.field-0.world).epoch ≡ c.args.epoch =
    ap (λ (x : World). x.epoch) (c.is_next.ensures.0 goes) in
    let is = ap (λ (x : Session). x.world) (c.in_ok-session.ensures.session
    ∙ ap (λ (n : ℕ). settled_session (session_after (restart n) c.into_session-before.result))
    number
    ∙ ap (λ (x : Session). settled_session (session_after
    (restart c.args.epoch) x)) c.into_session-before.ensures.same) in
    subst IsSoundWorld (sym is) c.into_session-before.ensures.sound

pub new-requires-clause-remembered : goal.new-requires-clause-remembered
new-requires-clause-remembered g c =
    subst (AreRemembered c.in_ok-session.session.world) (sym
    (c.new-remembered.ensures.asks)) tt

pub new-requires-clause-marked : goal.new-requires-clause-marked
new-requires-clause-marked g c =
    subst (AreMarked c.in_ok-session.session.world) (sym c.new-remembered.ensures.marks)
    (none_marked _)

pub returns-clause-asks : goal.returns-clause-asks
unfolding session_of asks_in
returns-clause-asks g c =
    ap (λ (x : SessionWithAsks). x.asks) c.new.ensures ∙ c.new-remembered.ensures.asks

pub returns-clause-session : goal.returns-clause-session
unfolding session_of asks_in
returns-clause-session g c =
    let s = c.args.self.session.session in
    let goes : c.is_next.result ≡ true = search rules in
    let number : (world_of c.in_ok-journal.field-0.world).epoch ≡ c.args.epoch =
    ap (λ (x : World). x.epoch) (c.is_next.ensures.0 goes) in
    ap (λ (x : SessionWithAsks). x.session) c.new.ensures ∙ c.in_ok-session.ensures.session
    ∙ ap (λ (x : Session). settled_session (session_after (restart
    (world_of c.in_ok-journal.field-0.world).epoch) x))
    c.into_session-before.ensures.same
    ∙ ap (λ (n : ℕ). settled_session (session_after (restart n) s)) number

pub returns-clause-quiet : goal.returns-clause-quiet
unfolding session_of asks_in
returns-clause-quiet g c =
    let s = c.args.self.session.session in
    let goes : c.is_next.result ≡ true = search rules in
    let number : (world_of c.in_ok-journal.field-0.world).epoch ≡ c.args.epoch =
    ap (λ (x : World). x.epoch) (c.is_next.ensures.0 goes) in
    sym (ap (λ (n : ℕ). emissions (session_after (restart n) s)) number)
    ∙ sym (ap (λ (x : Session). emissions (session_after (restart
    (world_of c.in_ok-journal.field-0.world).epoch) x))
    c.into_session-before.ensures.same) ∙ c.in_ok-session.ensures.emissions

pub returns-clause-commits : goal.returns-clause-commits
unfolding session_of asks_in
returns-clause-commits g c =
    let d = g.D.Disk in
    let old = c.args.self.journal in
    let new = c.in_ok-journal.field-0.journal in
    let s = c.args.self.session.session in
    let goes : c.is_next.result ≡ true = search rules in
    let number : (world_of c.in_ok-journal.field-0.world).epoch ≡ c.args.epoch =
    ap (λ (x : World). x.epoch) (c.is_next.ensures.0 goes) in
    let session : c.new.result.session ≡ settled_session (session_after (restart c.args.epoch) s) =
    ap (λ (x : SessionWithAsks). x.session) c.new.ensures ∙ c.in_ok-session.ensures.session
    ∙ ap (λ (x : Session). settled_session (session_after (restart
    (world_of c.in_ok-journal.field-0.world).epoch) x))
    c.into_session-before.ensures.same
    ∙ ap (λ (n : ℕ). settled_session (session_after (restart n) s)) number in
    record {
      safe = λ told bodies at.
          let legal = held_legal d c.args.disk.now old bodies s.world at in
          let safe = by_number d c.args.disk.now c.open.new.disk bodies s.world c.args.epoch
          old.limit c.requires.next _ _ (c.in_ok-journal.ensures.safe told bodies s.world legal) in
          answered d c.args.disk.now c.open.new.disk bodies (content_bytes
          (epoch c.args.epoch) ∷ []) old.limit _ (IsAt d c.open.new.disk) _ _ safe
          (λ holds. subst (λ (x : Session). Holds d c.open.new.disk new (bodies ++ content_bytes
          (epoch c.args.epoch) ∷ []) x.world) (sym session)
          (subst (λ (n : ℕ). Holds d c.open.new.disk new (bodies ++ content_bytes
          (epoch c.args.epoch) ∷ []) (step (epoch n) s.world)) (sym c.requires.next) holds));
      limit = c.in_ok-journal.ensures.limit;
      cause = ok_cause (d.faults c.args.disk.now) (d.faults c.open.new.disk)
          c.in_ok-journal.ensures.cause.later _;
    }
