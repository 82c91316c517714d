use Rattle.std.proofs.Common.{Option, Some, refl, subst, rules}
use Rattle.rx_store.specs.Holds.{Holds}
use Rattle.rx_store.proofs.Stops.{handed_on, ok_cause, same_cause}
use Rattle.rx_world.specs.World.{World}
use Rattle.rx_engine.specs.Play.{IsAfter, IsPlayAt}
use Rattle.rx_engine.specs.declared.play.Past.{Past}
use Rattle.rx_engine.proofs.Remotely.{if_err}
use Rattle.rx_engine.proofs.Staging.{due, write_done, write_failed, write_full}
use Rattle.rx_engine.proofs.play.Play.commit.Goals as goal

pub returns-in_err-journal : goal.returns-in_err-journal
returns-in_err-journal g c =
    let self = c.args.self in
    let d = g.D.Disk in
    let old = c.args.disk.now in
    let new = c.commit.new.disk in
    let r = c.from_residual.result in
    let stop = c.in_err-journal.field-0.0 in
    let handed = handed_on r stop c.from_residual.ensures.1 in
    record {
      session = if_err _ r stop handed;
      safe = λ told bodies first v all holds is.
          write_failed d old bodies first self.journal v self.playing.world all new _
          (IsPlayAt d new) holds self.past is stop r handed
          (c.in_err-journal.ensures.safe told bodies _ is.world
          (due d old bodies first self.journal v self.playing.world all self.past holds is));
      limit = if_err _ r stop handed;
      not_journal = search rules;
      cause = same_cause (d.faults old) (d.faults new) stop r handed c.in_err-journal.ensures.cause;
    }

pub returns-in-Some : goal.returns-in-Some
returns-in-Some g c =
    let self = c.args.self in
    let d = g.D.Disk in
    let old = c.args.disk.now in
    let new = c.commit.new.disk in
    let past = c.in-Some.past in
    record {
      session = tt;
      safe = λ told bodies first v all holds is.
          let full : IsAfter first v all self.journal (Some past) self.playing.world =
          subst (λ (o : Option Past). IsAfter first v all self.journal o self.playing.world)
          c.in-Some.is is in
          write_full d old bodies first self.journal v self.playing.world all new
          c.in_ok-journal.journal (IsPlayAt d new) _ past holds full
          (c.in_ok-journal.ensures.safe told bodies _ full.world
          (due d old bodies first self.journal v self.playing.world all (Some past) holds full))
          (λ held. held);
      limit = tt;
      not_journal = λ e. absurd (cc);
      cause = record { later = c.in_ok-journal.ensures.cause.later; failed = λ e. absurd (cc) };
    }

pub returns-in-None : goal.returns-in-None
returns-in-None g c =
    let self = c.args.self in
    let d = g.D.Disk in
    let old = c.args.disk.now in
    let new = c.commit.new.disk in
    let journal = c.in_ok-journal.journal in
    record {
      session = refl;
      safe = λ told bodies first v all holds is.
          write_done d old bodies first self.journal v self.playing.world all new _
          (IsPlayAt d new) holds self.past c.in-None.is is journal _
          (c.in_ok-journal.ensures.safe told bodies _ is.world
          (due d old bodies first self.journal v self.playing.world all self.past holds is))
          (λ same more held.
          (subst (λ (w : World). Holds d new journal more w) same held, refl));
      limit = c.in_ok-journal.ensures.limit;
      not_journal = λ e. absurd (cc);
      cause = ok_cause (d.faults old) (d.faults new) c.in_ok-journal.ensures.cause.later _;
    }
