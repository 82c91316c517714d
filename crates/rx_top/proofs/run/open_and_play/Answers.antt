use Rattle.std.proofs.Common.{◌++◌, ◌∷◌, [], Err, ap, refl, sym, append-nil, arith}
use Rattle.rx_engine.specs.Opening.{host_of, epoch_body}
use Rattle.rx_handler.specs.Shown.{kinds_of}
use Rattle.rx_top.specs.Causes.{IsUnopened, by_any, source_failed}
use Rattle.rx_top.specs.Chunks.{in_groups}
use Rattle.rx_top.specs.Hears.{stands}
use Rattle.rx_top.specs.Lines.{lines}
use Rattle.rx_top.specs.declared.early_end.EarlyEnd.TheVariants.{Read, Work}
use Rattle.rx_top.specs.declared.early_end.ReadFault.TheVariants as ReadFault
use Rattle.rx_top.proofs.Causes.{any_so, later_cause, other_journal, read_cause, stop_cause}
use Rattle.rx_top.proofs.Chunks.{stays_legal}
use Rattle.rx_top.proofs.Growth.{legal_on}
use Rattle.rx_top.proofs.Heads.{needs_journal, no_reader_keeps, not_both, open_keeps, said_as, still_legal, unplayed, untouched}
use Rattle.rx_top.proofs.Opened.{from_opened, from_unopened}
use Rattle.rx_top.proofs.Promptly.{prompt_none}
use Rattle.rx_top.proofs.Stopping.{none_joined}
use Rattle.rx_top.proofs.run.open_and_play.Goals as goal

pub returns-in-Err-clause-run : goal.returns-in-Err-clause-run
returns-in-Err-clause-run g c =
    let host = host_of c.args.handlers.now c.args.hooks.now in
    let input = g.S.Source.left c.args.source.now in
    let dial = stands g.N.Dial c.args.dial.now in (
      [],
      λ told. from_unopened (lines input) refl
          (λ s Kept none kept.
          unplayed g.K.Sink.tells g.N.W.Wire.tells dial _ _ input _ s
          (Err (Read ReadFault.Memory)) Kept none (prompt_none input)
          (λ k. sym (append-nil (g.K.Sink.written c.args.out.now))) kept)
          (λ t bodies w start.
          no_reader_keeps in_groups host [] g.D.Disk bodies w c.args.limit c.args.disk.now
          (lines input) start (λ f. g.met.D.Disk.only_now c.args.disk.now f t)
          (λ s f le now. g.met.D.Disk.counts_now c.args.disk.now s f t le now)),
    )

pub returns-in-Err-clause-legal : goal.returns-in-Err-clause-legal
returns-in-Err-clause-legal g c = λ t bodies w start.
    still_legal g.D.Disk bodies w c.args.disk.now start
    (λ f. g.met.D.Disk.only_now c.args.disk.now f t)
    (λ s f le now. g.met.D.Disk.counts_now c.args.disk.now s f t le now)

pub play-requires-clause-at : goal.play-requires-clause-at
play-requires-clause-at g c = λ t.
    let stood = c.in-Ok-open.ensures.stood t in
    (stood.0 ++ epoch_body stood.1 ∷ [], (c.in-Ok-open.ensures.safe t stood.0 stood.1 stood.2).at)

pub returns-in-Ok-open-clause-run : goal.returns-in-Ok-open-clause-run
returns-in-Ok-open-clause-run g c =
    let kinds = kinds_of c.args.handlers.now in
    let opens = c.in-Ok-open.ensures in
    let heard = c.play.ensures.exit.0 in (
      heard,
      λ told. from_opened c.open.new.disk c.in-Ok-open.engine
          (λ s P Q f said. said_as P Q f said)
          (λ t bodies w legal. opens.opened t bodies w legal kinds heard)
          (opens.begun.0, opens.begun.1 kinds heard) opens.safe opens.limit
          (c.play.ensures.exit.1 told),
    )

pub returns-in-Ok-open-clause-legal : goal.returns-in-Ok-open-clause-legal
returns-in-Ok-open-clause-legal g c = λ t bodies w start.
    let safe = c.in-Ok-open.ensures.safe t bodies w start.legal in
    legal_on g.D.Disk c.args.disk.now c.open.new.disk c.play.new.disk bodies (epoch_body w ∷ [])
    (safe.moments start.alike) (c.play.ensures.legal t (bodies ++ epoch_body w ∷ []) safe.at)

pub returns-clause-run : goal.returns-clause-run
returns-clause-run g c =
    let host = host_of c.args.handlers.now c.args.hooks.now in
    let input = g.S.Source.left c.args.source.now in
    let dial = stands g.N.Dial c.args.dial.now in (
      [],
      λ told. from_unopened (lines input) refl
          (λ s Kept none kept.
          unplayed g.K.Sink.tells g.N.W.Wire.tells dial _ _ input _ s
          (Err (Work c.in-Err-open.stop)) Kept none (prompt_none input)
          (λ k. sym (append-nil (g.K.Sink.written c.args.out.now))) kept)
          (λ t bodies w start.
          let safe = c.in-Err-open.ensures.safe t bodies w start.legal in
          open_keeps in_groups host [] g.D.Disk bodies w c.args.limit c.args.disk.now
          c.open.new.disk c.in-Err-open.stop (lines input) (safe.moments start.alike)
          (λ s f le now. g.met.D.Disk.counts_now c.open.new.disk s f t le now) safe.full
          (λ f. g.met.D.Disk.only_now c.args.disk.now f t) start),
    )

pub returns-clause-legal : goal.returns-clause-legal
returns-clause-legal g c = λ t bodies w start.
    stays_legal g.D.Disk c.args.disk.now c.open.new.disk bodies (epoch_body w ∷ [])
    ((c.in-Err-open.ensures.safe t bodies w start.legal).moments start.alike)
    (λ s f le now. g.met.D.Disk.counts_now c.open.new.disk s f t le now)

-- ---- why it ended

pub returns-in-Err-clause-cause : goal.returns-in-Err-clause-cause
returns-in-Err-clause-cause g c =
    read_cause g.K.Sink g.D.Disk
    (source_failed g.S.Source c.args.source.now c.args.source.now)
    (by_any (g.D.Disk.tells → IsUnopened g.K.Sink g.D.Disk c.args.source.now c.args.source.now
    c.args.out.now c.args.out.now c.args.disk.now)) c.args.out.now c.args.out.now c.args.disk.now
    c.args.disk.now (omega arith) (omega arith) ReadFault.Memory tt

pub returns-in-Ok-open-clause-cause : goal.returns-in-Ok-open-clause-cause
returns-in-Ok-open-clause-cause g c =
    let on_read = source_failed g.S.Source c.args.source.now c.play.new.source in
    let Unopened : Type 0 = g.D.Disk.tells → IsUnopened g.K.Sink g.D.Disk c.args.source.now
    c.play.new.source c.args.out.now c.play.new.out c.args.disk.now in
    later_cause g.K.Sink g.D.Disk on_read on_read (by_any (g.D.Disk.tells → ⊥))
    (by_any Unopened) c.args.out.now c.args.out.now c.play.new.out c.args.disk.now
    c.open.new.disk c.play.new.disk c.play.result (omega arith) c.in-Ok-open.ensures.cause.later
    (λ why so. so)
    (other_journal (g.D.Disk.tells → ⊥) Unopened (λ none t. absurd (none t)))
    c.play.ensures.cause

pub returns-clause-cause : goal.returns-clause-cause
returns-clause-cause g c =
    let Unopened : Type 0 = g.D.Disk.tells → IsUnopened g.K.Sink g.D.Disk c.args.source.now
    c.args.source.now c.args.out.now c.args.out.now c.args.disk.now in
    stop_cause g.K.Sink g.D.Disk (source_failed g.S.Source c.args.source.now c.args.source.now)
    (by_any Unopened) c.args.out.now c.args.out.now c.args.disk.now c.open.new.disk (omega arith)
    c.in-Err-open.ensures.cause.later c.in-Err-open.stop
    (any_so Unopened c.in-Err-open.stop
    (λ is t. record {
      illegal = λ bodies w legal.
          (c.in-Err-open.ensures.safe t bodies w legal).not_journal (ap Err is);
      unread = refl;
      unsaid = λ k. refl;
    }))
    (λ is. c.in-Err-open.ensures.cause.failed (ap Err is))

-- ---- files that aren't legal

pub returns-in-Err-clause-illegal : goal.returns-in-Err-clause-illegal
returns-in-Err-clause-illegal g c = λ t illegal.
    untouched g.D.Disk c.args.disk.now (λ f. g.met.D.Disk.only_now c.args.disk.now f t)

pub returns-clause-illegal : goal.returns-clause-illegal
returns-clause-illegal g c = λ t illegal. c.in-Err-open.ensures.illegal t illegal

pub returns-in-Ok-open-clause-illegal : goal.returns-in-Ok-open-clause-illegal
returns-in-Ok-open-clause-illegal g c = λ t illegal.
    not_both (g.D.Disk.content c.args.disk.now) illegal (c.in-Ok-open.ensures.stood t)

pub returns-in-Ok-open-clause-stood : goal.returns-in-Ok-open-clause-stood
returns-in-Ok-open-clause-stood g c = λ t needs. c.in-Ok-open.ensures.stood t

pub returns-clause-stood : goal.returns-clause-stood
returns-clause-stood g c = λ t needs.
    let full = needs_journal c.in-Err-open.stop needs in
    c.in-Err-open.ensures.full_stood t full.0 full.1 (ap Err full.2)

-- ---- what was taken and told

pub returns-in-Err-clause-takes : goal.returns-in-Err-clause-takes
returns-in-Err-clause-takes g c = record {
  whole = λ told. tt;
  within = λ told short. ([], refl, omega arith);
}

pub returns-in-Ok-open-clause-takes : goal.returns-in-Ok-open-clause-takes
returns-in-Ok-open-clause-takes g c = record {
  whole = c.play.ensures.whole;
  within = c.play.ensures.within;
}

pub returns-clause-takes : goal.returns-clause-takes
returns-clause-takes g c = record {
  whole = λ told. tt;
  within = λ told short. ([], refl, omega arith);
}

pub returns-in-Err-clause-told : goal.returns-in-Err-clause-told
returns-in-Err-clause-told g c told = none_joined (g.K.Sink.written c.args.out.now)

pub returns-in-Ok-open-clause-told : goal.returns-in-Ok-open-clause-told
returns-in-Ok-open-clause-told g c = c.play.ensures.told

pub returns-clause-told : goal.returns-clause-told
returns-clause-told g c told = none_joined (g.K.Sink.written c.args.out.now)
