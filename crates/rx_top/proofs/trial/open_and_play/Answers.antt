use Rattle.std.proofs.Common.{◌≡◌, ◌∙◌, ◌+◌, ◌++◌, ◌∷◌, [], List, ℕ, All, length, string_bytes, arith, ap, refl, sym, subst}
use Rattle.rx_engine.specs.Engine.{standing_of}
use Rattle.rx_engine.specs.Opening.{host_of, epoch_body}
use Rattle.rx_handler.specs.Shown.{kinds_of}
use Rattle.rx_outside.specs.declared.stop.Stop.TheVariants.{NotJournal}
use Rattle.rx_trial.specs.Lines.{script}
use Rattle.rx_trial.proofs.Braces.{length-script}
use Rattle.rx_top.specs.Chunks.{singly}
use Rattle.rx_top.specs.Hears.{stands}
use Rattle.rx_top.specs.Tally.{summary_of}
use Rattle.rx_top.proofs.Filled.{IsFilled, script_filled}
use Rattle.rx_top.proofs.Heads.{not_both, open_keeps}
use Rattle.rx_top.proofs.Opened.{from_opened, from_unopened}
use Rattle.rx_top.proofs.Tallies.{summed_up}
use Rattle.rx_top.proofs.Through.{does_as}
use Rattle.rx_top.proofs.Tried as tried
use Rattle.rx_top.proofs.trial.open_and_play.Goals as goal

pub returns-in-Err-clause-plays : goal.returns-in-Err-clause-plays
returns-in-Err-clause-plays g c =
    let lines = script c.args.seed c.args.count in (
      [],
      from_unopened lines refl
          (λ s Kept none kept. (
            tried.none_done g.N.W.Wire.tells (stands g.N.Dial c.args.dial.now) s c.in-Err.stop lines
                Kept none kept,
            tt,
          ))
          (λ t bodies w start.
          let safe = c.in-Err.ensures.safe t bodies w start.legal in
          open_keeps singly (host_of c.args.handlers.now c.args.hooks.now) [] g.D.Disk bodies w
          c.args.limit c.args.disk.now c.open.new.disk c.in-Err.stop lines
          (safe.moments start.alike)
          (λ s f le now. g.met.D.Disk.counts_now c.open.new.disk s f t le now) safe.full
          (λ f. g.met.D.Disk.only_now c.args.disk.now f t) start),
    )

pub returns-in-Err-clause-not_journal : goal.returns-in-Err-clause-not_journal
returns-in-Err-clause-not_journal g c = λ t is bodies w legal.
    (c.in-Err.ensures.safe t bodies w legal).not_journal
    (tried.other_err c.in-Err.stop NotJournal is)

pub play_lines-requires-clause-at : goal.play_lines-requires-clause-at
play_lines-requires-clause-at g c = λ t.
    let stood = c.in-Ok.ensures.stood t in
    (stood.0 ++ epoch_body stood.1 ∷ [], (c.in-Ok.ensures.safe t stood.0 stood.1 stood.2).at)

pub play_lines-requires-clause-filled : goal.play_lines-requires-clause-filled
play_lines-requires-clause-filled g c =
    subst (λ (v : List (List ℕ)). All IsFilled v) (sym c.new-lines.ensures)
    (script_filled c.args.seed c.args.count)

pub play_lines-requires-clause-few : goal.play_lines-requires-clause-few
play_lines-requires-clause-few g c =
    let lines : length c.new-lines.result ≡ c.args.count + 6 =
    ap length c.new-lines.ensures ∙ length-script c.args.seed c.args.count in
    omega (arith, lines, c.ranges.count.fits)

pub returns-in-Ok-summary-clause-plays : goal.returns-in-Ok-summary-clause-plays
returns-in-Ok-summary-clause-plays g c =
    let kinds = kinds_of c.args.handlers.now in
    let opens = c.in-Ok.ensures in
    let plays = c.in-Ok-play_lines.ensures.plays in
    let heard = plays.0 in
    let drawn = c.new-lines.ensures in
    let first = standing_of kinds heard c.in-Ok.engine in
    let summed : string_bytes c.in-Ok-summary.text ≡ summary_of c.new-lines.result first =
    summed_up c.in-Ok-play_lines.played.0 c.new-lines.result c.in-Ok-play_lines.played.1 first first
    _ refl plays.2 c.in-Ok-summary.ensures in (
      heard,
      from_opened c.open.new.disk c.in-Ok.engine
          (λ s P Q f said. (does_as P Q f said.0, said.1))
          (λ t bodies w legal. opens.opened t bodies w legal kinds heard)
          (opens.begun.0, opens.begun.1 kinds heard) opens.safe opens.limit
          (rw drawn at plays.1, rw drawn at summed),
    )

pub returns-in-Ok-summary-clause-illegal : goal.returns-in-Ok-summary-clause-illegal
returns-in-Ok-summary-clause-illegal g c = λ t illegal.
    not_both (g.D.Disk.content c.args.disk.now) illegal (c.in-Ok.ensures.stood t)

pub returns-in-Err-summary-clause-plays : goal.returns-in-Err-summary-clause-plays
returns-in-Err-summary-clause-plays g c =
    let kinds = kinds_of c.args.handlers.now in
    let opens = c.in-Ok.ensures in
    let plays = c.in-Ok-play_lines.ensures.plays in
    let heard = plays.0 in
    let drawn = c.new-lines.ensures in (
      heard,
      from_opened c.open.new.disk c.in-Ok.engine
          (λ s P Q f said. (does_as P Q f said.0, said.1))
          (λ t bodies w legal. opens.opened t bodies w legal kinds heard)
          (opens.begun.0, opens.begun.1 kinds heard) opens.safe opens.limit
          (tried.late_memory c.in-Ok.engine (rw drawn at plays.1), tt),
    )

pub returns-in-Err-summary-clause-illegal : goal.returns-in-Err-summary-clause-illegal
returns-in-Err-summary-clause-illegal g c = λ t illegal.
    not_both (g.D.Disk.content c.args.disk.now) illegal (c.in-Ok.ensures.stood t)

pub returns-in-Err-play_lines-clause-plays : goal.returns-in-Err-play_lines-clause-plays
returns-in-Err-play_lines-clause-plays g c =
    let kinds = kinds_of c.args.handlers.now in
    let opens = c.in-Ok.ensures in
    let plays = c.in-Err-play_lines.ensures.plays in
    let heard = plays.0 in
    let drawn = c.new-lines.ensures in (
      heard,
      from_opened c.open.new.disk c.in-Ok.engine
          (λ s P Q f said. (does_as P Q f said.0, said.1))
          (λ t bodies w legal. opens.opened t bodies w legal kinds heard)
          (opens.begun.0, opens.begun.1 kinds heard) opens.safe opens.limit
          (rw drawn at plays.1, tt),
    )

pub returns-in-Err-play_lines-clause-illegal : goal.returns-in-Err-play_lines-clause-illegal
returns-in-Err-play_lines-clause-illegal g c = λ t illegal.
    not_both (g.D.Disk.content c.args.disk.now) illegal (c.in-Ok.ensures.stood t)
