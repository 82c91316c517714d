use Rattle.std.proofs.Common.{◌≡◌, ◌∙◌, ◌+◌, ◌++◌, ◌∷◌, [], List, ℕ, Err, length, arith, rules, ap, sym, subst, append_assoc}
use Rattle.rx_engine.specs.Engine.{standing_of}
use Rattle.rx_handler.specs.Shown.{kinds_of}
use Rattle.rx_outside.specs.declared.stop.Stop.TheVariants.{NotJournal}
use Rattle.rx_sync.specs.Remote.{Heard}
use Rattle.rx_top.specs.Chunks.{all_of}
use Rattle.rx_top.specs.Hears.{stands}
use Rattle.rx_top.specs.Script.{line_effect}
use Rattle.rx_top.specs.Story.{chunks}
use Rattle.rx_top.specs.Tally.{meanings}
use Rattle.rx_top.specs.declared.tally.Tally.{Tally}
use Rattle.rx_top.proofs.Hears.{heard_in}
use Rattle.rx_top.proofs.Tallies.{refused_among}
use Rattle.rx_top.proofs.Through.{Through, all_done, all_so, begins, line_done, line_stopped, memory_out, none_so, some_so}
use Rattle.rx_top.proofs.trial.play_lines.Goals as goal

pub script-init : goal.script-init
script-init g c =
    let lines : c.new-tally.result.lines ≡ 0 = ap (λ (t : Tally). t.lines) c.new-tally.ensures in
    let refused : c.new-tally.result.refused
    ≡ 0 = ap (λ (t : Tally). t.refused) c.new-tally.ensures in
    record {
      through = (
        [],
        λ later.
            let s = standing_of (kinds_of c.args.handlers.now) later c.args.first in
            let dial = stands g.N.Dial c.args.dial.now in
            subst (λ (t : Tally). Through s s g.D.Disk g.N.W.Wire.tells c.args.disk.now
            c.args.disk.now dial dial c.args.first c.args.first c.args.lines.now c.args.lines.now t)
            (sym c.new-tally.ensures)
            (begins s g.D.Disk g.N.W.Wire.tells c.args.disk.now dial c.args.first c.args.lines.now
            (λ t f. g.met.D.Disk.only_now c.args.disk.now f t)),
      );
      room = omega (arith, lines, c.requires.few);
      among = omega (arith, lines, refused);
      disk_faults = omega arith;
      dial_faults = omega arith;
    }

pub line-requires : goal.line-requires
line-requires g c = λ t.
    let start = c.requires.at t in
    let through = c.script.invariant.through in
    let a = through.1 [] in
    let s0 = standing_of (kinds_of c.args.handlers.now) (through.0 ++ []) c.args.first in (
      start.0 ++ all_of (chunks line_effect 1 a.done s0),
      a.has.at t start.0 start.1,
    )

pub returns-in-Ok-None-clause-plays : goal.returns-in-Ok-None-clause-plays
returns-in-Ok-None-clause-plays g c =
    let through = c.script.invariant.through in
    let a = through.1 [] in
    let none =
    (none_so c.in-Ok-None.field-0 _ c.in-Ok-None.field-0-is c.in-Ok-None.ensures.end).0 in (
      through.0 ++ [],
      all_done a (heard_in (kinds_of c.args.handlers.now) [] c.script.engine) none
          (λ t f. g.met.D.Disk.only_now c.script.disk f t),
      all_so (kinds_of c.args.handlers.now) a none,
    )

pub returns-in-Err-clause-plays : goal.returns-in-Err-clause-plays
returns-in-Err-clause-plays g c =
    let through = c.script.invariant.through in (
      through.0 ++ [],
      memory_out (through.1 []) (λ t f. g.met.D.Disk.only_now c.script.disk f t)
          (λ t s f le now. g.met.D.Disk.counts_now c.script.disk s f t le now),
      tt,
    )

pub returns-in-Err-line-clause-plays : goal.returns-in-Err-line-clause-plays
returns-in-Err-line-clause-plays g c =
    let through = c.script.invariant.through in
    let plays = c.in-Err-line.ensures.plays in
    let next : c.script.lines ≡ c.as_bytes-text.result.now ∷ c.next.new.self =
    some_so c.in-Ok-Some.field-0 c.in-Ok-Some.line
    (λ (l : List ℕ). c.script.lines ≡ l ∷ c.next.new.self)
    (search rules) c.in-Ok-Some.ensures.line
    ∙ ap (λ (l : List ℕ). l ∷ c.next.new.self)
    (sym (c.as_bytes-text.ensures.value ∙ c.as_str.ensures)) in
    let later = plays.heard ++ [] in (
      through.0 ++ later,
      line_stopped plays (through.1 later) next c.requires.filled c.in-Err-line.ensures.meant
          (λ t s f le now. g.met.D.Disk.counts_now c.line.new.disk s f t le now),
      tt,
    )

pub returns-in-None-clause-plays : goal.returns-in-None-clause-plays
returns-in-None-clause-plays g c =
    let through = c.script.invariant.through in
    let plays = c.in-Ok.ensures.plays in
    let next : c.script.lines ≡ c.as_bytes-text.result.now ∷ c.next.new.self =
    some_so c.in-Ok-Some.field-0 c.in-Ok-Some.line
    (λ (l : List ℕ). c.script.lines ≡ l ∷ c.next.new.self)
    (search rules) c.in-Ok-Some.ensures.line
    ∙ ap (λ (l : List ℕ). l ∷ c.next.new.self)
    (sym (c.as_bytes-text.ensures.value ∙ c.as_str.ensures)) in
    let later = plays.heard ++ [] in (
      through.0 ++ later,
      memory_out (line_done plays [] (through.1 later) next c.requires.filled
          c.in-Ok.ensures.limit (λ t f. g.met.D.Disk.only_now c.line.new.disk f t))
          (λ t f. g.met.D.Disk.only_now c.line.new.disk f t)
          (λ t s f le now. g.met.D.Disk.counts_now c.line.new.disk s f t le now),
      tt,
    )

pub script-preserved : goal.script-preserved
script-preserved g c =
    let kinds = kinds_of c.args.handlers.now in
    let through = c.script.invariant.through in
    let plays = c.in-Ok.ensures.plays in
    let next : c.script.lines ≡ c.as_bytes-text.result.now ∷ c.next.new.self =
    some_so c.in-Ok-Some.field-0 c.in-Ok-Some.line
    (λ (l : List ℕ). c.script.lines ≡ l ∷ c.next.new.self)
    (search rules) c.in-Ok-Some.ensures.line
    ∙ ap (λ (l : List ℕ). l ∷ c.next.new.self)
    (sym (c.as_bytes-text.ensures.value ∙ c.as_str.ensures)) in
    let n0 = stands g.N.Dial c.args.dial.now in
    let n2 = stands g.N.Dial c.line.new.dial in
    let heard = through.0 ++ plays.heard in
    let now : (later : List Heard) → Through (standing_of kinds (heard ++ later) c.args.first)
    (standing_of kinds later c.in-Ok.pair.0) g.D.Disk g.N.W.Wire.tells c.args.disk.now
    c.line.new.disk n0 n2 c.args.first c.in-Ok.pair.0 c.args.lines.now c.next.new.self
    c.in-Some.tally =
    λ later.
    subst (λ (hs : List Heard). Through (standing_of kinds hs c.args.first)
    (standing_of kinds later c.in-Ok.pair.0) g.D.Disk g.N.W.Wire.tells c.args.disk.now
    c.line.new.disk n0 n2 c.args.first c.in-Ok.pair.0 c.args.lines.now c.next.new.self
    c.in-Some.tally)
    (sym (append_assoc through.0 plays.heard later))
    (subst (λ (t : Tally). Through
    (standing_of kinds (through.0 ++ (plays.heard ++ later)) c.args.first)
    (standing_of kinds later c.in-Ok.pair.0) g.D.Disk g.N.W.Wire.tells c.args.disk.now
    c.line.new.disk n0 n2 c.args.first c.in-Ok.pair.0 c.args.lines.now c.next.new.self t)
    (sym c.in-Some.ensures.some)
    (line_done plays later (through.1 (plays.heard ++ later)) next c.requires.filled
    c.in-Ok.ensures.limit (λ t f. g.met.D.Disk.only_now c.line.new.disk f t))) in
    let lines : c.in-Some.tally.lines ≡ c.script.tally.lines + 1 =
    ap (λ (t : Tally). t.lines) c.in-Some.ensures.some in
    record {
      through = (heard, now);
      room = omega (arith, lines, ap length next, c.script.invariant.room);
      among = refused_among c.in-Some.tally
          (meanings 1 (now []).done (standing_of kinds (heard ++ []) c.args.first)) (now []).tally;
      disk_faults = omega (arith, c.script.invariant.disk_faults, c.in-Ok.ensures.cause.later);
      dial_faults = omega (arith, c.script.invariant.dial_faults, c.line.ensures.dials.count);
    }

pub returns-in-Err-line-clause-not_journal : goal.returns-in-Err-line-clause-not_journal
returns-in-Err-line-clause-not_journal g c = λ t is.
    let start = c.requires.at t in
    let a = c.script.invariant.through.1 [] in
    let same : c.in-Err-line.stop ≡ NotJournal = cc in
    (c.in-Err-line.ensures.plays.safe [] t _ (a.has.at t start.0 start.1)).not_journal
    (ap Err same)
