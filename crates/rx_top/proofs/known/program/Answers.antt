use Rattle.std.proofs.Common.{◌∙◌, ℕ, codes, inr, subst, sym}
use Rattle.rx_words.specs.Words.{command_of}
use Rattle.rx_top.specs.Known.{known}
use Rattle.rx_top.specs.Program.{Plays, reach}
use Rattle.rx_top.specs.Stops.{EndsWith, stop_line}
use Rattle.rx_top.proofs.known.program.Goals as goal
use Rattle.rx_top.proofs.known.program.Goals.{in-Ok, in-Err}

-- What the command did, or nothing but the line that memory is wanting.
pub returns : goal.returns
returns g c =
    elim c.match-with_handlers.branch [
      | in-Ok w ↦
          let Done = λ (status : ℕ) (out : g.row.K.Denot).
          Plays g.S.Source g.K.Sink g.D.Disk g.L.Listen g.L.W.Wire.tells g.N.Dial
          g.N.W.Wire.tells g.C.Clock g.E.Disk known status c.args.out.now out
          (reach c.args.source.now c.args.disk.now c.args.door.now c.args.dial.now
          c.args.clock.now c.args.copy.now)
          (reach c.with_handlers.new.source c.with_handlers.new.disk c.with_handlers.new.door
          c.with_handlers.new.dial c.with_handlers.new.clock c.with_handlers.new.copy)
          (command_of c.args.words.now.words.items) in
          subst (λ (status : ℕ). Done status c.match-with_handlers.out) (sym w.result-is)
          (subst (λ (out : g.row.K.Denot). Done w.in-Ok.status out) (sym w.out-is)
          w.in-Ok.ensures.ok)
      | in-Err w ↦
          let Told = λ (old new : g.row.K.Denot).
          EndsWith g.K.Sink.tells (g.K.Sink.faults old) (g.K.Sink.faults new)
          (g.K.Sink.written old) (g.K.Sink.written new) (stop_line (codes "memory")) in
          inr (
            w.result-is ∙ w.write_memory.ensures.status,
            record {
              untouched = w.in-Err.ensures.untouched;
              told = subst (λ (old : g.row.K.Denot). Told old c.match-with_handlers.out)
                  w.in-Err.ensures.silent
                  (subst (λ (new : g.row.K.Denot). Told c.with_handlers.new.out new) (sym w.out-is)
                  w.write_memory.ensures.line);
            },
          )
    ]
