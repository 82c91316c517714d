use Rattle.std.proofs.Common.{◌∙◌, ◌++◌, ap, [], arith, inl, inr, subst}
use Rattle.rx_disk.specs.History.{reads_as_of}
use Rattle.rx_disk.specs.MemoryDisk.{content_of, history_of}
use Rattle.rx_engine.specs.Opening.{host_of, opened}
use Rattle.rx_outside.specs.MemorySource.{source_left}
use Rattle.rx_top.specs.Lines.{lines}
use Rattle.rx_top.specs.Program.{Promises}
use Rattle.rx_top.specs.RunEnds.{Ran}
use Rattle.rx_top.specs.Script.{transcript}
use Rattle.rx_world.specs.World.{empty}
use Rattle.rx_top.proofs.GoingOn.{starts_empty}
use Rattle.rx_top.proofs.Ended.{played_or_stopped}
use Rattle.rx_top.proofs.RunEnds as by
use Rattle.rx_tests.proofs.Unheard.{unheard}
use Rattle.rx_tests.proofs.headline.play.Goals as goal

pub returns : goal.returns
returns g c =
    let command = c.requires.runs in
    let start = starts_empty _ _ (record { content = c.requires.empty; only = c.requires.only }) in
    record {
      played = λ is. elim c.rx.ensures [
        | inl kept ↦
            let does = subst (Promises _ _ _ _ _ _ _ _ _ _ _ _ _ _ _) command.2 kept in
            let plays = does.0.1 in
            let run : Ran _ _ _ _ _ = record {
              host = host_of c.args.handlers.now c.args.hooks.now;
              heard = does.0.0;
              limit = command.1;
              status = c.rx.result;
              source = c.args.source.now;
              source' = c.rx.new.source;
              out = c.args.sink.now;
              out' = c.rx.new.out;
              disk = c.args.disk.now;
              disk' = c.rx.new.disk;
              dial = _;
              dial' = _;
              plays = plays;
            } in
            elim (played_or_stopped plays.ended c.rx.result plays.is_status) [
              | inl ok ↦
                  let whole = by.whole _ _ _ _ _ run [] empty ok.0 ok.1
                  (by.ends _ _ _ _ _ run [] empty plays.ended (plays.headline tt tt [] empty start)
                  plays.is_status) in (
                    does.0.0,
                    record {
                      told = whole.told tt
                          ∙ ap (λ v. v ++ transcript (lines (source_left c.args.source.now))
                          (opened (host_of c.args.handlers.now c.args.hooks.now) does.0.0 empty))
                          c.requires.fresh;
                      kept = whole.kept (content_of c.rx.new.disk)
                          (reads_as_of (history_of c.rx.new.disk));
                      refusal = whole.refusal;
                      unheard = unheard empty _ _ ok.0 ok.1
                          (plays.headline tt tt [] empty start);
                    },
                  )
              | inr more ↦ absurd (omega (arith, is, more))
            ]
        | inr lacks ↦ absurd (omega (arith, is, lacks.0))
      ];
    }
