use Rattle.std.proofs.Common.{refl, [], ◌∷◌, ◌++◌}
use Rattle.rx_record.specs.Shown.{content}
use Rattle.rx_store.proofs.Stops.{handed_on}
use Rattle.rx_compact.proofs.Adding.{adds_then}
use Rattle.rx_compact.proofs.Staging.{adds_less, adds_one, adds_stop, staged_one}
use Rattle.rx_compact.proofs.writing.Copying.add.Goals as goal

pub write_if_much-requires : goal.write_if_much-requires
write_if_much-requires g c = record {
  going = λ told.
      let had = c.requires.going told in (
        had.0,
        had.1 ++ content c.args.entry.now ∷ [],
        staged_one g.D.Disk c.args.disk.now c.args.self (content c.args.entry.now)
            c.stage.new.journal c.in-Ok.ensures _ refl refl had.0 had.1 had.2,
      );
}

pub returns-in-Ok : goal.returns-in-Ok
returns-in-Ok g c =
    adds_then g.D.Disk c.args.disk.now c.args.disk.now c.write_if_much.new.disk c.args.self _
    (content c.args.entry.now ∷ []) [] c.write_if_much.result
    (adds_one g.D.Disk c.args.disk.now c.args.self (content c.args.entry.now) c.stage.new.journal
    c.in-Ok.ensures _ refl refl)
    c.write_if_much.ensures

pub returns-in_ok-commit-in-Err : goal.returns-in_ok-commit-in-Err
returns-in_ok-commit-in-Err g c =
    adds_stop g.D.Disk c.args.disk.now c.args.self (content c.args.entry.now) c.stage.new.journal
    c.in-Err.stop c.in-Err.ensures _ refl refl c.commit.new.disk c.in_ok-commit-in-Err.field-0
    c.in_ok-commit-in-Err.ensures.adds

pub returns-in_err-commit-in-Err : goal.returns-in_err-commit-in-Err
returns-in_err-commit-in-Err g c =
    adds_less g.D.Disk c.args.disk.now c.args.self (content c.args.entry.now) c.stage.new.journal
    c.in-Err.stop c.in-Err.ensures _ refl refl c.commit.new.disk c.in_err-commit-in-Err.field-0.0
    c.from_residual.result
    (handed_on c.from_residual.result c.in_err-commit-in-Err.field-0.0 c.from_residual.ensures.1)
    c.in_err-commit-in-Err.ensures.adds
