use Rattle.rx_record.specs.Shown.{content}
use Rattle.rx_session.proofs.Writing.{none_anew}
use Rattle.rx_engine.proofs.play.Play.stage.Goals as goal

pub stage_record-requires-clause-unobserved : goal.stage_record-requires-clause-unobserved
stage_record-requires-clause-unobserved c =
    let p = c.args.self.playing in
    none_anew (content c.args.entry) p.world p.queries c.requires.0.no_migration
