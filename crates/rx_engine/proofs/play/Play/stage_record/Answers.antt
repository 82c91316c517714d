use Rattle.std.proofs.Common.{◌∷◌, ◌++◌, [], sym, subst}
use Rattle.rx_record.specs.Shown.{content}
use Rattle.rx_session.specs.Session.{Session}
use Rattle.rx_engine.specs.Play.{IsAfter}
use Rattle.rx_engine.proofs.play.Play.stage_record.Goals as goal

pub returns : goal.returns
returns c = record {
  session = c.in_ok-playing.ensures;
  limit = c.stage_within.ensures.limit;
  staged = λ first v all is.
      subst (λ (s : Session). IsAfter first v (all ++ content c.args.entry ∷ [])
      c.stage_within.new.journal c.in_ok-past.past s.world) (sym c.in_ok-playing.ensures)
      (c.in_ok-past.ensures.staged first v c.args.self.playing.world all is c.requires.legal
      c.requires.sound);
}
