use Rattle.std.proofs.Common.{◌≡◌, ◌∙◌, Some, ap, sym, subst}
use Rattle.rx_session.specs.Session.{Session}
use Rattle.rx_sync.specs.Asking.{pending_in}
use Rattle.rx_world.specs.World.{World}
use Rattle.rx_engine.specs.Engine.{asks_in, session_of}
use Rattle.rx_engine.specs.Marks.{AreMarked}
use Rattle.rx_engine.specs.Play.{play_of}
use Rattle.rx_engine.proofs.engine.Engine.begin_turn.Goals as goal

pub tell_none-none-requires : goal.tell_none-none-requires
tell_none-none-requires c = record {
  marked = subst (λ (w : World). AreMarked w c.release-parts.result.1.marks) (sym c.world.ensures)
      (subst (λ (x : Session). AreMarked x.world c.release-parts.result.1.marks)
      (sym c.release-parts.ensures.same) c.release-parts.ensures.marked);
}

pub returns : goal.returns
unfolding session_of asks_in
returns c =
    let parts = c.release-parts.ensures in
    record {
      play = ap (play_of c.args.self.journal) (c.begin.ensures.same ∙ parts.same);
      now = c.moment-now.ensures ∙ ap (λ (x : Session). x.moment) parts.same;
      none = λ is. subst (λ (x : Session). pending_in x.world c.args.name.now ≡ Some 0) parts.same
          (subst (λ (w : World). pending_in w c.args.name.now ≡ Some 0) c.world.ensures
          (c.tell_none-none.ensures is));
      asks = parts.asks;
      made = parts.made;
      sound = parts.sound;
      remembers = parts.remembered;
      marked = parts.marked;
    }
