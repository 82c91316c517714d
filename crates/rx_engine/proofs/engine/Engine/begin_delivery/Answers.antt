use Rattle.std.proofs.Common.{◌≡◌, ◌∙◌, ℕ, List, Some, ap, sym, subst}
use Rattle.rx_session.specs.Doing.{with_emptied}
use Rattle.rx_session.specs.Session.{Session, has_lost, queued_in}
use Rattle.rx_session.specs.Streams.{AreStreamed}
use Rattle.rx_sync.specs.Asking.{pending_in}
use Rattle.rx_world.specs.World.{World}
use Rattle.rx_engine.specs.Engine.{asks_in, session_of}
use Rattle.rx_engine.specs.Marks.{AreMarked}
use Rattle.rx_engine.specs.Play.{play_of}
use Rattle.rx_engine.specs.Shown.{deliver_of}
use Rattle.rx_engine.proofs.engine.Engine.begin_delivery.Goals as goal

pub tell_none-none-requires : goal.tell_none-none-requires
tell_none-none-requires c = record {
  marked = subst (λ (w : World). AreMarked w c.release-parts.result.1.marks) (sym c.world.ensures)
      (subst (λ (x : Session). AreMarked x.world c.release-parts.result.1.marks)
      (sym c.release-parts.ensures.same) c.release-parts.ensures.marked);
}

pub returns-clause-begun : goal.returns-clause-begun
unfolding session_of
returns-clause-begun c =
    let d = deliver_of c.args.wanted.now in
    let parts = c.release-parts.ensures in
    let begun = c.begin.ensures.same ∙ parts.same in
    let t = c.take_queue-taken.ensures in
    let name = c.as_str-name.ensures in
    record {
      play = ap (play_of c.args.self.journal)
          (t.session ∙ ap (λ (n : List ℕ). with_emptied n c.begin.result) name
          ∙ ap (with_emptied d.name) begun);
      events = t.events ∙ ap (λ (n : List ℕ). queued_in n c.begin.result) name
          ∙ ap (queued_in d.name) begun;
      now = c.moment-now.ensures ∙ ap (λ (x : Session). x.moment) parts.same;
      none = λ is. subst (λ (x : Session). pending_in x.world d.name ≡ Some 0) parts.same
          (subst (λ (n : List ℕ). pending_in c.release-parts.result.0.world n ≡ Some 0) name
          (subst (λ (w : World). pending_in w c.as_str-name.result.now ≡ Some 0) c.world.ensures
          (c.tell_none-none.ensures is)));
      lost = t.lost ∙ ap (λ (n : List ℕ). has_lost n c.begin.result) name
          ∙ ap (has_lost d.name) begun;
    }

pub returns-clause-good : goal.returns-clause-good
unfolding session_of asks_in
returns-clause-good c =
    let parts = c.release-parts.ensures in
    record {
      made = parts.made;
      sound = parts.sound;
      streamed = subst (λ (x : Session). AreStreamed x.world x.streams)
          (c.begin.ensures.same ∙ parts.same) c.take_queue-taken.ensures.streamed;
      asks = parts.asks;
      remembers = parts.remembered;
      marked = parts.marked;
    }
