use Rattle.std.proofs.Common.{◌≡◌, ◌∙◌, [], List, filter, not, sym, ap, subst}
use Rattle.std.specs.Str.{bytes_eq}
use Rattle.rx_stream.specs.declared.stream.Stream.{Stream}
use Rattle.rx_update.specs.Shown.{hooking_of}
use Rattle.rx_session.specs.Doing.{session_after, close_stream}
use Rattle.rx_session.specs.Emissions.{emissions, settled_session, IsSettled}
use Rattle.rx_session.specs.Placed.{world_of}
use Rattle.rx_session.specs.Session.{Session}
use Rattle.rx_session.specs.Streams.{AreStreamed}
use Rattle.rx_session.proofs.Settling.{is_settled, session_of}
use Rattle.rx_session.proofs.Streamed.{closed_streamed}
use Rattle.rx_session.proofs.session.Session.close_stream.Goals as goal

pub invariant_of-result : goal.invariant_of-result
invariant_of-result c =
    let i = c.self.inside in
    record {
      placed = c.self.invariant.placed;
      distinct = c.self.invariant.distinct;
      streamed = subst (AreStreamed (world_of i.world)) (sym c.drop_stream.ensures)
          (closed_streamed
          (world_of i.world) c.args.name.now i.streams.items c.self.invariant.streamed);
      quiet = c.self.invariant.quiet;
    }

pub returns-clause-session : goal.returns-clause-session
returns-clause-session c =
    let i = c.self.inside in
    subst (λ (s : Session).
    session_of i.world i.moment (hooking_of i.hooks) c.drop_stream.new.streams.items
    i.places.items ≡ settled_session (session_after (close_stream c.args.name.now) s))
    c.self.view_is
    (ap (λ (sts : List Stream). session_of i.world i.moment (hooking_of i.hooks) sts i.places.items)
    c.drop_stream.ensures
    ∙ ap (λ (s : Session).
    record s { streams = filter (λ st. not (bytes_eq c.args.name.now st.name)) s.streams })
    (sym (is_settled i c.self.invariant).same))

pub returns-clause-emissions : goal.returns-clause-emissions
returns-clause-emissions c =
    let i = c.self.inside in
    subst (λ (s : Session). emissions (session_after (close_stream c.args.name.now) s) ≡ [])
    c.self.view_is (is_settled i c.self.invariant).quiet

pub returns-clause-before : goal.returns-clause-before
returns-clause-before c = subst IsSettled c.self.view_is (is_settled c.self.inside c.self.invariant)
