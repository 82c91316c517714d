use Rattle.std.proofs.Common.{◌≡◌, ◌∙◌, ◌++◌, ◌∷◌, [], List, sym, ap, subst}
use Rattle.rx_stream.specs.declared.stream.Stream.{Stream}
use Rattle.rx_observe.specs.Observing.{Observing}
use Rattle.rx_update.specs.Shown.{hooking_of}
use Rattle.rx_world.specs.Holders.{Holders}
use Rattle.rx_world.specs.Made.{IsMadeWorld}
use Rattle.rx_session.specs.Doing as doing
use Rattle.rx_session.specs.Doing.{new_stream, session_after}
use Rattle.rx_session.specs.Emissions.{emissions, settled_session, IsSettled}
use Rattle.rx_session.specs.Placed.{world_of}
use Rattle.rx_session.specs.Session.{Session}
use Rattle.rx_session.specs.Streams.{AreStreamed, IsStreamable}
use Rattle.rx_session.proofs.Settling.{is_settled, session_of}
use Rattle.rx_session.proofs.Streamed.{new_streamed, opened_streamed}
use Rattle.rx_session.proofs.session.Session.open_stream.Goals as goal
use Rattle.rx_session.proofs.session.Session.open_stream.Goals.{In_ok-push}

-- the streams, with one more
opened : (c : In_ok-push) → c.push.new.self.items
    ≡ c.self.inside.streams.items
    ++ new_stream (world_of c.self.inside.world) c.args.opening.name c.args.opening.master ∷ []
opened c =
    c.in_ok-push.ensures.items
    ∙ ap (λ (st : Stream). c.self.inside.streams.items ++ st ∷ []) c.in_ok-new_stream.ensures

pub invariant_of-result : goal.invariant_of-result
invariant_of-result c =
    let i = c.self.inside in
    let w = world_of i.world in
    let o = c.args.opening in
    record {
      placed = c.self.invariant.placed;
      distinct = c.self.invariant.distinct;
      streamed = subst (AreStreamed w) (sym (opened c))
          (opened_streamed w i.streams.items
          (new_stream w o.name o.master) c.self.invariant.streamed
          (new_streamed w (subst (λ (h : Holders Observing). IsMadeWorld (world_of h))
          c.world.view_is c.world.invariant.made)
          o.name o.master
          (subst (λ (s : Session). IsStreamable s.world o.name o.master)
          (sym c.self.view_is) c.requires)));
      quiet = c.self.invariant.quiet;
    }

pub returns-clause-session : goal.returns-clause-session
returns-clause-session c =
    let i = c.self.inside in
    let o = c.args.opening in
    subst (λ (s : Session).
    session_of i.world i.moment (hooking_of i.hooks) c.push.new.self.items i.places.items
    ≡ settled_session (session_after (doing.open_stream o.name o.master) s)) c.self.view_is
    (ap (λ (sts : List Stream). session_of i.world i.moment (hooking_of i.hooks) sts i.places.items)
    (opened c)
    ∙ ap (λ (s : Session).
    record s { streams = s.streams ++ new_stream s.world o.name o.master ∷ [] })
    (sym (is_settled i c.self.invariant).same))

pub returns-clause-emissions : goal.returns-clause-emissions
returns-clause-emissions c =
    let i = c.self.inside in
    let o = c.args.opening in
    subst (λ (s : Session). emissions (session_after (doing.open_stream o.name o.master) s) ≡ [])
    c.self.view_is (is_settled i c.self.invariant).quiet

pub returns-clause-before : goal.returns-clause-before
returns-clause-before c = subst IsSettled c.self.view_is (is_settled c.self.inside c.self.invariant)

pub returns-in_err-new_stream-clause-emissions : goal.returns-in_err-new_stream-clause-emissions
returns-in_err-new_stream-clause-emissions c =
    let i = c.self.inside in
    let o = c.args.opening in
    subst (λ (s : Session). emissions (session_after (doing.open_stream o.name o.master) s) ≡ [])
    c.self.view_is (is_settled i c.self.invariant).quiet

pub returns-in_err-new_stream-clause-before : goal.returns-in_err-new_stream-clause-before
returns-in_err-new_stream-clause-before c =
    subst IsSettled c.self.view_is (is_settled c.self.inside c.self.invariant)

pub returns-in_err-push-clause-emissions : goal.returns-in_err-push-clause-emissions
returns-in_err-push-clause-emissions c =
    let i = c.self.inside in
    let o = c.args.opening in
    subst (λ (s : Session). emissions (session_after (doing.open_stream o.name o.master) s) ≡ [])
    c.self.view_is (is_settled i c.self.invariant).quiet

pub returns-in_err-push-clause-before : goal.returns-in_err-push-clause-before
returns-in_err-push-clause-before c =
    subst IsSettled c.self.view_is (is_settled c.self.inside c.self.invariant)
