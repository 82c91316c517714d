use Rattle.std.proofs.Common.{◌≡◌, [], sym, ap, subst}
use Rattle.rx_update.specs.Shown.{hooking_of}
use Rattle.rx_session.specs.Doing.{session_after, set_clock}
use Rattle.rx_session.specs.Emissions.{emissions, settled_session, IsSettled}
use Rattle.rx_session.specs.Session.{Session}
use Rattle.rx_session.proofs.Settling.{is_settled, session_of}
use Rattle.rx_session.proofs.session.Session.set_clock.Goals as goal

pub returns-clause-session : goal.returns-clause-session
returns-clause-session c =
    let i = c.self.inside in
    let at = c.args.moment in
    subst (λ (s : Session).
    session_of i.world at (hooking_of i.hooks) i.streams.items i.places.items
    ≡ settled_session (session_after (set_clock at) s))
    c.self.view_is
    (ap (λ (s : Session). record s { moment = at }) (sym (is_settled i c.self.invariant).same))

pub returns-clause-emissions : goal.returns-clause-emissions
returns-clause-emissions c =
    let i = c.self.inside in
    subst (λ (s : Session). emissions (session_after (set_clock c.args.moment) s) ≡ [])
    c.self.view_is
    (is_settled i c.self.invariant).quiet

pub returns-clause-before : goal.returns-clause-before
returns-clause-before c = subst IsSettled c.self.view_is (is_settled c.self.inside c.self.invariant)
