use Rattle.std.proofs.Common.{◌≡◌, ◌∙◌, [], sym, ap, subst}
use Rattle.rx_update.specs.Shown.{hooking_of}
use Rattle.rx_session.specs.Doing.{attach, session_after, with_attached}
use Rattle.rx_session.specs.Emissions.{emissions, settled_session, IsSettled}
use Rattle.rx_session.specs.Session.{Session}
use Rattle.rx_session.proofs.Settling.{is_settled, session_of}
use Rattle.rx_session.proofs.session.Session.attach.Goals as goal

pub returns-clause-session : goal.returns-clause-session
returns-clause-session c =
    let i = c.self.inside in
    let one = c.args.one in
    subst (λ (s : Session).
    session_of i.world i.moment (hooking_of c.add_hook.new.hooks) i.streams.items i.places.items
    ≡ settled_session (session_after (attach one) s)) c.self.view_is
    (ap (λ hooks. session_of i.world i.moment hooks i.streams.items i.places.items)
    c.in_ok-add_hook.ensures
    ∙ ap (λ (s : Session). record s { hooks = with_attached one s.hooks })
    (sym (is_settled i c.self.invariant).same))

pub returns-clause-emissions : goal.returns-clause-emissions
returns-clause-emissions c =
    let i = c.self.inside in
    subst (λ (s : Session). emissions (session_after (attach c.args.one) s) ≡ []) c.self.view_is
    (is_settled i c.self.invariant).quiet

pub returns-clause-before : goal.returns-clause-before
returns-clause-before c = subst IsSettled c.self.view_is (is_settled c.self.inside c.self.invariant)

pub returns-in_err-add_hook-clause-emissions : goal.returns-in_err-add_hook-clause-emissions
returns-in_err-add_hook-clause-emissions c =
    let i = c.self.inside in
    subst (λ (s : Session). emissions (session_after (attach c.args.one) s) ≡ []) c.self.view_is
    (is_settled i c.self.invariant).quiet

pub returns-in_err-add_hook-clause-before : goal.returns-in_err-add_hook-clause-before
returns-in_err-add_hook-clause-before c =
    subst IsSettled c.self.view_is (is_settled c.self.inside c.self.invariant)
