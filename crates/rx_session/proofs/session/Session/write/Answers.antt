use Rattle.std.proofs.Common.{ap, ◌∙◌}
use Rattle.rx_record.specs.Shown.{content}
use Rattle.rx_session.specs.Doing.{session_after, write}
use Rattle.rx_session.specs.Emissions.{emissions, settled_session}
use Rattle.rx_session.specs.Session.{Session}
use Rattle.rx_session.proofs.session.Session.write.Goals as goal

pub returns-clause-session : goal.returns-clause-session
returns-clause-session c =
    c.in_ok-session.ensures.session
    ∙ ap settled_session (c.in_ok-played.ensures
    ∙ ap (λ (s : Session). session_after (write (content c.args.entry)) s) c.begin.ensures.same)

pub returns-clause-emissions : goal.returns-clause-emissions
returns-clause-emissions c =
    c.in_ok-session.ensures.emissions
    ∙ ap emissions (c.in_ok-played.ensures
    ∙ ap (λ (s : Session). session_after (write (content c.args.entry)) s) c.begin.ensures.same)

pub returns-clause-before : goal.returns-clause-before
returns-clause-before c = c.begin.ensures.before

pub returns-in_err-played-clause-before : goal.returns-in_err-played-clause-before
returns-in_err-played-clause-before c = c.begin.ensures.before

pub returns-in_err-session-clause-before : goal.returns-in_err-session-clause-before
returns-in_err-session-clause-before c = c.begin.ensures.before
