use Rattle.std.proofs.Common.{◌≡◌, List, [], ap, sym, ◌∙◌, subst}
use Rattle.rx_stream.specs.declared.stream.Stream.{Stream}
use Rattle.rx_update.specs.Shown.{hooking_of}
use Rattle.rx_session.specs.Doing.{session_after, restart}
use Rattle.rx_session.specs.Emissions.{emissions, settled_session, IsSettled}
use Rattle.rx_session.specs.Placed.{world_of}
use Rattle.rx_session.specs.Session.{Session}
use Rattle.rx_session.specs.Streams.{AreStreamed}
use Rattle.rx_session.proofs.Carrying.{carried_distinct, carried_due, carried_placed, carried_quiet, carried_session, each_quiet}
use Rattle.rx_session.proofs.Settling.{is_settled, session_of}
use Rattle.rx_session.proofs.session.Session.reopen.Goals as goal

pub carry_all-requires-clause-quiet : goal.carry_all-requires-clause-quiet
carry_all-requires-clause-quiet c = each_quiet c.self.inside c.self.invariant

pub returns-in_err-carry_all-clause-emissions : goal.returns-in_err-carry_all-clause-emissions
returns-in_err-carry_all-clause-emissions c =
    let number = c.args.world.epoch in
    subst (λ (s : Session). emissions (session_after (restart number) s) ≡ []) c.self.view_is
    (carried_due c.self.inside c.self.invariant number)

pub invariant_of-result : goal.invariant_of-result
invariant_of-result c =
    let i = c.self.inside in
    let so = c.self.invariant in
    let new = c.carry_all.new.world in
    let lives = c.in_ok-carry_all.ensures.lives in
    record {
      placed = carried_placed i so new lives;
      streamed = subst (AreStreamed (world_of new)) (sym c.new.ensures.items) tt;
      distinct = carried_distinct i.world new lives so.distinct;
      quiet = carried_quiet i so new lives;
    }

pub returns-clause-session : goal.returns-clause-session
returns-clause-session c =
    let i = c.self.inside in
    let new = c.carry_all.new.world in
    let number = c.args.world.epoch in
    subst (λ (s : Session). session_of new i.moment (hooking_of i.hooks) c.new.result.items
    i.places.items ≡ settled_session (session_after (restart number) s)) c.self.view_is
    (ap (λ (sts : List Stream). session_of new i.moment (hooking_of i.hooks) sts i.places.items)
    c.new.ensures.items
    ∙ carried_session i c.self.invariant new c.in_ok-carry_all.ensures.lives number
    (c.in_ok-carry_all.ensures.replications ∙ c.requires.replications
    ∙ ap (λ (s : Session). s.world.replications) (sym c.self.view_is))
    c.in_ok-carry_all.ensures.epoch)

pub returns-clause-emissions : goal.returns-clause-emissions
returns-clause-emissions c =
    let number = c.args.world.epoch in
    subst (λ (s : Session). emissions (session_after (restart number) s) ≡ []) c.self.view_is
    (carried_due c.self.inside c.self.invariant number)

pub returns-clause-before : goal.returns-clause-before
returns-clause-before c = subst IsSettled c.self.view_is (is_settled c.self.inside c.self.invariant)

pub returns-in_err-carry_all-clause-before : goal.returns-in_err-carry_all-clause-before
returns-in_err-carry_all-clause-before c =
    subst IsSettled c.self.view_is (is_settled c.self.inside c.self.invariant)
