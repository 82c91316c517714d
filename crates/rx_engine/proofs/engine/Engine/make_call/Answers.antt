use Rattle.std.proofs.Common.{◌∙◌, ℕ, List, [], ◌++◌, Ok, Err, ap, refl, sym, subst}
use Rattle.rx_value.specs.Named.{by_bytes}
use Rattle.rx_handler.specs.Shown.{kinds_of}
use Rattle.rx_journal.specs.declared.journal.Journal.{Journal}
use Rattle.rx_engine.specs.Calling.{called}
use Rattle.rx_engine.specs.Engine.{IsAfterCall, IsAt, limit_of, standing_of}
use Rattle.rx_engine.specs.Play.{IsPlayAt}
use Rattle.rx_engine.specs.Shown.{call_of}
use Rattle.rx_engine.specs.Turns.{IsBegun, MayEnd}
use Rattle.rx_engine.specs.declared.changing.AfterTurn.{AfterTurn}
use Rattle.rx_engine.specs.declared.play.Play.{Play}
use Rattle.rx_engine.proofs.AfterCalls.{call_begun, leaves_call_begun, may_call_begun}
use Rattle.rx_engine.proofs.AfterTurns.{after_so, at_end, may_end, none_begun}
use Rattle.rx_engine.proofs.Remotely.{done_so, ran_out_then, stops_so}
use Rattle.rx_store.proofs.Stops.{done_cause, handed_on, memory_cause, memory_stop, same_cause}
use Rattle.rx_engine.proofs.engine.Engine.make_call.Goals as goal

pub call_by_name-requires-clause-at : goal.call_by_name-requires-clause-at
call_by_name-requires-clause-at g c told =
    let at = c.requires.at told in (
      at.0,
      subst (λ (p : Play). IsPlayAt g.D.Disk c.args.disk.now p at.0)
          (sym c.begin_turn-begun.ensures.play) (at.1, refl),
    )

pub call_by_name-requires-clause-may : goal.call_by_name-requires-clause-may
call_by_name-requires-clause-may g c =
    let u = call_of c.args.wanted.now in
    let b = c.begin_turn-begun in
    let begun : IsBegun u.name c.args.self b.result =
    subst (λ (n : List ℕ). IsBegun n c.args.self b.result) c.as_str-name.ensures b.ensures in
    may_call_begun u (kinds_of c.args.handlers.now) c.args.self b.result begun c.requires.batch
    c.requires.can

pub call_by_name-requires-clause-none : goal.call_by_name-requires-clause-none
call_by_name-requires-clause-none g c =
    let b = c.begin_turn-begun in
    none_begun c.args.wanted.now.name c.args.self b.result
    (subst (λ (n : List ℕ). IsBegun n c.args.self b.result) c.as_str-name.ensures b.ensures)

pub returns-in_err-made-clause-turned : goal.returns-in_err-made-clause-turned
returns-in_err-made-clause-turned g c =
    let u = call_of c.args.wanted.now in
    let self = c.args.self in
    let b = c.begin_turn-begun in
    let begun : IsBegun u.name self b.result =
    subst (λ (n : List ℕ). IsBegun n self b.result) c.as_str-name.ensures b.ensures in
    let new = c.call_by_name.new.disk in
    let stop = c.in_err-made.field-0.0 in
    let r = c.from_residual in
    stops_so g.D.Disk c.args.disk.now new (limit_of self) _ _ _ _ _ (Err stop)
    (call_begun u (kinds_of c.args.handlers.now) self b.result begun c.requires.batch
    c.requires.can g.D.Disk c.args.disk.now new g.L.W.Wire.tells _ _
    (by_bytes c.call_by_name.new.asks.entries) (Err stop) c.in_err-made.ensures.turned)
    _ _ stop refl r.result (handed_on r.result stop r.ensures.1)

pub returns-in_err-after-clause-turned : goal.returns-in_err-after-clause-turned
returns-in_err-after-clause-turned g c =
    let u = call_of c.args.wanted.now in
    let self = c.args.self in
    let b = c.begin_turn-begun in
    let begun : IsBegun u.name self b.result =
    subst (λ (n : List ℕ). IsBegun n self b.result) c.as_str-name.ensures b.ensures in
    let new = c.call_by_name.new.disk in
    let r = c.from_residual-in_err-after in
    ran_out_then g.D.Disk c.args.disk.now new (limit_of self) _ _ _ _ _ (Ok c.in_ok-made.made)
    (call_begun u (kinds_of c.args.handlers.now) self b.result begun c.requires.batch
    c.requires.can g.D.Disk c.args.disk.now new g.L.W.Wire.tells _ _
    (by_bytes c.call_by_name.new.asks.entries) (Ok c.in_ok-made.made) c.in_ok-made.ensures.turned)
    _ _ _ r.result (memory_stop r.result r.ensures.1)

pub end-requires : goal.end-requires
end-requires g c =
    let kinds = kinds_of c.args.handlers.now in
    let u = call_of c.args.wanted.now in
    let self = c.args.self in
    let b = c.begin_turn-begun in
    let name = c.as_str-name.ensures in
    let begun : IsBegun u.name self b.result =
    subst (λ (n : List ℕ). IsBegun n self b.result) name b.ensures in
    let here = call_begun u kinds self b.result begun c.requires.batch c.requires.can g.D.Disk
    c.args.disk.now c.call_by_name.new.disk g.L.W.Wire.tells _ _
    (by_bytes c.call_by_name.new.asks.entries) (Ok c.in_ok-made.made)
    c.in_ok-made.ensures.turned in
    let m = c.in_ok-made.made in
    let r = record b.result.remembered { asks = c.call_by_name.new.asks } in
    let heard = here.heard ++ [] in
    record {
      may = subst (λ (n : List ℕ). MayEnd n m r) (sym name)
          (may_end u.name self b.result begun (called u (standing_of kinds heard self)).turned
          m r (here.so []).made_so
          (leaves_call_begun u kinds self b.result begun c.requires.batch c.requires.can heard) refl
          c.in_ok-made.ensures.none);
    }

pub returns-clause-turned : goal.returns-clause-turned
returns-clause-turned g c =
    let kinds = kinds_of c.args.handlers.now in
    let u = call_of c.args.wanted.now in
    let self = c.args.self in
    let b = c.begin_turn-begun in
    let begun : IsBegun u.name self b.result =
    subst (λ (n : List ℕ). IsBegun n self b.result) c.as_str-name.ensures b.ensures in
    let new = c.call_by_name.new.disk in
    let m = c.in_ok-made.made in
    let r = record b.result.remembered { asks = c.call_by_name.new.asks } in
    let here = call_begun u kinds self b.result begun c.requires.batch c.requires.can g.D.Disk
    c.args.disk.now new g.L.W.Wire.tells _ _ (by_bytes c.call_by_name.new.asks.entries) (Ok m)
    c.in_ok-made.ensures.turned in
    let after = c.in_ok-after.after in
    done_so g.D.Disk c.args.disk.now new (limit_of self) _ _ _ _ _ (Ok m) here
    (λ (m : AfterTurn). IsAt g.D.Disk new m.engine)
    (IsAfterCall u.name kinds self) m after refl
    (λ bodies holds. at_end g.D.Disk new m _ after c.in_ok-after.ensures bodies holds.0)
    (λ u later so. record {
      after = after_so c.args.wanted.now.name self b.result begun u.turned m r so.made_so after
          c.in_ok-after.ensures kinds later;
      later_so = so.later_so;
    })

pub returns-clause-limit : goal.returns-clause-limit
returns-clause-limit g c =
    ap (λ (j : Journal). j.limit) c.in_ok-after.ensures.journal ∙ c.in_ok-made.ensures.limit
    ∙ ap (λ (p : Play). p.journal.limit) c.begin_turn-begun.ensures.play

pub returns-clause-cause : goal.returns-clause-cause
returns-clause-cause g c =
    done_cause (g.D.Disk.faults c.args.disk.now) (g.D.Disk.faults c.call_by_name.new.disk)
    c.in_ok-made.made _ c.in_ok-made.ensures.cause

pub returns-in_err-after-clause-cause : goal.returns-in_err-after-clause-cause
returns-in_err-after-clause-cause g c =
    memory_cause (g.D.Disk.faults c.args.disk.now) (g.D.Disk.faults c.call_by_name.new.disk)
    c.in_ok-made.made _
    (memory_stop c.from_residual-in_err-after.result c.from_residual-in_err-after.ensures.1)
    c.in_ok-made.ensures.cause

pub returns-in_err-made-clause-cause : goal.returns-in_err-made-clause-cause
returns-in_err-made-clause-cause g c =
    same_cause (g.D.Disk.faults c.args.disk.now) (g.D.Disk.faults c.call_by_name.new.disk)
    c.in_err-made.field-0.0 c.from_residual.result
    (handed_on c.from_residual.result c.in_err-made.field-0.0 c.from_residual.ensures.1)
    c.in_err-made.ensures.cause
