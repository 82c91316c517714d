use Rattle.std.proofs.Common.{◌≡◌, ◌∙◌, map, rules}
use Rattle.std.specs.Vec.Iter.{into_iter_items}
use Rattle.rx_world.specs.Holders.{holders_in}
use Rattle.rx_session.proofs.Carrying.{carrying_none, carrying_next, next_of, next_has_none, next_quiet, next_unbroken}
use Rattle.rx_session.proofs.reopening.carry_all.Goals as goal

pub loop-live-init : goal.loop-live-init
loop-live-init c =
    let left = into_iter_items c.into_iter-live-iterator.result in
    let all : left ≡ map (λ e. e.1) (holders_in c.args.old) = search rules in (
      carrying_none c.args.old c.args.world.now left c.requires.same c.requires.unwatched
          c.release.ensures.whole all,
      search rules,
      search rules,
    )

pub carry-requires-clause-whole : goal.carry-requires-clause-whole
carry-requires-clause-whole c =
    let ls = holders_in c.loop-live.world in
    let live = c.in-Some.live in
    let left = into_iter_items c.next.new.self in
    let n = next_of (holders_in c.args.old) ls live left (into_iter_items c.loop-live.live-iterator)
    c.loop-live.invariant.0 c.in-Some.ensures.steps.0 in
    next_unbroken c.args.old ls live left n c.release.ensures.whole

pub carry-requires-clause-quiet : goal.carry-requires-clause-quiet
carry-requires-clause-quiet c =
    let ls = holders_in c.loop-live.world in
    let live = c.in-Some.live in
    let left = into_iter_items c.next.new.self in
    let n = next_of (holders_in c.args.old) ls live left (into_iter_items c.loop-live.live-iterator)
    c.loop-live.invariant.0 c.in-Some.ensures.steps.0 in
    next_quiet c.args.old ls live left n c.requires.quiet

pub carry-requires-clause-bare : goal.carry-requires-clause-bare
carry-requires-clause-bare c =
    let ls = holders_in c.loop-live.world in
    let live = c.in-Some.live in
    let left = into_iter_items c.next.new.self in
    let n = next_of (holders_in c.args.old) ls live left (into_iter_items c.loop-live.live-iterator)
    c.loop-live.invariant.0 c.in-Some.ensures.steps.0 in
    next_has_none c.args.old ls live left n c.release.ensures.whole c.release.ensures.distinct

pub loop-live-preserved : goal.loop-live-preserved
loop-live-preserved c =
    let ls = holders_in c.loop-live.world in
    let live = c.in-Some.live in
    let left = into_iter_items c.next.new.self in
    let n = next_of (holders_in c.args.old) ls live left (into_iter_items c.loop-live.live-iterator)
    c.loop-live.invariant.0 c.in-Some.ensures.steps.0 in (
      carrying_next c.args.old ls live left n c.release.ensures.whole c.release.ensures.distinct
          (holders_in c.carry.new.world) c.in_ok-carry.ensures.lives,
      c.in_ok-carry.ensures.replications ∙ c.loop-live.invariant.1,
      c.in_ok-carry.ensures.epoch ∙ c.loop-live.invariant.2,
    )
