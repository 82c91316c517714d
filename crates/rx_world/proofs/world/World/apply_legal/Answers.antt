use Rattle.std.proofs.Common.{◌≡◌, Ok, true, sym, subst}
use Rattle.rx_record.specs.Shown.{content}
use Rattle.rx_value.specs.Named.{by_bytes}
use Rattle.rx_world.specs.Holders.{After, holders_in, holders_of, world_in}
use Rattle.rx_world.specs.Made.{IsMadeWorld}
use Rattle.rx_world.specs.Step.{legal}
use Rattle.rx_world.specs.Touch.{touch}
use Rattle.rx_world.specs.Valid.{AreDistinct}
use Rattle.rx_world.proofs.Making.{made_step}
use Rattle.rx_world.proofs.Valid.{distinct_step}
use Rattle.rx_world.proofs.world.World.apply_legal.Given.{Over}
use Rattle.rx_world.proofs.world.World.apply_legal.Goals as goal

-- the new world is one that records made
made : (g : Over) (c : goal.In_ok-change g)
    → IsMadeWorld (world_in g.H.Holder.held (holders_of c.change.new.parts))
made g c =
    let entry = content c.args.entry in
    let old = world_in g.H.Holder.held (holders_of c.self.inside.parts) in
    let legal : legal entry old ≡ true =
    subst (λ w. legal entry (world_in g.H.Holder.held w) ≡ true)
    (sym c.self.view_is) c.requires.legal in
    subst IsMadeWorld (sym c.in_ok-change.ensures.world)
    (made_step entry old legal c.requires.ordered c.self.invariant.made)

pub invariant_of-result : goal.invariant_of-result
invariant_of-result g c = record { whole = c.in_ok-change.ensures.whole; made = made g c }

pub returns-clause-made : goal.returns-clause-made
returns-clause-made g c = made g c

pub returns-clause-distinct : goal.returns-clause-distinct
returns-clause-distinct g c =
    subst AreDistinct (sym c.in_ok-change.ensures.world)
    (distinct_step (content c.args.entry)
    (world_in g.H.Holder.held (holders_of c.self.inside.parts))
    c.self.invariant.made.distinct)

pub returns-clause-holders : goal.returns-clause-holders
returns-clause-holders g c =
    let held = g.H.Holder.held in
    subst (λ w. After held g.H.Holder.written (λ x h. g.F.Fn.post c.args.make.now (x, tt) (Ok h))
    (touch (content c.args.entry) (world_in held w)) (holders_in w)
    (by_bytes c.change.new.parts.holders.entries)) c.self.view_is c.in_ok-change.ensures.holders
