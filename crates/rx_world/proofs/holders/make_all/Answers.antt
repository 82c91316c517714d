use Rattle.std.proofs.Common.{◌≡◌, ◌++◌, List, String, Global, Ok, string_bytes, subst, sym, rules}
use Rattle.rx_collection.specs.Held.{Held}
use Rattle.rx_collection.specs.declared.holder.Plain.{Plain}
use Rattle.rx_value.specs.Named.{by_bytes, by_name}
use Rattle.rx_world.specs.Holders.{AreMadeFor, AreWhole}
use Rattle.rx_world.proofs.Looked.{all_put_named}
use Rattle.rx_world.proofs.Remaking.{plain_held, is_broken, whole_again, held_behind}
use Rattle.rx_world.proofs.holders.make_all.Goals as goal

pub loop-entry-init : goal.loop-entry-init
loop-entry-init g c =
    let is : c.into_iter-entry-iterator.result ≡ c.args.plain.entries =
    c.into_iter-entry-iterator.ensures.into_iter_gives.0 in
    rw is (record {
      held = search rules;
      whole = search rules;
      left = c.requires.whole;
      made = search rules;
    })

pub add-requires : goal.add-requires
add-requires g c =
    let left = subst (AreWhole plain_held is_broken) c.in-Some.ensures.steps
    c.loop-entry.invariant.left in
    let made = c.requires.makes c.in-Some.entry.1.collection (Ok c.in_ok-holder.holder)
    (search rules) in
    whole_again g.H.Holder.held g.H.Holder.is_broken
    (string_bytes c.in-Some.entry.0) c.in-Some.entry.1
    c.in_ok-holder.holder left.0 made.0 made.1

pub loop-entry-preserved : goal.loop-entry-preserved
loop-entry-preserved g c =
    let held = g.H.Holder.held in
    let old = c.loop-entry.all.entries in
    let entry = c.in-Some.entry in
    let steps = c.in-Some.ensures.steps in
    let left = subst (AreWhole plain_held is_broken) steps c.loop-entry.invariant.left in
    let post : g.F.Fn.post c.args.make.now (entry.1.collection, tt) (Ok c.in_ok-holder.holder) =
    search rules in
    let made = c.requires.makes entry.1.collection (Ok c.in_ok-holder.holder) post in
    let so_far =
    subst (λ (es : List (String Global × Plain)). by_name held old ++ by_name plain_held es
    ≡ by_name plain_held c.args.plain.entries) steps c.loop-entry.invariant.held in
    record {
      held =
          held_behind held g.H.Holder.is_broken old c.add.new.holders.entries entry c.next.new.self
          c.args.plain.entries c.in_ok-holder.holder so_far c.requires.distinct
          c.in_ok-add.ensures.held made.0;
      whole = c.in_ok-add.ensures.whole c.loop-entry.invariant.whole;
      left = left.1;
      made = subst (AreMadeFor (λ x h. g.F.Fn.post c.args.make.now (x, tt) (Ok h)))
          (sym c.in_ok-add.ensures.holders)
          (all_put_named (λ _ h. (x : Held) × g.F.Fn.post c.args.make.now (x, tt) (Ok h))
          (by_bytes old) (string_bytes entry.0) c.in_ok-holder.holder
          (entry.1.collection, post) c.loop-entry.invariant.made);
    }
