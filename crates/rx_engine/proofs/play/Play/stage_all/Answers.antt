use Rattle.std.proofs.Common.{◌≡◌, ◌∙◌, List, [], ◌∷◌, map, ap, sym, subst, rules}
use Rattle.std.proofs.lemmas.List.{nil_from_length}
use Rattle.std.specs.Vec.Iter.{into_iter_items}
use Rattle.rx_record.specs.Content.{Content}
use Rattle.rx_record.specs.Shown.{content}
use Rattle.rx_engine.proofs.Staging.{IsStaging, all_staged, begun, further}
use Rattle.rx_engine.proofs.play.Play.stage_all.Goals as goal

pub loop-entry-init : goal.loop-entry-init
loop-entry-init c =
    let same : c.args.entries.items ≡ into_iter_items c.into_iter-entry-iterator.result =
    search rules in
    subst (λ (rest : List Content). IsStaging c.args.self (map content c.args.entries.items)
    c.args.self rest)
    (ap (map content) same) (begun c.args.self (map content c.args.entries.items) c.requires)

pub stage-requires : goal.stage-requires
stage-requires c =
    let way = subst (λ (rest : List Content). IsStaging c.args.self
    (map content c.args.entries.items) c.loop-entry.play rest)
    (ap (map content) c.in-Some.ensures.steps.0) c.loop-entry.invariant in
    (way.come.0, way.come.1, tt)

pub loop-entry-preserved : goal.loop-entry-preserved
loop-entry-preserved c =
    let way = subst (λ (rest : List Content). IsStaging c.args.self
    (map content c.args.entries.items) c.loop-entry.play rest)
    (ap (map content) c.in-Some.ensures.steps.0) c.loop-entry.invariant in
    further c.args.self (map content c.args.entries.items) c.loop-entry.play
    (content c.in-Some.entry ∷ []) (map content (into_iter_items c.next.new.self)) way
    c.in_ok-play.play c.in_ok-play.ensures

pub returns : goal.returns
returns c =
    let none : into_iter_items c.loop-entry.entry-iterator ≡ [] =
    nil_from_length _ (sym c.loop-entry.entry-iterator.rest.ok.0 ∙ c.in-None.ensures.steps.0) in
    all_staged c.args.self (map content c.args.entries.items) c.loop-entry.play
    (subst (λ (rest : List Content). IsStaging c.args.self
    (map content c.args.entries.items) c.loop-entry.play rest)
    (ap (map content) none) c.loop-entry.invariant)
