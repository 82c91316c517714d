use Rattle.std.proofs.Common.{◌≡◌, ◌<◌, ◌≤◌, ◌^◌, length, ◌∙◌, ap, sym, subst, arith}
use Rattle.std.proofs.lemmas.List.{length-map}
use Rattle.std.specs.List.Sorted.{IsStrictlySortedBy}
use Rattle.rx_runs.specs.Run.{between}
use Rattle.rx_index.specs.Index.{ids_between}
use Rattle.rx_index.specs.Packed.{packed, AreKeys, ids_in, unpacked}
use Rattle.rx_index.specs.Position.{position_cmp, id_of}
use Rattle.rx_index.proofs.Keys.{between_keys, between_long, ids_alike, rising}
use Rattle.rx_index.proofs.index.Index.range.Goals as goal

pub new-requires : goal.new-requires
new-requires c =
    subst AreKeys (sym c.between-between.ensures.value)
    (between_keys c.self.inside.keys c.as_bytes.result.now c.as_bytes-2.result.now
    c.self.invariant.0)

pub returns-clause-ids : goal.returns-clause-ids
returns-clause-ids c =
    let es = c.self.inside.keys in
    let low : c.as_bytes.result.now ≡ packed c.args.low.now =
    c.as_bytes.ensures ∙ c.name.ensures.name in
    let high : c.as_bytes-2.result.now ≡ packed c.args.high.now =
    c.as_bytes-2.ensures ∙ c.name-2.ensures.name in
    c.new.ensures ∙ ap ids_in c.between-between.ensures.value
    ∙ (λ i. ids_in (between es (low i) (high i)))
    ∙ ids_alike c.args.low.now c.args.high.now es c.name.ensures.lawful c.name-2.ensures.lawful
    c.self.invariant.0
    ∙ ap (λ i. ids_between c.args.low.now c.args.high.now i.keys) c.self.view_is

pub returns-clause-rising : goal.returns-clause-rising
returns-clause-rising c =
    subst (λ i. IsStrictlySortedBy position_cmp i.keys) c.self.view_is
    (rising c.self.inside.keys c.self.invariant.0 c.between-between.ensures.rising)

pub returns-clause-fits : goal.returns-clause-fits
returns-clause-fits c =
    let es = c.self.inside.keys in
    let low = c.as_bytes.result.now in
    let high = c.as_bytes-2.result.now in
    let long : length c.new.result ≡ length (between es low high) =
    ap length (c.new.ensures ∙ ap ids_in c.between-between.ensures.value)
    ∙ length-map (between es low high) (λ e. id_of (unpacked e.0)) in
    let few : length (between es low high) ≤ length es = between_long es low high in
    let most : length es < 2 ^ 63 = c.self.invariant.1 in
    omega arith
