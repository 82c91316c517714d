use Rattle.std.proofs.Common.{◌≡◌, ◌<◌, ◌+◌, ◌++◌, ◌^◌, ◌∙◌, false, true, length, length-append, map, ap, sym, subst, arith}
use Rattle.std.proofs.lemmas.List.{length-map}
use Rattle.std.specs.List.{AllByRecursion}
use Rattle.rx_index.specs.ByKey.{IsNameOf, names_between, start_of}
use Rattle.rx_index.proofs.Starts.{between_few, ids_of_names, keys_rise, texts_between}
use Rattle.rx_index.proofs.view.range_by_key.Goals as goal

pub of_names-requires : goal.of_names-requires
of_names-requires c =
    let m = c.args.keys.now in
    let live = c.names_between-live.ensures.names
    ∙ (λ i. names_between (c.plain.ensures.side i) (c.start.ensures i) (c.start-2.ensures i)) in
    let gone = c.names_between-gone.ensures.names
    ∙ (λ i. names_between (c.marked.ensures i) (c.start-3.ensures i) (c.start-4.ensures i)) in
    subst (AllByRecursion (λ e. IsNameOf false e.0)) (λ i. sym live i ++ sym gone i)
    (texts_between (start_of false c.args.low.now) (start_of false c.args.high.now)
    (start_of true c.args.low.now) (start_of true c.args.high.now) m.plain m.marked
    c.plain.ensures.lawful.plain.texts c.plain.ensures.lawful.marked.texts)

pub returns-clause-ids : goal.returns-clause-ids
returns-clause-ids c =
    let m = c.args.keys.now in
    let live = c.names_between-live.ensures.names
    ∙ (λ i. names_between (c.plain.ensures.side i) (c.start.ensures i) (c.start-2.ensures i)) in
    let gone = c.names_between-gone.ensures.names
    ∙ (λ i. names_between (c.marked.ensures i) (c.start-3.ensures i) (c.start-4.ensures i)) in
    c.of_names.ensures ∙ (λ i. map (λ e. e.0) (live i ++ gone i))
    ∙ ids_of_names c.args.low.now c.args.high.now m.plain m.marked

pub returns-clause-rising : goal.returns-clause-rising
returns-clause-rising c =
    let m = c.args.keys.now in
    let lawful = c.plain.ensures.lawful in
    keys_rise m.plain m.marked lawful.plain.rising lawful.marked.rising

pub returns-clause-fits : goal.returns-clause-fits
returns-clause-fits c =
    let m = c.args.keys.now in
    let lawful = c.plain.ensures.lawful in
    let low = c.args.low.now in
    let high = c.args.high.now in
    let live = names_between m.plain (start_of false low) (start_of false high) in
    let gone = names_between m.marked (start_of true low) (start_of true high) in
    let long : length c.of_names.result ≡ length live + length gone =
    ap length (c.of_names.ensures
    ∙ (λ i. map (λ e. e.0) ((c.names_between-live.ensures.names
    ∙ (λ j. names_between (c.plain.ensures.side j) (c.start.ensures j) (c.start-2.ensures j))) i
    ++ (c.names_between-gone.ensures.names
    ∙ (λ j. names_between (c.marked.ensures j) (c.start-3.ensures j) (c.start-4.ensures j))) i)))
    ∙ length-map (live ++ gone) (λ e. e.0) ∙ length-append live gone in
    let few = between_few (start_of false low) (start_of false high) m.plain in
    let few' = between_few (start_of true low) (start_of true high) m.marked in
    let most : length m.plain < 2 ^ 62 = lawful.plain.few in
    let most' : length m.marked < 2 ^ 62 = lawful.marked.few in
    omega (arith, long, few, few', most, most')
