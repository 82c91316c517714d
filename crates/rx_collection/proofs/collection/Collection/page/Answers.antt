use Rattle.std.proofs.Common.{rules, ◌∙◌, ap, sym, subst, option_map, slice_get, take}
use Rattle.std.proofs.lemmas.Fn.{always_returns_same}
use Rattle.rx_collection.specs.Held.{Held}
use Rattle.rx_runs.specs.Rows.{shown}
use Rattle.rx_collection.specs.Log.{is_up_to, written, IsLog}
use Rattle.rx_collection.specs.Since.{since}
use Rattle.rx_collection.proofs.Logged.{page_none, page_some, up_first}
use Rattle.rx_runs.specs.Marked.{all_slots}
use Rattle.rx_collection.proofs.collection.Collection.page.Goals as goal

pub returns-in-None-clause-documents : goal.returns-in-None-clause-documents
returns-in-None-clause-documents c =
    let i = c.self.inside in
    let w = c.self.invariant.0 in
    let n = c.args.n in
    ap (λ l. take n (written i.rows l)) c.as_slice-log.ensures.value
    ∙ page_none i.schema.primary i.rows (all_slots i.names) i.log.items n w.slots w.logged w.lawful.rising
    w.lawful.each
    ∙ ap (λ o. since (shown i.rows (all_slots i.names)) (option_map (λ p. p.now) o) n) (sym c.in-None.is)
    ∙ ap (λ (h : Held). since h.documents (option_map (λ p. p.now) c.args.place) n) c.self.view_is

pub returns-in-Some-clause-documents : goal.returns-in-Some-clause-documents
returns-in-Some-clause-documents c =
    let i = c.self.inside in
    let w = c.self.invariant.0 in
    let n = c.args.n in
    let q = c.in-Some.place.now in
    let log = c.as_slice-log.result.now in
    let from = c.partition_point-from.result in
    let logged = subst (IsLog i.rows (all_slots i.names)) (sym c.as_slice-log.ensures.value) w.logged in
    let point = c.partition_point-from.ensures.partitioned (λ l.
    is_up_to q l.0 (slice_get i.rows l.1))
    (always_returns_same _ _ _ (λ a r f called. search rules))
    (up_first i.rows q log logged.each logged.rising) in
    ap (λ l. take n (written i.rows l)) c.split_at.ensures.back
    ∙ page_some i.schema.primary i.rows (all_slots i.names) log q from n w.slots logged w.lawful.rising
    w.lawful.each
    c.partition_point-from.ensures.bound point
    ∙ ap (λ o. since (shown i.rows (all_slots i.names)) (option_map (λ p. p.now) o) n) (sym c.in-Some.is)
    ∙ ap (λ (h : Held). since h.documents (option_map (λ p. p.now) c.args.place) n) c.self.view_is
