use Rattle.std.proofs.Common.{◌∙◌, ◌-◌, ap, sym, length, slice_get, Some, ◌≡◌, None}
use Rattle.rx_collection.specs.Held.{Held}
use Rattle.rx_collection.specs.Time.{last_lwt}
use Rattle.rx_collection.proofs.Logged.{got, no_last, last_time, none_time}
use Rattle.rx_runs.specs.Marked.{all_slots}
use Rattle.rx_collection.proofs.collection.Collection.last_lwt.Goals as goal

pub returns-in-Some-clause-value : goal.returns-in-Some-clause-value
returns-in-Some-clause-value c =
    let i = c.self.inside in
    let w = c.self.invariant.0 in
    let log = i.log.items in
    let at : slice_get log (length log - 1) ≡ Some c.in-Some.write.now =
    sym (c.in-Some.ensures.value ∙ ap (λ l. slice_get l (length l - 1)) c.as_slice.ensures.value) in
    let g = got log (length log - 1) c.in-Some.write.now at in
    last_time i.rows (all_slots i.names) log w.slots w.logged w.lawful.rising c.in-Some.write.now
    (length log - 1) g.0 g.1
    ∙ ap (λ (h : Held). last_lwt h.documents) c.self.view_is

pub returns-in-None-clause-value : goal.returns-in-None-clause-value
returns-in-None-clause-value c =
    let i = c.self.inside in
    let w = c.self.invariant.0 in
    let log = i.log.items in
    let none : slice_get log (length log - 1) ≡ None =
    sym (c.in-None.ensures.value ∙ ap (λ l. slice_get l (length l - 1)) c.as_slice.ensures.value) in
    none_time i.rows (all_slots i.names) log w.slots w.logged w.lawful.rising (no_last log none)
    ∙ ap (λ (h : Held). last_lwt h.documents) c.self.view_is
