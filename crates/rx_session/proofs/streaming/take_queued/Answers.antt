use Rattle.std.proofs.Common.{◌∙◌, false, [], Option, sym, ap}
use Rattle.std.specs.Option.{option_map_or}
use Rattle.std.specs.Prelude.{set}
use Rattle.rx_stream.specs.Events.{Queue, emptied}
use Rattle.rx_stream.specs.declared.stream.Stream.{Stream}
use Rattle.rx_session.proofs.Streamed.{is_nowhere, is_placed}
use Rattle.rx_session.proofs.streaming.take_queued.Goals as goal

-- it gave what it had
pub returns-in-Some-clause-streams : goal.returns-in-Some-clause-streams
returns-in-Some-clause-streams c =
    let sts = c.args.streams.now.items in
    let st = c.index_mut.result.now in
    let p =
    is_placed c.args.name.now c.args.streams.now.items c.as_slice.result.now c.find_stream.result
    c.in-Some.i c.as_slice.ensures.value c.find_stream.ensures c.in-Some.is in
    ap (λ (q : Queue).
    set sts c.in-Some.i (record { name = st.name; master = st.master; queue = q }))
    c.take.ensures.rest
    ∙ ap (λ (x : Stream). set sts c.in-Some.i (record x { queue = emptied x.queue }))
    (c.index_mut.ensures.value ∙ p.at st)
    ∙ sym (p.changed emptied)

pub returns-in-Some-clause-events : goal.returns-in-Some-clause-events
returns-in-Some-clause-events c =
    let st = c.index_mut.result.now in
    let p =
    is_placed c.args.name.now c.args.streams.now.items c.as_slice.result.now c.find_stream.result
    c.in-Some.i c.as_slice.ensures.value c.find_stream.ensures c.in-Some.is in
    c.take.ensures.events
    ∙ ap (λ (x : Stream). x.queue.events) (c.index_mut.ensures.value ∙ p.at st)
    ∙ ap (λ (o : Option Stream). option_map_or (λ (x : Stream). x.queue.events) o []) (sym p.found)

pub returns-in-Some-clause-lost : goal.returns-in-Some-clause-lost
returns-in-Some-clause-lost c =
    let st = c.index_mut.result.now in
    let p =
    is_placed c.args.name.now c.args.streams.now.items c.as_slice.result.now c.find_stream.result
    c.in-Some.i c.as_slice.ensures.value c.find_stream.ensures c.in-Some.is in
    c.take.ensures.mark
    ∙ ap (λ (x : Stream). x.queue.mark) (c.index_mut.ensures.value ∙ p.at st)
    ∙ ap (λ (o : Option Stream). option_map_or (λ (x : Stream). x.queue.mark) o false) (sym p.found)

-- there was none
pub returns-in-None-clause-streams : goal.returns-in-None-clause-streams
returns-in-None-clause-streams c =
    let n =
    is_nowhere c.args.name.now c.args.streams.now.items c.as_slice.result.now c.find_stream.result
    c.as_slice.ensures.value c.find_stream.ensures c.in-None.is in
    sym (n.same emptied)

pub returns-in-None-clause-events : goal.returns-in-None-clause-events
returns-in-None-clause-events c =
    let n =
    is_nowhere c.args.name.now c.args.streams.now.items c.as_slice.result.now c.find_stream.result
    c.as_slice.ensures.value c.find_stream.ensures c.in-None.is in
    c.new.ensures.items
    ∙ ap (λ (o : Option Stream). option_map_or (λ (x : Stream). x.queue.events) o []) (sym n.found)

pub returns-in-None-clause-lost : goal.returns-in-None-clause-lost
returns-in-None-clause-lost c =
    let n =
    is_nowhere c.args.name.now c.args.streams.now.items c.as_slice.result.now c.find_stream.result
    c.as_slice.ensures.value c.find_stream.ensures c.in-None.is in
    ap (λ (o : Option Stream). option_map_or (λ (x : Stream). x.queue.mark) o false) (sym n.found)
