use Rattle.std.proofs.Common.{◌∙◌, OnOk, Result, Ok, Err, sym, ap}
use Rattle.std.specs.Prelude.{set}
use Rattle.rx_stream.specs.Events.{Queue, kept}
use Rattle.rx_stream.specs.declared.stream.Stream.{Stream}
use Rattle.rx_session.proofs.Streamed.{is_nowhere, is_placed}
use Rattle.rx_session.proofs.streaming.keep_queued.Goals as goal

on_ok_then : {T E : Type 0} (r : Result T E) {A B : Type 0} → (A → B) → OnOk r A → OnOk r B
on_ok_then (Ok x) f a = f a
on_ok_then (Err e) f a = tt

-- the queue of the stream at its place is another
pub returns-in-Some : goal.returns-in-Some
returns-in-Some c =
    let sts = c.args.streams.now.items in
    let es = c.args.events.items in
    let st = c.index_mut.result.now in
    let p =
    is_placed c.args.name.now sts c.as_slice.result.now c.find_stream.result c.in-Some.i
    c.as_slice.ensures.value c.find_stream.ensures c.in-Some.is in
    on_ok_then c.keep.result
    (λ made. ap (λ (q : Queue).
    set sts c.in-Some.i (record { name = st.name; master = st.master; queue = q })) made
    ∙ ap (λ (x : Stream). set sts c.in-Some.i (record x { queue = kept es x.queue }))
    (c.index_mut.ensures.value ∙ p.at st)
    ∙ sym (p.changed (kept es)))
    c.keep.ensures.ok

pub returns-in-None : goal.returns-in-None
returns-in-None c =
    let sts = c.args.streams.now.items in
    sym ((is_nowhere c.args.name.now sts c.as_slice.result.now c.find_stream.result
    c.as_slice.ensures.value c.find_stream.ensures c.in-None.is).same (kept c.args.events.items))
