use Rattle.std.proofs.Common.{◌∙◌, ap, append_assoc, ◌++◌, decimal, List, ℕ}
use Rattle.std.proofs.lemmas.Result.{on_ok_weaker, on_err_weaker}
use Rattle.std.specs.Prelude.{codes}
use Rattle.rx_value.proofs.Outcomes.{on_err}
use Rattle.rx_top.proofs.Stopping.{front_short, front_more, three}
use Rattle.rx_top.proofs.compact.write_made.Goals as goal

pub returns-in_err-write_number-clause-err : goal.returns-in_err-write_number-clause-err
returns-in_err-write_number-clause-err g c = λ told.
    let made = c.args.made.now in
    on_err c.from_residual.result _
    (front_short _ _ (codes "{\"bytes\":" ++ decimal made.copied.end)
    ((codes ",\"from\":" ++ decimal made.from)
    ++ ((codes ",\"records\":" ++ decimal made.copied.records) ++ codes "}\n"))
    (c.in_err-write_number.ensures.err told))

pub returns-in_err-write_number-2-clause-err : goal.returns-in_err-write_number-2-clause-err
returns-in_err-write_number-2-clause-err g c = λ told.
    let made = c.args.made.now in
    let more = (codes ",\"records\":" ++ decimal made.copied.records) ++ codes "}\n" in
    on_err c.from_residual-in_err-write_number-2.result _
    (front_more _ (g.K.Sink.written c.write_number.new.out) _
    (codes "{\"bytes\":" ++ decimal made.copied.end)
    ((codes ",\"from\":" ++ decimal made.from) ++ more)
    (c.in_ok-write_number.ensures.ok told)
    (front_short _ _ (codes ",\"from\":" ++ decimal made.from) more
    (c.in_err-write_number-2.ensures.err told)))

pub returns-in_err-write_number-3-clause-err : goal.returns-in_err-write_number-3-clause-err
returns-in_err-write_number-3-clause-err g c = λ told.
    let made = c.args.made.now in
    let last = codes ",\"records\":" ++ decimal made.copied.records in
    on_err c.from_residual-in_err-write_number-3.result _
    (front_more _ (g.K.Sink.written c.write_number.new.out) _
    (codes "{\"bytes\":" ++ decimal made.copied.end)
    ((codes ",\"from\":" ++ decimal made.from) ++ (last ++ codes "}\n"))
    (c.in_ok-write_number.ensures.ok told)
    (front_more _ (g.K.Sink.written c.write_number-2.new.out) _
    (codes ",\"from\":" ++ decimal made.from) (last ++ codes "}\n")
    (c.in_ok-write_number-2.ensures.ok told)
    (front_short _ _ last (codes "}\n") (c.in_err-write_number-3.ensures.err told))))

pub returns-clause-ok : goal.returns-clause-ok
returns-clause-ok g c = λ told.
    let made = c.args.made.now in
    let first = codes "{\"bytes\":" ++ decimal made.copied.end in
    let second = codes ",\"from\":" ++ decimal made.from in
    let last = codes ",\"records\":" ++ decimal made.copied.records in
    let old : List ℕ = g.K.Sink.written c.args.out.now in
    on_ok_weaker c.write_all.result
    (λ wrote. three (g.K.Sink.written c.write_number.new.out)
    (g.K.Sink.written c.write_number-2.new.out) (g.K.Sink.written c.write_number-3.new.out)
    (g.K.Sink.written c.write_all.new.sink) second last (codes "}\n")
    (c.in_ok-write_number-2.ensures.ok told) (c.in_ok-write_number-3.ensures.ok told) wrote
    ∙ ap (λ v. v ++ (second ++ (last ++ codes "}\n"))) (c.in_ok-write_number.ensures.ok told)
    ∙ append_assoc old first (second ++ (last ++ codes "}\n")))
    (c.write_all.ensures.ok told)

pub returns-clause-err : goal.returns-clause-err
returns-clause-err g c = λ told.
    let made = c.args.made.now in
    let last = codes ",\"records\":" ++ decimal made.copied.records in
    on_err_weaker c.write_all.result
    (λ front. front_more _ (g.K.Sink.written c.write_number.new.out) _
    (codes "{\"bytes\":" ++ decimal made.copied.end)
    ((codes ",\"from\":" ++ decimal made.from) ++ (last ++ codes "}\n"))
    (c.in_ok-write_number.ensures.ok told)
    (front_more _ (g.K.Sink.written c.write_number-2.new.out) _
    (codes ",\"from\":" ++ decimal made.from) (last ++ codes "}\n")
    (c.in_ok-write_number-2.ensures.ok told)
    (front_more _ (g.K.Sink.written c.write_number-3.new.out) _ last (codes "}\n")
    (c.in_ok-write_number-3.ensures.ok told) front)))
    (c.write_all.ensures.err told)
