use Rattle.std.proofs.Common.{◌++◌, decimal}
use Rattle.std.proofs.lemmas.Result.{on_ok_weaker, on_err_weaker}
use Rattle.std.specs.Prelude.{codes}
use Rattle.rx_value.proofs.Outcomes.{on_err}
use Rattle.rx_top.proofs.Stopping.{front_short, front_more, three}
use Rattle.rx_top.proofs.stop.write_full.Goals as goal

pub returns-in_err-write_number-clause-err : goal.returns-in_err-write_number-clause-err
returns-in_err-write_number-clause-err g c = λ told.
    on_err c.from_residual.result _
    (front_short _ _ (codes "{\"limit\":" ++ decimal c.args.limit)
    ((codes ",\"stop\":\"full\",\"would\":" ++ decimal c.args.would) ++ codes "}\n")
    (c.in_err-write_number.ensures.err told))

pub returns-in_err-write_number-2-clause-err : goal.returns-in_err-write_number-2-clause-err
returns-in_err-write_number-2-clause-err g c = λ told.
    on_err c.from_residual-in_err-write_number-2.result _
    (front_more _ (g.K.Sink.written c.write_number.new.out) _
    (codes "{\"limit\":" ++ decimal c.args.limit)
    ((codes ",\"stop\":\"full\",\"would\":" ++ decimal c.args.would) ++ codes "}\n")
    (c.in_ok-write_number.ensures.ok told)
    (front_short _ _ (codes ",\"stop\":\"full\",\"would\":" ++ decimal c.args.would) (codes "}\n")
    (c.in_err-write_number-2.ensures.err told)))

pub returns-clause-ok : goal.returns-clause-ok
returns-clause-ok g c = λ told.
    on_ok_weaker c.write_all.result
    (three (g.K.Sink.written c.args.out.now) (g.K.Sink.written c.write_number.new.out)
    (g.K.Sink.written c.write_number-2.new.out) (g.K.Sink.written c.write_all.new.sink)
    (codes "{\"limit\":" ++ decimal c.args.limit)
    (codes ",\"stop\":\"full\",\"would\":" ++ decimal c.args.would) (codes "}\n")
    (c.in_ok-write_number.ensures.ok told) (c.in_ok-write_number-2.ensures.ok told))
    (c.write_all.ensures.ok told)

pub returns-clause-err : goal.returns-clause-err
returns-clause-err g c = λ told.
    on_err_weaker c.write_all.result
    (λ front. front_more _ (g.K.Sink.written c.write_number.new.out) _
    (codes "{\"limit\":" ++ decimal c.args.limit)
    ((codes ",\"stop\":\"full\",\"would\":" ++ decimal c.args.would) ++ codes "}\n")
    (c.in_ok-write_number.ensures.ok told)
    (front_more _ (g.K.Sink.written c.write_number-2.new.out) _
    (codes ",\"stop\":\"full\",\"would\":" ++ decimal c.args.would) (codes "}\n")
    (c.in_ok-write_number-2.ensures.ok told) front))
    (c.write_all.ensures.err told)
