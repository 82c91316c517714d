use Rattle.std.proofs.Common.{◌∙◌, ◌≡◌, decimal, subst, List, ℕ, OnErr}
use Rattle.std.proofs.lemmas.Result.{on_err_weaker}
use Rattle.rx_value.proofs.Outcomes.{on_err}
use Rattle.rx_outside.specs.Sink.{WritesFront}
use Rattle.rx_top.proofs.Stopping.{front_short, front_more}
use Rattle.rx_top.proofs.stop.write_number.Goals as goal

pub returns-in_err-write_all-clause-err : goal.returns-in_err-write_all-clause-err
returns-in_err-write_all-clause-err g c = λ told.
    on_err c.from_residual.result _
    (front_short _ _ c.args.label.now (decimal c.args.number) (c.in_err-write_all.ensures.err told))

pub returns-clause-err : goal.returns-clause-err
returns-clause-err g c = λ told.
    let text : c.as_bytes.result.now ≡ decimal c.args.number =
    c.as_bytes.ensures.value ∙ c.format.ensures.text in
    on_err_weaker c.write_all-2.result
    (λ front. front_more _ (g.K.Sink.written c.write_all.new.sink) _ c.args.label.now
    (decimal c.args.number) (c.in_ok-write_all.ensures.ok told) front)
    (subst (λ (v : List ℕ). OnErr c.write_all-2.result
    (WritesFront (g.K.Sink.written c.write_all.new.sink)
    (g.K.Sink.written c.write_all-2.new.sink) v))
    text (c.write_all-2.ensures.err told))
