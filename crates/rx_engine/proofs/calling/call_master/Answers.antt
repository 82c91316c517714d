use Rattle.std.proofs.Common.{◌≡◌, ◌∙◌, ℕ, List, ap, sym, subst, inl, inr, rules}
use Rattle.rx_value.proofs.Outcomes.{some_same}
use Rattle.rx_schema.specs.declared.shape.Shape.{Shape}
use Rattle.rx_sync.specs.Remote.{no_wire, no_line, line, schema_in}
use Rattle.rx_wire.specs.Writing.{request_text}
use Rattle.rx_world.specs.World.{World}
use Rattle.rx_engine.specs.Callings.{Hears, wire_stands}
use Rattle.rx_engine.proofs.CallingOnce.{hears_end, hears_failed, hears_line, hears_long}
use Rattle.rx_engine.proofs.calling.call_master.Goals as goal

pub returns-in-Ok-clause-heard : goal.returns-in-Ok-clause-heard
returns-in-Ok-clause-heard g c = λ told schema at.
    let same : c.fork_schema.result.now ≡ schema =
    some_same (sym c.fork_schema.ensures
    ∙ ap (λ (v : World). schema_in v c.args.name.now) c.world.ensures ∙ at) in
    let text : c.as_bytes.result.now ≡ request_text schema c.args.request.now =
    c.as_bytes.ensures.value ∙ c.as_str.ensures ∙ c.in_ok-text.ensures.text
    ∙ ap (λ (s : Shape). request_text s c.args.request.now) same in
    let old = wire_stands g.W.Wire c.args.wire.now in
    let new = wire_stands g.W.Wire c.call.new.wire in
    subst (λ (t : List ℕ). Hears t (line c.in-Ok.line.items) old new) text
    (hears_line c.as_bytes.result.now old new (c.call.ensures.whole told) c.in-Ok.line.items
    (c.in-Ok.ensures.line told) (c.in-Ok.ensures.sent told))

pub returns-in-Err-Wire-clause-heard : goal.returns-in-Err-Wire-clause-heard
returns-in-Err-Wire-clause-heard g c = λ told schema at.
    let same : c.fork_schema.result.now ≡ schema =
    some_same (sym c.fork_schema.ensures
    ∙ ap (λ (v : World). schema_in v c.args.name.now) c.world.ensures ∙ at) in
    let text : c.as_bytes.result.now ≡ request_text schema c.args.request.now =
    c.as_bytes.ensures.value ∙ c.as_str.ensures ∙ c.in_ok-text.ensures.text
    ∙ ap (λ (s : Shape). request_text s c.args.request.now) same in
    let old = wire_stands g.W.Wire c.args.wire.now in
    let new = wire_stands g.W.Wire c.call.new.wire in
    subst (λ (t : List ℕ). Hears t no_wire old new) text
    (hears_failed c.as_bytes.result.now old new (c.call.ensures.whole told)
    (c.in-Err-Wire.ensures.part told (search rules)) (c.in-Err-Wire.ensures.cut told))

pub returns-in-Err-End-clause-heard : goal.returns-in-Err-End-clause-heard
returns-in-Err-End-clause-heard g c = λ told schema at.
    let same : c.fork_schema.result.now ≡ schema =
    some_same (sym c.fork_schema.ensures
    ∙ ap (λ (v : World). schema_in v c.args.name.now) c.world.ensures ∙ at) in
    let text : c.as_bytes.result.now ≡ request_text schema c.args.request.now =
    c.as_bytes.ensures.value ∙ c.as_str.ensures ∙ c.in_ok-text.ensures.text
    ∙ ap (λ (s : Shape). request_text s c.args.request.now) same in
    let old = wire_stands g.W.Wire c.args.wire.now in
    let new = wire_stands g.W.Wire c.call.new.wire in
    subst (λ (t : List ℕ). Hears t no_line old new) text
    (hears_end c.as_bytes.result.now old new (c.call.ensures.whole told)
    (c.in-Err-End.ensures.end told (search rules))
    (c.in-Err-End.ensures.asked told (inl (search rules))))

pub returns-in-Err-TooLong-clause-heard : goal.returns-in-Err-TooLong-clause-heard
returns-in-Err-TooLong-clause-heard g c = λ told schema at.
    let same : c.fork_schema.result.now ≡ schema =
    some_same (sym c.fork_schema.ensures
    ∙ ap (λ (v : World). schema_in v c.args.name.now) c.world.ensures ∙ at) in
    let text : c.as_bytes.result.now ≡ request_text schema c.args.request.now =
    c.as_bytes.ensures.value ∙ c.as_str.ensures ∙ c.in_ok-text.ensures.text
    ∙ ap (λ (s : Shape). request_text s c.args.request.now) same in
    let old = wire_stands g.W.Wire c.args.wire.now in
    let new = wire_stands g.W.Wire c.call.new.wire in
    subst (λ (t : List ℕ). Hears t no_line old new) text
    (hears_long c.as_bytes.result.now old new (c.call.ensures.whole told)
    (c.in-Err-TooLong.ensures.too_long told (search rules))
    (c.in-Err-TooLong.ensures.asked told (inr (search rules))))
