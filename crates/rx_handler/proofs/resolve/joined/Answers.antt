use Rattle.std.proofs.Common.{◌∙◌, ap, sym, ◌+◌, drop}
use Rattle.std.specs.Map.{keys_of}
use Rattle.rx_value.specs.Fields.{Pair}
use Rattle.rx_handler.specs.Resolve.{joined_at, raised_to}
use Rattle.rx_handler.proofs.Joined.{keys_from, at_index}
use Rattle.rx_handler.proofs.resolve.joined.Goals as goal

pub loop-i-preserved : goal.loop-i-preserved
loop-i-preserved c =
    let new = c.args.new.now in
    let i = c.loop-i.i in
    let pair : Pair = (c.at.result.0.now, c.at.result.1.now) in
    let rest = drop (i + 1) (keys_of new) in
    ap (joined_at new rest) (c.in_ok-raise.ensures
    ∙ ap (raised_to c.loop-i.fields pair.0)
    (sym (at_index new i pair c.len-i-end.ensures.lawful.rising c.at.ensures)))
    ∙ sym (ap (λ names. joined_at new names c.loop-i.fields) (keys_from new i pair c.at.ensures))
    ∙ c.loop-i.invariant
