use Rattle.std.proofs.Common.{◌+◌, ◌<◌, ◌^◌, ◌∙◌, length, ap, sym, subst, arith}
use Rattle.std.proofs.lemmas.Str.{is_utf8-from_IsUtf8}
use Rattle.rx_value.specs.Named.{put_in_order}
use Rattle.rx_runs.specs.Marked.{IsSide}
use Rattle.rx_runs.proofs.Sides.{side_put}
use Rattle.rx_runs.proofs.marked.put.Goals as goal

pub returns-in-Ok-clause-lawful : goal.returns-in-Ok-clause-lawful
returns-in-Ok-clause-lawful c =
    let es = c.args.run.now in
    let name = c.args.name.now in
    let few : length es + 1 < 2 ^ 62 = omega (arith, c.len.ensures.count) in
    subst IsSide
    (sym (c.in-Ok.ensures.ok
    ∙ ap (λ n. put_in_order es n c.args.slot) (c.in_ok-name.ensures ∙ c.as_bytes.ensures.value)))
    (side_put es name c.args.slot (is_utf8-from_IsUtf8 name c.utf8.name) c.requires few)
