use Rattle.std.proofs.Common.{◌∙◌}
use Rattle.rx_schema.proofs.Written.{put_next}
use Rattle.rx_schema.proofs.writing.properties_json.Goals as goal

-- the name of the next property is above those before it
pub loop-name-preserved : goal.loop-name-preserved
loop-name-preserved c =
    c.in_ok-put.ensures
    ∙ rw (c.as_str.ensures, c.object.ensures, c.in_ok-rule_json.ensures, c.loop-name.invariant)
    (put_next c.args.properties.now c.loop-name.name-index c.loop-name-item.result
    c.loop-name-test.true c.loop-name-item.is c.requires)
