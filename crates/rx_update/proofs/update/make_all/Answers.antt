use Rattle.rx_value.proofs.Setting.{value_in}
use Rattle.rx_update.proofs.Values.{found_held}
use Rattle.rx_update.proofs.update.make_all.Goals as goal

pub make-requires-clause-held : goal.make-requires-clause-held
make-requires-clause-held c =
    found_held c.get.result _ c.get.ensures
    (value_in c.args.old.now _ c.len-count.ensures.lawful.in_range)
