use Rattle.std.proofs.Common.{◌∙◌, List, ap, sym, map, take}
use Rattle.rx_document.specs.declared.stored.Stored.{Stored}
use Rattle.rx_replication.specs.Request.{push_row}
use Rattle.rx_fork.proofs.Items.{take_nil}
use Rattle.rx_fork.proofs.fork.Fork.ask_to_pull.Goals as goal

pub ask_for-requires : goal.ask_for-requires
ask_for-requires c =
    let row = push_row c.args.self.now.meta.now.known in
    c.new.ensures
    ∙ ap (map row) (sym (take_nil {A = Stored} c.args.batch))
    ∙ ap (λ (ds : List Stored). map row (take c.args.batch ds)) (sym c.requires)
