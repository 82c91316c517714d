use Rattle.std.proofs.Common.{◌∙◌, ap, sym, subst, map}
use Rattle.std.specs.List.{IsDistinct}
use Rattle.std.specs.Str.{bytes_eq}
use Rattle.rx_fork.proofs.Pushes.{real_states-keys}
use Rattle.rx_fork.proofs.fork.Fork.pushed.Goals as goal

pub in_order-requires : goal.in_order-requires
in_order-requires g c =
    subst (IsDistinct bytes_eq)
    (sym (ap (map (λ s. s.key)) c.in_ok-real_states.ensures
    ∙ real_states-keys c.args.conflicts.now c.args.rows.now)) c.requires
