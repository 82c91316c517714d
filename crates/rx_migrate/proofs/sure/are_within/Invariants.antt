use Rattle.std.proofs.Common.{◌≡◌, drop}
use Rattle.std.specs.List.{list_all}
use Rattle.rx_migrate.specs.Sure.{is_within}
use Rattle.rx_migrate.proofs.sure.are_within.Given as goal

-- the fields that are left decide
abbrev pub invariant-loop-i : goal.invariant-loop-i
invariant-loop-i l =
    list_all (λ p. is_within l.most p.1) (drop l.i l.fields)
    ≡ list_all (λ p. is_within l.most p.1) l.fields
