use Rattle.std.proofs.Common.{false, get_or, ap}
use Rattle.std.proofs.lemmas.Slice.Eq.{slice_eq-Decides}
use Rattle.std.specs.Cmp.{booleans_Decides}
use Rattle.rx_query.specs.States.{number_of}
use Rattle.rx_table.specs.States.{index_of}
use Rattle.rx_states.proofs.beside.Beside.is_same.Goals as goal

pub returns : goal.returns
returns c is =
    ap (λ answers. number_of (λ s. get_or answers (index_of s) false))
    ((slice_eq-Decides booleans_Decides c.args.self.now.answers c.args.other.now.answers
    c.eq.result c.eq.ensures).0 is)
