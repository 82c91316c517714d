use Rattle.std.proofs.Common.{◌≡◌, rules}
use Rattle.rx_value.specs.Equal.{fields_eq}
use Rattle.rx_value.specs.Equality.{fields_eq-Decides}
use Rattle.rx_value.proofs.fields.FieldsPartialEq.eq.Goals as goal

pub returns-clause-exact : goal.returns-clause-exact
returns-clause-exact c =
    let is : c.eq.result ≡ fields_eq c.args.self.now c.args.other.now = search rules in
    rw is (fields_eq-Decides c.args.self.now c.args.other.now)
