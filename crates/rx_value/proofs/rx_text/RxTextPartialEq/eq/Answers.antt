use Rattle.std.proofs.Common.{◌≡◌, rules}
use Rattle.std.proofs.lemmas.Slice.Eq.{bytes_eq-Decides}
use Rattle.std.specs.Str.{bytes_eq}
use Rattle.rx_value.proofs.rx_text.RxTextPartialEq.eq.Goals as goal

pub returns-clause-exact : goal.returns-clause-exact
returns-clause-exact c =
    let is : c.is_same.result ≡ bytes_eq c.args.self.now c.args.other.now = search rules in
    rw is (bytes_eq-Decides c.args.self.now c.args.other.now)
