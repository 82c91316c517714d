use Rattle.std.proofs.Common.{◌≡◌, rules}
use Rattle.std.specs.Ordering.{eq_by_cmp}
use Rattle.rx_document.specs.Place.{place_cmp}
use Rattle.rx_document.proofs.Places.{place_eq-Decides}
use Rattle.rx_document.proofs.place.PlacePartialEq.eq.Goals as goal

pub returns-clause-exact : goal.returns-clause-exact
returns-clause-exact c =
    let is : c.is_eq.result ≡ eq_by_cmp place_cmp c.args.self.now c.args.other.now = search rules in
    rw is (place_eq-Decides c.args.self.now c.args.other.now)
