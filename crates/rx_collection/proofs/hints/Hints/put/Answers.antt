use Rattle.std.proofs.Common.{◌≡◌, Some, set, slice_get, subst, ℕ}
use Rattle.rx_collection.specs.Hints.{walk, LeadsTo}
use Rattle.rx_collection.proofs.Hinted.{led_still}
use Rattle.rx_collection.proofs.hints.Hints.put.Goals as goal

pub returns-clause-kept : goal.returns-clause-kept
returns-clause-kept c = λ p some led.
    let places = c.args.self.now.places.items in
    let i = c.in-Some.free in
    let free : (q : ℕ × ℕ) → slice_get places i ≡ Some q → q.0 ≡ 0 =
    subst (λ ps. (q : ℕ × ℕ) → slice_get ps i ≡ Some q → q.0 ≡ 0) c.as_slice.ensures.value
    c.in-Some.ensures.free in
    led_still places i c.args.place p c.requires free some led

pub returns-clause-placed : goal.returns-clause-placed
returns-clause-placed c = λ yes.
    let place = c.args.place in
    subst (λ ps. LeadsTo place (walk (set ps c.in-Some.free place) place.1))
    c.as_slice.ensures.value (c.in-Some.ensures.led place)
