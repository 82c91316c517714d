use Rattle.std.proofs.Common.{◌≡◌, ◌∙◌, ◌==◌, ap, sym, Some}
use Rattle.std.specs.List.{position}
use Rattle.rx_collection.specs.Hints.{walk}
use Rattle.rx_collection.proofs.Hinted.{free_within, free_there, free_led}
use Rattle.rx_collection.proofs.hints.free_place.Goals as goal

pub returns : goal.returns
returns c =
    let places = c.args.places.now in
    let hash = c.args.hash in
    let tries = c.in_ok-tries.tries in
    let first : position (λ p. p.0 == 0) (walk places hash) ≡ Some tries =
    ap (position (λ p. p.0 == 0)) (sym c.walk.ensures) ∙ sym c.first_free.ensures
    ∙ c.in_ok-tries.was in
    rw c.start_of.ensures.value record {
      within = free_within places hash tries first;
      free = free_there places hash tries first;
      led = free_led places hash tries first;
    }
