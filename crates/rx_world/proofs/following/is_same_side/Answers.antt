use Rattle.std.proofs.Common.{◌∙◌, sym}
use Rattle.std.proofs.lemmas.Bool.Decides.{Decides-like}
use Rattle.rx_world.proofs.Sides.{same_sides}
use Rattle.rx_world.proofs.following.is_same_side.Goals as goal

pub returns : goal.returns
returns c =
    same_sides c.args.this.now c.args.that.now c.all.result c.all-2.result c.all.ensures.states
    c.all-2.ensures.states c.all.ensures.lawful c.all-2.ensures.lawful
    c.are_same_states.result c.is_same_place.result c.is_same_place-2.result
    c.if-not-are_same_states.false c.if-not-is_same_place.false c.are_same_states.ensures
    (Decides-like c.is_same_place.result (λ e. sym c.up.ensures ∙ e ∙ c.up-2.ensures)
    (λ e. c.up.ensures ∙ e ∙ sym c.up-2.ensures) c.is_same_place.ensures)
    (Decides-like c.is_same_place-2.result (λ e. sym c.down.ensures ∙ e ∙ c.down-2.ensures)
    (λ e. c.down.ensures ∙ e ∙ sym c.down-2.ensures) c.is_same_place-2.ensures)
