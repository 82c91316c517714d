-- An object or a list is empty where what holds it is.
use Rattle.std.proofs.Common.{◌≡◌, ◌↔◌, ◌==◌, ℕ, Bool, true, false, true≢false, length, arith, List, [], ◌∷◌, Result, refl, sym, ◌∙◌}
use Rattle.serde_json.specs.View.{members_view, items_view}
use Rattle.serde_json.proofs.Views.{Entry}
use Rattle.serde_json.specs.declared.value.Value.{Value as Json}
use Rattle.rx_selector.specs.Operators.{is_empty}
use Rattle.rx_selector.specs.Reading.{unless_none}
use Rattle.rx_selector.specs.declared.fault.SelectorFault.{SelectorFault}

-- an object
pub empty_object : (es : List Entry) (b : Bool) → (b ≡ true) ↔ (length es ≡ 0)
    → b ≡ is_empty (members_view es)
empty_object [] true h = refl
empty_object [] false h = h.1 refl
empty_object (e ∷ es) true h = absurd (omega (arith, h.0 refl))
empty_object (e ∷ es) false h = refl

-- a list that isn't
pub some_items : {X : Type 0} (name : List ℕ) (ds : List Json) (b : Bool) → b ≡ (length ds == 0)
    → b ≡ false → (r : Result X SelectorFault) → unless_none name (items_view ds) r ≡ r
some_items name [] b is some r = absurd (true≢false (sym is ∙ some))
some_items name (d ∷ ds) b is some r = refl
