-- Valid states.
use Rattle.std.proofs.Common.{◌≡◌, ℕ, true, List, Option, Some, None, is_none, refl, sym, ap, ◌∙◌, true≢false}
use Rattle.std.proofs.lemmas.Bool.{and_parts}
use Rattle.std.proofs.lemmas.Slice.Eq.{bytes_eq-Decides}
use Rattle.std.specs.Cmp.Derive.{both_true}
use Rattle.rx_value.specs.Named.{named}
use Rattle.rx_value.specs.Value.{is_text}
use Rattle.rx_value.specs.declared.state.State.{State}
use Rattle.rx_value.specs.declared.value.Value.{Value}
use Rattle.rx_value.specs.declared.value.Value.TheVariants.{Flag, Int, Text}
use Rattle.rx_value.proofs.Outcomes.{none_is}
use Rattle.rx_schema.specs.Validity.{first_fault}
use Rattle.rx_schema.specs.declared.shape.Shape.{Shape}
use Rattle.rx_collection.specs.Commit.{Carries}
use Rattle.rx_world.specs.Step.{IsValidState}

-- a text that is there
text_there : (key : List ℕ) (o : Option Value) → is_text key o ≡ true → o ≡ Some (Text key)
text_there key (Some (Text t)) is = ap (λ s. Some (Text s)) ((bytes_eq-Decides t key).0 is)
text_there key (Some (Flag b)) is = absurd (true≢false (sym is))
text_there key (Some (Int n)) is = absurd (true≢false (sym is))
text_there key None is = absurd (true≢false (sym is))

-- a state whose fields are valid and hold its key is valid
pub valid_state : (s : Shape) (state : State) → first_fault s state.fields ≡ None
    → Carries s.primary state → IsValidState s state
valid_state s state valid carried =
    both_true (ap is_none valid)
    (ap (is_text state.key) carried ∙ (bytes_eq-Decides state.key state.key).1 refl)

-- its fields are valid
pub state_valid : (s : Shape) (state : State) → IsValidState s state
    → first_fault s state.fields ≡ None
state_valid s state is =
    none_is (first_fault s state.fields)
    (and_parts (is_none (first_fault s state.fields))
    (is_text state.key (named state.fields s.primary)) is).0

-- and hold its key
pub state_carries : (s : Shape) (state : State) → IsValidState s state → Carries s.primary state
state_carries s state is =
    text_there state.key (named state.fields s.primary)
    (and_parts (is_none (first_fault s state.fields))
    (is_text state.key (named state.fields s.primary)) is).1
