-- What a selector says of a document before a change and after it.
use Rattle.std.specs.Prelude.{◌≡◌, ℕ, false, List}
use Rattle.rx_value.specs.Fields.{Pairs}
use Rattle.rx_value.specs.Named.{named}
use Rattle.rx_value.specs.declared.value.Value.{Value}
use Rattle.rx_document.specs.declared.change.Change.{Change}
use Rattle.rx_query.specs.Lists.{some_passes}
use Rattle.rx_query.specs.QuerySpec.{QuerySpec}
use Rattle.rx_query.specs.States.{live_before, is_match}
use Rattle.rx_selector.specs.Holding.{compares}
use Rattle.rx_selector.specs.declared.tree.Compare.TheVariants.{Eq}
use Rattle.rx_states.specs.declared.matches.Matches.{Matches}

-- whether it holds of each, where that is live and known
pub record TellMatches (q : QuerySpec) (c : Change) (m : Matches) : Type 0 where
  pub was : m.was ≡ some_passes (is_match q) (live_before c.before)
  pub now : m.now ≡ some_passes (is_match q) c.after

-- it holds of no fields whose field of that name isn't equal to the operand
abbrev pub IsNeeded : QuerySpec → List ℕ → Value → Type 0
IsNeeded q name operand = (x : Pairs) → compares Eq (named x name) operand ≡ false
    → is_match q x ≡ false

-- it holds of neither
pub record MatchesNeither (q : QuerySpec) (c : Change) : Type 0 where
  pub was : some_passes (is_match q) (live_before c.before) ≡ false
  pub now : some_passes (is_match q) c.after ≡ false
