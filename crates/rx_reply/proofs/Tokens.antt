-- The tokens of objects and lists, one member or item after another.
use Rattle.std.proofs.Common.{◌≡◌, ℕ, List, ◌++◌, map, Option, Some, None, refl, ap, ◌∙◌, append_assoc}
use Rattle.json.specs.Token.{Token}
use Rattle.json.specs.Tree.{items_tokens, members_tokens}
use Rattle.serde_json.specs.Data.{Data, Members}
use Rattle.serde_json.specs.View.{items_of}
use Rattle.serde_json.specs.Written.{items_outline, members_outline}
use Rattle.rx_reply.specs.Writing.{member_tokens, optional_member}

-- those of members, with the closing brace
abbrev pub of_members : Members → List Token
of_members ms = members_tokens (members_outline ms)

-- those of the items of a list, with the closing bracket
abbrev pub of_items : {X : Type 0} → (X → Data) → List X → List Token
of_items data_of xs = items_tokens (items_outline (items_of (map data_of xs)))

-- a member that is there or not, and the others
pub one_more : (name : List ℕ) (o : Option Data) (ms : Members)
    → of_members (optional_member name o ms) ≡ member_tokens name o ++ of_members ms
one_more name None ms = refl
one_more name (Some d) ms = refl

-- lists that are added in turn
pub in_turn : (t₀ t₁ t₂ a r : List Token) → t₁ ≡ t₀ ++ a → t₂ ≡ t₁ ++ r → t₂ ≡ t₀ ++ (a ++ r)
in_turn t₀ t₁ t₂ a r first then = then ∙ ap (λ t. t ++ r) first ∙ append_assoc t₀ a r
