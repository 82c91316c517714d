-- The tokens of fields and of states, by their pairs.
use Rattle.std.proofs.Common.{◌≡◌, ℕ, ◌+◌, ◌-◌, List, [], ◌∷◌, ◌++◌, length, take, drop, set, refl, sym, ap, ◌∙◌, append_assoc}
use Rattle.std.proofs.lemmas.List.{take-append-drop, take-set, drop-set, take_rest}
use Rattle.std.specs.Ordering.{match_ordering}
use Rattle.std.specs.declared.cmp.Ordering.{Ordering}
use Rattle.std.specs.declared.cmp.Ordering.TheVariants.{Less, Equal, Greater}
use Rattle.json.specs.Token as token
use Rattle.json.specs.Token.{Token, begin_object, end_object, key}
use Rattle.json.specs.Tree.{json_tokens, members_tokens}
use Rattle.serde_json.specs.Data.{member, put}
use Rattle.serde_json.specs.Written.{outline, members_outline}
use Rattle.rx_value.specs.Fields.{Pair, Pairs}
use Rattle.rx_value.specs.Named.{put_in_order}
use Rattle.rx_value.specs.Order.{text_cmp}
use Rattle.rx_value.specs.Place.{StandsAt}
use Rattle.rx_value.specs.State.{mark, state_data}
use Rattle.rx_value.specs.Writing.{value_data, pairs_members, fields_data, pairs_tokens}
use Rattle.rx_value.specs.declared.state.State.{State}
use Rattle.rx_value.specs.declared.value.Value.{Value}
use Rattle.rx_value.specs.declared.value.Value.TheVariants.{Flag}

-- those of the members are those of the pairs, and the closing brace
closed : (ps : Pairs)
    → members_tokens (members_outline (pairs_members ps)) ≡ pairs_tokens ps ++ end_object ∷ []
closed [] = refl
closed (p ∷ ps) =
    let value = json_tokens (outline (value_data p.1)) in
    ap (λ ts. key p.0 ∷ (value ++ ts)) (closed ps)
    ∙ ap (λ ts. key p.0 ∷ ts) (sym (append_assoc value (pairs_tokens ps) (end_object ∷ [])))

-- the object of fields, token by token
pub fields_written : (ps : Pairs) (t₀ t₁ t₂ t₃ : List Token) → t₁ ≡ t₀ ++ begin_object ∷ []
    → t₂ ≡ t₁ ++ pairs_tokens ps → t₃ ≡ t₂ ++ end_object ∷ []
    → t₃ ≡ t₀ ++ json_tokens (outline (fields_data ps))
fields_written ps t₀ t₁ t₂ t₃ first then last =
    last ∙ rw (then, first, closed ps) (simp append_assoc)

-- those of pairs one after another
joined : (ps qs : Pairs) → pairs_tokens (ps ++ qs) ≡ pairs_tokens ps ++ pairs_tokens qs
joined [] qs = refl
joined (p ∷ ps) qs =
    let value = json_tokens (outline (value_data p.1)) in
    ap (λ ts. key p.0 ∷ (value ++ ts)) (joined ps qs)
    ∙ ap (λ ts. key p.0 ∷ ts) (sym (append_assoc value (pairs_tokens ps) (pairs_tokens qs)))

-- the members of the one of three lists that is picked
pick : (o : Ordering) (xs ys zs : Pairs)
    → pairs_members (match_ordering o xs ys zs)
    ≡ match_ordering o (pairs_members xs) (pairs_members ys) (pairs_members zs)
pick Less xs ys zs = refl
pick Equal xs ys zs = refl
pick Greater xs ys zs = refl

-- a value that is put among pairs is put among their members
put-members : (ps : Pairs) (v : Value)
    → pairs_members (put_in_order ps mark v) ≡ put mark (value_data v) (pairs_members ps)
put-members [] v = refl
put-members (p ∷ ps) v =
    let o = text_cmp mark p.0 in
    pick o ((mark, v) ∷ p ∷ ps) ((p.0, v) ∷ ps) (p ∷ put_in_order ps mark v)
    ∙ ap (λ ms. match_ordering o (member mark (value_data v) (pairs_members (p ∷ ps)))
    (member p.0 (value_data v) (pairs_members ps)) (member p.0 (value_data p.1) ms))
    (put-members ps v)

-- pairs with one written over, in two parts
pub written_over : (ps : Pairs) (name : List ℕ) (v : Value) (i : ℕ) → StandsAt ps name i
    → put_in_order ps name v ≡ take i ps ++ (name, v) ∷ take (length ps - (i + 1)) (drop (i + 1) ps)
written_over ps name v i stands =
    let p : Pair = (name, v) in
    let lt = stands.within in
    sym (ap (λ n. set ps i (n, v)) (sym (stands.is_there p)) ∙ stands.puts p v)
    ∙ sym (take-append-drop i (set ps i p))
    ∙ rw (take-set ps i p, drop-set ps i p lt, take_rest ps (i + 1)) refl

-- the object of a state, token by token
pub state_written : (s : State) (before after : Pairs) (t₀ t₁ t₂ t₃ t₄ t₅ t₆ : List Token)
    → put_in_order s.fields mark (Flag s.deleted) ≡ before ++ (mark, Flag s.deleted) ∷ after
    → t₁ ≡ t₀ ++ begin_object ∷ [] → t₂ ≡ t₁ ++ pairs_tokens before → t₃ ≡ t₂ ++ key mark ∷ []
    → t₄ ≡ t₃ ++ token.boolean s.deleted ∷ [] → t₅ ≡ t₄ ++ pairs_tokens after
    → t₆ ≡ t₅ ++ end_object ∷ []
    → t₆ ≡ t₀ ++ json_tokens (outline (state_data s))
state_written s before after t₀ t₁ t₂ t₃ t₄ t₅ t₆ around is₁ is₂ is₃ is₄ is₅ is₆ =
    let here : Pair = (mark, Flag s.deleted) in
    let members = sym (put-members s.fields (Flag s.deleted)) ∙ ap pairs_members around in
    let tokens = ap (λ ms. members_tokens (members_outline ms)) members
    ∙ closed (before ++ here ∷ after)
    ∙ ap (λ ts. ts ++ end_object ∷ []) (joined before (here ∷ after)) in
    is₆ ∙ rw (is₅, is₄, is₃, is₂, is₁, tokens) (simp append_assoc)
