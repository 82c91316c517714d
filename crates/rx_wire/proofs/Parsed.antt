-- What is printed of a message parses as that message's object.
use Rattle.std.proofs.Common.{◌≡◌, ℕ, ◌≤◌, ◌-◌, suc, ℤ, pos, negsuc, true, List, [], ◌∷◌, ◌++◌, Some, option_map, refl, sym, ap, ◌∙◌, subst, arith, append_assoc, append-nil}
use Rattle.std.proofs.lemmas.Bool.{and_parts, leb-true}
use Rattle.std.specs.List.{AllByRecursion}
use Rattle.std.specs.Ordering.{match_ordering}
use Rattle.std.specs.Prelude.{int_le, option_and_then}
use Rattle.std.specs.declared.cmp.Ordering.{Ordering}
use Rattle.std.specs.declared.cmp.Ordering.TheVariants.{Less, Equal, Greater}
use Rattle.json.proofs.Printed.Trees.{value-json_tokens}
use Rattle.json.specs.Lex.{tokens}
use Rattle.json.specs.Json as json
use Rattle.json.specs.Tree as tree
use Rattle.json.specs.Tree.{json_tokens}
use Rattle.serde_json.proofs.Numbers.{number_of-decimal, number_of-negative}
use Rattle.serde_json.specs.Data.{Data, object, member, put}
use Rattle.serde_json.specs.Read.{read, max_depth, of_json, of_members}
use Rattle.serde_json.specs.Written.{outline, members_outline}
use Rattle.rx_value.specs.Fields.{Pairs, AreFields}
use Rattle.rx_value.specs.Named.{AreRising, put_in_order}
use Rattle.rx_value.specs.Order.{text_cmp}
use Rattle.rx_value.specs.State.{mark, state_data}
use Rattle.rx_value.specs.Value.{is_number, is_value, largest}
use Rattle.rx_value.specs.Writing.{value_data, pairs_members}
use Rattle.rx_value.specs.declared.state.State.{State}
use Rattle.rx_value.specs.declared.value.Value.{Value}
use Rattle.rx_value.specs.declared.value.Value.TheVariants.{Flag, Int, Text}
use Rattle.rx_value.proofs.Setting.{put_fields}
use Rattle.rx_value.proofs.Written.{put_last}

-- ---- values

-- a number of a field
integer_parsed : (z : ℤ) → is_number z ≡ true
    → of_json (outline (value_data (Int z))) ≡ Some (value_data (Int z))
integer_parsed (pos n) h =
    let high =
    (and_parts (int_le (negsuc (largest - 1)) (pos n)) (int_le (pos n) (pos largest)) h).1 in
    let small : n ≤ largest = leb-true n largest high in
    rw (number_of-decimal n (omega (arith, small))) refl
integer_parsed (negsuc n) h =
    let low =
    (and_parts (int_le (negsuc (largest - 1)) (negsuc n)) (int_le (negsuc n) (pos largest)) h).0 in
    let small : n ≤ largest - 1 = leb-true n (largest - 1) low in
    rw (number_of-negative n (omega (arith, small))) refl

-- a value
value_parsed : (v : Value) → is_value v ≡ true
    → of_json (outline (value_data v)) ≡ Some (value_data v)
value_parsed (Flag b) h = refl
value_parsed (Int z) h = integer_parsed z h
value_parsed (Text s) h = refl

-- ---- members one after another

-- pairs behind those that were parsed
pairs_after : (done ps : Pairs) → AreRising (done ++ ps)
    → AllByRecursion (λ p. is_value p.1 ≡ true) ps
    → of_members (members_outline (pairs_members ps)) (pairs_members done)
    ≡ Some (pairs_members (done ++ ps))
pairs_after done [] rising all = ap (λ xs. Some (pairs_members xs)) (sym (append-nil done))
pairs_after done (p ∷ ps) rising all =
    let next = append_assoc done (p ∷ []) ps in
    rw (value_parsed p.1 all.0, put_last done p ps rising)
    (pairs_after (done ++ p ∷ []) ps (subst AreRising (sym next) rising) all.1
    ∙ ap (λ xs. Some (pairs_members xs)) next)

-- ---- states

-- the fields of a state with its mark among them
abbrev marked : State → Pairs
marked state = put_in_order state.fields mark (Flag state.deleted)

-- a pair put in order is a member put in order
put_pair : (ps : Pairs) (k : List ℕ) (v : Value)
    → put k (value_data v) (pairs_members ps) ≡ pairs_members (put_in_order ps k v)
put_pair [] k v = refl
put_pair (p ∷ ps) k v = one (text_cmp k p.0) (put_pair ps k v)
  where
    one : (o : Ordering)
        → put k (value_data v) (pairs_members ps) ≡ pairs_members (put_in_order ps k v)
        → match_ordering o
        (member k (value_data v) (member p.0 (value_data p.1) (pairs_members ps)))
        (member p.0 (value_data v) (pairs_members ps))
        (member p.0 (value_data p.1) (put k (value_data v) (pairs_members ps)))
        ≡ pairs_members
        (match_ordering o ((k, v) ∷ p ∷ ps) ((p.0, v) ∷ ps) (p ∷ put_in_order ps k v))
    one Less rest = refl
    one Equal rest = refl
    one Greater rest = ap (member p.0 (value_data p.1)) rest

-- the object of a state is that of those fields
marked_data : (state : State) → state_data state ≡ object (pairs_members (marked state))
marked_data state = ap object (put_pair state.fields mark (Flag state.deleted))

-- a state
pub state_parsed : (state : State) → AreFields state.fields
    → of_json (outline (state_data state)) ≡ Some (state_data state)
state_parsed state fields =
    let all = put_fields state.fields mark (Flag state.deleted) fields refl in
    subst (λ d. of_json (outline d) ≡ Some d) (sym (marked_data state))
    (ap (option_map object) (pairs_after [] (marked state) all.rising all.in_range))

-- values are flat
value_flat : (v : Value) → tree.depth (outline (value_data v)) ≡ 0
value_flat (Flag b) = refl
value_flat (Int z) = refl
value_flat (Text s) = refl

pairs_flat : (ps : Pairs) → tree.members_depth (members_outline (pairs_members ps)) ≡ 0
pairs_flat [] = refl
pairs_flat (p ∷ ps) = rw (value_flat p.1, pairs_flat ps) refl

-- a state is one deep
pub state_depth : (state : State) → tree.depth (outline (state_data state)) ≡ 1
state_depth state =
    ap (λ d. tree.depth (outline d)) (marked_data state) ∙ ap suc (pairs_flat (marked state))

-- ---- a text

-- a text whose tokens are those of shallow data reads as these
pub text_read : (text : List ℕ) (d : Data) → tokens text ≡ json_tokens (outline d)
    → tree.depth (outline d) ≤ max_depth → of_json (outline d) ≡ Some d → read text ≡ Some d
text_read text d is shallow parsed =
    ap (λ o. option_and_then of_json (option_and_then (λ p. json.if_last p.0 p.1) o))
    (ap (json.value max_depth) (is ∙ sym (append-nil (json_tokens (outline d))))
    ∙ value-json_tokens (outline d) max_depth [] shallow)
    ∙ parsed
