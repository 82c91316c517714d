-- A state with a field that the schema hasn't is invalid, and so is what is kept of it.
use Rattle.std.proofs.Common.{◌≡◌, ℕ, Bool, true, false, true≢false, cond, ◌||◌, List, [], ◌∷◌, Option, Some, None, is_some, is_none, option_map, Result, Ok, Err, find, refl, sym, ap, ap₂, ◌∙◌}
use Rattle.std.specs.Map.{keys_of}
use Rattle.std.specs.Option.{option_or}
use Rattle.std.specs.Result.{result_ok}
use Rattle.std.specs.Str.{bytes_eq}
use Rattle.serde_json.specs.Data.{Data, null, boolean, number, string, array, object, Members, no_members, member}
use Rattle.rx_value.proofs.Outcomes.{ok_then}
use Rattle.rx_value.specs.Due.{◌>>◌, ◌>>=◌}
use Rattle.rx_value.specs.Fields.{Pairs}
use Rattle.rx_value.specs.Named.{named}
use Rattle.rx_value.specs.Reading.{value_of, members_fields, without}
use Rattle.rx_value.specs.State.{mark}
use Rattle.rx_value.specs.declared.fault.ValueFault.{ValueFault}
use Rattle.rx_value.specs.declared.state.State.{State}
use Rattle.rx_schema.specs.Validity.{Fault, missing, unknown, first_missing, first_unknown, first_bad}
use Rattle.rx_schema.specs.Writing.{kind_of_rule, kinds_of}
use Rattle.rx_schema.specs.declared.rule.Rule.{Rule}
use Rattle.rx_schema.specs.declared.shape.Shape.{Shape}
use Rattle.rx_wire.specs.Kept.{is_known, below, kept, kept_members}
use Rattle.rx_wire.specs.States.{valid_state}
use Rattle.rx_wire.proofs.Members.{by_test, foreign, foreign_more, foreign_one, foreign_kept, kept_one}

-- what is kept of a value is a field's value where it was one
pub value_kept : (s : Shape) (levels : ℕ) (name : List ℕ) (d : Data)
    → value_of name (kept s levels d) ≡ value_of name d
value_kept s levels name null = refl
value_kept s levels name (boolean b) = refl
value_kept s levels name (number n) = refl
value_kept s levels name (string t) = refl
value_kept s levels name (array ds) = refl
value_kept s levels name (object ms) = refl

-- a name without a kind has no rule
no_rule : (rules : List (List ℕ × Rule)) (k : List ℕ) → is_some (named (kinds_of rules) k) ≡ false
    → is_none (named rules k) ≡ true
no_rule [] k h = refl
no_rule (r ∷ rules) k h = by (bytes_eq k r.0) h (no_rule rules k)
  where
    by : (b : Bool)
        → is_some (cond b (Some (kind_of_rule r.1)) (named (kinds_of rules) k)) ≡ false
        → (is_some (named (kinds_of rules) k) ≡ false → is_none (named rules k) ≡ true)
        → is_none (cond b (Some r.1) (named rules k)) ≡ true
    by true h rest = absurd (true≢false h)
    by false h rest = rest h

-- neither part holds
pub neither : (a b : Bool) → (a || b) ≡ false → (a ≡ false) × (b ≡ false)
neither true b h = absurd (true≢false h)
neither false b h = (refl, h)

module _ (s : Shape) (levels : ℕ)
    (strange : (k : List ℕ) → is_known s levels k ≡ false
    → (bytes_eq k mark ≡ false) × (is_some (named (kinds_of s.properties) k) ≡ false)) where
  without_past : (k : List ℕ) (d : Data) (ms : Members) → bytes_eq k mark ≡ false
      → without mark (member k d ms) ≡ member k d (without mark ms)
  without_past k d ms h = ap (λ b. cond b (without mark ms) (member k d (without mark ms))) h

  -- the fields of an object with such a name have an unknown one
  found : (k : List ℕ) (ms : Members) (ps : Pairs) → foreign s levels ms ≡ Some k
      → members_fields (without mark ms) ≡ Ok ps
      → is_some (first_unknown s.properties ps) ≡ true
  found k no_members ps h e = cc
  found k (member l d ms) ps h e =
      by_test (is_known s levels l)
      (λ there. by (bytes_eq l mark) (sym (foreign_more s levels l d ms there) ∙ h) e
      (λ qs. found k ms qs))
      (λ none.
      let parts = strange l none in
      let read = sym (ap members_fields (without_past l d ms parts.0)) ∙ e in
      let value = ok_then (value_of l d) _ ps read in
      let rest = ok_then (members_fields (without mark ms)) _ ps value.2 in
      sym (here (no_rule s.properties l parts.1) (keys_of rest.0)
      ∙ ap (λ qs. is_some (first_unknown s.properties qs)) (same_ok rest.2)))
    where
      same_ok : {x y : Pairs} → ◌≡◌ {A = Result Pairs ValueFault} (Ok x) (Ok y) → x ≡ y
      same_ok e = cc

      here : is_none (named s.properties l) ≡ true → (names : List (List ℕ))
          → true ≡ is_some (find (λ name. is_none (named s.properties name)) (l ∷ names))
      here h names =
          ap (λ b. is_some (cond b (Some l)
          (find (λ name. is_none (named s.properties name)) names))) (sym h)

      later : (b : Bool) (o : Option (List ℕ)) → is_some o ≡ true
          → is_some (cond b (Some l) o) ≡ true
      later true o h = refl
      later false o h = h

      by : (b : Bool) → foreign s levels ms ≡ Some k
          → members_fields (cond b (without mark ms) (member l d (without mark ms))) ≡ Ok ps
          → ((qs : Pairs) → foreign s levels ms ≡ Some k → members_fields (without mark ms) ≡ Ok qs
          → is_some (first_unknown s.properties qs) ≡ true)
          → is_some (first_unknown s.properties ps) ≡ true
      by true h e more = more ps h e
      by false h e more =
          let value = ok_then (value_of l d) _ ps e in
          let rest = ok_then (members_fields (without mark ms)) _ ps value.2 in
          ap (λ qs. is_some (first_unknown s.properties qs)) (sym (same_ok rest.2))
          ∙ later (is_none (named s.properties l)) (first_unknown s.properties rest.0)
          (more rest.0 h rest.1)

  -- so they aren't valid
  invalid : (deleted : Bool) (ps : Pairs) → is_some (first_unknown s.properties ps) ≡ true
      → valid_state s deleted ps ≡ None
  invalid deleted ps h =
      by (option_map missing (first_missing s.required ps)) (first_unknown s.properties ps) h _
    where
      by : (m : Option Fault) (u : Option (List ℕ)) → is_some u ≡ true → (o : Option State)
          → cond (is_none (option_or m (option_or (option_map unknown u) (first_bad s ps)))) o None
          ≡ None
      by (Some m) u h o = refl
      by None None h o = absurd (true≢false (sym h))
      by None (Some u) h o = refl

  -- and there is no state
  refused : (deleted : Bool) (k : List ℕ) (ms : Members) → foreign s levels ms ≡ Some k
      → (result_ok (members_fields (without mark ms)) >>= valid_state s deleted) ≡ None
  refused deleted k ms h = by (members_fields (without mark ms)) refl
    where
      by : (r : Result Pairs ValueFault) → members_fields (without mark ms) ≡ r
          → (result_ok r >>= valid_state s deleted) ≡ None
      by (Ok ps) e = invalid deleted ps (found k ms ps h e)
      by (Err e) h = refl

  -- an object without such a name has the fields that it had
  fields_kept : (ms : Members) → foreign s levels ms ≡ None
      → members_fields (without mark (kept_members s levels ms))
      ≡ members_fields (without mark ms)
  fields_kept no_members h = refl
  fields_kept (member l d ms) h =
      by_test (is_known s levels l)
      (λ there. ap (λ ns. members_fields (without mark ns)) (kept_one s levels l d ms there)
      ∙ by (bytes_eq l mark) (fields_kept ms (sym (foreign_more s levels l d ms there) ∙ h)))
      (λ none. not_some (sym (foreign_one s levels l d ms none) ∙ h))
    where
      not_some : {A B : Type 0} {x : A} → Some x ≡ None → B
      not_some e = cc

      by : (b : Bool) → members_fields (without mark (kept_members s levels ms))
          ≡ members_fields (without mark ms)
          → members_fields (cond b (without mark (kept_members s levels ms))
          (member l (kept s (below levels l) d) (without mark (kept_members s levels ms))))
          ≡ members_fields (cond b (without mark ms) (member l d (without mark ms)))
      by true e = e
      by false e =
          ap₂ (λ v r. v >> λ w. r >> λ ps. Ok ((l, w) ∷ ps))
          (value_kept s (below levels l) l d) e

  -- what is kept of an object is the same state, or none as the object
  pub state_kept : (deleted : Bool) (ms : Members)
      → (result_ok (members_fields (without mark (kept_members s levels ms)))
      >>= valid_state s deleted)
      ≡ (result_ok (members_fields (without mark ms)) >>= valid_state s deleted)
  state_kept deleted ms = by (foreign s levels ms) refl
    where
      by : (f : Option (List ℕ)) → foreign s levels ms ≡ f
          → (result_ok (members_fields (without mark (kept_members s levels ms)))
          >>= valid_state s deleted)
          ≡ (result_ok (members_fields (without mark ms)) >>= valid_state s deleted)
      by None h = ap (λ r. result_ok r >>= valid_state s deleted) (fields_kept ms h)
      by (Some k) h =
          refused deleted k (kept_members s levels ms) (foreign_kept s levels ms ∙ h)
          ∙ sym (refused deleted k ms h)
