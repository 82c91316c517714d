-- What a selector that holds says of a field, and between which bounds its document stands.
use Rattle.std.proofs.Common.{◌≡◌, ℕ, Bool, true, false, not, cond, ◌&&◌, List, [], ◌∷◌, ◌++◌, map, Option, Some, None, Ordering, Less, Equal, Greater, refl, sym, ap, ◌∙◌, subst}
use Rattle.std.proofs.lemmas.Bool.{false≢true, and_parts}
use Rattle.std.proofs.lemmas.Cmp.{tied_itself}
use Rattle.std.proofs.lemmas.List.{map-append}
use Rattle.std.proofs.lemmas.Slice.Eq.{bytes_eq-Decides}
use Rattle.std.specs.Cmp.{Equal-is}
use Rattle.std.specs.Option.{option_or}
use Rattle.std.specs.Ordering.{ordering_then, ordering_reverse, is_gt, is_ge, is_lt, is_le}
use Rattle.std.specs.Str.{bytes_eq}
use Rattle.rx_value.proofs.Ordered.{order_total, value_total, value_ties}
use Rattle.rx_value.specs.Due.{◌>>=◌}
use Rattle.rx_value.specs.Fields.{Pairs}
use Rattle.rx_value.specs.Named.{named}
use Rattle.rx_value.specs.Order.{order_of, value_cmp}
use Rattle.rx_value.specs.declared.value.Value.{Value}
use Rattle.rx_value.specs.declared.value.Value.TheVariants.{Flag, Text}
use Rattle.rx_document.specs.declared.stored.Stored.{Stored}
use Rattle.rx_selector.specs.Holding.{same_kind, stands, compares, test_holds, tests_hold, clause_holds, all_hold}
use Rattle.rx_selector.specs.Operand.{operand_of, operand_among, tests_on}
use Rattle.rx_selector.specs.Tree.{Test, compared, Tests, no_tests, test, all, any, nor, on_field, Clauses, no_clauses, clause}
use Rattle.rx_selector.specs.declared.tree.Compare.{Compare}
use Rattle.rx_selector.specs.declared.tree.Compare.TheVariants.{Eq, Gt, Gte, Lt, Lte}
use Rattle.rx_query.specs.QuerySpec.{QuerySpec}
use Rattle.rx_query.specs.Result.{is_due}
use Rattle.rx_index.specs.Index.{is_between}
use Rattle.rx_index.specs.Position.{position_with, values_cmp, precedes, key_of}
use Rattle.rx_planner.specs.Plan.{Names, path_of, operand, strict, loose, end_by, end_at, fixed_or, bound_at, bound_of}

-- ---- operands

of_test : (which : Compare) (t : Test) (v : Value) (x : Option Value)
    → operand_of which t ≡ Some v → test_holds t x ≡ true → compares which x v ≡ true
of_test Eq (compared Eq w) v x is h =
    let same : w ≡ v = cc in subst (λ z. compares Eq x z ≡ true) same h
of_test Gt (compared Gt w) v x is h =
    let same : w ≡ v = cc in subst (λ z. compares Gt x z ≡ true) same h
of_test Gte (compared Gte w) v x is h =
    let same : w ≡ v = cc in subst (λ z. compares Gte x z ≡ true) same h
of_test Lt (compared Lt w) v x is h =
    let same : w ≡ v = cc in subst (λ z. compares Lt x z ≡ true) same h
of_test Lte (compared Lte w) v x is h =
    let same : w ≡ v = cc in subst (λ z. compares Lte x z ≡ true) same h
of_test _ _ v x is h = cc

of_tests : (which : Compare) (ts : Tests) (v : Value) (x : Option Value)
    → operand_among which ts ≡ Some v → tests_hold ts x ≡ true → compares which x v ≡ true
of_tests which no_tests v x is h = cc
of_tests which (test t ts) v x is h =
    let parts = and_parts (test_holds t x) (tests_hold ts x) h in
    (elim (operand_of which t) as (λ o. operand_of which t ≡ o
    → option_or o (operand_among which ts) ≡ Some v → compares which x v ≡ true) [
      | None ↦ (λ _ rest. of_tests which ts v x rest parts.1)
      | Some w ↦ (λ e at. of_test which t v x (e ∙ at) parts.0)
    ]) refl is

of_clauses : (name : List ℕ) (cs : Clauses) (fields : Pairs) (ts : Tests)
    → tests_on name cs ≡ Some ts → all_hold cs fields ≡ true
    → tests_hold ts (named fields name) ≡ true
of_clauses name no_clauses fields ts is h = cc
of_clauses name (clause (on_field n us) cs) fields ts is h =
    let parts = and_parts (tests_hold us (named fields n)) (all_hold cs fields) h in
    (elim (bytes_eq n name) as (λ b. bytes_eq n name ≡ b
    → cond b (Some us) (tests_on name cs) ≡ Some ts → tests_hold ts (named fields name) ≡ true) [
      | true ↦ (λ e at.
          let same : us ≡ ts = cc in
          subst (λ z. tests_hold z (named fields name) ≡ true) same
          (subst (λ m. tests_hold us (named fields m) ≡ true)
          ((bytes_eq-Decides n name).0 e) parts.0))
      | false ↦ (λ e at. of_clauses name cs fields ts at parts.1)
    ]) refl is
of_clauses name (clause (all ds) cs) fields ts is h =
    of_clauses name cs fields ts is
    (and_parts (clause_holds (all ds) fields) (all_hold cs fields) h).1
of_clauses name (clause (any ds) cs) fields ts is h =
    of_clauses name cs fields ts is
    (and_parts (clause_holds (any ds) fields) (all_hold cs fields) h).1
of_clauses name (clause (nor ds) cs) fields ts is h =
    of_clauses name cs fields ts is
    (and_parts (clause_holds (nor ds) fields) (all_hold cs fields) h).1

-- a field stands to each operand as its operator says
pub of_operand : (q : QuerySpec) (field : List ℕ) (which : Compare) (v : Value) (fields : Pairs)
    → operand q field which ≡ Some v → all_hold q.clauses fields ≡ true
    → compares which (named fields field) v ≡ true
of_operand q field which v fields is h =
    (elim (tests_on field q.clauses) as (λ o. tests_on field q.clauses ≡ o
    → (o >>= operand_among which) ≡ Some v → compares which (named fields field) v ≡ true) [
      | None ↦ (λ _ none. cc)
      | Some ts ↦ (λ e at.
          of_tests which ts v (named fields field) at (of_clauses field q.clauses fields ts e h))
    ]) refl is

-- so it is there
value_at : (which : Compare) (x : Option Value) (v : Value) → compares which x v ≡ true
    → (w : Value) × (x ≡ Some w) × (stands which (value_cmp w v) ≡ true)
value_at which None v h = absurd (false≢true h)
value_at which (Some w) v h =
    (w, refl, (and_parts (same_kind w v) (stands which (value_cmp w v)) h).1)

-- a fixed field has the value that is asked for
pub fixed_value : (q : QuerySpec) (field : List ℕ) (v : Value) (fields : Pairs)
    → operand q field Eq ≡ Some v → all_hold q.clauses fields ≡ true
    → named fields field ≡ Some v
fixed_value q field v fields is h =
    let r = value_at Eq (named fields field) v (of_operand q field Eq v fields is h) in
    r.1 ∙ ap Some (value_ties r.0 v ((Equal-is (value_cmp r.0 v)).0 r.2))

-- ---- bounds

-- a bound whose values are all met
pub past : (up : Bool) (xs : List (Option Value)) → is_le (values_cmp [] up xs false) ≡ not up
past true [] = refl
past false [] = refl
past true (x ∷ xs) = refl
past false (x ∷ xs) = refl

above : (o r : Ordering) → is_gt o ≡ true → is_le (ordering_then (ordering_reverse o) r) ≡ true
above Less r h = cc
above Equal r h = cc
above Greater r h = refl

below : (o r : Ordering) → is_lt o ≡ true → is_le (ordering_then (ordering_reverse o) r) ≡ false
below Less r h = refl
below Equal r h = cc
below Greater r h = cc

not_below : (o r : Ordering) → is_ge o ≡ true → is_le r ≡ true
    → is_le (ordering_then (ordering_reverse o) r) ≡ true
not_below Less r h k = cc
not_below Equal r h k = k
not_below Greater r h k = refl

not_above : (o r : Ordering) → is_le o ≡ true → is_le r ≡ false
    → is_le (ordering_then (ordering_reverse o) r) ≡ false
not_above Less r h k = refl
not_above Equal r h k = k
not_above Greater r h k = cc

-- a bound of one more value, by how the field stands to it
one_more : (v w : Value) (x : Option Value) (r : Ordering) (b : Bool) → x ≡ Some w
    → is_le (ordering_then (ordering_reverse (value_cmp w v)) r) ≡ b
    → is_le (ordering_then (order_of (Some v) x) r) ≡ b
one_more v w x r b is h =
    ap (λ z. is_le (ordering_then (order_of (Some v) z) r)) is
    ∙ ap (λ o. is_le (ordering_then o r)) (value_total.antisymm v w) ∙ h

pub at_end : (up : Bool) (o l x : Option Value) (xs : List (Option Value))
    → ((v : Value) → o ≡ Some v → compares (strict up) x v ≡ true)
    → ((v : Value) → l ≡ Some v → compares (loose up) x v ≡ true)
    → is_le (values_cmp (end_by up o l).values (end_by up o l).after (x ∷ xs) false) ≡ not up
at_end false (Some v) l x xs s h =
    let r = value_at Gt x v (s v refl) in
    one_more v r.0 x (values_cmp [] true xs false) true r.1
    (above (value_cmp r.0 v) (values_cmp [] true xs false) r.2)
at_end true (Some v) l x xs s h =
    let r = value_at Lt x v (s v refl) in
    one_more v r.0 x (values_cmp [] false xs false) false r.1
    (below (value_cmp r.0 v) (values_cmp [] false xs false) r.2)
at_end false None (Some v) x xs s h =
    let r = value_at Gte x v (h v refl) in
    one_more v r.0 x (values_cmp [] false xs false) true r.1
    (not_below (value_cmp r.0 v) (values_cmp [] false xs false) r.2 (past false xs))
at_end true None (Some v) x xs s h =
    let r = value_at Lte x v (h v refl) in
    one_more v r.0 x (values_cmp [] true xs false) false r.1
    (not_above (value_cmp r.0 v) (values_cmp [] true xs false) r.2 (past true xs))
at_end true None None x xs s h = refl
at_end false None None x xs s h = refl

module _ (q : QuerySpec) (fields : Pairs) (holds : all_hold q.clauses fields ≡ true)
    (up : Bool) where
  -- the bound precedes what the fields give where it is the low one
  at_bound : (fs : Names)
      → is_le (values_cmp (bound_at q up fs).values (bound_at q up fs).after
      (map (λ f. named fields f) fs) false) ≡ not up
  at_bound [] = past up []
  at_bound (f ∷ fs) =
      let inner = bound_at q up fs in
      let outer = end_at q up f in
      let rest = map (λ f. named fields f) fs in
      (elim (operand q f Eq) as (λ o. operand q f Eq ≡ o
      → is_le (values_cmp (fixed_or o inner outer).values (fixed_or o inner outer).after
      (named fields f ∷ rest) false) ≡ not up) [
        | Some v ↦ (λ is.
            ap (λ x. is_le (ordering_then (order_of (Some v) x)
            (values_cmp inner.values inner.after rest false)))
            (fixed_value q f v fields is holds)
            ∙ ap (λ o. is_le (ordering_then o (values_cmp inner.values inner.after rest false)))
            (tied_itself order_total (Some v))
            ∙ at_bound fs)
        | None ↦ (λ is.
            at_end up (operand q f (strict up)) (operand q f (loose up)) (named fields f) rest
            (λ v at. of_operand q f (strict up) v fields at holds)
            (λ v at. of_operand q f (loose up) v fields at holds))
      ]) refl

-- ---- keys

-- the key of a document that carries its primary key, by the path
pub key_with : (q : QuerySpec) (fields : Names) (d : Stored)
    → named d.state.fields q.primary ≡ Some (Text d.state.key)
    → key_of fields d
    ≡ position_with
    (Some (Flag d.state.deleted) ∷ map (λ f. named d.state.fields f) (path_of q fields))
    false
key_with q fields d carried =
    let at : List ℕ → Option Value = λ f. named d.state.fields f in
    ap (λ x. position_with (Some (Flag d.state.deleted) ∷ (map at fields ++ x ∷ [])) false)
    (sym carried)
    ∙ ap (λ xs. position_with (Some (Flag d.state.deleted) ∷ xs) false)
    (sym (map-append at fields (q.primary ∷ [])))

-- of a live one
pub key_is : (q : QuerySpec) (fields : Names) (d : Stored) → d.state.deleted ≡ false
    → named d.state.fields q.primary ≡ Some (Text d.state.key)
    → key_of fields d
    ≡ position_with (Some (Flag false) ∷ map (λ f. named d.state.fields f) (path_of q fields)) false
key_is q fields d live carried =
    key_with q fields d carried
    ∙ ap (λ b.
    position_with (Some (Flag b) ∷ map (λ f. named d.state.fields f) (path_of q fields)) false)
    live

-- a due document isn't deleted, and the selector holds of it
pub due_parts : (q : QuerySpec) (d : Stored) → is_due q d ≡ true
    → (d.state.deleted ≡ false) × (all_hold q.clauses d.state.fields ≡ true)
due_parts q d h =
    let parts = and_parts (not d.state.deleted) (all_hold q.clauses d.state.fields) h in (
      (elim d.state.deleted as (λ b. not b ≡ true → b ≡ false)
          [ true ↦ (λ e. absurd (false≢true e)) | false ↦ (λ e. refl) ]) parts.0,
      parts.1,
    )

-- it stands between the bounds of each path
pub due_between : (q : QuerySpec) (fields : Names) (d : Stored) → is_due q d ≡ true
    → named d.state.fields q.primary ≡ Some (Text d.state.key)
    → is_between (bound_of q false (path_of q fields)) (bound_of q true (path_of q fields))
    (key_of fields d) ≡ true
due_between q fields d due carried =
    let parts = due_parts q d due in
    let low = at_bound q d.state.fields parts.1 false (path_of q fields) in
    let high = at_bound q d.state.fields parts.1 true (path_of q fields) in
    ap (is_between (bound_of q false (path_of q fields)) (bound_of q true (path_of q fields)))
    (key_is q fields d parts.0 carried)
    ∙ ap (λ b. b && not (precedes (bound_of q true (path_of q fields))
    (position_with
    (Some (Flag false) ∷ map (λ f. named d.state.fields f) (path_of q fields)) false))) low
    ∙ ap not high
