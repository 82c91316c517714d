-- The diagram of the table, from its last question to its first.
use Rattle.std.proofs.Common.{◌≡◌, ◌≢◌, ℕ, zero, suc, ◌+◌, ◌-◌, ◌*◌, ◌<◌, ◌≤◌, ◌^◌, ◌%◌, ◌/◌, ◌⊎◌, inl, inr, Bool, true, false, cond, eqb, ◌||◌, List, [], length, refl, sym, ap, ◌∙◌, subst, arith}
use Rattle.std.specs.List.{list_any}
use Rattle.std.proofs.lemmas.Nat.{mod-pow-add}
use Rattle.std.proofs.Math.Nat.{mod-eq_of_lt}
use Rattle.std.proofs.lemmas.Nat.Bits.{bit_at_cat_high}
use Rattle.std.proofs.lemmas.List.Folds.{Any-from_list_any}
use Rattle.std.proofs.lemmas.List.{get_or_default}
use Rattle.std.proofs.lemmas.Bool.Decides.{nat_tests}
use Rattle.std.proofs.lemmas.Bool.{or_right, or_left, cases_eq}
use Rattle.rx_table.specs.declared.action.Action.{Action}
use Rattle.rx_table.specs.declared.action.Action.TheVariants.{DoNothing, RunFullQueryAgain}
use Rattle.rx_table.specs.declared.states.StateName.{StateName}
use Rattle.rx_table.specs.declared.states.StateName.TheVariants.{IsInsert, IsUpdate, IsDelete, HasLimit, IsFindOne, HasSkip, WasResultsEmpty, PreviousUnknown, WasLimitReached, SortParamsChanged, WasInResult, WasFirst, WasLast, WasSortedBeforeFirst, WasSortedAfterLast, IsSortedBeforeFirst, IsSortedAfterLast, WasMatching, DoesMatchNow}
use Rattle.rx_table.specs.Rows.{action_of, table_of}
use Rattle.rx_table.specs.States.{is_set, index_of, holds}
use Rattle.rx_diagram.specs.declared.node.Edge.{Edge}
use Rattle.rx_diagram.specs.declared.node.Edge.TheVariants.{Act, To}
use Rattle.rx_diagram.specs.declared.node.Node.{Node}
use Rattle.rx_diagram.specs.Nodes.{node, edge_of, root_of, final, From, answers_of, is_to, leads_to, IsReduced, IsDiagram}
use Rattle.rx_diagram.specs.Building.{IsLater, IsLonger, IsShared, IsBuilt}
use Rattle.rx_diagram.proofs.Numbers.{pow-suc}
use Rattle.rx_diagram.proofs.Walks.{from_lower, final-act, final_same}
use Rattle.rx_diagram.proofs.Grows.{longer_refl, longer_trans, from_longer, final_longer, any_longer, to_is}

-- all questions are answered
pub built_leaf : (ns : List Node) (k : ℕ) → IsReduced ns → IsBuilt ns ns 19 k (Act (table_of k))
built_leaf ns k r = record {
  grown = longer_refl ns;
  few = omega arith;
  reduced = r;
  from = tt;
  right = λ n lt is. final-act ns (answers_of n) (table_of k)
      ∙ ap (λ (m : ℕ). Act (table_of m)) (sym is ∙ mod-eq_of_lt lt);
  led = λ j le lt. absurd (omega arith);
}

-- a bit times its weight, by cases
by_bit : (d p r x : ℕ) → d < 2 → x ≡ d * p + r → x ≡ cond (eqb d 1) p 0 + r
by_bit zero p r x lt e = omega arith
by_bit (suc zero) p r x lt e = omega arith
by_bit (suc (suc d)) p r x lt e = absurd (omega arith)

-- one more bit of a number
pub mod_next : (n i : ℕ) → n % 2 ^ suc i ≡ cond (is_set n i) (2 ^ i) 0 + n % 2 ^ i
mod_next n i =
    let e : n % 2 ^ (1 + i) ≡ (n / 2 ^ i % 2) * 2 ^ i + n % 2 ^ i = mod-pow-add n 1 i in
    let same : suc i ≡ 1 + i = omega arith in
    by_bit (n / 2 ^ i % 2) (2 ^ i) (n % 2 ^ i) (n % 2 ^ suc i) (omega arith)
    (ap (λ (j : ℕ). n % 2 ^ j) same ∙ e)

-- both answers of a question, and its node
pub built_node : (old mid late new : List Node) (i k : ℕ) (low high e : Edge) (nd : Node) → i < 19
    → index_of nd.state ≡ i → nd.no ≡ low → nd.yes ≡ high
    → IsBuilt old mid (suc i) k low → IsBuilt mid late (suc i) (k + 2 ^ i) high
    → IsShared late new nd e → IsBuilt old new i k e
built_node old mid late new i k low high e nd small level_is no_is yes_is a b s = record {
  grown = longer_trans old late new (longer_trans old mid late a.grown b.grown) s.grown;
  few = let p : 2 ^ (19 - i) ≡ 2 * 2 ^ (19 - suc i) = (let q : 19 - i ≡ suc (19 - suc i) =
      omega arith in ap (λ (j : ℕ). 2 ^ j) q ∙ pow-suc (19 - suc i)) in
      let x = a.few in let y = b.few in let z = s.few in omega arith;
  reduced = s.reduced;
  from = subst (λ (j : ℕ). From new j e) level_is s.from;
  right = λ n lt is. s.gives (answers_of n)
      ∙ ap (λ (j : ℕ). final new (answers_of n) (edge_of (is_set n j) nd)) level_is
      ∙ by_answer n lt is (is_set n i) refl;
  led = λ j le lt. by_place j le lt (cases_eq (suc j - length mid) 0)
      (cases_eq (suc j - length late) 0);
}
  where
    to_new : IsLonger mid new
    to_new = longer_trans mid late new b.grown s.grown

    by_answer : (n : ℕ) → n < 2 ^ 19 → n % 2 ^ i ≡ k → (v : Bool) → is_set n i ≡ v
        → final new (answers_of n) (edge_of v nd) ≡ Act (table_of n)
    by_answer n lt is true v_is =
        ap (final new (answers_of n)) yes_is
        ∙ final_longer late new b.reduced s.grown (answers_of n) high
        (from_lower late 0 (suc i) high (omega arith) b.from)
        ∙ b.right n lt (let m = mod_next n i in
        m ∙ ap (λ (v : Bool). cond v (2 ^ i) 0 + n % 2 ^ i) v_is ∙ (omega arith))
    by_answer n lt is false v_is =
        ap (final new (answers_of n)) no_is
        ∙ final_longer mid new a.reduced to_new (answers_of n) low
        (from_lower mid 0 (suc i) low (omega arith) a.from)
        ∙ a.right n lt (let m = mod_next n i in
        m ∙ ap (λ (v : Bool). cond v (2 ^ i) 0 + n % 2 ^ i) v_is ∙ (omega arith))

    led_by : (j : ℕ) (c : Edge) (answer : Bool) (ns : List Node) → edge_of answer nd ≡ c
        → IsLonger ns new → (is_to j c || list_any (leads_to j) ns) ≡ true
        → (is_to j e || list_any (leads_to j) new) ≡ true
    led_by j c answer ns is g h = cases (is_to j c) refl
      where
        cases : (v : Bool) → is_to j c ≡ v → (is_to j e || list_any (leads_to j) new) ≡ true
        cases true v_is = s.led answer j (is ∙ to_is j c v_is)
        cases false v_is = or_right (is_to j e) (list_any (leads_to j) new)
            (any_longer (leads_to j) ns new g
            (sym (ap (λ (v : Bool). v || list_any (leads_to j) ns) v_is) ∙ h))

    by_place : (j : ℕ) → length old ≤ j → j < length new
        → (suc j - length mid ≡ 0) ⊎ (suc j - length mid ≢ 0)
        → (suc j - length late ≡ 0) ⊎ (suc j - length late ≢ 0)
        → (is_to j e || list_any (leads_to j) new) ≡ true
    by_place j le lt (inl x) y = led_by j low false mid no_is to_new (a.led j le (omega arith))
    by_place j le lt (inr x) (inl y) = led_by j high true late yes_is s.grown
        (b.led j (omega arith) (omega arith))
    by_place j le lt (inr x) (inr y) = or_left (is_to j e) (list_any (leads_to j) new)
        (s.fresh j (omega arith) lt)

-- the same, as the code calls itself
pub built_step : (old mid late new : List Node) (i k : ℕ) (low high e : Edge) (nd : Node) → i < 19
    → index_of nd.state ≡ i → nd.no ≡ low → nd.yes ≡ high
    → IsBuilt old mid (i + 1) k low → IsBuilt mid late (i + 1) (k + 2 ^ i) high
    → IsShared late new nd e → IsBuilt old new i k e
built_step old mid late new i k low high e nd small level_is low_is high_is a b s =
    let one : i + 1 ≡ suc i = omega arith in
    built_node old mid late new i k low high e nd small level_is low_is high_is
    (subst (λ (j : ℕ). IsBuilt old mid j k low) one a)
    (subst (λ (j : ℕ). IsBuilt mid late j (k + 2 ^ i) high) one b) s

-- each question halves the room that is left
pub pow_left : (i : ℕ) → i < 19 → 2 ^ (19 - i) ≡ 2 * 2 ^ (19 - (i + 1))
pow_left i lt = let e : 19 - i ≡ suc (19 - (i + 1)) = omega arith in
    ap (λ (j : ℕ). 2 ^ j) e ∙ pow-suc (19 - (i + 1))

-- and doubles the numbers of the answers before it
pub pow_up : (i : ℕ) → 2 ^ (i + 1) ≡ 2 * 2 ^ i
pow_up i = let e : i + 1 ≡ suc i = omega arith in ap (λ (j : ℕ). 2 ^ j) e ∙ pow-suc i

-- the same, as the code has it
pub built_end : (ns : List Node) (i k : ℕ) (a : Action) → i ≡ 19 → a ≡ table_of k → IsReduced ns
    → IsBuilt ns ns i k (Act a)
built_end ns i k a i_is a_is r = subst (λ (j : ℕ). IsBuilt ns ns j k (Act a)) (sym i_is)
    (subst (λ (c : Action). IsBuilt ns ns 19 k (Act c)) (sym a_is) (built_leaf ns k r))

-- the edges of the new node are later
pub is_later : (mid late : List Node) (old : List Node) (i k m : ℕ) (nd : Node)
    → index_of nd.state ≡ i → IsBuilt old mid (i + 1) k nd.no → IsBuilt mid late (i + 1) m nd.yes
    → IsLater late nd
is_later mid late old i k m nd level_is a b =
    record {
      later = λ answer. subst (λ (j : ℕ). From late j (edge_of answer nd)) (let e : i + 1
          ≡ suc (index_of nd.state) = omega arith in e) (side answer);
    }
  where
    side : (answer : Bool) → From late (i + 1) (edge_of answer nd)
    side true = b.from
    side false = from_longer mid late b.grown (i + 1) nd.no a.from

-- an edge leads to one node alone
to_other : (k j : ℕ) → k ≢ j → is_to j (To k) ≡ false
to_other k j ne = grind (arith, nat_tests)

-- the last node is led to by none
last_not_led : (ns : List Node) (j : ℕ) → IsReduced ns → suc j ≡ length ns
    → list_any (leads_to j) ns ≡ true → ⊥
last_not_led ns j r last h =
    let at = Any-from_list_any (leads_to j) ns h in
    let node_is : at.1 ≡ node ns at.0 = sym (get_or_default ns at.0 _ at.1 at.2 ∙ at.3) in
    by_edge at.0 at.2 (is_to j (node ns at.0).no) refl (sym (ap (leads_to j) node_is) ∙ at.4)
  where
    by_edge : (k : ℕ) → k < length ns → (v : Bool) → is_to j (node ns k).no ≡ v
        → leads_to j (node ns k) ≡ true → ⊥
    by_edge k lt true v_is leads = let less =
        (r.ordered false k j lt (to_is j (node ns k).no v_is)).0 in omega arith
    by_edge k lt false v_is leads =
        let yes_is : is_to j (node ns k).yes ≡ true =
        sym (ap (λ (v : Bool). v || is_to j (node ns k).yes) v_is) ∙ leads in
        let less = (r.ordered true k j lt (to_is j (node ns k).yes yes_is)).0 in omega arith

-- the first four answers don't count
unfoldable cleared : ℕ → ℕ
cleared n = n / 2 ^ 4 * 2 ^ 4

-- the bits from the fifth on are kept
bit-cleared : (n j : ℕ) → 4 ≤ j → is_set (cleared n) j ≡ is_set n j
unfolding cleared
bit-cleared n j le =
    let q = n / 2 ^ 4 in
    let r = n % 2 ^ 4 in
    let whole : q * 2 ^ 4 + r ≡ n = omega arith in
    let none : q * 2 ^ 4 + 0 ≡ q * 2 ^ 4 = omega arith in
    ap (λ (v : ℕ). is_set v j) (sym none)
    ∙ ap (λ (v : ℕ). eqb v 1) (bit_at_cat_high q 4 0 j (omega arith) le
    ∙ sym (bit_at_cat_high q 4 r j (omega arith) le)) ∙ ap (λ (v : ℕ). is_set v j) whole

-- such a number is in range
cleared_in : (n : ℕ) → n < 2 ^ 19 → cleared n < 2 ^ 19
unfolding cleared
cleared_in n lt = omega arith

-- and its first four bits are none
cleared_mod : (n : ℕ) → cleared n % 2 ^ 4 ≡ 0
unfolding cleared
cleared_mod n = omega arith

-- answers of which the first four are others
late : (StateName → Bool) → (StateName → Bool) → StateName → Bool
late is other IsInsert = other IsInsert
late is other IsUpdate = other IsUpdate
late is other IsDelete = other IsDelete
late is other HasLimit = other HasLimit
late is other IsFindOne = is IsFindOne
late is other HasSkip = is HasSkip
late is other WasResultsEmpty = is WasResultsEmpty
late is other PreviousUnknown = is PreviousUnknown
late is other WasLimitReached = is WasLimitReached
late is other SortParamsChanged = is SortParamsChanged
late is other WasInResult = is WasInResult
late is other WasFirst = is WasFirst
late is other WasLast = is WasLast
late is other WasSortedBeforeFirst = is WasSortedBeforeFirst
late is other WasSortedAfterLast = is WasSortedAfterLast
late is other IsSortedBeforeFirst = is IsSortedBeforeFirst
late is other IsSortedAfterLast = is IsSortedAfterLast
late is other WasMatching = is WasMatching
late is other DoesMatchNow = is DoesMatchNow

-- the table doesn't read those
table_late : (is other : StateName → Bool) → action_of (late is other) ≡ action_of is
unfolding late
table_late is other = refl

-- the bits without the first four are such answers
cleared_late : (n : ℕ) (s : StateName)
    → holds (cleared n) s ≡ late (holds n) (holds (cleared n)) s
unfolding late
cleared_late n IsInsert = refl
cleared_late n IsUpdate = refl
cleared_late n IsDelete = refl
cleared_late n HasLimit = refl
cleared_late n IsFindOne = bit-cleared n 4 (omega arith)
cleared_late n HasSkip = bit-cleared n 5 (omega arith)
cleared_late n WasResultsEmpty = bit-cleared n 6 (omega arith)
cleared_late n PreviousUnknown = bit-cleared n 7 (omega arith)
cleared_late n WasLimitReached = bit-cleared n 8 (omega arith)
cleared_late n SortParamsChanged = bit-cleared n 9 (omega arith)
cleared_late n WasInResult = bit-cleared n 10 (omega arith)
cleared_late n WasFirst = bit-cleared n 11 (omega arith)
cleared_late n WasLast = bit-cleared n 12 (omega arith)
cleared_late n WasSortedBeforeFirst = bit-cleared n 13 (omega arith)
cleared_late n WasSortedAfterLast = bit-cleared n 14 (omega arith)
cleared_late n IsSortedBeforeFirst = bit-cleared n 15 (omega arith)
cleared_late n IsSortedAfterLast = bit-cleared n 16 (omega arith)
cleared_late n WasMatching = bit-cleared n 17 (omega arith)
cleared_late n DoesMatchNow = bit-cleared n 18 (omega arith)

-- so the first four answers may be any
table_cleared : (n : ℕ) → table_of (cleared n) ≡ table_of n
table_cleared n =
    ap action_of (λ i s. cleared_late n s i) ∙ table_late (holds n) (holds (cleared n))

-- what is built from nothing is the diagram
pub is_diagram : (ns : List Node) (e : Edge) → IsBuilt [] ns 4 0 e → IsDiagram ns
is_diagram ns e b = record {
  some = some;
  reduced = b.reduced;
  led = λ j lt. led_inside j lt;
  right = λ n lt. ap (final ns (answers_of n)) (sym e_is) ∙ right n lt;
}
  where
    right : (n : ℕ) → n < 2 ^ 19 → final ns (answers_of n) e ≡ Act (table_of n)
    right n lt = final_same ns b.reduced 4 (answers_of n) (answers_of (cleared n)) e b.from
        (λ j le small. sym (bit-cleared n j le))
        ∙ b.right (cleared n) (cleared_in n lt) (cleared_mod n) ∙ ap Act (table_cleared n)

    some : 0 < length ns
    some =
        elim (cases_eq (length ns) 0) [
          | inl none ↦ absurd
              (no_node none e b.from (right 0 (omega arith)) (right 128 (omega arith)))
          | inr ne ↦ omega
              arith
        ]
      where
        no_node : length ns ≡ 0 → (c : Edge) → From ns 4 c
            → final ns (answers_of 0) c ≡ Act (table_of 0)
            → final ns (answers_of 128) c ≡ Act (table_of 128) → ⊥
        no_node none (Act a) f x y =
            let bad : Act DoNothing ≡ Act RunFullQueryAgain = sym x ∙ final-act ns (answers_of 0) a
            ∙ sym (final-act ns (answers_of 128) a) ∙ y in cc
        no_node none (To k) f x y = let lt = f.0 in omega arith

    e_is : e ≡ root_of ns
    e_is = by_root (is_to (length ns - 1) e) refl
      where
        by_root : (v : Bool) → is_to (length ns - 1) e ≡ v → e ≡ root_of ns
        by_root true v_is = to_is (length ns - 1) e v_is
        by_root false v_is = absurd (last_not_led ns (length ns - 1) b.reduced (omega (arith, some))
            (sym (ap (λ (v : Bool). v || list_any (leads_to (length ns - 1)) ns) v_is)
            ∙ b.led (length ns - 1) (omega arith) (omega (arith, some))))

    led_inside : (j : ℕ) → suc j < length ns → list_any (leads_to j) ns ≡ true
    led_inside j lt = sym (ap (λ (v : Bool). v || list_any (leads_to j) ns) (ap (is_to j) e_is
        ∙ not_last)) ∙ b.led j (omega arith) (omega arith)
      where
        not_last : is_to j (To (length ns - 1)) ≡ false
        not_last = to_other (length ns - 1) j (omega arith)
