-- The result of a query that asks for one primary key.
use Rattle.std.proofs.Common.{◌≡◌, ℕ, zero, suc, ◌==◌, Bool, true, false, not, cond, ◌&&◌, List, [], ◌∷◌, filter, take, drop, Option, Some, None, Less, Equal, refl, sym, ap, subst, ◌∙◌, arith}
use Rattle.std.proofs.lemmas.Bool.Decides.{Decides-eqb}
use Rattle.std.proofs.lemmas.Bool.{false≢true, and_parts}
use Rattle.std.proofs.lemmas.Cmp.{tied_itself}
use Rattle.std.proofs.lemmas.Slice.Eq.{bytes_eq-Decides}
use Rattle.std.specs.List.{AllByRecursion}
use Rattle.std.specs.List.Sorted.{IsStrictlySortedBy}
use Rattle.std.specs.Map.{keys_of, values_of}
use Rattle.std.specs.Prelude.{option_to_list}
use Rattle.std.specs.Str.{bytes_eq}
use Rattle.rx_document.specs.Documents.{Documents}
use Rattle.rx_document.specs.declared.stored.Stored.{Stored}
use Rattle.rx_query.specs.QuerySpec.{QuerySpec}
use Rattle.rx_query.specs.Lists.{sorted, some_passes}
use Rattle.rx_query.specs.Result.{IsCollection, is_due, at_most, stored_before, result_of}
use Rattle.rx_selector.specs.Holding.{all_hold}
use Rattle.rx_selector.specs.declared.tree.Compare.TheVariants.{Eq}
use Rattle.rx_value.proofs.Ordered.{text_total}
use Rattle.rx_value.specs.Named.{named, AreRising}
use Rattle.rx_value.specs.Order.{text_cmp}
use Rattle.rx_value.specs.declared.value.Value.{Value}
use Rattle.rx_value.specs.declared.value.Value.TheVariants.{Flag, Int, Text}
use Rattle.rx_planner.specs.Plan.{operand}
use Rattle.rx_planner.specs.Rows.{if_due, due_at, shows_first}
use Rattle.rx_planner.proofs.Selected.{fixed_value}

abbrev none_of : (X : Type 0) → List X
none_of X = []

abbrev Carry : List ℕ → Documents → Type 0
Carry primary es =
    AllByRecursion (λ e. named e.1.state.fields primary ≡ Some (Text e.1.state.key)) es

abbrev Keyed : Documents → Type 0
Keyed es = AllByRecursion (λ e. e.1.state.key ≡ e.0) es

module _ (q : QuerySpec) (v : Value) (fixed : operand q q.primary Eq ≡ Some v) where
  -- a due document has the key that is asked for
  asked_key : (d : Stored) → named d.state.fields q.primary ≡ Some (Text d.state.key)
      → is_due q d ≡ true → v ≡ Text d.state.key
  asked_key d carried due =
      let parts = and_parts (not d.state.deleted) (all_hold q.clauses d.state.fields) due in
      let value : Some v ≡ Some (Text d.state.key) =
      sym (fixed_value q q.primary v d.state.fields fixed parts.1) ∙ carried in
      cc

  -- where none has it, none is due
  none_due : (es : Documents) → Carry q.primary es
      → AllByRecursion (λ e. v ≡ Text e.1.state.key → ⊥) es → filter (is_due q) (values_of es) ≡ []
  none_due [] carried other = refl
  none_due (e ∷ es) carried other =
      (elim (is_due q e.1) as (λ b. is_due q e.1 ≡ b
      → cond b (e.1 ∷ filter (is_due q) (values_of es)) (filter (is_due q) (values_of es)) ≡ []) [
        | true ↦ (λ due. absurd (other.0 (asked_key e.1 carried.0 due)))
        | false ↦ (λ _. none_due es carried.1 other.1)
      ]) refl

-- the keys above a text are others
others : (id : List ℕ) (es : Documents) → Keyed es
    → AllByRecursion (λ k. text_cmp id k ≡ Less) (keys_of es)
    → AllByRecursion (λ e. Text id ≡ Text e.1.state.key → ⊥) es
others id [] keyed up = tt
others id (e ∷ es) keyed up = (
  λ same.
      let one : id ≡ e.1.state.key = cc in
      let tie : text_cmp id id ≡ Less = ap (text_cmp id) (one ∙ keyed.0) ∙ up.0 in
      let bad : Less ≡ Equal = sym tie ∙ tied_itself text_total id in
      cc,
  others id es keyed.1 up.1,
)

text_due : (q : QuerySpec) (id : List ℕ) → operand q q.primary Eq ≡ Some (Text id)
    → (es : Documents)
    → AreRising es → Keyed es → Carry q.primary es
    → filter (is_due q) (values_of es) ≡ option_to_list (if_due q (named es id))
unfolding IsStrictlySortedBy
text_due q id fixed [] up keyed carried = refl
text_due q id fixed (e ∷ es) up keyed carried =
    (elim (bytes_eq id e.0) as (λ b. bytes_eq id e.0 ≡ b
    → cond (is_due q e.1) (e.1 ∷ filter (is_due q) (values_of es))
    (filter (is_due q) (values_of es))
    ≡ option_to_list (if_due q (cond b (Some e.1) (named es id)))) [
      | true ↦ (λ is.
          let above : AllByRecursion (λ k. text_cmp id k ≡ Less) (keys_of es) =
          subst (λ k. AllByRecursion (λ l. text_cmp k l ≡ Less) (keys_of es))
          (sym ((bytes_eq-Decides id e.0).0 is)) up.0 in
          let rest = none_due q (Text id) fixed es carried.1 (others id es keyed.1 above) in
          ap (λ xs. cond (is_due q e.1) (e.1 ∷ xs) xs) rest
          ∙ (elim (is_due q e.1)
          as (λ b. cond b (e.1 ∷ []) [] ≡ option_to_list (cond b (Some e.1) None))
          [ true ↦ refl | false ↦ refl ]))
      | false ↦ (λ is.
          let not_due : is_due q e.1 ≡ false = not_this is in
          ap (λ b.
          cond b (e.1 ∷ filter (is_due q) (values_of es)) (filter (is_due q) (values_of es)))
          not_due
          ∙ text_due q id fixed es up.1 keyed.1 carried.1)
    ]) refl
  where
    not_this : bytes_eq id e.0 ≡ false → is_due q e.1 ≡ false
    not_this is = (elim (is_due q e.1) as (λ b. is_due q e.1 ≡ b → b ≡ false) [
      | true ↦ (λ due.
          let key : Text id ≡ Text e.1.state.key =
          asked_key q (Text id) fixed e.1 carried.0 due in
          let same : id ≡ e.1.state.key = cc in
          absurd (false≢true (sym is ∙ (bytes_eq-Decides id e.0).1 (same ∙ keyed.0))))
      | false ↦ (λ _. refl)
    ]) refl

-- what is no text is no key
no_text : (v : Value) → ((id : List ℕ) → v ≡ Text id → ⊥) → (es : Documents)
    → AllByRecursion (λ e. v ≡ Text e.1.state.key → ⊥) es
no_text v never [] = tt
no_text v never (e ∷ es) = (never e.1.state.key, no_text v never es)

-- the due documents are the one of that key, if it is due
one_due : (q : QuerySpec) (v : Value) (es : Documents) → operand q q.primary Eq ≡ Some v
    → IsCollection q.primary es
    → filter (is_due q) (values_of es) ≡ option_to_list (due_at q es v)
one_due q (Text id) es fixed all = text_due q id fixed es all.rising all.keyed all.carried
one_due q (Flag b) es fixed all =
    none_due q (Flag b) fixed es all.carried (no_text (Flag b) (λ id h. cc) es)
one_due q (Int z) es fixed all =
    none_due q (Int z) fixed es all.carried (no_text (Int z) (λ id h. cc) es)

-- ---- what the window takes in of one document

not_zero : (n : ℕ) → (suc n == 0) ≡ false
not_zero n =
    (elim (suc n == 0) as (λ b. (suc n == 0) ≡ b → b ≡ false)
    [ true ↦ (λ h. absurd (omega (arith, (Decides-eqb (suc n) 0).0 h))) | false ↦ (λ _. refl) ])
    refl

take_none : {X : Type 0} (n : ℕ) → take n (none_of X) ≡ []
take_none zero = refl
take_none (suc n) = refl

drop_none : {X : Type 0} (n : ℕ) → drop n (none_of X) ≡ []
drop_none zero = refl
drop_none (suc n) = refl

most_none : {X : Type 0} (limit : Option ℕ) → at_most limit (none_of X) ≡ []
most_none None = refl
most_none (Some n) = take_none n

either : {X : Type 0} (b : Bool) → none_of X ≡ cond b [] []
either true = refl
either false = refl

windowed : (skip : ℕ) (limit : Option ℕ) (o : Option Stored)
    → at_most limit (drop skip (option_to_list o))
    ≡ cond (skip == 0 && not (some_passes (λ n. n == 0) limit)) (option_to_list o) []
windowed skip limit None =
    ap (at_most limit) (drop_none skip) ∙ most_none limit
    ∙ either (skip == 0 && not (some_passes (λ n. n == 0) limit))
windowed zero None (Some d) = refl
windowed zero (Some zero) (Some d) = refl
windowed zero (Some (suc n)) (Some d) =
    ap (λ xs. d ∷ xs) (take_none n) ∙ ap (λ b. cond (not b) (d ∷ []) []) (sym (not_zero n))
windowed (suc k) limit (Some d) =
    ap (at_most limit) (drop_none k) ∙ most_none limit
    ∙ ap (λ b. cond (b && not (some_passes (λ n. n == 0) limit)) (d ∷ []) []) (sym (not_zero k))

alone : (q : QuerySpec) (o : Option Stored)
    → sorted (stored_before q) (option_to_list o) ≡ option_to_list o
alone q None = refl
alone q (Some d) = refl

-- the result is that document, if it is due and shown
one_result : (q : QuerySpec) (v : Value) (es : Documents) → operand q q.primary Eq ≡ Some v
    → IsCollection q.primary es
    → result_of q (values_of es) ≡ cond (shows_first q) (option_to_list (due_at q es v)) []
one_result q v es fixed all =
    ap (λ ds. at_most q.limit (drop q.skip (sorted (stored_before q) ds)))
    (one_due q v es fixed all)
    ∙ ap (λ ds. at_most q.limit (drop q.skip ds)) (alone q (due_at q es v))
    ∙ windowed q.skip q.limit (due_at q es v)

pub one_shown : (q : QuerySpec) (v : Value) (es : Documents) → operand q q.primary Eq ≡ Some v
    → IsCollection q.primary es → shows_first q ≡ true → (o : Option Stored) → o ≡ due_at q es v
    → option_to_list o ≡ result_of q (values_of es)
one_shown q v es fixed all shows o is =
    ap option_to_list is
    ∙ sym (one_result q v es fixed all
    ∙ ap (λ b. cond b (option_to_list (due_at q es v)) []) shows)

pub one_hidden : (q : QuerySpec) (v : Value) (es : Documents) → operand q q.primary Eq ≡ Some v
    → IsCollection q.primary es → shows_first q ≡ false → [] ≡ result_of q (values_of es)
one_hidden q v es fixed all hides =
    sym (one_result q v es fixed all
    ∙ ap (λ b. cond b (option_to_list (due_at q es v)) []) hides)
