-- An update that was read beside a primary key does nothing to that field.
use Rattle.std.proofs.Common.{◌≡◌, ℕ, ◌≤◌, Bool, true, false, true≢false, not, List, [], ◌∷◌, ◌++◌, Option, Some, None, Ok, refl, subst, arith}
use Rattle.std.proofs.lemmas.Bool.{ltb-false, or_from, or_parts}
use Rattle.std.specs.Option.{is_some}
use Rattle.std.specs.Ordering.{is_eq, match_ordering}
use Rattle.std.specs.Str.{bytes_eq}
use Rattle.std.specs.declared.cmp.Ordering.{Ordering}
use Rattle.std.specs.declared.cmp.Ordering.TheVariants.{Less, Equal, Greater}
use Rattle.serde_json.specs.Data.{Data, null, boolean, number, string, array, object, Members, no_members, member}
use Rattle.serde_json.specs.Find.{get, get_member, as_object}
use Rattle.rx_value.specs.Due.{◌>>◌, ◌>>=◌, demand}
use Rattle.rx_value.specs.Form.{is_among, unexpected}
use Rattle.rx_value.specs.Order.{text_cmp}
use Rattle.rx_value.proofs.Places.{other}
use Rattle.rx_update.specs.Reading.{Operations, Under, all_operations, first_under, is_named, is_under, misfit_under, one_if, operands_of, operation_of, operations_among, operations_of, operations_under, operator_names, repeated_under, times_named, under, with_operation}
use Rattle.rx_update.specs.Updated.{names_of, LeavesThePrimaryKey}
use Rattle.rx_update.specs.declared.fault.UpdateFault.{UpdateFault}
use Rattle.rx_update.specs.declared.fault.UpdateFault.TheVariants.{Operator, Operand, Twice, Key}
use Rattle.rx_update.specs.declared.operation.Operation.{Operation}
use Rattle.rx_update.specs.declared.operands.Operator.{Operator as Word}
use Rattle.rx_update.specs.declared.operands.Operator.TheVariants as word
use Rattle.rx_update.proofs.Kept.{apart, no_fault, others}

-- ---- under one operator

-- a member that isn't found has another name, and isn't found behind it
differs : (o : Ordering) (later : Option Data) (d : Data)
    → is_some (match_ordering o later (Some d) later) ≡ false
    → (is_eq o ≡ false) × (is_some later ≡ false)
differs Less later d missing = (refl, missing)
differs Equal later d missing = absurd (true≢false missing)
differs Greater later d missing = (refl, missing)

one_more : (field : List ℕ) (o : Option Operation) (os : Operations) (name : List ℕ)
    → bytes_eq field name ≡ false → is_among (names_of os) name ≡ false
    → is_among (names_of (with_operation field o os)) name ≡ false
one_more field None os name other rest = rest
one_more field (Some o) os name other rest =
    or_from (bytes_eq field name) (is_among (names_of os) name) other rest

among : (op : Word) (ms : Members) (name : List ℕ) → is_some (get_member name ms) ≡ false
    → is_among (names_of (operations_among op ms)) name ≡ false
among op no_members name missing = refl
among op (member field d ms) name missing =
    let parts = differs (text_cmp name field) (get_member name ms) d missing in
    one_more field (operation_of op d) (operations_among op ms) name
    (apart name field (other name field (text_cmp name field) refl parts.0))
    (among op ms name parts.1)

of_found : (op : Word) (found : Option Data) (name : List ℕ)
    → is_some (found >>= get name) ≡ false
    → is_among (names_of (operations_of op (found >>= as_object))) name ≡ false
of_found op None name missing = refl
of_found op (Some null) name missing = refl
of_found op (Some (boolean b)) name missing = refl
of_found op (Some (number n)) name missing = refl
of_found op (Some (string s)) name missing = refl
of_found op (Some (array ds)) name missing = refl
of_found op (Some (object ms)) name missing = among op ms name missing

-- ---- under all

in_both : (os more : Operations) (name : List ℕ) → is_among (names_of os) name ≡ false
    → is_among (names_of more) name ≡ false → is_among (names_of (os ++ more)) name ≡ false
in_both [] more name first second = second
in_both (o ∷ os) more name first second =
    let parts = or_parts (bytes_eq o.0 name) (is_among (names_of os) name) first in
    or_from (bytes_eq o.0 name) (is_among (names_of (os ++ more)) name) parts.0
    (in_both os more name parts.1 second)

not_one : (b : Bool) → one_if b ≤ 0 → b ≡ false
not_one true most = absurd (omega arith)
not_one false most = refl

module _ (u : Under) (name : List ℕ) (none : is_named u name ≡ false) where
  abbrev there : Word → ℕ
  there op = one_if (is_under u name op)

  least : times_named u name ≤ 0
  least = ltb-false 0 (times_named u name) none

  apart_from : (op : Word) → there op ≤ 0 → is_among (names_of (operations_under u op)) name ≡ false
  apart_from op most =
      of_found op (under u op) name (not_one (is_under u name op) most)

  unnamed : is_among (names_of (all_operations u)) name ≡ false
  unnamed =
      in_both _ (operations_under u word.Unset) name
      (in_both _ (operations_under u word.Set) name
      (in_both _ (operations_under u word.Min) name
      (in_both (operations_under u word.Inc) (operations_under u word.Max) name
      (apart_from word.Inc (omega (least, arith))) (apart_from word.Max (omega (least, arith))))
      (apart_from word.Min (omega (least, arith))))
      (apart_from word.Set (omega (least, arith))))
      (apart_from word.Unset (omega (least, arith)))

demanded : (b : Bool) (fault : UpdateFault) (made os : Operations)
    → (demand (not b) fault >> λ _. Ok made) ≡ Ok os → (b ≡ false) × (made ≡ os)
demanded true fault made os is = absurd (cc)
demanded false fault made os is = (refl, cc)

pub leaves_key : LeavesThePrimaryKey
leaves_key primary d os ps qs read is =
    let u = operands_of d in
    let known = no_fault Operator (unexpected operator_names [] d) _ os read in
    let fit = no_fault Operand (first_under (misfit_under u)) _ os known in
    let once = no_fault Twice (first_under (repeated_under u)) _ os fit in
    let made = demanded (is_named u primary) (Key primary) (all_operations u) os once in
    others os ps qs primary
    (subst (λ os. is_among (names_of os) primary ≡ false) made.1 (unnamed u primary made.0)) is
