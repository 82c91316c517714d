-- An update makes of each field that it names what its operation does, and leaves the others.
use Rattle.std.proofs.Common.{◌≡◌, ℕ, true, false, cond, List, [], ◌∷◌, ◌++◌, Option, Some, None, Result, Ok, refl, sym, ap, subst, ◌∙◌}
use Rattle.std.proofs.lemmas.Bool.{or_parts}
use Rattle.std.proofs.lemmas.Slice.Eq.{bytes_eq-Decides}
use Rattle.std.specs.Bool.{one_answer}
use Rattle.std.specs.List.{AllByRecursion}
use Rattle.std.specs.List.Sorted.{IsStrictlySortedBy}
use Rattle.std.specs.Map.{keys_of}
use Rattle.std.specs.Str.{bytes_eq}
use Rattle.std.specs.declared.cmp.Ordering.TheVariants.{Less}
use Rattle.rx_value.specs.Due.{unless}
use Rattle.rx_value.specs.Equality.{decides_as}
use Rattle.rx_value.specs.Fields.{Pairs, AreFields}
use Rattle.rx_value.specs.Form.{is_among}
use Rattle.rx_value.specs.Named.{named, without, AreRising}
use Rattle.rx_value.specs.Order.{text_cmp}
use Rattle.rx_value.specs.declared.value.Value.{Value}
use Rattle.rx_value.proofs.Named.{named-put_in_order, put_in_order-rising}
use Rattle.rx_value.proofs.Places.{other}
use Rattle.rx_value.proofs.Removed.{without_fields, without_rising}
use Rattle.rx_value.proofs.Setting.{put_fields, value_in}
use Rattle.rx_update.specs.Reading.{Operations}
use Rattle.rx_update.specs.Updated.{first_where, is_misadded, made, made_of, names_of, sums_past, updated, with_value, AreOperations, KeepsOtherFields, MakesEachField, UpdatesToFields}
use Rattle.rx_update.specs.declared.fault.UpdateFault.TheVariants.{Kind, Range}
use Rattle.rx_update.specs.declared.operation.Operation.{Operation}
use Rattle.rx_update.proofs.Values.{made_held, IsHeld}

-- ---- one field

-- what isn't equal one way round isn't the other way round
pub apart : (a b : List ℕ) → bytes_eq a b ≡ false → bytes_eq b a ≡ false
apart a b other =
    one_answer (bytes_eq b a) (bytes_eq a b) (bytes_eq-Decides b a)
    (decides_as (bytes_eq a b) (bytes_eq-Decides a b) sym sym)
    ∙ other

-- no name stands among those above it
none_above : (k : List ℕ) (ps : Pairs) → AllByRecursion (λ q. text_cmp k q ≡ Less) (keys_of ps)
    → named ps k ≡ None
none_above k [] all = refl
none_above k (p ∷ ps) all =
    ap (λ b. cond b (Some p.1) (named ps k)) (other k p.0 Less all.0 refl)
    ∙ none_above k ps all.1

-- what was taken out is gone
gone : (ps : Pairs) (k : List ℕ) → AreRising ps → named (without ps k) k ≡ None
unfolding IsStrictlySortedBy
gone [] k rising = refl
gone (p ∷ ps) k rising =
    elim (bytes_eq k p.0)
    as (λ b. bytes_eq k p.0 ≡ b → named (cond b ps (p ∷ without ps k)) k ≡ None) [
      | true ↦ (λ is. none_above k ps
          (subst (λ n. AllByRecursion (λ q. text_cmp n q ≡ Less) (keys_of ps))
          (sym ((bytes_eq-Decides k p.0).0 is)) rising.0))
      | false ↦ (λ is. ap (λ b. cond b (Some p.1) (named (without ps k) k)) is
          ∙ gone ps k rising.1)
    ] refl

-- and the others are there
without_other : (ps : Pairs) (k name : List ℕ) → bytes_eq k name ≡ false
    → named (without ps k) name ≡ named ps name
without_other [] k name differs = refl
without_other (p ∷ ps) k name differs =
    elim (bytes_eq k p.0)
    as (λ b. bytes_eq k p.0 ≡ b → named (cond b ps (p ∷ without ps k)) name
    ≡ cond (bytes_eq name p.0) (Some p.1) (named ps name)) [
      | true ↦ (λ is.
          let not_here = ap (bytes_eq name) (sym ((bytes_eq-Decides k p.0).0 is))
          ∙ apart k name differs in
          sym (ap (λ b. cond b (Some p.1) (named ps name)) not_here))
      | false ↦ (λ is. ap (cond (bytes_eq name p.0) (Some p.1))
          (without_other ps k name differs))
    ] refl

-- a field that gets a value has it
has : (ps : Pairs) (k : List ℕ) (o : Option Value) → AreRising ps
    → named (with_value ps k o) k ≡ o
has ps k (Some v) rising =
    named-put_in_order ps k k v
    ∙ ap (λ b. cond b (Some v) (named ps k)) ((bytes_eq-Decides k k).1 refl)
has ps k None rising = gone ps k rising

-- and another stays
stays : (ps : Pairs) (k name : List ℕ) (o : Option Value) → bytes_eq k name ≡ false
    → named (with_value ps k o) name ≡ named ps name
stays ps k name (Some v) differs =
    named-put_in_order ps k name v
    ∙ ap (λ b. cond b (Some v) (named ps name)) (apart k name differs)
stays ps k name None differs = without_other ps k name differs

rises : (ps : Pairs) (k : List ℕ) (o : Option Value) → AreRising ps
    → AreRising (with_value ps k o)
rises ps k (Some v) rising = put_in_order-rising ps k v rising
rises ps k None rising = without_rising ps k rising

fields : (ps : Pairs) (k : List ℕ) (o : Option Value) → IsHeld o → AreFields ps
    → AreFields (with_value ps k o)
fields ps k (Some v) held are = put_fields ps k v are (held v refl)
fields ps k None held are = without_fields ps k are

-- ---- all fields

others_stay : (old : Pairs) (os : Operations) (ps : Pairs) (name : List ℕ)
    → is_among (names_of os) name ≡ false → named (made_of old os ps) name ≡ named ps name
others_stay old [] ps name not_there = refl
others_stay old (o ∷ os) ps name not_there =
    let parts = or_parts (bytes_eq o.0 name) (is_among (names_of os) name) not_there in
    others_stay old os (with_value ps o.0 (made o.1 (named old o.0))) name parts.1
    ∙ stays ps o.0 name (made o.1 (named old o.0)) parts.0

all_rise : (old : Pairs) (os : Operations) (ps : Pairs) → AreRising ps
    → AreRising (made_of old os ps)
all_rise old [] ps rising = rising
all_rise old (o ∷ os) ps rising =
    all_rise old os (with_value ps o.0 (made o.1 (named old o.0)))
    (rises ps o.0 (made o.1 (named old o.0)) rising)

all_fields : (old : Pairs) (os : Operations) (ps : Pairs) → AreOperations os → AreFields old
    → AreFields ps → AreFields (made_of old os ps)
all_fields old [] ps are lawful held = held
all_fields old (o ∷ os) ps are lawful held =
    all_fields old os (with_value ps o.0 (made o.1 (named old o.0))) are.1 lawful
    (fields ps o.0 (made o.1 (named old o.0))
    (made_held o.1 (named old o.0) are.0 (value_in old o.0 lawful.in_range)) held)

-- some operations, and then others
in_two : (old : Pairs) (before after : Operations) (ps : Pairs)
    → made_of old (before ++ after) ps ≡ made_of old after (made_of old before ps)
in_two old [] after ps = refl
in_two old (o ∷ before) after ps =
    in_two old before after (with_value ps o.0 (made o.1 (named old o.0)))

made_there : (old : Pairs) (before : Operations) (name : List ℕ) (o : Operation)
    (after : Operations) → is_among (names_of after) name ≡ false → AreRising old
    → named (made_of old (before ++ (name, o) ∷ after) old) name ≡ made o (named old name)
made_there old before name o after not_there rising =
    let first = made_of old before old in
    ap (λ ps. named ps name) (in_two old before ((name, o) ∷ after) old)
    ∙ others_stay old after (with_value first name (made o (named old name))) name not_there
    ∙ has first name (made o (named old name)) (all_rise old before old rising)

-- ---- where there is no fault

pub no_fault : {A B E : Type 0} (fault : A → E) (found : Option A) (rest : Result B E) (y : B)
    → unless fault found rest ≡ Ok y → rest ≡ Ok y
no_fault fault None rest y is = is
no_fault fault (Some x) rest y is = absurd (cc)

made_so : (os : Operations) (ps qs : Pairs) → updated os ps ≡ Ok qs → made_of ps os ps ≡ qs
made_so os ps qs is =
    let in_kind = no_fault Kind (first_where is_misadded ps os) _ qs is in
    let in_range = no_fault Range (first_where sums_past ps os) _ qs in_kind in
    cc

pub others : KeepsOtherFields
others os ps qs name not_there is =
    ap (λ rs. named rs name) (sym (made_so os ps qs is)) ∙ others_stay ps os ps name not_there

pub each : MakesEachField
each before name o after ps qs not_after lawful is =
    ap (λ rs. named rs name) (sym (made_so (before ++ (name, o) ∷ after) ps qs is))
    ∙ made_there ps before name o after not_after lawful.rising

pub to_fields : UpdatesToFields
to_fields os ps qs are lawful is =
    subst AreFields (made_so os ps qs is) (all_fields ps os ps are lawful lawful)
