-- What is written of a property reads as the property.
use Rattle.std.proofs.Common.{◌≡◌, ℕ, ◌^◌, ℤ, pos, negsuc, Bool, true, false, cond, ◌&&◌, List, [], ◌∷◌, codes, Option, Some, None, is_none, option_map, Ok, refl, subst, arith}
use Rattle.std.proofs.lemmas.Bool.{leb-true, lt-ltb}
use Rattle.std.proofs.lemmas.Option.{same_Some}
use Rattle.std.specs.Prelude.{nat_le, nat_lt, int_le}
use Rattle.std.specs.Cmp.{second_so}
use Rattle.serde_json.specs.Data.{Data, object, Members, no_members, member}
use Rattle.serde_json.specs.Find.{get, as_number, as_u64, as_i64, of_integer}
use Rattle.rx_value.specs.Due.{◌>>=◌, or_fault, demand}
use Rattle.rx_value.specs.Form.{whole_within, integer_within}
use Rattle.rx_value.specs.Name.{is_field_name}
use Rattle.rx_value.specs.Value.{largest}
use Rattle.rx_value.specs.declared.kinds.Kind.{Kind}
use Rattle.rx_value.specs.declared.kinds.Kind.TheVariants as kind
use Rattle.rx_schema.specs.Property.{kind_of, known_property, length_of, bound_at, is_range, bounds_of, rule_of, property_of, most_code_points}
use Rattle.rx_schema.specs.Reading.{version_of, most_version, properties_of}
use Rattle.rx_schema.specs.Writing.{rule_members, properties_members, schema_data}
use Rattle.rx_schema.specs.declared.fault.SchemaFault.TheVariants as fault
use Rattle.rx_schema.specs.declared.rule.Bounds.{Bounds}
use Rattle.rx_schema.specs.declared.rule.Rule.{Rule}
use Rattle.rx_schema.specs.declared.rule.Rule.TheVariants.{Flag, Int, Text}
use Rattle.rx_schema.specs.declared.shape.Shape.{Shape}
use Rattle.rx_schema.proofs.Properties.{Rules}
use Rattle.rx_schema.proofs.Schemas.{only_where, same_ok}
use Rattle.rx_value.proofs.Outcomes.{ok_then, some_of, some_then, demanded}

-- ---- numbers

-- a number that was found lies within the bounds
whole_in : (name : List ℕ) (least most : ℕ) (d : Data) (n : ℕ)
    → whole_within name least most d ≡ Some n
    → (nat_le least n && nat_le n most) ≡ true
whole_in name least most d n h =
    let a = some_then (get name d >>= as_number >>= as_u64) _ n h in
    let b = only_where (nat_le least a.0 && nat_le a.0 most) (Some a.0) n a.2 in
    let same : a.0 ≡ n = same_Some a.0 n b.1 in
    subst (λ m. (nat_le least m && nat_le m most) ≡ true) same b.0

-- the same of numbers that may be below 0
integer_in : (name : List ℕ) (least most : ℤ) (d : Data) (n : ℤ)
    → integer_within name least most d ≡ Some n → (int_le least n && int_le n most) ≡ true
integer_in name least most d n h =
    let a = some_then (get name d >>= as_number >>= as_i64) _ n h in
    let b = only_where (int_le least a.0 && int_le a.0 most) (Some a.0) n a.2 in
    let same : a.0 ≡ n = same_Some a.0 n b.1 in
    subst (λ m. (int_le least m && int_le m most) ≡ true) same b.0

-- the version reads again
pub version_again : (d : Data) (s : Shape) → version_of d ≡ Ok s.version
    → version_of (schema_data s) ≡ Ok s.version
version_again d s h =
    rw (whole_in (codes "version") 0 most_version d s.version
    (some_of fault.Version (whole_within (codes "version") 0 most_version d) s.version h)) refl

-- a number of a field reads as itself
small : (n : ℕ) → nat_le n largest ≡ true → nat_lt n (2 ^ 63) ≡ true
small n h = let below = leb-true n largest h in lt-ltb n (2 ^ 63) (omega (arith, below))

-- a number of a field reads as itself
integer_again : (least z : ℤ) → (int_le least z && int_le z (pos largest)) ≡ true
    → as_i64 (of_integer z) ≡ Some z
integer_again least (negsuc n) h = refl
integer_again least (pos n) h =
    rw (small n (second_so (int_le least (pos n)) (int_le (pos n) (pos largest)) h)) refl

-- ---- lengths

-- a length as a test of its being given tells
length_step : (d : Data) (n : ℕ) (b : Bool)
    → cond b (Some 8192) (whole_within (codes "maxLength") 1 most_code_points d) ≡ Some n
    → (nat_le 1 n && nat_le n most_code_points) ≡ true
length_step d n true h = subst (λ m. (nat_le 1 m && nat_le m most_code_points)
    ≡ true) (same_Some 8192 n h) refl
length_step d n false h = whole_in (codes "maxLength") 1 most_code_points d n h

-- a length is from 1 to the most
length_in : (d : Data) (n : ℕ) → length_of d ≡ Some n
    → (nat_le 1 n && nat_le n most_code_points) ≡ true
length_in d n h = length_step d n (is_none (get (codes "maxLength") d)) h

-- ---- properties

-- a flag reads again
flag_again : (k : List ℕ) → is_field_name k ≡ true
    → property_of k (object (rule_members Flag)) ≡ Ok Flag
flag_again k h = rw h refl

-- a text reads again
text_again : (k : List ℕ) (most : ℕ) → is_field_name k ≡ true
    → (nat_le 1 most && nat_le most most_code_points) ≡ true
    → property_of k (object (rule_members (Text most))) ≡ Ok (Text most)
text_again k most h g = rw (h, g) refl

-- ---- bounds

-- a bound that is given lies within the numbers of a field
abbrev fits : ℤ → Option ℤ → Bool
fits least None = true
fits least (Some z) = int_le least z && int_le z (pos largest)

-- a bound as a test of its being given tells
bound_step : (name : List ℕ) (low : ℤ) (d : Data) (o : Option ℤ) (b : Bool) (n : Option ℤ)
    → integer_within name low (pos largest) d ≡ n
    → cond b (Some None) (option_map Some n) ≡ Some o → fits low o ≡ true
bound_step name low d o true n is h = subst (λ m. fits low m ≡ true) (same_Some None o h) refl
bound_step name low d o false None is h = cc
bound_step name low d o false (Some z) is h =
    subst (λ m. fits low m ≡ true) (same_Some (Some z) o h)
    (integer_in name low (pos largest) d z is)

-- a bound that was read fits
bound_in : (name : List ℕ) (low : ℤ) (d : Data) (o : Option ℤ) → bound_at name low d ≡ Some o
    → fits low o ≡ true
bound_in name low d o h =
    bound_step name low d o (is_none (get name d)) (integer_within name low (pos largest) d) refl h

-- the least number of a field
abbrev pub lowest : ℤ
lowest = negsuc 9007199254740990

-- what holds of the bounds of numbers
record Bounded (b : Bounds) : Type 0 where
  low : fits lowest b.minimum ≡ true
  high : fits lowest b.maximum ≡ true
  step : fits (pos 1) b.multiple_of ≡ true
  range : is_range b.minimum b.maximum ≡ true

-- bounds that were read are bounds
bounded : (d : Data) (b : Bounds) → bounds_of d ≡ Some b → Bounded b
bounded d b h =
    let l = some_then (bound_at (codes "minimum") lowest d) _ b h in
    let m = some_then (bound_at (codes "maximum") lowest d) _ b l.2 in
    let s = some_then (bound_at (codes "multipleOf") (pos 1) d) _ b m.2 in
    let whole : Bounds = record { minimum = l.0; maximum = m.0; multiple_of = s.0 } in
    let r = only_where (is_range l.0 m.0) (Some whole) b s.2 in
    subst (λ c. Bounded c) (same_Some whole b r.1) (record {
      low = bound_in (codes "minimum") lowest d l.0 l.1;
      high = bound_in (codes "maximum") lowest d m.0 m.1;
      step = bound_in (codes "multipleOf") (pos 1) d s.0 s.1;
      range = r.0;
    })

-- numbers with these bounds read again
int_again : (k : List ℕ) (l m s : Option ℤ) → is_field_name k ≡ true → fits lowest l ≡ true
    → fits lowest m ≡ true → fits (pos 1) s ≡ true → is_range l m ≡ true
    → property_of k (object (rule_members (Int (record {
      minimum = l;
      maximum = m;
      multiple_of =
          s;
    }))))
    ≡ Ok (Int (record { minimum = l; maximum = m; multiple_of = s }))
int_again k None None None n a b c r = rw n refl
int_again k (Some x) None None n a b c r = rw (n, integer_again lowest x a, a) refl
int_again k None (Some y) None n a b c r = rw (n, integer_again lowest y b, b) refl
int_again k None None (Some z) n a b c r = rw (n, integer_again (pos 1) z c, c) refl
int_again k (Some x) (Some y) None n a b c r =
    rw (n, integer_again lowest x a, a, integer_again lowest y b, b, r) refl
int_again k (Some x) None (Some z) n a b c r =
    rw (n, integer_again lowest x a, a, integer_again (pos 1) z c, c) refl
int_again k None (Some y) (Some z) n a b c r =
    rw (n, integer_again lowest y b, b, integer_again (pos 1) z c, c) refl
int_again k (Some x) (Some y) (Some z) n a b c r =
    rw (
      n,
      integer_again lowest x a,
      a,
      integer_again lowest y b,
      b,
      r,
      integer_again
          (pos 1) z c,
      c,
    ) refl

-- ---- properties that were read

-- what was made of something
pub made_of : {A B : Type 0} (f : A → B) (o : Option A) (y : B) → option_map f o ≡ Some y
    → (x : A) × (o ≡ Some x) × (f x ≡ y)
made_of f None y h = cc
made_of f (Some x) y h = (x, refl, same_Some (f x) y h)

-- the rule of a property reads again
kind_again : (k : List ℕ) (d : Data) (r : Rule) (of : Kind) → is_field_name k ≡ true
    → rule_of of d ≡ Some r → property_of k (object (rule_members r)) ≡ Ok r
kind_again k d r kind.Flag name h =
    subst (λ q. property_of k (object (rule_members q))
    ≡ Ok q) (same_Some Flag r h) (flag_again k name)
kind_again k d r kind.Int name h =
    let a = made_of Int (bounds_of d) r h in
    let b = bounded d a.0 a.1 in
    subst (λ q. property_of k (object (rule_members q)) ≡ Ok q) a.2
    (int_again k a.0.minimum a.0.maximum a.0.multiple_of name b.low b.high b.step b.range)
kind_again k d r kind.Text name h =
    let a = made_of Text (length_of d) r h in
    subst (λ q. property_of k (object (rule_members q)) ≡ Ok q) a.2
    (text_again k a.0 name (length_in d a.0 a.1))

-- a property reads again
property_again : (k : List ℕ) (d : Data) (r : Rule) → property_of k d ≡ Ok r
    → property_of k (object (rule_members r)) ≡ Ok r
property_again k d r h =
    let a = ok_then (demand (is_field_name k) (fault.FieldName k)) _ r h in
    let b = ok_then (or_fault (fault.Kind k) (kind_of d)) _ r a.2 in
    let c = ok_then (known_property b.0 d) _ r b.2 in
    kind_again k d r b.0 (demanded (is_field_name k) (fault.FieldName k) a.0 a.1)
    (some_of (fault.Bounds k) (rule_of b.0 d) r c.2)

-- and so do all
pub properties_again : (ms : Members) (ps : Rules) → properties_of ms ≡ Ok ps
    → properties_of (properties_members ps) ≡ Ok ps
properties_again no_members ps h =
    subst (λ qs. properties_of (properties_members qs) ≡ Ok qs) (same_ok [] ps h) refl
properties_again (member k d ms) ps h =
    let a = ok_then (property_of k d) _ ps h in
    let b = ok_then (properties_of ms) _ ps a.2 in
    subst (λ qs. properties_of (properties_members qs) ≡ Ok qs) (same_ok ((k, a.0) ∷ b.0) ps b.2)
    (rw (property_again k d a.0 a.1, properties_again ms b.0 b.1) refl)
