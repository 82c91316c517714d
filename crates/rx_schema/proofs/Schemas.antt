-- What follows of a schema that was read.
use Rattle.std.proofs.Common.{◌≡◌, ℕ, Bool, true, false, cond, ◌||◌, List, [], ◌∷◌, filter, codes, Option, Some, None, option_map, Result, Ok, refl, sym, ap, ◌∙◌, true≢false, subst}
use Rattle.std.proofs.lemmas.Map.Text.{is_eq-slice_cmp}
use Rattle.std.proofs.lemmas.Slice.Eq.{bytes_eq-Decides}
use Rattle.std.proofs.Math.Bool.{or-true}
use Rattle.std.specs.List.{AllByRecursion}
use Rattle.std.specs.Map.{keys_of}
use Rattle.std.specs.Ordering.{is_eq, match_ordering}
use Rattle.std.specs.Str.{bytes_eq}
use Rattle.std.specs.declared.cmp.Ordering.{Ordering}
use Rattle.std.specs.declared.cmp.Ordering.TheVariants.{Less, Equal, Greater}
use Rattle.std.specs.Cmp.{first_so}
use Rattle.serde_json.specs.Data.{Data, object, Members, no_members, member}
use Rattle.serde_json.specs.Find.{get, get_member, as_object}
use Rattle.rx_value.specs.Due.{◌>>=◌, or_fault, only_if, demand}
use Rattle.rx_value.specs.Form.{is_among, text_at, unexpected}
use Rattle.rx_value.specs.Name.{is_field_name}
use Rattle.rx_value.specs.Named.{named}
use Rattle.rx_value.specs.Order.{text_cmp}
use Rattle.rx_value.specs.declared.kinds.Kind.TheVariants as kind
use Rattle.rx_value.proofs.Ordered.{text_ties}
use Rattle.rx_schema.specs.Names.{property_at, required_of, indexes_of}
use Rattle.rx_schema.specs.Property.{no_keyword, told, says, is_word, kind_of, known_property, length_of, rule_of, property_of}
use Rattle.rx_schema.specs.Reading.{an_object, schema_words, is_off, known_schema, version_of, properties_of, is_key, primary_of, few_enough, required_names, schema_of}
use Rattle.rx_schema.specs.declared.fault.SchemaFault.TheVariants as fault
use Rattle.rx_schema.specs.declared.rule.Rule.{Rule}
use Rattle.rx_schema.specs.declared.rule.Rule.TheVariants.{Text}
use Rattle.rx_schema.specs.declared.shape.Shape.{Shape}
use Rattle.rx_schema.proofs.Properties.{Rules}
use Rattle.rx_value.proofs.Outcomes.{ok_then, some_of, some_then, demanded}

-- ---- readings that went well

-- an answer that went well
abbrev ok : {A E : Type 0} → A → Result A E
ok x = Ok x

-- what went well is one thing
pub same_ok : {A E : Type 0} (x y : A) → ok {A = A} {E = E} x ≡ ok {A = A} {E = E} y → x ≡ y
same_ok x y h = cc

-- the condition held
pub only_where : {A : Type 0} (b : Bool) (o : Option A) (x : A) → only_if b o ≡ Some x
    → (b ≡ true) × (o ≡ Some x)
only_where true o x h = (refl, h)
only_where false o x h = cc

-- ---- the parts of a schema

-- the parts of a schema, each as its test gave it
pub record WasRead (d : Data) (s : Shape) : Type 0 where
  pub members : Members
  pub listed : List (List ℕ)
  pub is_object : an_object d ≡ Ok tt
  pub words : known_schema d ≡ Ok members
  pub version : version_of d ≡ Ok s.version
  pub properties : properties_of members ≡ Ok s.properties
  pub primary : primary_of d ≡ Ok s.primary
  pub listed_is : required_of d ≡ Ok listed
  pub indexes : indexes_of d ≡ Ok s.indexes
  pub few : few_enough s.properties s.indexes ≡ Ok tt
  pub required : s.required ≡ required_names s.primary listed s.properties

-- each test of a schema that was read went well
pub was_read : (d : Data) (s : Shape) → schema_of d ≡ Ok s → WasRead d s
was_read d s h =
    let a = ok_then (an_object d) _ s h in
    let b = ok_then (known_schema d) _ s a.2 in
    let v = ok_then (version_of d) _ s b.2 in
    let p = ok_then (properties_of b.0) _ s v.2 in
    let k = ok_then (primary_of d) _ s p.2 in
    let l = ok_then (required_of d) _ s k.2 in
    let i = ok_then (indexes_of d) _ s l.2 in
    let f = ok_then (few_enough p.0 i.0) _ s i.2 in
    let whole : Shape = record {
      version = v.0;
      primary = k.0;
      properties = p.0;
      required = required_names k.0 l.0 p.0;
      indexes = i.0;
    } in
    subst (λ t. WasRead d t) (same_ok whole s f.2) (record {
      members = b.0;
      listed = l.0;
      is_object = a.1;
      words = b.1;
      version = v.1;
      properties = p.1;
      primary = k.1;
      listed_is = l.1;
      indexes = i.1;
      few = f.1;
      required = refl;
    })

-- ---- properties

-- a property that was read has a field name
names_step : (k : List ℕ) (d : Data) (r : Rule) → property_of k d ≡ Ok r → is_field_name k ≡ true
names_step k d r h =
    let a = ok_then (demand (is_field_name k) (fault.FieldName k)) _ r h in
    demanded (is_field_name k) (fault.FieldName k) a.0 a.1

-- so have all
pub field_names : (ms : Members) (ps : Rules) → properties_of ms ≡ Ok ps
    → AllByRecursion (λ p. is_field_name p.0 ≡ true) ps
field_names no_members ps h = let e : [] ≡ ps = cc in rw (← e) tt
field_names (member k d ms) ps h =
    let a = ok_then (property_of k d) _ ps h in
    let b = ok_then (properties_of ms) _ ps a.2 in
    subst (λ qs. AllByRecursion (λ p. is_field_name p.0 ≡ true) qs)
    (same_ok ((k, a.0) ∷ b.0) ps b.2) (names_step k d a.0 a.1, field_names ms b.0 b.1)

-- a name's property among those that were read
pub record Found (k : List ℕ) (d : Data) (ps : Rules) : Type 0 where
  pub rule : Rule
  pub is_named : named ps k ≡ Some rule
  pub was : property_of k d ≡ Ok rule

-- one property, and then the others
found_step : (o : Ordering) (k l : List ℕ) (e : Data) (r : Rule) (rest : Option Data) (qs : Rules)
    (d : Data) → text_cmp k l ≡ o → property_of l e ≡ Ok r
    → ((c : Data) → rest ≡ Some c → Found k c qs) → match_ordering o rest (Some e) rest ≡ Some d
    → Found k d ((l, r) ∷ qs)
found_step Less k l e r rest qs d is read more h =
    let f = more d h in
    let other : bytes_eq k l ≡ false = sym (is_eq-slice_cmp k l) ∙ ap is_eq is in
    record { rule = f.rule; is_named = rw other f.is_named; was = f.was }
found_step Greater k l e r rest qs d is read more h =
    let f = more d h in
    let other : bytes_eq k l ≡ false = sym (is_eq-slice_cmp k l) ∙ ap is_eq is in
    record { rule = f.rule; is_named = rw other f.is_named; was = f.was }
found_step Equal k l e r rest qs d is read more h =
    let same : bytes_eq k l ≡ true = sym (is_eq-slice_cmp k l) ∙ ap is_eq is in
    let name : k ≡ l = text_ties k l is in
    let there : e ≡ d = cc in
    record { rule = r; is_named = rw same refl; was = rw (name, ← there) read }

-- the property of a member that is there
pub found : (k : List ℕ) (ms : Members) (ps : Rules) (d : Data) → properties_of ms ≡ Ok ps
    → get_member k ms ≡ Some d → Found k d ps
found k no_members ps d h g = cc
found k (member l e ms) ps d h g =
    let a = ok_then (property_of l e) _ ps h in
    let b = ok_then (properties_of ms) _ ps a.2 in
    subst (λ qs. Found k d qs) (same_ok ((l, a.0) ∷ b.0) ps b.2)
    (found_step (text_cmp k l) k l e a.0 (get_member k ms) b.0 d refl a.1
    (λ c i. found k ms b.0 c b.1 i) g)

-- what says that it is a text is of that kind
pub text_kind : (d : Data) (word : Option (List ℕ)) → text_at (codes "type") d ≡ word
    → is_word (codes "string") word ≡ true → kind_of d ≡ Some kind.Text
text_kind d None is h = cc
text_kind d (Some s) is h = rw (is, h) refl

-- the rule of such a property
text_rule : (n : Option ℕ) (r : Rule) → option_map Text n ≡ Some r → (most : ℕ) × (r ≡ Text most)
text_rule None r h = cc
text_rule (Some n) r h = (n, cc)

-- a text property has a text's rule
text_property : (k : List ℕ) (d : Data) (r : Rule) → says (codes "type") (codes "string") d ≡ true
    → property_of k d ≡ Ok r → (most : ℕ) × (r ≡ Text most)
text_property k d r says_text h =
    let a = ok_then (demand (is_field_name k) (fault.FieldName k)) _ r h in
    let b = ok_then (or_fault (fault.Kind k) (kind_of d)) _ r a.2 in
    let of_kind = some_of (fault.Kind k) (kind_of d) b.0 b.1 in
    let text = text_kind d (text_at (codes "type") d) refl says_text in
    let same : kind.Text ≡ b.0 = cc in
    let c = ok_then (known_property b.0 d) _ r b.2 in
    let rule = some_of (fault.Bounds k) (rule_of b.0 d) r c.2 in
    text_rule (length_of d) r (rw (← same) at rule)

-- ---- the primary key

-- what has members is an object of these
object_of : (d : Data) (ms : Members) → as_object d ≡ Some ms → d ≡ object ms
object_of (object ns) ms h = let same : ns ≡ ms = cc in ap object same
object_of _ ms h = cc

-- the members of `properties` are those of the object at that name
pub properties_at : (d : Data) (ms : Members) → known_schema d ≡ Ok ms
    → get (codes "properties") d ≡ Some (object ms)
properties_at d ms h =
    let a = ok_then (no_keyword (unexpected [] schema_words d)) _ ms h in
    let b = ok_then (demand (says (codes "type") (codes "object") d)
    (fault.Keyword (codes "type"))) _ ms a.2 in
    let c = ok_then (or_fault (fault.Keyword (codes "properties"))
    (get (codes "properties") d >>= as_object)) _ ms b.2 in
    let e = ok_then (demand (is_off (get (codes "keyCompression") d))
    (fault.Keyword (codes "keyCompression"))) _ ms c.2 in
    let f = ok_then (told (codes "title") d) _ ms e.2 in
    let g = ok_then (told (codes "description") d) _ ms f.2 in
    let same : c.0 ≡ ms = cc in
    let there = some_of (fault.Keyword (codes "properties"))
    (get (codes "properties") d >>= as_object) c.0 c.1 in
    let at = some_then (get (codes "properties") d) as_object c.0 there in
    at.1 ∙ ap Some (object_of at.0 ms (at.2 ∙ ap Some same))

-- a key is a text
key_text : (o : Option Data) → is_key o ≡ true
    → (p : Data) × (o ≡ Some p) × (says (codes "type") (codes "string") p ≡ true)
key_text None h = cc
key_text (Some p) h = (p, refl, first_so (says (codes "type") (codes "string") p) _ h)

-- the primary key is a text
pub key_rule : (d : Data) (s : Shape) → WasRead d s
    → (most : ℕ) × (named s.properties s.primary ≡ Some (Text most))
key_rule d s r =
    let there = some_of fault.Primary _ s.primary r.primary in
    let a = some_then (text_at (codes "primaryKey") d) _ s.primary there in
    let b = only_where (is_key (property_at a.0 d)) (Some a.0) s.primary a.2 in
    let same : a.0 ≡ s.primary = cc in
    let p = key_text (property_at a.0 d) b.0 in
    let at : get_member a.0 r.members ≡ Some p.0 =
    sym (ap (λ o. o >>= get a.0) (properties_at d r.members r.words)) ∙ p.1 in
    let f = found a.0 r.members s.properties p.0 r.properties at in
    let t = text_property a.0 p.0 f.rule p.2 f.was in
    (t.0, subst (λ k. named s.properties k ≡ Some (Text t.0)) same (f.is_named ∙ ap Some t.1))

-- ---- required names

-- one property, and then the others
kept_step : (P : List ℕ → Bool) (k : List ℕ) (p : List ℕ × Rule) (ps : Rules) (r : Rule)
    (same pass : Bool)
    → bytes_eq k p.0 ≡ same → P p.0 ≡ pass → P k ≡ true → cond same (Some p.1) (named ps k) ≡ Some r
    → (named ps k ≡ Some r → is_among (filter P (keys_of ps)) k ≡ true)
    → is_among (cond pass (p.0 ∷ filter P (keys_of ps)) (filter P (keys_of ps))) k ≡ true
kept_step P k p ps r true true is passes h g rest =
    let name : p.0 ≡ k = sym ((bytes_eq-Decides k p.0).0 is) in
    rw ((bytes_eq-Decides p.0 k).1 name) refl
kept_step P k p ps r true false is passes h g rest =
    let name = (bytes_eq-Decides k p.0).0 is in
    absurd (true≢false (sym h ∙ ap P name ∙ passes))
kept_step P k p ps r false true is passes h g rest = rw (rest g) (or-true (bytes_eq p.0 k))
kept_step P k p ps r false false is passes h g rest = rest g

-- a name that is there and passes is kept
kept : (P : List ℕ → Bool) (k : List ℕ) (ps : Rules) (r : Rule) → P k ≡ true → named ps k ≡ Some r
    → is_among (filter P (keys_of ps)) k ≡ true
kept P k [] r h g = cc
kept P k (p ∷ ps) r h g = kept_step P k p ps r (bytes_eq k p.0) (P p.0) refl refl h g
    (kept P k ps r h)

-- the primary key is required
pub key_required : (s : Shape) (listed : List (List ℕ)) (r : Rule)
    → named s.properties s.primary ≡ Some r
    → is_among (required_names s.primary listed s.properties) s.primary ≡ true
key_required s listed r h =
    kept (λ n. bytes_eq n s.primary || is_among listed n) s.primary s.properties r
    (rw ((bytes_eq-Decides s.primary s.primary).1 refl) refl) h
