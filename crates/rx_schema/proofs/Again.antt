-- What is written of a schema reads as the schema.
use Rattle.std.proofs.Common.{◌≡◌, ℕ, true, List, Result, Ok, refl, sym, ap, ◌∙◌, subst}
use Rattle.std.specs.Prelude.{⊤}
use Rattle.serde_json.specs.Data.{Data, Members}
use Rattle.rx_value.specs.Due.{◌>>◌}
use Rattle.rx_value.specs.Form.{is_among}
use Rattle.rx_value.specs.Named.{AreRising}
use Rattle.rx_schema.specs.Lawful.{IsSchema}
use Rattle.rx_schema.specs.Names.{indexes_of, required_of}
use Rattle.rx_schema.specs.Reading.{an_object, few_enough, known_schema, version_of, properties_of, primary_of, required_names, schema_of}
use Rattle.rx_schema.specs.Writing.{properties_members, schema_data}
use Rattle.rx_schema.specs.declared.fault.SchemaFault.{SchemaFault}
use Rattle.rx_schema.specs.declared.rule.Rule.TheVariants.{Text}
use Rattle.rx_schema.specs.declared.shape.Shape.{Shape}
use Rattle.rx_schema.proofs.Properties.{Rules}
use Rattle.rx_schema.proofs.Schemas.{field_names, key_required, was_read, key_rule}
use Rattle.rx_schema.proofs.PropertyAgain.{version_again, properties_again}
use Rattle.rx_schema.proofs.NamesAgain.{primary_again, required_same, required_again, indexes_again}

-- a schema of readings one after another
abbrev chain : Result ⊤ SchemaFault → Result Members SchemaFault → Result ℕ SchemaFault
    → (Members → Result Rules SchemaFault) → Result (List ℕ) SchemaFault
    → Result (List (List ℕ)) SchemaFault → Result (List (List (List ℕ))) SchemaFault
    → (Rules → List (List (List ℕ)) → Result ⊤ SchemaFault) → Result Shape SchemaFault
chain o w v p k l i f =
    o >> λ _. w >> λ ms. v >> λ version. p ms >> λ properties. k >> λ primary. l >> λ listed.
    i >> λ indexes. f properties indexes >> λ _.
    Ok (record {
      version = version;
      primary = primary;
      properties = properties;
      required = required_names primary listed properties;
      indexes = indexes;
    })

-- the schema with other required names
abbrev requiring : Shape → List (List ℕ) → Shape
requiring s names = record {
  version = s.version;
  primary = s.primary;
  properties = s.properties;
  required = names;
  indexes = s.indexes;
}

-- where all readings give the parts of a schema, they give it
chain_ok : (o : Result ⊤ SchemaFault) (w : Result Members SchemaFault) (v : Result ℕ SchemaFault)
    (p : Members → Result Rules SchemaFault) (k : Result (List ℕ) SchemaFault)
    (l : Result (List (List ℕ)) SchemaFault) (i : Result (List (List (List ℕ))) SchemaFault)
    (f : Rules → List (List (List ℕ)) → Result ⊤ SchemaFault) (ms : Members)
    (listed : List (List ℕ)) (s : Shape)
    → o ≡ Ok tt → w ≡ Ok ms → v ≡ Ok s.version → p ms ≡ Ok s.properties → k ≡ Ok s.primary
    → l ≡ Ok listed → i ≡ Ok s.indexes → f s.properties s.indexes ≡ Ok tt
    → chain o w v p k l i f ≡ Ok (requiring s (required_names s.primary listed s.properties))
chain_ok o w v p k l i f ms listed s a b c d e g h j = rw (a, b, c, d, e, g, h, j) refl

-- the words of what is written are known
words_again : (s : Shape) → known_schema (schema_data s) ≡ Ok (properties_members s.properties)
words_again s = refl

-- what is written of a schema reads as the schema
pub again : (d : Data) (s : Shape) → schema_of d ≡ Ok s → schema_of (schema_data s) ≡ Ok s
again d s h =
    let r = was_read d s h in
    let c = schema_data s in
    let same : required_names s.primary s.required s.properties ≡ s.required =
    subst (λ ns. required_names s.primary ns s.properties ≡ ns) (sym r.required)
    (required_same s.primary r.listed s.properties) in
    chain_ok (an_object c) (known_schema c) (version_of c) properties_of (primary_of c)
    (required_of c)
    (indexes_of c) few_enough (properties_members s.properties) s.required s refl (words_again s)
    (version_again d s r.version) (properties_again r.members s.properties r.properties)
    (primary_again d s r) (required_again d s r) (indexes_again d s r) r.few
    ∙ ap (λ ns. Ok (requiring s ns)) same

-- a schema that was read is one
pub lawful : (d : Data) (s : Shape) → AreRising s.properties → schema_of d ≡ Ok s → IsSchema s
lawful d s rising h =
    let r = was_read d s h in
    let key = key_rule d s r in
    record {
      rising = rising;
      names = field_names r.members s.properties r.properties;
      primary = key;
      required = subst (λ names. is_among names s.primary ≡ true) (sym r.required)
          (key_required s r.listed (Text key.0) key.1);
      reads_back = again d s h;
    }
