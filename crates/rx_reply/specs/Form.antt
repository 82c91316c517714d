-- What is printed of a refusal.
use Rattle.std.specs.Prelude.{ℕ, List, codes, Option, Some, None, option_map}
use Rattle.std.specs.Borrow.{Bor}
use Rattle.serde_json.specs.Data.{Data, string, object, no_members, member}
use Rattle.rx_value.specs.declared.fault.ValueFault.{ValueFault}
use Rattle.rx_value.specs.declared.fault.ValueFault.TheVariants as value
use Rattle.rx_schema.specs.declared.fault.SchemaFault.{SchemaFault}
use Rattle.rx_schema.specs.declared.fault.SchemaFault.TheVariants as schema
use Rattle.rx_selector.specs.declared.fault.SelectorFault.{SelectorFault}
use Rattle.rx_selector.specs.declared.fault.SelectorFault.TheVariants as selector
use Rattle.rx_query.specs.declared.fault.QueryFault.{QueryFault}
use Rattle.rx_query.specs.declared.fault.QueryFault.TheVariants as query
use Rattle.rx_script.specs.declared.fault.LineFault.{LineFault}
use Rattle.rx_script.specs.declared.fault.LineFault.TheVariants as line
use Rattle.rx_update.specs.declared.fault.UpdateFault.{UpdateFault}
use Rattle.rx_update.specs.declared.fault.UpdateFault.TheVariants as update
use Rattle.rx_reply.specs.Writing.{number_data, optional_member}
use Rattle.rx_reply.specs.declared.form.Form.{Form as LentForm}
use Rattle.rx_reply.specs.declared.refusal.Cause.{Cause}
use Rattle.rx_reply.specs.declared.refusal.Cause.TheVariants as cause
use Rattle.rx_reply.specs.declared.refusal.DocumentFault.{DocumentFault}
use Rattle.rx_reply.specs.declared.refusal.DocumentFault.TheVariants.{Fields, Invalid, Key, Conflict}
use Rattle.rx_reply.specs.declared.refusal.MigrationCause.{MigrationCause}
use Rattle.rx_reply.specs.declared.refusal.MigrationCause.TheVariants as migration
use Rattle.rx_reply.specs.declared.refusal.Refusal.{Refusal}
use Rattle.rx_reply.specs.declared.refusal.Refusal.TheVariants.{Line, Exists, NoCollection, Schema, SchemaDiffers, Document, NoDocument, Query, NoQuery, NoReplication, NoHandler, Chain, Clock, TooMany, Twice, Migration, Observed, Remote, NoStream, Update, Vetoed, NoHook}

-- its code and its word, and what else there is to say
pub record Form : Type 0 where
  pub code : ℕ
  pub word : List ℕ
  pub cause : Option (List ℕ)
  pub name : Option (List ℕ)
  pub rev : Option (List ℕ)
  pub row : Option ℕ

-- the same, where the texts are lent
abbrev pub form_seen : LentForm → Form
form_seen f = record {
  code = f.code;
  word = f.word.now;
  cause = option_map (λ t. t.now) f.cause;
  name = option_map (λ t. t.now) f.name;
  rev = option_map (λ t. t.now) f.rev;
  row = f.row;
}

-- ---- forms

-- a code and a word
abbrev pub plain_form : ℕ → List ℕ → Form
plain_form code word = record {
  code = code;
  word = word;
  cause = None;
  name = None;
  rev = None;
  row = None;
}

-- with the name in question
abbrev pub named_form : ℕ → List ℕ → List ℕ → Form
named_form code word name = record (plain_form code word) { name = Some name }

-- a cause, and the name in question where there is one
abbrev pub Reason : Type 0
Reason = List ℕ × Option (List ℕ)

-- the same, where the texts are lent
abbrev pub reason_seen : Bor (List ℕ) × Option (Bor (List ℕ)) → Reason
reason_seen r = (r.0.now, option_map (λ t. t.now) r.1)

-- with a reason
abbrev pub caused_form : ℕ → List ℕ → Reason → Form
caused_form code word reason =
    record (plain_form code word) { cause = Some reason.0; name = reason.1 }

-- ---- the form of each refusal; want of memory is none, so its form is never printed

abbrev pub line_form : LineFault → Form
line_form line.TooLong = plain_form 1 (codes "too_long")
line_form line.NotJson = plain_form 2 (codes "not_json")
line_form line.NotObject = plain_form 3 (codes "not_object")
line_form (line.UnknownDo name) = named_form 4 (codes "unknown_do") name
line_form (line.Missing name) = named_form 5 (codes "missing") name
line_form (line.Unexpected name) = named_form 6 (codes "unexpected") name
line_form (line.WrongType name) = named_form 7 (codes "wrong_type") name
line_form (line.Name name) = named_form 8 (codes "name") name
line_form (line.Batch name) = named_form 20 (codes "batch") name
line_form line.Memory = plain_form 0 (codes "memory")

abbrev pub schema_reason : SchemaFault → Reason
schema_reason schema.NotObject = (codes "not_object", None)
schema_reason (schema.Keyword name) = (codes "keyword", Some name)
schema_reason schema.Version = (codes "version", None)
schema_reason schema.Primary = (codes "primary", None)
schema_reason (schema.FieldName name) = (codes "field_name", Some name)
schema_reason (schema.Kind name) = (codes "kind", Some name)
schema_reason (schema.Bounds name) = (codes "bounds", Some name)
schema_reason (schema.Required name) = (codes "required", Some name)
schema_reason (schema.Index name) = (codes "index", Some name)
schema_reason schema.TooMany = (codes "too_many", None)
schema_reason schema.Memory = (codes "memory", None)

abbrev pub selector_reason : SelectorFault → Reason
selector_reason (selector.Operator name) = (codes "operator", Some name)
selector_reason (selector.Operand name) = (codes "operand", Some name)
selector_reason (selector.Field name) = (codes "field", Some name)
selector_reason selector.Depth = (codes "depth", None)
selector_reason selector.NotObject = (codes "not_object", None)
selector_reason selector.Memory = (codes "memory", None)

-- a selector's fault keeps its own reason
abbrev pub query_reason : QueryFault → Reason
query_reason query.NotObject = (codes "not_object", None)
query_reason (query.Member name) = (codes "member", Some name)
query_reason (query.Selector fault) = selector_reason fault
query_reason (query.Sort name) = (codes "sort", Some name)
query_reason query.Skip = (codes "skip", None)
query_reason query.Limit = (codes "limit", None)
query_reason query.Memory = (codes "memory", None)

-- of fields that can't be read
abbrev pub fields_reason : ValueFault → Reason
fields_reason value.NotObject = (codes "kind", None)
fields_reason (value.Kind name) = (codes "kind", Some name)
fields_reason (value.Range name) = (codes "range", Some name)
fields_reason value.Memory = (codes "memory", None)

abbrev pub update_reason : UpdateFault → Reason
update_reason (update.Operator name) = (codes "operator", Some name)
update_reason (update.Operand name) = (codes "operand", Some name)
update_reason (update.Twice name) = (codes "twice", Some name)
update_reason (update.Key name) = (codes "key", Some name)
update_reason (update.Kind name) = (codes "kind", Some name)
update_reason (update.Range name) = (codes "range", Some name)
update_reason update.Memory = (codes "memory", None)

-- of a field that isn't valid
abbrev pub cause_word : Cause → List ℕ
cause_word cause.Missing = codes "missing"
cause_word cause.Unknown = codes "unknown"
cause_word cause.Kind = codes "kind"
cause_word cause.Bounds = codes "bounds"
cause_word cause.Length = codes "length"

-- of a collection that can't go to a schema
abbrev pub migration_word : MigrationCause → List ℕ
migration_word migration.Version = codes "version"
migration_word migration.Primary = codes "primary"
migration_word migration.Invalid = codes "invalid"

-- of a single document
abbrev pub document_form : DocumentFault → Form
document_form (Fields fault) = caused_form 13 (codes "invalid") (fields_reason fault)
document_form (Invalid cause name) =
    caused_form 13 (codes "invalid") (cause_word cause, Some name)
document_form Key = plain_form 24 (codes "key")
document_form (Conflict rev) = record (plain_form 14 (codes "conflict")) { rev = Some rev }

abbrev pub form_of : Refusal → Form
form_of (Line fault) = line_form fault
form_of Exists = plain_form 9 (codes "exists")
form_of (NoCollection name) = named_form 10 (codes "no_collection") name
form_of (Schema fault) = caused_form 11 (codes "schema") (schema_reason fault)
form_of SchemaDiffers = plain_form 12 (codes "schema_differs")
form_of (Document fault row) = record (document_form fault) { row = row }
form_of NoDocument = plain_form 15 (codes "no_document")
form_of (Query fault) = caused_form 16 (codes "query") (query_reason fault)
form_of NoQuery = plain_form 17 (codes "no_query")
form_of NoReplication = plain_form 18 (codes "no_replication")
form_of NoHandler = plain_form 19 (codes "no_handler")
form_of Chain = plain_form 21 (codes "chain")
form_of Clock = plain_form 22 (codes "clock")
form_of TooMany = plain_form 23 (codes "too_many")
form_of (Twice row) = record (plain_form 25 (codes "twice")) { row = Some row }
form_of (Migration cause name) =
    caused_form 28 (codes "migration") (migration_word cause, Some name)
form_of (Observed name) = named_form 29 (codes "observed") name
form_of Remote = plain_form 30 (codes "remote")
form_of NoStream = plain_form 31 (codes "no_stream")
form_of (Update fault) = caused_form 32 (codes "update") (update_reason fault)
form_of (Vetoed hook row) = record (named_form 33 (codes "vetoed") hook) { row = row }
form_of NoHook = plain_form 34 (codes "no_hook")

-- ---- the object of a form

-- what answers the line of that number
abbrev pub form_data : ℕ → Form → Data
form_data line form = object
    (optional_member (codes "cause") (option_map string form.cause)
    (member (codes "code") (number_data form.code)
    (member (codes "line") (number_data line)
    (optional_member (codes "name") (option_map string form.name)
    (member (codes "refused") (string form.word)
    (optional_member (codes "rev") (option_map string form.rev)
    (optional_member (codes "row") (option_map number_data form.row) no_members)))))))
