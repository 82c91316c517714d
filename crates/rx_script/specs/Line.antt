-- Reading a line: what it asks, or the first fault.
use Rattle.std.specs.Prelude.{ℕ, List, [], ◌∷◌, length, codes, nat_le, if◌then◌else◌, Option, None, Result, Ok}
use Rattle.std.specs.Str.{is_utf8}
use Rattle.serde_json.specs.Data.{Data}
use Rattle.serde_json.specs.Read.{read}
use Rattle.rx_value.specs.Due.{◌>>◌, demand, or_fault}
use Rattle.rx_value.specs.Named.{named}
use Rattle.rx_script.specs.Asked.{Asked, max_batch, max_budget, usual_budget, Collection, Insert, Bulk, Upsert, Patch, Update, Remove, Hook, Migrate, Get, Find, Count, Observe, Unobserve, Explain, Replicate, Turn, Sweep, Stream, Deliver, Unstream, Changes, Tick, Restart, Digest}
use Rattle.rx_script.specs.Delivery.{maybe_deliveries}
use Rattle.rx_script.specs.Link.{maybe_link}
use Rattle.rx_script.specs.Member.{has_needed, has_form, is_object, json_at, items_of, a_text, maybe_text, an_object, objects, a_moment, maybe_whole, a_name, a_count, a_when, some_steps}
use Rattle.rx_script.specs.Since.{maybe_since}
use Rattle.rx_script.specs.Target.{target_member, a_target, a_target_name}
use Rattle.rx_script.specs.declared.fault.LineFault.{LineFault}
use Rattle.rx_script.specs.declared.fault.LineFault.TheVariants as fault
use Rattle.rx_script.specs.declared.form.Form.{Form}
use Rattle.rx_script.specs.declared.form.Form.TheVariants as form
use Rattle.rx_script.specs.declared.forms.Changed.{Changed}

-- the most bytes that a line may have
abbrev pub max_line_bytes : ℕ
max_line_bytes = 1048576

-- ---- the forms: which members, of which kinds, which of them names, which within limits

abbrev pub collection_of : Data → Result Asked LineFault
collection_of d =
    has_form (codes "do" ∷ codes "name" ∷ codes "schema" ∷ []) [] d >> λ _.
    a_text (codes "name") d >> λ name.
    a_name (codes "name") name >> λ _.
    Ok (Collection name (json_at (codes "schema") d))

-- a collection and a document
abbrev pub document_of : Data → Result (List ℕ × Data) LineFault
document_of d =
    has_form (codes "do" ∷ codes "in" ∷ codes "doc" ∷ []) [] d >> λ _.
    a_text (codes "in") d >> λ coll. an_object (codes "doc") d >> λ _.
    a_name (codes "in") coll >> λ _.
    Ok (coll, json_at (codes "doc") d)

abbrev pub bulk_of : Data → Result Asked LineFault
bulk_of d =
    has_form (codes "do" ∷ codes "in" ∷ codes "docs" ∷ []) [] d >> λ _.
    a_text (codes "in") d >> λ coll. objects (codes "docs") d >> λ _.
    a_name (codes "in") coll >> λ _.
    Ok (Bulk coll (items_of (json_at (codes "docs") d)))

-- the document that is changed, as an object of that member says
abbrev pub changed_of : List ℕ → Data → Result Changed LineFault
changed_of member d =
    has_form (codes "do" ∷ codes "in" ∷ codes "key" ∷ member ∷ []) (codes "rev" ∷ []) d >> λ _.
    a_text (codes "in") d >> λ coll. a_text (codes "key") d >> λ key.
    an_object member d >> λ _. maybe_text (codes "rev") d >> λ rev.
    a_name (codes "in") coll >> λ _.
    Ok (record { coll = coll; key = key; rev = rev })

abbrev pub patch_of : Data → Result Asked LineFault
patch_of d =
    changed_of (codes "set") d >> λ at. Ok (Patch at.coll at.key (json_at (codes "set") d) at.rev)

abbrev pub update_of : Data → Result Asked LineFault
update_of d =
    changed_of (codes "update") d >> λ at.
    Ok (Update at.coll at.key (json_at (codes "update") d) at.rev)

abbrev pub remove_of : Data → Result Asked LineFault
remove_of d =
    has_form (codes "do" ∷ codes "in" ∷ codes "key" ∷ []) (codes "rev" ∷ []) d >> λ _.
    a_text (codes "in") d >> λ coll. a_text (codes "key") d >> λ key.
    maybe_text (codes "rev") d >> λ rev.
    a_name (codes "in") coll >> λ _.
    Ok (Remove coll key rev)

abbrev pub hook_of : Data → Result Asked LineFault
hook_of d =
    has_form
    (codes "do" ∷ codes "in" ∷ codes "when" ∷ codes "hook" ∷ codes "field" ∷ []) [] d >> λ _.
    a_text (codes "in") d >> λ coll. a_when (codes "when") d >> λ when.
    a_text (codes "hook") d >> λ hook. a_text (codes "field") d >> λ field.
    a_name (codes "in") coll >> λ _.
    Ok (Hook coll when hook field)

abbrev pub migrate_of : Data → Result Asked LineFault
migrate_of d =
    has_form (codes "do" ∷ codes "in" ∷ codes "schema" ∷ codes "steps" ∷ []) [] d >> λ _.
    a_text (codes "in") d >> λ coll. some_steps (codes "steps") d >> λ steps.
    a_name (codes "in") coll >> λ _.
    Ok (Migrate coll (json_at (codes "schema") d) steps)

abbrev pub get_of : Data → Result Asked LineFault
get_of d =
    has_form (codes "do" ∷ codes "in" ∷ codes "key" ∷ []) [] d >> λ _.
    a_text (codes "in") d >> λ coll. a_text (codes "key") d >> λ key.
    a_name (codes "in") coll >> λ _.
    Ok (Get coll key)

-- a collection and a query
abbrev pub query_of : Data → Result (List ℕ × Data) LineFault
query_of d =
    has_form (codes "do" ∷ codes "in" ∷ codes "query" ∷ []) [] d >> λ _.
    a_text (codes "in") d >> λ coll.
    a_name (codes "in") coll >> λ _.
    Ok (coll, json_at (codes "query") d)

abbrev pub observe_of : Data → Result Asked LineFault
observe_of d =
    has_form (codes "do" ∷ codes "name" ∷ codes "in" ∷ codes "query" ∷ []) [] d >> λ _.
    a_text (codes "name") d >> λ name. a_text (codes "in") d >> λ coll.
    a_name (codes "name") name >> λ _. a_name (codes "in") coll >> λ _.
    Ok (Observe name coll (json_at (codes "query") d))

-- a name alone
abbrev pub name_of : Data → Result (List ℕ) LineFault
name_of d =
    has_form (codes "do" ∷ codes "name" ∷ []) [] d >> λ _.
    a_text (codes "name") d >> λ name.
    a_name (codes "name") name >> λ _.
    Ok name

abbrev pub replicate_of : Data → Result Asked LineFault
replicate_of d =
    has_form
    (codes "do" ∷ codes "name" ∷ codes "fork" ∷ target_member d ∷ codes "handler" ∷ [])
    (codes "field" ∷ []) d >> λ _.
    a_text (codes "name") d >> λ name. a_text (codes "fork") d >> λ fork. a_target d >> λ master.
    a_text (codes "handler") d >> λ handler. maybe_text (codes "field") d >> λ field.
    a_name (codes "name") name >> λ _. a_name (codes "fork") fork >> λ _.
    a_target_name master >> λ _.
    Ok (Replicate name fork master handler field)

abbrev pub turn_of : Data → Result Asked LineFault
turn_of d =
    has_form (codes "do" ∷ codes "name" ∷ []) (codes "batch" ∷ codes "budget" ∷ codes "link" ∷ []) d
    >> λ _.
    a_text (codes "name") d >> λ name. maybe_whole (codes "batch") d >> λ _.
    maybe_whole (codes "budget") d >> λ _. maybe_link (codes "link") d >> λ link.
    a_name (codes "name") name >> λ _.
    a_count (codes "batch") max_batch max_batch d >> λ batch.
    a_count (codes "budget") max_budget usual_budget d >> λ budget.
    Ok (Turn name batch budget link)

abbrev pub sweep_of : Data → Result Asked LineFault
sweep_of d =
    has_form (codes "do" ∷ codes "name" ∷ []) (codes "batch" ∷ codes "budget" ∷ []) d >> λ _.
    a_text (codes "name") d >> λ name. maybe_whole (codes "batch") d >> λ _.
    maybe_whole (codes "budget") d >> λ _. a_name (codes "name") name >> λ _.
    a_count (codes "batch") max_batch max_batch d >> λ batch.
    a_count (codes "budget") max_budget usual_budget d >> λ budget.
    Ok (Sweep name batch budget)

abbrev pub deliver_of : Data → Result Asked LineFault
deliver_of d =
    has_form (codes "do" ∷ codes "name" ∷ []) (codes "link" ∷ []) d >> λ _.
    a_text (codes "name") d >> λ name. maybe_deliveries (codes "link") d >> λ link.
    a_name (codes "name") name >> λ _.
    Ok (Deliver name link)

abbrev pub changes_of : Data → Result Asked LineFault
changes_of d =
    has_form (codes "do" ∷ codes "in" ∷ []) (codes "since" ∷ codes "batch" ∷ []) d >> λ _.
    a_text (codes "in") d >> λ coll. maybe_since (codes "since") d >> λ since.
    maybe_whole (codes "batch") d >> λ _.
    a_name (codes "in") coll >> λ _.
    a_count (codes "batch") max_batch max_batch d >> λ batch.
    Ok (Changes coll since batch)

abbrev pub tick_of : Data → Result Asked LineFault
tick_of d =
    has_form (codes "do" ∷ codes "at" ∷ []) [] d >> λ _.
    a_moment (codes "at") d >> λ at.
    Ok (Tick at)

abbrev pub restart_of : Data → Result Asked LineFault
restart_of d = has_form (codes "do" ∷ []) [] d >> λ _. Ok Restart

abbrev pub digest_of : Data → Result Asked LineFault
digest_of d =
    has_form (codes "do" ∷ codes "in" ∷ []) [] d >> λ _.
    a_text (codes "in") d >> λ coll.
    a_name (codes "in") coll >> λ _.
    Ok (Digest coll)

-- the forms by what `do` says
abbrev pub forms : List (List ℕ × Form)
forms =
    (codes "collection", form.Collection) ∷ (codes "insert", form.Insert)
    ∷ (codes "bulk", form.Bulk) ∷ (codes "upsert", form.Upsert) ∷ (codes "patch", form.Patch)
    ∷ (codes "update", form.Update) ∷ (codes "remove", form.Remove) ∷ (codes "hook", form.Hook)
    ∷ (codes "migrate", form.Migrate)
    ∷ (codes "get", form.Get) ∷ (codes "find", form.Find) ∷ (codes "count", form.Count)
    ∷ (codes "observe", form.Observe)
    ∷ (codes "unobserve", form.Unobserve) ∷ (codes "explain", form.Explain)
    ∷ (codes "replicate", form.Replicate) ∷ (codes "turn", form.Turn)
    ∷ (codes "sweep", form.Sweep)
    ∷ (codes "stream", form.Stream) ∷ (codes "deliver", form.Deliver)
    ∷ (codes "unstream", form.Unstream)
    ∷ (codes "changes", form.Changes) ∷ (codes "tick", form.Tick)
    ∷ (codes "restart", form.Restart) ∷ (codes "digest", form.Digest) ∷ []

-- what an object of a form asks
abbrev pub asked_as : Form → Data → Result Asked LineFault
asked_as form.Collection d = collection_of d
asked_as form.Insert d = document_of d >> λ m. Ok (Insert m.0 m.1)
asked_as form.Bulk d = bulk_of d
asked_as form.Upsert d = document_of d >> λ m. Ok (Upsert m.0 m.1)
asked_as form.Patch d = patch_of d
asked_as form.Update d = update_of d
asked_as form.Remove d = remove_of d
asked_as form.Hook d = hook_of d
asked_as form.Migrate d = migrate_of d
asked_as form.Get d = get_of d
asked_as form.Find d = query_of d >> λ m. Ok (Find m.0 m.1)
asked_as form.Count d = query_of d >> λ m. Ok (Count m.0 m.1)
asked_as form.Observe d = observe_of d
asked_as form.Unobserve d = name_of d >> λ name. Ok (Unobserve name)
asked_as form.Explain d = name_of d >> λ name. Ok (Explain name)
asked_as form.Replicate d = replicate_of d
asked_as form.Turn d = turn_of d
asked_as form.Sweep d = sweep_of d
asked_as form.Stream d = name_of d >> λ name. Ok (Stream name)
asked_as form.Deliver d = deliver_of d
asked_as form.Unstream d = name_of d >> λ name. Ok (Unstream name)
asked_as form.Changes d = changes_of d
asked_as form.Tick d = tick_of d
asked_as form.Restart d = restart_of d
asked_as form.Digest d = digest_of d

-- ---- lines

-- what an object asks: its `do` names a form
abbrev pub form_of : Data → Result Asked LineFault
form_of d =
    has_needed (codes "do" ∷ []) d >> λ _.
    a_text (codes "do") d >> λ word.
    or_fault (fault.UnknownDo word) (named forms word) >> λ form. asked_as form d

-- the JSON of a text, which is UTF-8
abbrev pub json_of : List ℕ → Option Data
json_of bytes = if is_utf8 bytes then read bytes else None

-- the object that a line is
abbrev pub object_of : List ℕ → Result Data LineFault
object_of bytes =
    demand (nat_le (length bytes) max_line_bytes) fault.TooLong >> λ _.
    or_fault fault.NotJson (json_of bytes) >> λ d.
    demand (is_object d) fault.NotObject >> λ _.
    Ok d

-- what a line asks, or the first fault
abbrev pub line_of : List ℕ → Result Asked LineFault
line_of bytes = object_of bytes >> form_of
