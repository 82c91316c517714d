-- Each end of a replication reads what the other wrote.
use Rattle.std.proofs.Common.{◌≡◌, ◌∙◌, ℕ, ◌≤◌, ◌-◌, nat_lt, length, slice_get, Bool, true, false, true≢false, cond, ◌&&◌, List, [], ◌∷◌, Option, Some, None, IfSome, option_map, option_and_then, Result, Ok, Err, refl, sym, ap, subst, inl, inr}
use Rattle.std.proofs.lemmas.Bool.{and_parts}
use Rattle.std.proofs.lemmas.Slice.Eq.{bytes_eq-Decides}
use Rattle.std.specs.List.{AllByRecursion}
use Rattle.std.specs.Str.{bytes_eq}
use Rattle.serde_json.specs.Read.{read}
use Rattle.rx_value.specs.Due.{◌>>=◌}
use Rattle.rx_value.specs.Named.{named}
use Rattle.rx_value.specs.declared.state.State.{State}
use Rattle.rx_value.proofs.Lists.{all_get}
use Rattle.rx_value.proofs.Outcomes.{not_none, some_same}
use Rattle.rx_schema.specs.Reading.{schema_of}
use Rattle.rx_schema.specs.Writing.{canonical_text}
use Rattle.rx_schema.specs.declared.fault.SchemaFault.{SchemaFault}
use Rattle.rx_schema.specs.declared.shape.Shape.{Shape}
use Rattle.rx_document.specs.Documents.{Documents}
use Rattle.rx_document.specs.declared.place.Place.{Place}
use Rattle.rx_document.specs.declared.stored.Stored.{Stored}
use Rattle.rx_document.proofs.Places.{place_eq-Decides}
use Rattle.rx_collection.specs.Held.{Held}
use Rattle.rx_collection.specs.Lawful.{IsLawful}
use Rattle.rx_collection.specs.Since.{is_above, place_of, since}
use Rattle.rx_collection.proofs.Named.{at_name}
use Rattle.rx_wire.specs.Lawful.{IsSaid, IsState}
use Rattle.rx_wire.specs.Spelling.{reply_of}
use Rattle.rx_wire.specs.Writing.{reply_text}
use Rattle.rx_wire.specs.declared.message.AskKind.{AskKind}
use Rattle.rx_wire.specs.declared.message.AskKind.TheVariants.{Push, Pull}
use Rattle.rx_wire.specs.declared.message.Body.{Body}
use Rattle.rx_wire.specs.declared.message.Body.TheVariants.{Conflicts, Docs}
use Rattle.rx_wire.specs.declared.message.PushRow.{PushRow}
use Rattle.rx_wire.specs.declared.message.Reply.{Reply}
use Rattle.rx_wire.specs.declared.message.Request.{Request}
use Rattle.rx_replication.specs.Known.{KnownStates}
use Rattle.rx_replication.specs.Master.{body_of, conflicts, last_place, reply_with}
use Rattle.rx_replication.specs.Member.{Member}
use Rattle.rx_replication.specs.Request.{push_row, push_or_pull, ask_of}
use Rattle.rx_replication.specs.Write.{AreByKey}
use Rattle.rx_replication.proofs.Commits.{lawful-by_key}
use Rattle.rx_replication.proofs.Handled.{conflict_held, from_conflicts, states_of}
use Rattle.rx_replication.proofs.Lists.{all_each, from_map}
use Rattle.rx_replication.proofs.Pages.{last_place_is, page_held, since-page, stands_above}
use Rattle.rx_replication.proofs.Taken.{pushed, pushed_held, rows_of}
use Rattle.rx_fork.specs.BadReply.{is_fit, place_fits}
use Rattle.rx_fork.specs.declared.ask.Asked.{Asked}
use Rattle.rx_record.specs.Content.{Content}
use Rattle.rx_world.specs.Made.{IsMadeWorld}
use Rattle.rx_world.specs.Schema.{if_canonical, schema_in}
use Rattle.rx_world.specs.Valid.{AreValid, IsSpelled}
use Rattle.rx_world.specs.World.{World}
use Rattle.rx_world.proofs.States.{state_carries, state_valid}
use Rattle.rx_world.proofs.Steps.{lawful_at}
use Rattle.rx_world.proofs.Valid.{valid_at}
use Rattle.rx_sync.specs.Handling.{Handled, commits_of, handled_by}
use Rattle.rx_sync.proofs.Lawful.{asks_lawfully, replies_lawfully}
use Rattle.rx_sync.proofs.Messages.{asked_at, documents_pass}
use Rattle.rx_steps.specs.Texts.{longest_key, IsWellFormed, RowIsWellFormed, PlaceIsText, AskIsWellFormed, BodyIsWellFormed, HasShortKey, asked_place, given_place}
use Rattle.rx_steps.specs.Understood.{DocumentsAreWellFormed, KnownAreWellFormed, AsksAreUnderstood, AnswersAreUnderstood, TakenKeysAreShort}
use Rattle.rx_steps.proofs.TextsOfStates.{keys_short, keys_text}
use Rattle.rx_steps.proofs.TextsRead.{requests_again, replies_again}

-- ---- schemas

abbrev ok : Shape → Result Shape SchemaFault
ok s = Ok s

-- the schema of canonical text is one that was read
canonical_read : (text : List ℕ) (s : Shape) (r : Result Shape SchemaFault)
    → if_canonical text r ≡ Some s → r ≡ Ok s
canonical_read text s (Ok t) is =
    elim (bytes_eq (canonical_text t) text) as (λ b. cond b (Some t) None ≡ Some s → ok t ≡ ok s)
    [ true ↦ (λ same. ap Ok (some_same same)) | false ↦ (λ none. not_none none) ] is
canonical_read text s (Err e) is = not_none is

-- so JSON says it
said_in : (text : List ℕ) (s : Shape) → schema_in text ≡ Some s → IsSaid s
said_in text s is =
    elim (read text) as (λ o. option_and_then (λ d. if_canonical text (schema_of d)) o ≡ Some s
    → IsSaid s) [
      | None ↦ (λ none. not_none none)
      | Some d ↦ (λ some. (d, canonical_read text s (schema_of d) some))
    ] is

-- ---- an answer

module _ (m : Documents) (by_key : AreByKey m) (formed : DocumentsAreWellFormed m) where
  conflicts_formed : (rows : List PushRow) → AllByRecursion IsWellFormed (conflicts m rows)
  conflicts_formed rows =
      all_each IsWellFormed (conflicts m rows) (λ s h.
      let x = from_conflicts m rows s h in
      let y = conflict_held (named m x.0.new.key) x.0 s x.2 in
      subst IsWellFormed y.2 (formed x.0.new.key y.0 y.1))

  -- a document of a page is held
  since_held : (p : Option Place) (n : ℕ) (d : Stored) → Member d (since m p n)
      → named m d.state.key ≡ Some d
  since_held p n d h =
      (page_held m by_key (stands_above p) n d (subst (Member d) (since-page m by_key p n) h)).0

  since_formed : (p : Option Place) (n : ℕ)
      → AllByRecursion IsWellFormed (states_of (since m p n))
  since_formed p n =
      all_each IsWellFormed (states_of (since m p n)) (λ s h.
      let x = from_map (λ (d : Stored). d.state) (since m p n) s h in
      subst IsWellFormed (sym x.2) (formed x.0.state.key x.0 (since_held p n x.0 x.1)))

  -- what holds of the asked place and of the places of documents holds of the last place
  last_place_by : (P : Place → Type 0) (p : Option Place) (n : ℕ) → IfSome p P
      → ((d : Stored) → named m d.state.key ≡ Some d → P (place_of d))
      → IfSome (last_place p (since m p n)) P
  last_place_by P p n asked each =
      elim (last_place_is p (since m p n)) [
        | inl none ↦ subst (λ o. IfSome o P) (sym none.1) asked
        | inr some ↦
            subst (λ o. IfSome o P) (sym some.2)
            (each some.0 (since_held p n some.0 some.1))
      ]

-- a document's state is valid
doc_valid : (c : Held) → IsLawful c → AreValid c → (d : Stored)
    → named c.documents d.state.key ≡ Some d → IsState c.schema d.state
doc_valid c lawful valid d at =
    let is = documents_pass c lawful valid d.state.key d at in
    record { valid = state_valid c.schema d.state is; carried = state_carries c.schema d.state is }

body_formed : (c : Held) → IsLawful c → AreValid c → IsSaid c.schema
    → DocumentsAreWellFormed c.documents → (ask : AskKind) → AskIsWellFormed ask
    → BodyIsWellFormed (body_of c.documents ask)
body_formed c lawful valid said formed (Push rows) asked =
    conflicts_formed c.documents (lawful-by_key c lawful) formed rows
body_formed c lawful valid said formed (Pull p n) asked = record {
  given = since_formed c.documents (lawful-by_key c lawful) formed p n;
  last =
      last_place_by c.documents (lawful-by_key c lawful) formed PlaceIsText p n asked
      (λ d at. keys_text c.schema d.state said (doc_valid c lawful valid d at)
      (formed d.state.key d at));
}

body_short : (c : Held) → IsLawful c → AreValid c → IsSaid c.schema
    → DocumentsAreWellFormed c.documents → (ask : AskKind)
    → IfSome (asked_place ask) HasShortKey
    → IfSome (given_place (body_of c.documents ask)) HasShortKey
body_short c lawful valid said formed (Push rows) asked = tt
body_short c lawful valid said formed (Pull p n) asked =
    last_place_by c.documents (lawful-by_key c lawful) formed HasShortKey p n asked
    (λ d at. keys_short c.schema d.state said (doc_valid c lawful valid d at)
    (formed d.state.key d at))

-- a handling answers with the numbers of its request
replies_with : (q : Request) (body : Body) (h : Handled) (o : Option (List Content))
    → option_map (λ records. record { records = records; reply = reply_with q body }) o ≡ Some h
    → reply_with q body ≡ h.reply
replies_with q body h None is = not_none is
replies_with q body h (Some cs) is = ap (λ (h : Handled). h.reply) (some_same is)

-- a schema of a world is one that JSON says
said_at : (w : World) → IsMadeWorld w → (name : List ℕ) (c : Held)
    → named w.collections name ≡ Some c → IsSaid c.schema
said_at w made name c at =
    said_in (canonical_text c.schema) c.schema
    (at_name (λ k x. IsSpelled x) w.collections name c made.spelled at)

pub answers_understood : AnswersAreUnderstood
answers_understood w made name c at formed q lawful asked short now h there =
    let here : handled_by name now q c ≡ Some h =
    sym (ap (λ (o : Option Held). o >>= handled_by name now q) at) ∙ there in
    let kept = (lawful_at w name c made.lawful at).lawful in
    let valid = valid_at w name c made.valid at in
    let said = said_at w made name c at in
    subst (λ (r : Reply). reply_of c.schema (reply_text r) ≡ Ok r)
    (replies_with q (body_of c.documents q.ask) h (commits_of name now q.ask c) here)
    (replies_again c.schema (reply_with q (body_of c.documents q.ask)) said
    (replies_lawfully c kept valid q lawful) (body_formed c kept valid said formed q.ask asked)
    (body_short c kept valid said formed q.ask short))

-- ---- a request

row_formed : (fork : Documents) (known : KnownStates) → DocumentsAreWellFormed fork
    → KnownAreWellFormed known → (d : Stored) → named fork d.state.key ≡ Some d
    → RowIsWellFormed (push_row known d)
row_formed fork known docs knows d at = record {
  new = docs d.state.key d at;
  assumed = by (named known d.state.key) refl;
}
  where
    by : (o : Option State) → named known d.state.key ≡ o → IfSome o IsWellFormed
    by None there = tt
    by (Some state) there = knows d.state.key state there

ask_by : (rows : List PushRow) (down : Option Place) (batch : ℕ)
    → AllByRecursion RowIsWellFormed rows → IfSome down PlaceIsText → IfSome down HasShortKey
    → (AskIsWellFormed (push_or_pull rows down batch)
    × IfSome (asked_place (push_or_pull rows down batch)) HasShortKey)
ask_by [] down batch formed text short = (text, short)
ask_by (row ∷ rows) down batch formed text short = (formed, tt)

ask_formed : (fork : Documents) (known : KnownStates) → AreByKey fork
    → DocumentsAreWellFormed fork → KnownAreWellFormed known → (down : Option Place) (batch : ℕ)
    → IfSome down PlaceIsText → IfSome down HasShortKey
    → (AskIsWellFormed (ask_of fork known down batch)
    × IfSome (asked_place (ask_of fork known down batch)) HasShortKey)
ask_formed fork known by_key docs knows down batch text short =
    ask_by (rows_of known (pushed fork known batch)) down batch
    (all_each RowIsWellFormed (rows_of known (pushed fork known batch)) (λ row h.
    let x = from_map (push_row known) (pushed fork known batch) row h in
    subst RowIsWellFormed (sym x.2)
    (row_formed fork known docs knows x.0 (pushed_held fork known by_key batch x.0 x.1))))
    text short

pub asks_understood : AsksAreUnderstood
asks_understood w made epoch name n batch number some few asked is =
    λ r at fork held docs knows text short.
    let lawful = asks_lawfully w made epoch name n batch number some few asked is r at fork held in
    let said = said_at w made r.fork fork held in
    let by_key = lawful-by_key fork (lawful_at w r.fork fork made.lawful held).lawful in
    let parts = subst (λ (a : Asked). AskIsWellFormed a.request.ask
    × IfSome (asked_place a.request.ask) HasShortKey)
    (asked_at w name n batch asked r fork at held is)
    (ask_formed fork.documents r.side.known by_key docs knows r.side.down batch text short) in
    requests_again fork.schema asked.request said lawful parts.0 parts.1

-- ---- a reply that isn't refused

fit_of : (over fit : Bool) (batch count : ℕ)
    → cond over (Some batch) (cond fit None (Some count)) ≡ None → fit ≡ true
fit_of true fit batch count is = not_none (sym is)
fit_of false true batch count is = refl
fit_of false false batch count is = not_none (sym is)

same_short : (down : Option Place) (t : Place) (state : State)
    → (is_above down t && bytes_eq t.id state.key) ≡ true → length state.key ≤ longest_key
    → HasShortKey t
same_short down t state fits key =
    let both = and_parts (is_above down t) (bytes_eq t.id state.key) fits in
    subst (λ k. length k ≤ longest_key) (sym ((bytes_eq-Decides t.id state.key).0 both.1)) key

fit_short : (down : Option Place) (last : Option State) (to : Option Place)
    → place_fits down last to ≡ true → IfSome down HasShortKey
    → IfSome last (λ state. length state.key ≤ longest_key) → IfSome to HasShortKey
fit_short None None None fits short key = tt
fit_short None None (Some t) fits short key = absurd (true≢false (sym fits))
fit_short (Some q) None None fits short key = tt
fit_short (Some q) None (Some t) fits short key =
    subst HasShortKey ((place_eq-Decides q t).0 fits) short
fit_short None (Some state) None fits short key = tt
fit_short (Some q) (Some state) None fits short key = tt
fit_short None (Some state) (Some t) fits short key = same_short None t state fits key
fit_short (Some q) (Some state) (Some t) fits short key = same_short (Some q) t state fits key

last_short : (s : Shape) → IsSaid s → (states : List State) (i : ℕ)
    → AllByRecursion (IsState s) states → AllByRecursion IsWellFormed states
    → IfSome (slice_get states i) (λ state. length state.key ≤ longest_key)
last_short s said states i lawful formed = by (slice_get states i) refl
  where
    by : (o : Option State) → slice_get states i ≡ o
        → IfSome o (λ state. length state.key ≤ longest_key)
    by None at = tt
    by (Some state) at =
        keys_short s state said (all_get (IsState s) states i state lawful at)
        (all_get IsWellFormed states i state formed at)

pub taken_short : TakenKeysAreShort
taken_short s said down ask (Conflicts cs) lawful formed fine short = tt
taken_short s said down (Push rows) (Docs ss to) lawful formed fine short =
    not_none (sym fine)
taken_short s said down (Pull p n) (Docs ss to) lawful formed fine short =
    fit_short down (slice_get ss (length ss - 1)) to
    (fit_of (nat_lt n (length ss)) (is_fit down ss to) n (length ss) fine) short
    (last_short s said ss (length ss - 1) lawful.given.each formed.given)
