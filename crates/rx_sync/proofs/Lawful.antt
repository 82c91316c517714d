-- What a fork asks is a lawful request, and what a master answers to one is a lawful reply.
use Rattle.std.proofs.Common.{◌≡◌, ◌∙◌, ℕ, zero, suc, ◌≤◌, nat_le, nat_lt, true, List, [], ◌∷◌, length, map, take, Option, Some, None, IfSome, option_map, refl, sym, ap, subst, inl, inr, arith}
use Rattle.std.proofs.lemmas.Bool.{and_parts, leb-true, ltb-true}
use Rattle.std.proofs.lemmas.List.{length-map}
use Rattle.std.specs.List.{AllByRecursion, cons_option, filter_map}
use Rattle.rx_value.specs.Due.{◌>>=◌}
use Rattle.rx_value.specs.Named.{named}
use Rattle.rx_value.specs.Value.{largest}
use Rattle.rx_value.specs.declared.state.State.{State}
use Rattle.rx_value.proofs.Outcomes.{not_none, some_same}
use Rattle.rx_schema.specs.declared.shape.Shape.{Shape}
use Rattle.rx_document.specs.declared.place.Place.{Place}
use Rattle.rx_document.specs.declared.stored.Stored.{Stored}
use Rattle.rx_collection.specs.Held.{Held}
use Rattle.rx_collection.specs.Lawful.{IsLawful}
use Rattle.rx_collection.specs.Since.{since}
use Rattle.rx_collection.proofs.Named.{at_name}
use Rattle.rx_wire.specs.Lawful.{IsAsk, IsBody, IsPlace, IsReply, IsRequest, IsRow, IsState}
use Rattle.rx_wire.specs.Limits.{most_states}
use Rattle.rx_wire.specs.declared.message.AskKind.{AskKind}
use Rattle.rx_wire.specs.declared.message.AskKind.TheVariants.{Push, Pull}
use Rattle.rx_wire.specs.declared.message.Body.{Body}
use Rattle.rx_wire.specs.declared.message.PushRow.{PushRow}
use Rattle.rx_wire.specs.declared.message.Request.{Request}
use Rattle.rx_replication.specs.Known.{KnownStates, pending}
use Rattle.rx_replication.specs.Master.{body_of, conflict_of, conflicts, last_place, reply_with}
use Rattle.rx_replication.specs.Member.{Member}
use Rattle.rx_replication.specs.Request.{push_or_pull, push_row}
use Rattle.rx_replication.specs.Throughout.{AllPass, AskPasses, KnownPass, RowPasses}
use Rattle.rx_replication.proofs.Commits.{lawful-by_key}
use Rattle.rx_replication.proofs.Distinct.{conflicts_differ, since_differ}
use Rattle.rx_replication.proofs.Handled.{states_of}
use Rattle.rx_replication.proofs.Lists.{all_each}
use Rattle.rx_replication.proofs.Throughout.{answered_pass}
use Rattle.rx_meta.specs.Side.{AreKnownByKey}
use Rattle.rx_fork.specs.Asked.{HasRowsApart}
use Rattle.rx_fork.specs.Valid.{is_valid}
use Rattle.rx_fork.specs.declared.ask.Asked.{Asked}
use Rattle.rx_record.specs.Content.{Content}
use Rattle.rx_record.specs.declared.record.MasterName.{MasterName}
use Rattle.rx_record.specs.declared.record.MasterName.TheVariants.{Local, Port}
use Rattle.rx_world.specs.Linked.{HasMaster}
use Rattle.rx_world.specs.Valid.{AreValid}
use Rattle.rx_world.specs.declared.replication.Replication.{Replication}
use Rattle.rx_world.proofs.States.{state_carries, state_valid}
use Rattle.rx_world.proofs.Steps.{lawful_at}
use Rattle.rx_world.proofs.Valid.{valid_at}
use Rattle.rx_sync.specs.Handling.{Handled, commits_of, handled, handled_by, local_name}
use Rattle.rx_sync.specs.MessageLaws.{AnswersItsFork, AnswersLawfully, AsksLawfully}
use Rattle.rx_sync.proofs.Messages.{PlaceHasTime, asked_at, docs_have_time, documents_pass, due_of, known_pass, place_time}
use Rattle.rx_sync.proofs.Worlds.{linked_at}

-- ---- states and places

wire_state : (s : Shape) (state : State) → is_valid s state ≡ true → IsState s state
wire_state s state is =
    record { valid = state_valid s state is; carried = state_carries s state is }

wire_states : (s : Shape) (ss : List State) → AllPass (is_valid s) ss
    → AllByRecursion (IsState s) ss
wire_states s ss pass = all_each (IsState s) ss (λ x m. wire_state s x (pass x m))

wire_place : (p : Option Place) → PlaceHasTime p → IfSome p IsPlace
wire_place None has = tt
wire_place (Some p) has =
    let parts = and_parts (nat_lt 0 p.lwt) (nat_le p.lwt largest) has in record {
      low = ltb-true 0 p.lwt parts.0;
      high = leb-true p.lwt largest parts.1;
    }

place_has_time : (p : Option Place) → IfSome p IsPlace → PlaceHasTime p
place_has_time None is = tt
place_has_time (Some p) is = place_time p is

-- ---- how many

take_fits : {A : Type 0} (n : ℕ) (xs : List A) → length (take n xs) ≤ n
take_fits zero xs = omega arith
take_fits (suc n) [] = omega arith
take_fits (suc n) (x ∷ xs) = let rest = take_fits n xs in omega arith

few_made : {A B : Type 0} (f : A → B) (n : ℕ) (xs : List A) → n ≤ most_states
    → length (map f (take n xs)) ≤ most_states
few_made f n xs few = omega (arith, length-map (take n xs) f, take_fits n xs, few)

made_fits : {A B : Type 0} (f : A → Option B) (xs : List A) → length (filter_map f xs) ≤ length xs
made_fits f [] = omega arith
made_fits f (x ∷ xs) =
    let rest = made_fits f xs in
    elim (f x) as (λ o. length (cons_option o (filter_map f xs)) ≤ suc (length xs))
    [ None ↦ omega arith | Some y ↦ omega arith ]

-- ---- a request

-- the assumed state of a row has its key
abbrev IsOfOneKey : PushRow → Type 0
IsOfOneKey row = IfSome row.assumed (λ state. state.key ≡ row.new.key)

one_key : (known : KnownStates) → AreKnownByKey known → (d : Stored)
    → IsOfOneKey (push_row known d)
one_key known by_key d = by (named known d.state.key) refl
  where
    by : (o : Option State) → named known d.state.key ≡ o
        → IfSome o (λ state. state.key ≡ d.state.key)
    by None at = tt
    by (Some state) at =
        at_name (λ k state. state.key ≡ k) known d.state.key state by_key.keyed at

one_keys : (known : KnownStates) → AreKnownByKey known → (ds : List Stored)
    → AllByRecursion IsOfOneKey (map (push_row known) ds)
one_keys known by_key [] = tt
one_keys known by_key (d ∷ ds) = (one_key known by_key d, one_keys known by_key ds)

wire_row : (s : Shape) (row : PushRow) → RowPasses (is_valid s) row → IsOfOneKey row → IsRow s row
wire_row s row passes one = record {
  new = wire_state s row.new passes.new;
  assumed = by row.assumed refl;
  one_key = one;
}
  where
    by : (o : Option State) → row.assumed ≡ o → IfSome o (IsState s)
    by None at = tt
    by (Some state) at = wire_state s state (passes.assumed state at)

wire_rows : (s : Shape) (rows : List PushRow)
    → ((row : PushRow) → Member row rows → RowPasses (is_valid s) row)
    → AllByRecursion IsOfOneKey rows → AllByRecursion (IsRow s) rows
wire_rows s [] passes one = tt
wire_rows s (row ∷ rows) passes one = (
  wire_row s row (passes row (inl refl)) one.0,
  wire_rows s rows (λ other m. passes other (inr m)) one.1,
)

wire_ask : (s : Shape) (rows : List PushRow) (down : Option Place) (batch : ℕ)
    → AskPasses (is_valid s) (push_or_pull rows down batch)
    → HasRowsApart (push_or_pull rows down batch) → AllByRecursion IsOfOneKey rows
    → length rows ≤ most_states → IfSome down IsPlace → 1 ≤ batch → batch ≤ most_states
    → IsAsk s (push_or_pull rows down batch)
wire_ask s [] down batch passes apart one fit above some few =
    record { above = above; some = some; few = few }
wire_ask s (row ∷ rows) down batch passes apart one fit above some few = record {
  some = omega arith;
  few = fit;
  each = wire_rows s (row ∷ rows) passes one;
  distinct = apart;
}

pub asks_lawfully : AsksLawfully
asks_lawfully w made epoch name n batch number some few asked is = λ r at fork held.
    let l = linked_at w made name r at in
    let knows : KnownPass (is_valid fork.schema) r.side.known =
    subst (λ (c : Held). KnownPass (is_valid c.schema) r.side.known) (some_same (sym l.held
    ∙ held))
    (known_pass w name r l) in
    let due =
    due_of fork r w.epoch n batch (lawful_at w r.fork fork made.lawful held).lawful
    (valid_at w r.fork fork made.valid held) knows some in
    let ds = pending fork.documents r.side.known in
    subst (λ (a : Asked). IsRequest fork.schema a.request)
    (asked_at w name n batch asked r fork at held is) (record {
      epoch = epoch;
      n = number;
      ask = wire_ask fork.schema (map (push_row r.side.known) (take batch ds)) r.side.down batch
          due.lawful.valid due.lawful.apart (one_keys r.side.known l.by_key (take batch ds))
          (few_made (push_row r.side.known) batch ds few) (wire_place r.side.down l.down_has_time)
          some few;
    })

-- ---- a reply

wire_body : (c : Held) → IsLawful c → AreValid c → (ask : AskKind) → IsAsk c.schema ask
    → IsBody c.schema (body_of c.documents ask)
wire_body c lawful valid (Push rows) is = record {
  few = omega (arith, made_fits (conflict_of c.documents) rows, is.few);
  each = wire_states c.schema (conflicts c.documents rows)
      (answered_pass (is_valid c.schema) c.documents (Push rows) (lawful-by_key c lawful)
      (documents_pass c lawful valid));
  distinct = conflicts_differ c.documents rows (lawful-by_key c lawful) is.distinct;
}
wire_body c lawful valid (Pull p n) is = record {
  given = record {
    few = few_since;
    each = wire_states c.schema (states_of (since c.documents p n))
        (answered_pass (is_valid c.schema) c.documents (Pull p n) (lawful-by_key c lawful)
        (documents_pass c lawful valid));
    distinct = since_differ c.documents p n (lawful-by_key c lawful);
  };
  last = wire_place (last_place p (since c.documents p n))
      (docs_have_time c lawful p n (place_has_time p is.above));
}
  where
    few_since : length (states_of (since c.documents p n)) ≤ most_states
    few_since = few_made (λ (d : Stored). d.state) n _ is.few

pub replies_lawfully : (c : Held) → IsLawful c → AreValid c → (q : Request)
    → IsRequest c.schema q → IsReply c.schema (reply_with q (body_of c.documents q.ask))
replies_lawfully c lawful valid q is =
    record { epoch = is.epoch; n = is.n; body = wire_body c lawful valid q.ask is.ask }

-- a handling answers with the numbers of its request
replies_with : (q : Request) (body : Body) (h : Handled) (o : Option (List Content))
    → option_map (λ records. record { records = records; reply = reply_with q body }) o ≡ Some h
    → reply_with q body ≡ h.reply
replies_with q body h None is = not_none is
replies_with q body h (Some cs) is = ap (λ (h : Handled). h.reply) (some_same is)

pub answers_lawfully : AnswersLawfully
answers_lawfully w made name c at q is now h there =
    let here : handled_by name now q c ≡ Some h =
    sym (ap (λ (o : Option Held). o >>= handled_by name now q) at) ∙ there in
    subst (IsReply c.schema)
    (replies_with q (body_of c.documents q.ask) h (commits_of name now q.ask c) here)
    (replies_lawfully c (lawful_at w name c made.lawful at).lawful (valid_at w name c made.valid at)
    q is)

-- the same of the master of a replication, which has the fork's schema
pub answers_its_fork : AnswersItsFork
answers_its_fork w made name q now h is = λ r at fork held lawful.
    let l = linked_at w made name r at in
    let same : l.fork ≡ fork = some_same (sym l.held ∙ held) in
    by r fork lawful r.master
    (subst (λ (c : Held). HasMaster w.collections r.fork c.schema r.master) same l.master)
    (sym (ap (λ (o : Option Replication).
    o >>= λ r. local_name r.master >>= λ master. handled w master q now) at) ∙ is)
  where
    by : (r : Replication) (fork : Held) → IsRequest fork.schema q → (m : MasterName)
        → HasMaster w.collections r.fork fork.schema m
        → (local_name m >>= λ master. handled w master q now) ≡ Some h → IsReply fork.schema h.reply
    by r fork lawful (Port port) has there = not_none there
    by r fork lawful (Local master) has there =
        subst (λ (s : Shape). IsReply s h.reply) has.same
        (answers_lawfully w made master has.master has.held q
        (subst (λ (s : Shape). IsRequest s q) (sym has.same) lawful) now h there)
