-- Marks hold until a fork is written.
use Rattle.std.proofs.Common.{◌≡◌, ◌≢◌, ◌∙◌, ℕ, ◌<◌, ◌≤◌, true, List, [], ◌∷◌, Option, Some, None, option_map, refl, sym, ap, subst, ◌⊎◌, inl, inr, cond, arith}
use Rattle.std.specs.Option.{option_map_or}
use Rattle.std.specs.Str.{bytes_eq}
use Rattle.rx_value.specs.Named.{change_named, named, put_named}
use Rattle.rx_value.proofs.Bytes.{bytes_cases, bytes_itself}
use Rattle.rx_value.proofs.Named.{named-put_in_order, named-put_named}
use Rattle.rx_value.proofs.Outcomes.{not_none, some_same}
use Rattle.rx_schema.specs.declared.shape.Shape.{Shape}
use Rattle.rx_collection.specs.Commit.{with_row, with_rows}
use Rattle.rx_collection.specs.Held.{Held, held_with}
use Rattle.rx_collection.specs.Time.{last_lwt}
use Rattle.rx_collection.proofs.Last.{within_last}
use Rattle.rx_record.specs.Content.{Content, collection, rows, replication, exchange, epoch, migration}
use Rattle.rx_record.specs.declared.record.RowOut.{RowOut}
use Rattle.rx_session.specs.Doing as doing
use Rattle.rx_session.specs.Doing.{Doing, nothing, set_clock, write, migrate, watch, unwatch, attach, open_stream, close_stream, restart, MayDo}
use Rattle.rx_session.specs.Session.{Session}
use Rattle.rx_sync.specs.Asking.{pending_in}
use Rattle.rx_sync.specs.Exchange.{world_after}
use Rattle.rx_sync.specs.Laws.{MayComeInTurn}
use Rattle.rx_sync.proofs.Apart.{AreApart, IsApart, plain_apart}
use Rattle.rx_sync.proofs.Pulls.{pending_is}
use Rattle.rx_world.specs.Replicating.{new_replication, with_exchange}
use Rattle.rx_world.specs.Schema.{schema_in}
use Rattle.rx_world.specs.Step.{collections_after, legal, step, stored_of, stored_rows, takes, written_to}
use Rattle.rx_world.specs.Touch.{IsNoMigration, fork_rows, new_where, no_collection}
use Rattle.rx_world.specs.World.{Collections, World}
use Rattle.rx_world.specs.declared.replication.Replication.{Replication}
use Rattle.rx_world.proofs.Beginning.{begins}
use Rattle.rx_world.proofs.Links.{held_other}
use Rattle.rx_world.proofs.Looked.{named-change_other, named-change_same, named-put_other}
use Rattle.rx_world.proofs.Steps.{collection_new, epoch_legal, exchange_goes, fork_rows_taken, rows_go}
use Rattle.rx_world.proofs.Turns.{takes_parts}
use Rattle.rx_engine.proofs.Keeping.{IsInSession}
use Rattle.rx_engine.specs.Marks.{AreMarked, AreMarkedBut, IsLastWrite, IsMarked}
use Rattle.rx_engine.specs.Shown.{WritesNoExchange}

-- ---- a collection

-- it is the same, or was written later
abbrev SameOrLater : Held → Held → Type 0
SameOrLater old new = (new ≡ old) ⊎ (last_lwt old.documents < last_lwt new.documents)

-- and it is still held
record IsThen (cs : Collections) (k : List ℕ) (old : Held) : Type 0 where
  new : Held
  held : named cs k ≡ Some new
  later : SameOrLater old new

-- rows that were written at a time are no later than the last write
last_written : (c : Held) (name : List ℕ) (lwt : ℕ) (row : RowOut) (written : List RowOut)
    → lwt ≤ last_lwt (with_rows c (stored_rows name lwt (row ∷ written))).documents
last_written c name lwt row [] =
    let d = stored_of name lwt row in
    within_last (with_row c d).documents row.state.key d
    (named-put_in_order c.documents row.state.key row.state.key d
    ∙ ap (λ b. cond b (Some d) (named c.documents row.state.key)) (bytes_itself row.state.key))
last_written c name lwt row (next ∷ written) =
    last_written (with_row c (stored_of name lwt row)) name lwt next written

-- rows that are taken are later
taken_later : (c : Held) (lwt : ℕ) (written : List RowOut) → takes lwt written c ≡ true
    → last_lwt c.documents < last_lwt (written_to lwt written c).documents
taken_later c lwt [] is =
    let t = takes_parts lwt [] c is in let some = t.some in absurd (omega (arith, some))
taken_later c lwt (row ∷ written) is =
    let t = takes_parts lwt (row ∷ written) c is in
    let later = t.later in
    let last = last_written c c.name lwt row written in
    omega (arith, later, last)

then_same : (cs : Collections) (k : List ℕ) (old : Held) → named cs k ≡ Some old
    → IsThen cs k old
then_same cs k old at = record { new = old; held = at; later = inl refl }

-- after a write to one of them
then_written : (cs : Collections) (k name : List ℕ) (old : Held) (lwt : ℕ) (written : List RowOut)
    → named cs k ≡ Some old → (k ≡ name → takes lwt written old ≡ true)
    → IsThen (change_named cs name (written_to lwt written)) k old
then_written cs k name old lwt written at taken =
    elim (bytes_cases k name) [
      | inl is ↦ record {
        new = written_to lwt written old;
        held = ap (named (change_named cs name (written_to lwt written))) is
            ∙ named-change_same (written_to lwt written) cs name
            ∙ ap (option_map (written_to lwt written)) (ap (named cs) (sym is) ∙ at);
        later = inr (taken_later old lwt written (taken is));
      }
      | inr other ↦ then_same (change_named cs name (written_to lwt written)) k old
          (named-change_other (written_to lwt written) cs name k other ∙ at)
    ]

-- after an exchange, which writes to its fork if there is a row
then_exchanged : (w : World) (k : List ℕ) (old : Held) (lwt : ℕ) (written : List RowOut)
    (o : Option Replication) → named w.collections k ≡ Some old
    → ((r : Replication) (row : RowOut) (more : List RowOut) → o ≡ Some r → written ≡ row ∷ more
    → k ≡ r.fork → takes lwt written old ≡ true)
    → IsThen (collections_after (option_map_or (fork_rows lwt written) o no_collection)
    w.collections) k old
then_exchanged w k old lwt written None at taken = then_same w.collections k old at
then_exchanged w k old lwt [] (Some r) at taken = then_same w.collections k old at
then_exchanged w k old lwt (row ∷ more) (Some r) at taken =
    then_written w.collections k r.fork old lwt (row ∷ more) at
    (λ same. taken r row more refl refl same)

-- after a legal record that is no migration
then_step : (c : Content) (w : World) (k : List ℕ) (old : Held) → legal c w ≡ true
    → IsNoMigration c → named w.collections k ≡ Some old → IsThen (step c w).collections k old
then_step (collection name schema) w k old is plain at =
    let unheld = (collection_new name schema w is).unheld in
    elim (schema_in schema)
    as (λ (o : Option Shape). IsThen (collections_after (new_where name o) w.collections) k old) [
      | None ↦ then_same w.collections k old at
      | Some s ↦ then_same (put_named w.collections name (held_with name s [])) k old
          (named-put_other w.collections name k (held_with name s [])
          (held_other w.collections k name old unheld at) ∙ at)
    ]
then_step (rows name lwt written) w k old is plain at =
    let to = rows_go name lwt written w is in
    then_written w.collections k name old lwt written at (λ same.
    subst (λ (c : Held). takes lwt written c ≡ true)
    (some_same (sym to.named ∙ ap (named w.collections) (sym same) ∙ at)) to.taken)
then_step (replication name fork master handler field) w k old is plain at =
    then_same w.collections k old at
then_step (exchange name lwt written known up down) w k old is plain at =
    then_exchanged w k old lwt written (named w.replications name) at
    (λ r row more there some same.
    subst (λ (l : List RowOut). takes lwt l old ≡ true) (sym some)
    (fork_rows_taken lwt row more known old
    (exchange_goes name lwt (row ∷ more) known up down w
    (subst (λ (l : List RowOut). legal (exchange name lwt l known up down) w ≡ true) some is) r
    there old (ap (named w.collections) (sym same) ∙ at))))
then_step (migration name text steps) w k old is plain at = absurd plain
then_step other w k old is plain at = then_same w.collections k old at

-- ---- a replication

-- a record that is apart from it leaves it
same_step : (c : Content) (w : World) (name : List ℕ) (r : Replication) → legal c w ≡ true
    → IsNoMigration c → IsApart name c → named w.replications name ≡ Some r
    → named (step c w).replications name ≡ Some r
same_step (collection k schema) w name r is plain apart at = at
same_step (rows k lwt written) w name r is plain apart at = at
same_step (replication k fork m handler field) w name r is plain apart at =
    let free = (begins k fork m w is).free in
    named-put_other w.replications k name (new_replication k fork m handler field)
    (held_other w.replications name k r free at)
    ∙ at
same_step (exchange k lwt written known up down) w name r is plain apart at =
    named-change_other (with_exchange known up down) w.replications k name (λ e. apart (sym e)) ∙ at
same_step (migration k text steps) w name r is plain apart at = absurd plain
same_step other w name r is plain apart at = at

-- ---- a mark

marked_step : (c : Content) (w : World) (name : List ℕ) (lwt : ℕ) → legal c w ≡ true
    → IsNoMigration c → IsApart name c → IsMarked w name lwt → IsMarked (step c w) name lwt
marked_step c w name lwt is plain apart m =
    let r = m.replication in
    let at = same_step c w name r is plain apart m.held in
    let t = then_step c w r.fork m.fork is plain m.fork_held in
    elim t.later [
      | inl same ↦ record {
        replication = r;
        held = at;
        fork = t.new;
        fork_held = t.held;
        past = subst (λ (f : Held). lwt ≤ last_lwt f.documents) (sym same) m.past;
        none = λ last.
            pending_is (step c w) name r m.fork at (t.held ∙ ap Some same)
            ∙ sym (pending_is w name r m.fork m.held m.fork_held)
            ∙ m.none (ap (λ (f : Held). last_lwt f.documents) (sym same) ∙ last);
      }
      | inr later ↦
          let past = m.past in
          record {
            replication = r;
            held = at;
            fork = t.new;
            fork_held = t.held;
            past = omega (arith, past, later);
            none = λ last. absurd (omega (arith, past, later, last));
          }
    ]

pub marked_after : (cs : List Content) (w : World) (name : List ℕ) (lwt : ℕ) → MayComeInTurn w cs
    → AreApart name cs → IsMarked w name lwt → IsMarked (world_after cs w) name lwt
marked_after [] w name lwt come apart m = m
marked_after (c ∷ cs) w name lwt come apart m =
    marked_after cs (step c w) name lwt come.1 apart.1
    (marked_step c w name lwt come.0.lawful come.0.no_migration apart.0 m)

-- where a mark tells of the last write, nothing is to be pushed
pub told_by : (w : World) (name : List ℕ) (lwt : ℕ) → IsMarked w name lwt → IsLastWrite w name lwt
    → pending_in w name ≡ Some 0
told_by w name lwt m l =
    let same : l.replication ≡ m.replication = some_same (sym l.held ∙ m.held) in
    let fork : l.fork ≡ m.fork =
    some_same (sym l.fork_held ∙ ap (λ (r : Replication). named w.collections r.fork) same
    ∙ m.fork_held) in
    m.none (ap (λ (f : Held). last_lwt f.documents) (sym fork) ∙ l.last)

-- the last write may be marked, where nothing is to be pushed
pub marked_last : (w : World) (name : List ℕ) (lwt : ℕ) → IsLastWrite w name lwt
    → pending_in w name ≡ Some 0 → IsMarked w name lwt
marked_last w name lwt l none =
    let last = l.last in
    record {
      replication = l.replication;
      held = l.held;
      fork = l.fork;
      fork_held = l.fork_held;
      past = omega (arith, last);
      none = λ _. none;
    }

-- ---- all marks

-- where there is none
pub none_marked : (w : World) → AreMarked w []
none_marked w name lwt at = not_none at

-- where one is set
pub marked_put : (w : World) (marks : List (List ℕ × Option ℕ)) (but : List ℕ) (mark : Option ℕ)
    → AreMarkedBut but w marks → ((lwt : ℕ) → mark ≡ Some lwt → IsMarked w but lwt)
    → AreMarked w (put_named marks but mark)
marked_put w marks but mark others here name lwt at =
    elim (bytes_cases name but) [
      | inl is ↦ subst (λ (n : List ℕ). IsMarked w n lwt) (sym is)
          (here lwt (some_same (sym (ap (λ b. cond b (Some mark) (named marks name))
          (ap (λ (n : List ℕ). bytes_eq n but) is ∙ bytes_itself but))
          ∙ sym (named-put_named marks but name mark) ∙ at)))
      | inr other ↦ others name lwt other (sym (named-put_other marks but name mark other) ∙ at)
    ]

-- after what a line does within a session, but a turn
pub marked_doing : (d : Doing) (s : Session) (marks : List (List ℕ × Option ℕ)) → IsInSession d
    → MayDo d s → WritesNoExchange d → AreMarked s.world marks
    → AreMarked (doing.session_after d s).world marks
marked_doing nothing s marks inside may plain all = all
marked_doing (set_clock at) s marks inside may plain all = all
marked_doing (write c) s marks inside may plain all = λ name lwt at.
    marked_after (c ∷ []) s.world name lwt
    (record { lawful = may.0; ordered = may.1; no_migration = may.2 }, tt)
    (plain_apart name c plain, tt) (all name lwt at)
marked_doing (migrate c) s marks inside may plain all = absurd inside
marked_doing (watch name coll q) s marks inside may plain all = all
marked_doing (unwatch name) s marks inside may plain all = all
marked_doing (attach one) s marks inside may plain all = all
marked_doing (open_stream name master) s marks inside may plain all = all
marked_doing (close_stream name) s marks inside may plain all = all
marked_doing (restart number) s marks inside may plain all = λ name lwt at.
    marked_after (epoch number ∷ []) s.world name lwt (
      record {
        lawful = ap (λ n. legal (epoch n) s.world) may ∙ epoch_legal s.world;
        ordered = tt;
        no_migration = tt;
      },
      tt,
    )
    (tt, tt) (all name lwt at)

-- after a turn, of all but its own replication
pub marked_then : (cs : List Content) (w : World) (marks : List (List ℕ × Option ℕ))
    (but : List ℕ) → MayComeInTurn w cs
    → ((name : List ℕ) → but ≢ name → AreApart name cs) → AreMarked w marks
    → AreMarkedBut but (world_after cs w) marks
marked_then cs w marks but come apart all = λ name lwt other at.
    marked_after cs w name lwt come (apart name (λ e. other (sym e))) (all name lwt at)
