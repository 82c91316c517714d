-- A record beside a replication is its steps.
use Rattle.std.proofs.Common.{◌≡◌, ◌≢◌, ◌∙◌, ℕ, ◌+◌, Bool, true, false, cond, true≢false, List, [], ◌∷◌, Option, Some, None, option_map, take, refl, sym, ap, subst, eqb-true}
use Rattle.std.specs.Option.{option_map_or}
use Rattle.rx_value.specs.Named.{named, put_named}
use Rattle.rx_value.specs.declared.state.State.{State}
use Rattle.rx_value.proofs.Bytes.{bytes_itself}
use Rattle.rx_value.proofs.Named.{named-put_named}
use Rattle.rx_value.proofs.Outcomes.{some_same}
use Rattle.rx_schema.specs.declared.shape.Shape.{Shape}
use Rattle.rx_document.specs.declared.place.Place.{Place}
use Rattle.rx_collection.specs.Held.{Held, held_with}
use Rattle.rx_record.specs.Content.{collection, rows, replication, exchange, epoch, migration}
use Rattle.rx_record.specs.Writable.{KeysRise}
use Rattle.rx_record.specs.declared.record.MasterName.{MasterName}
use Rattle.rx_record.specs.declared.record.MasterName.TheVariants.{Local}
use Rattle.rx_record.specs.declared.record.RowOut.{RowOut}
use Rattle.rx_replication.specs.Steps.{Step, System, AreLawfulSteps, run, start}
use Rattle.rx_replication.specs.Taking.{Resolve}
use Rattle.rx_sync.specs.Asks.{Asks, forgotten, no_asks}
use Rattle.rx_sync.proofs.Worlds.{linked_at}
use Rattle.rx_world.specs.Linked.{HasMaster, IsLinked, IsMasterOf}
use Rattle.rx_world.specs.Made.{IsMadeWorld}
use Rattle.rx_world.specs.Migrating.{is_in_group, migrate_step}
use Rattle.rx_world.specs.Replicating.{new_replication, with_exchange}
use Rattle.rx_world.specs.Schema.{schema_in}
use Rattle.rx_world.specs.Step.{collections_after, legal, step, takes_exchange, written_to}
use Rattle.rx_world.specs.Touch.{fork_rows, new_where, no_collection, remade_where}
use Rattle.rx_world.specs.World.{World}
use Rattle.rx_world.specs.declared.replication.Replication.{Replication}
use Rattle.rx_world.proofs.Beginning.{begins}
use Rattle.rx_world.proofs.Links.{held_other}
use Rattle.rx_world.proofs.Looked.{named-put_other, named-change_same, named-change_other}
use Rattle.rx_world.proofs.Making.{made_step}
use Rattle.rx_world.proofs.Migrates.{legal_migration, migrates}
use Rattle.rx_world.proofs.Sounds.{exchange_fork}
use Rattle.rx_world.proofs.Steps.{collection_new, exchange_goes, fork_rows_taken, rows_go}
use Rattle.rx_steps.specs.Records.{RecordsAreSteps, ReplicationsBegin, record_steps, touch_steps}
use Rattle.rx_steps.specs.Shows.{Shows, of_schema}
use Rattle.rx_steps.proofs.Shown.{IsRest, rest_of, shown_as, shown_in, shows_of}
use Rattle.rx_steps.proofs.Standing.{IsShown}
use Rattle.rx_steps.proofs.Touched.{IsAfter, IsBySteps, migrated_by, rows_by, untouched}

-- what the steps of a record lead to
abbrev LedBy : Asks → World → List ℕ → Resolve → System → List Step → Type 0
LedBy a w name by s steps = AreLawfulSteps steps × Shows a w name (run by steps s)

-- steps of a replication that is shown
module _ (a : Asks) (w v : World) (name : List ℕ) (by : Resolve) (s : System)
    (rest : IsRest a w s) (same : v.epoch ≡ w.epoch) (r : Replication) (m : List ℕ) (z : Shape)
    (steps : List Step) where
  rest_by : (b : Bool) → IsAfter v name r m z b s (run by steps s)
      → IsRest (cond b (forgotten a) a) v (run by steps s)
  rest_by true after = record {
    epoch = after.epoch ∙ rest.epoch ∙ sym same;
    n = after.n ∙ rest.n;
    remembered = 0;
    requests = refl;
  }
  rest_by false after =
      let keeps = after.keeps refl in
      record {
        epoch = after.epoch ∙ rest.epoch ∙ sym same;
        n = after.n ∙ rest.n;
        remembered = rest.remembered;
        requests =
            rest.requests
            ∙ λ i. take rest.remembered (take (sym keeps.since i) (sym keeps.requests i));
      }

  led : (b : Bool) → IsBySteps v name r m z b by s steps
      → LedBy (cond b (forgotten a) a) v name by s steps
  led b done = (
    done.lawful,
    shows_of (cond b (forgotten a) a) v name r m z (run by steps s) done.after.shown
        (rest_by b done.after),
  )

module _ (w : World) (a : Asks) (name : List ℕ) (r : Replication) (m : List ℕ) (by : Resolve)
    (s : System) (made : IsMadeWorld w) (held : named w.replications name ≡ Some r)
    (local : r.master ≡ Local m) (shows : Shows a w name s) where
  abbrev z : Shape
  z = shows.schema

  x : IsShown w name r m z s
  x = shown_as w name z s (shown_in w name z s shows.link) r m held local

  rest : IsRest a w s
  rest = rest_of a w name s shows

  apart_ends : m ≢ r.fork
  apart_ends =
      let l = linked_at w made name r held in
      let of : IsMasterOf w.collections r.fork l.fork.schema m =
      subst (HasMaster w.collections r.fork l.fork.schema) local l.master in of.other

  -- in a world with that epoch
  done : (v : World) → v.epoch ≡ w.epoch → (steps : List Step)
      → IsBySteps v name r m z false by s steps → LedBy a v name by s steps
  done v same steps by_steps = led a w v name by s rest same r m z steps false by_steps

  collection_led : (k text : List ℕ) → legal (collection k text) w ≡ true
      → LedBy a (step (collection k text) w) name by s
      (record_steps r.fork m w (collection k text))
  collection_led k text is =
      let free = (collection_new k text w is).unheld in
      elim (schema_in text) as (λ o. LedBy a (record {
        collections = collections_after (new_where k o) w.collections;
        replications = w.replications;
        epoch = w.epoch;
      }) name by s (touch_steps r.fork m (new_where k o))) [
        | None ↦ done w refl [] (untouched w w name r m z by s x held apart_ends refl refl)
        | Some shape ↦
            let new : Held = held_with k shape [] in
            let v : World = record w { collections = put_named w.collections k new } in
            done v refl []
            (untouched w v name r m z by s x held apart_ends
            (named-put_other w.collections k r.fork new
            (held_other w.collections r.fork k (of_schema z s.fork) free x.fork))
            (named-put_other w.collections k m new
            (held_other w.collections m k (of_schema z s.master) free x.master)))
      ]

  rows_led : (k : List ℕ) (lwt : ℕ) (written : List RowOut) → legal (rows k lwt written) w ≡ true
      → KeysRise written
      → LedBy a (step (rows k lwt written) w) name by s
      (record_steps r.fork m w (rows k lwt written))
  rows_led k lwt written is rise =
      let to = rows_go k lwt written w is in
      let v : World = step (rows k lwt written) w in
      done v refl (record_steps r.fork m w (rows k lwt written))
      (rows_by w v name r m z by s x held apart_ends k lwt written to.held to.named
      (named-change_same (written_to lwt written) w.collections k
      ∙ ap (option_map (written_to lwt written)) to.named)
      (λ l apart. named-change_other (written_to lwt written) w.collections k l apart) to.taken
      rise)

  replication_led : (k fork : List ℕ) (master : MasterName) (handler : List ℕ)
      (field : Option (List ℕ)) → legal (replication k fork master handler field) w ≡ true
      → LedBy a (step (replication k fork master handler field) w) name by s []
  replication_led k fork master handler field is =
      let free = (begins k fork master w is).free in
      let new = new_replication k fork master handler field in
      let v : World = step (replication k fork master handler field) w in
      done v refl []
      (untouched w v name r m z by s x
      (named-put_other w.replications k name new (held_other w.replications name k r free held)
      ∙ held) apart_ends refl refl)

  -- an exchange of another replication
  module _ (k : List ℕ) (apart : k ≢ name) (lwt : ℕ) (known : List State) (up down : Option Place)
    where
      held_then : (written : List RowOut)
          → named (step (exchange k lwt written known up down) w).replications name ≡ Some r
      held_then written =
          named-change_other (with_exchange known up down) w.replications k name
          (λ same. apart (sym same))
          ∙ held

      exchange_touched : (written : List RowOut)
          → legal (exchange k lwt written known up down) w ≡ true → KeysRise written
          → (q : Replication) → named w.replications k ≡ Some q
          → LedBy a (step (exchange k lwt written known up down) w) name by s
          (touch_steps r.fork m (fork_rows lwt written q))
      exchange_touched [] is rise q at =
          let v : World = step (exchange k lwt [] known up down) w in
          let l = linked_at w made k q at in
          let f = exchange_fork k lwt [] known up down w q l.fork at l.held in
          done v refl []
          (untouched w v name r m z by s x (held_then []) apart_ends
          (nothing r.fork at) (nothing m at))
        where
          nothing : (c : List ℕ) → named w.replications k ≡ Some q
              → named (step (exchange k lwt [] known up down) w).collections c
              ≡ named w.collections c
          nothing c at =
              ap (λ (o : Option Replication).
              named (collections_after (option_map_or (fork_rows lwt []) o no_collection)
              w.collections) c) at
      exchange_touched (row ∷ written) is rise q at =
          let v : World = step (exchange k lwt (row ∷ written) known up down) w in
          let l = linked_at w made k q at in
          let f = exchange_fork k lwt (row ∷ written) known up down w q l.fork at l.held in
          done v refl (touch_steps r.fork m (fork_rows lwt (row ∷ written) q))
          (rows_by w v name r m z by s x (held_then (row ∷ written)) apart_ends q.fork lwt
          (row ∷ written) l.fork l.held f.is f.others
          (fork_rows_taken lwt row written known l.fork
          (exchange_goes k lwt (row ∷ written) known up down w is q at l.fork l.held)) rise)

      exchange_led : (written : List RowOut)
          → legal (exchange k lwt written known up down) w ≡ true → KeysRise written
          → (o : Option Replication) → named w.replications k ≡ o
          → LedBy a (step (exchange k lwt written known up down) w) name by s
          (touch_steps r.fork m (option_map_or (fork_rows lwt written) o no_collection))
      exchange_led written is rise None at =
          absurd (true≢false (sym is ∙ ap (λ (o : Option Replication).
          option_map_or (takes_exchange w.collections lwt written known up down) o false) at))
      exchange_led written is rise (Some q) at = exchange_touched written is rise q at

  migration_led : (k text : List ℕ) (steps : _) → legal (migration k text steps) w ≡ true
      → LedBy (cond (is_in_group w.replications k r.fork) (forgotten a) a)
      (step (migration k text steps) w) name by s
      (record_steps r.fork m w (migration k text steps))
  migration_led k text steps is =
      let l = legal_migration k text steps w is in
      let G = is_in_group w.replications k in
      let v : World = migrate_step k l.schema steps w in
      let b = G r.fork in
      let moved = migrated_by w name r m z by s x k l.schema steps b refl in
      subst (λ (y : World). LedBy (cond b (forgotten a) a) y name by s
      (touch_steps r.fork m (remade_where G steps (schema_in text))))
      (sym (migrates k text l.schema steps w l.read))
      (subst (λ (o : Option Shape). LedBy (cond b (forgotten a) a) v name by s
      (touch_steps r.fork m (remade_where G steps o))) (sym l.read)
      (led a w v name by s rest refl _ m _ _ b moved))

  epoch_led : (number : ℕ) → legal (epoch number) w ≡ true
      → LedBy no_asks (step (epoch number) w) name by s
      (record_steps r.fork m w (epoch number))
  epoch_led number is =
      let v : World = step (epoch number) w in
      let next : System = run by (record_steps r.fork m w (epoch number)) s in (
        (tt, tt),
        shows_of no_asks v name r m z next
            (record {
              held = held;
              local = x.local;
              fork = x.fork;
              master = x.master;
              known = x.known;
              up = x.up;
              down = x.down;
            })
            (record {
              epoch =
                  ap (λ (n : ℕ). n + 1) rest.epoch ∙ sym (eqb-true number (w.epoch + 1) is);
              n = refl;
              remembered = 0;
              requests = refl;
            }),
      )

pub records_are_steps : RecordsAreSteps
records_are_steps w a name r m by s (collection k text) made held local may shows =
    collection_led w a name r m by s made held local shows k text may.lawful
records_are_steps w a name r m by s (rows k lwt written) made held local may shows =
    rows_led w a name r m by s made held local shows k lwt written may.lawful may.ordered
records_are_steps w a name r m by s (replication k fork master handler field) made held local may
    shows =
    replication_led w a name r m by s made held local shows k fork master handler field may.lawful
records_are_steps w a name r m by s (exchange k lwt written known up down) made held local may
    shows =
    exchange_led w a name r m by s made held local shows k may.beside lwt known up down written
    may.lawful may.ordered.rows_rise (named w.replications k) refl
records_are_steps w a name r m by s (epoch number) made held local may shows =
    epoch_led w a name r m by s made held local shows number may.lawful
records_are_steps w a name r m by s (migration k text steps) made held local may shows =
    migration_led w a name r m by s made held local shows k text steps may.lawful
records_are_steps w a name r m by s other made held local may shows =
    absurd (true≢false (sym may.lawful))

-- ---- a new replication

pub replications_begin : ReplicationsBegin
replications_begin w name fork master handler field fork_held master_held made is at there =
    let c = replication name fork (Local master) handler field in
    let v : World = step c w in
    let new = new_replication name fork (Local master) handler field in
    let held : named v.replications name ≡ Some new =
    named-put_named w.replications name name new
    ∙ ap (λ b. cond b (Some new) (named w.replications name)) (bytes_itself name) in
    let l : IsLinked v.collections name new =
    linked_at v (made_step c w is tt made) name new held in
    let of : IsMasterOf v.collections fork l.fork.schema master = l.master in
    let schema : master_held.schema ≡ fork_held.schema =
    ap (λ (y : Held). y.schema) (some_same (sym there ∙ of.held)) ∙ of.same
    ∙ ap (λ (y : Held). y.schema) (some_same (sym l.held ∙ at)) in
    shows_of no_asks v name new master fork_held.schema
    (start fork_held master_held w.epoch)
    (record {
      held = held;
      local = refl;
      fork = at;
      master = there ∙ λ i. Some (record master_held { schema = schema i });
      known = refl;
      up = refl;
      down = refl;
    })
    (record { epoch = refl; n = refl; remembered = 0; requests = refl })
