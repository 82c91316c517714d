-- What may happen in a journal beside a replication, and to it, is a list of steps.
use Rattle.std.proofs.Common.{◌≡◌, ◌∙◌, ℕ, true, false, true≢false, List, [], ◌∷◌, ◌++◌, Some, cond, unwrap_or, refl, sym, ap, subst}
use Rattle.rx_value.specs.Named.{named}
use Rattle.rx_value.proofs.Bytes.{bytes_itself}
use Rattle.rx_value.proofs.Named.{named-put_named}
use Rattle.rx_value.proofs.Outcomes.{some_same}
use Rattle.rx_schema.specs.declared.shape.Shape.{Shape}
use Rattle.rx_fork.proofs.Validity.{resolves_keys}
use Rattle.rx_record.specs.Content.{Content, collection, rows, replication, exchange, epoch, migration}
use Rattle.rx_record.specs.declared.record.MasterName.TheVariants.{Local}
use Rattle.rx_replication.specs.Steps.{Step, System, AreLawfulSteps, run}
use Rattle.rx_replication.specs.Taking.{KeepsKey, Resolve}
use Rattle.rx_replication.specs.Write.{AreByKey}
use Rattle.rx_replication.proofs.Kept.{IsKept}
use Rattle.rx_replication.proofs.Runs.{kept_quiet, kept_run, kept_start}
use Rattle.rx_replication.proofs.Throughout.{throughout}
use Rattle.rx_replication.proofs.Updates.{kept_pending, kept_updates}
use Rattle.rx_sync.specs.Asks.{AsksAreLawful, forgotten}
use Rattle.rx_sync.specs.Laws.{ComeSoundly, MayTurn, RemembersLawful}
use Rattle.rx_sync.specs.Turn.{Turned}
use Rattle.rx_sync.proofs.Staying.{made_after, soundly_in_turn}
use Rattle.rx_sync.proofs.Turns.{turn_again, turn_sound}
use Rattle.rx_sync.proofs.Worlds.{by_key_at, for_fork, linked_at}
use Rattle.rx_world.specs.Made.{IsMadeWorld}
use Rattle.rx_world.specs.Migrating.{is_in_group}
use Rattle.rx_world.specs.Replicating.{new_replication}
use Rattle.rx_world.specs.Sound.{IsSoundWorld}
use Rattle.rx_world.specs.Step.{step}
use Rattle.rx_world.specs.World.{World}
use Rattle.rx_world.specs.declared.replication.Replication.{Replication}
use Rattle.rx_world.proofs.Grown.{IsApart, stays_grown}
use Rattle.rx_world.proofs.Making.{made_step}
use Rattle.rx_steps.specs.History.{TurnEvent, AreEventSteps, AreHistorySteps, Event, HistoriesAreSteps, HoldsOf, HoldsThrough, IsOfSteps, Lasting, Making, MayBeMade, MayHappen, MayHappenInTurn, Moment, PassesThrough, beginning, lasting_of, moment_after, moment_behind, record_of, resolve_of, start_of, terms_of, turned_by, turned, written}
use Rattle.rx_steps.specs.Records.{MayComeBeside, asks_behind, record_steps}
use Rattle.rx_steps.specs.Shows.{LeadsTo, Resolves, Shows}
use Rattle.rx_steps.proofs.Going.{leads_both}
use Rattle.rx_steps.proofs.Records.{records_are_steps, replications_begin}
use Rattle.rx_steps.proofs.Staying.{IsThere, resolves_there, there_after, there_step}
use Rattle.rx_steps.proofs.Turns.{turns_are_steps}

-- the world is made, the replication is there as it was made, and what is remembered is lawful
pub record Stands (l : Lasting) (by : Resolve) (m : Moment) : Type 0 where
  pub made : IsMadeWorld m.world
  pub replication : Replication
  pub held : named m.world.replications l.name ≡ Some replication
  pub fork : replication.fork ≡ l.fork
  pub master : replication.master ≡ Local l.master
  pub resolves : Resolves l.kinds m.world l.name by
  pub remembers : RemembersLawful m.world l.name m.asks

module _ (l : Lasting) (by : Resolve) where
  stands_there : (m n : Moment) (st : Stands l by m) → IsMadeWorld n.world
      → IsThere n.world.replications l.name st.replication
      → RemembersLawful n.world l.name n.asks → Stands l by n
  stands_there m n st made there remembers = record {
    made = made;
    replication = there.now;
    held = there.held;
    fork = there.fork ∙ st.fork;
    master = there.master ∙ st.master;
    resolves =
        let so = st.resolves in
        let same : st.replication ≡ so.replication = some_same (sym st.held ∙ so.held) in
        resolves_there l.kinds m.world n.world l.name by so
        (subst (IsThere n.world.replications l.name) same there);
    remembers = remembers;
  }

  -- a turn may be made where the world is sound
  may_turn : (m : Moment) (x : TurnEvent) → Stands l by m → IsSoundWorld m.world
      → MayTurn (terms_of l x) m.world m.asks
  may_turn m x st sound = record {
    ready = record {
      made = st.made;
      sound = sound;
      here = record {
        replication = st.replication;
        held = st.held;
        master = l.master;
        local = st.master;
      };
      kind = st.resolves.kind;
      handler = ap (λ (r : Replication). named l.kinds r.handler)
          (some_same (sym st.held ∙ st.resolves.held))
          ∙ st.resolves.handler;
    };
    asks = st.remembers;
  }

  -- ---- what is remembered

  -- behind a record that doesn't make the fork anew
  remembers_apart : (m : Moment) (c : Content) (st : Stands l by m)
      → MayComeBeside m.world l.name c → IsApart c m.world st.replication.fork
      → RemembersLawful (step c m.world) l.name m.asks
  remembers_apart m c st may apart =
      let k = linked_at m.world st.made l.name st.replication st.held in
      let stays = stays_grown c m.world may.lawful may.ordered st.made st.replication.fork k.fork
      k.held apart in
      let there = there_step c m.world l.name st.replication may.lawful st.held in
      for_fork (step c m.world) l.name there.now stays.new
      (λ r fork. AsksAreLawful fork.schema m.asks) there.held
      (ap (named (step c m.world).collections) there.fork ∙ stays.held)
      (subst (λ (z : Shape). AsksAreLawful z m.asks) (sym stays.grown.schema)
      (st.remembers st.replication st.held k.fork k.held))

  remembers_none : (w : World) (n : ℕ)
      → RemembersLawful w l.name (record { n = n; requests = [] })
  remembers_none w n = λ r at fork held. tt

  remembers_behind : (m : Moment) (c : Content) (st : Stands l by m)
      → MayComeBeside m.world l.name c
      → RemembersLawful (step c m.world) l.name
      (asks_behind st.replication.fork m.world c m.asks)
  remembers_behind m (collection k text) st may = remembers_apart m (collection k text) st may tt
  remembers_behind m (rows k lwt outs) st may =
      remembers_apart m (rows k lwt outs) st may tt
  remembers_behind m (replication k fork master handler field) st may =
      remembers_apart m (replication k fork master handler field) st may tt
  remembers_behind m (exchange k lwt outs known up down) st may =
      remembers_apart m (exchange k lwt outs known up down) st may tt
  remembers_behind m (epoch number) st may = remembers_none (step (epoch number) m.world) 0
  remembers_behind m (migration k text steps) st may =
      elim (is_in_group m.world.replications k st.replication.fork)
      as (λ b. is_in_group m.world.replications k st.replication.fork ≡ b
      → RemembersLawful (step (migration k text steps) m.world) l.name
      (cond b (forgotten m.asks) m.asks)) [
        | true ↦ (λ is. remembers_none (step (migration k text steps) m.world) m.asks.n)
        | false ↦ (λ isnt. remembers_apart m (migration k text steps) st may isnt)
      ] refl
  remembers_behind m c st may = absurd (true≢false (sym may.lawful))

  -- ---- an event

  module _ (m : Moment) (s : System) (st : Stands l by m)
      (shows : Shows m.asks m.world l.name s) where
    pub event_leads : (e : Event) → MayHappen l e m
        → (y : LeadsTo by s (moment_after l e m).asks (moment_after l e m).world l.name)
        × AreEventSteps l e m y.steps
    event_leads (written c) may =
        subst (λ (fork : List ℕ).
        (y : LeadsTo by s (asks_behind fork m.world c m.asks) (step c m.world) l.name)
        × (y.steps ≡ record_steps fork l.master m.world c)) st.fork
        (let led = records_are_steps m.world m.asks l.name st.replication l.master by s c st.made
        st.held st.master may shows in (
          record {
            steps = record_steps st.replication.fork l.master m.world c;
            lawful = led.0;
            shown = led.1;
          },
          refl,
        ))
    event_leads (turned x) may =
        turns_are_steps (terms_of l x) x.batch x.budget x.over m.world m.asks by s may.some
        (may_turn m x st may.sound) may.few st.resolves shows

    pub event_stands : (e : Event) → MayHappen l e m → Stands l by (moment_after l e m)
    event_stands (written c) may =
        stands_there m (moment_after l (written c) m) st
        (made_step c m.world may.lawful may.ordered st.made)
        (there_step c m.world l.name st.replication may.lawful st.held)
        (subst (λ (fork : List ℕ). RemembersLawful (step c m.world) l.name
        (asks_behind fork m.world c m.asks)) st.fork (remembers_behind m c st may))
    event_stands (turned x) may =
        let u : Turned = turned_by l x m in
        let so = may_turn m x st may.sound in
        let come : ComeSoundly m.world u.records =
        turn_sound (terms_of l x) x.batch x.budget x.over m.world m.asks may.some so in
        let in_turn = soundly_in_turn m.world u.records come in
        stands_there m (moment_after l (turned x) m) st
        (made_after m.world u.records st.made in_turn)
        (there_after u.records m.world l.name st.replication in_turn st.held)
        (turn_again (terms_of l x) x.batch x.budget x.over m.world m.asks may.some so).asks

  -- ---- several

  pub history_leads : (events : List Event) (m : Moment) (s : System) → Stands l by m
      → Shows m.asks m.world l.name s → MayHappenInTurn l events m
      → (y : LeadsTo by s (moment_behind l events m).asks (moment_behind l events m).world l.name)
      × AreHistorySteps l events m y.steps
  history_leads [] m s st shows may =
      (record { steps = []; lawful = tt; shown = shows }, refl)
  history_leads (e ∷ events) m s st shows may =
      let first = event_leads m s st shows e may.0 in
      let next : Moment = moment_after l e m in
      let rest = history_leads events next (run by first.0.steps s)
      (event_stands m s st shows e may.0) first.0.shown may.1 in (
        leads_both by s next.asks (moment_behind l events next).asks next.world
            (moment_behind l events next).world l.name first.0 rest.0,
        record {
          first = first.0.steps;
          rest = rest.0.steps;
          both = refl;
          begin = first.1;
          go_on = rest.1;
        },
      )

-- the first of lawful steps are lawful
lawful_front : (front rest : List Step) → AreLawfulSteps (front ++ rest) → AreLawfulSteps front
lawful_front [] rest lawful = tt
lawful_front (x ∷ front) rest lawful = (lawful.0, lawful_front front rest lawful.1)

-- ---- the law

module _ (k : Making) (may : MayBeMade k) where
  abbrev new : Replication
  new = new_replication k.name k.fork (Local k.master) k.handler k.field

  held_new : named (step (record_of k) k.world).replications k.name ≡ Some new
  held_new =
      named-put_named k.world.replications k.name k.name new
      ∙ ap (λ b. cond b (Some new) (named k.world.replications k.name)) (bytes_itself k.name)

  pub stands_new : Stands (lasting_of k) (resolve_of k) (beginning k)
  stands_new = record {
    made = made_step (record_of k) k.world may.lawful tt may.made;
    replication = new;
    held = held_new;
    fork = refl;
    master = refl;
    resolves = record {
      replication = new;
      held = held_new;
      kind = k.kind;
      handler = may.handler;
      is = refl;
    };
    remembers = λ r at fork held. tt;
  }

  pub begins_so : Shows (beginning k).asks (beginning k).world k.name (start_of k)
  begins_so =
      replications_begin k.world k.name k.fork k.master k.handler k.field k.fork_held
      k.master_held may.made may.lawful may.fork may.master

  abbrev keeps : KeepsKey (resolve_of k)
  keeps = resolves_keys k.kind (unwrap_or k.field [])

  holds_of : (s : System) → IsKept s → HoldsOf (resolve_of k) s
  holds_of s kept = record {
    sound = kept.sound;
    numbers = kept.differ;
    answered = λ o e r m n. (kept.good o e r m n).answered;
    quiet = kept_quiet (resolve_of k) keeps s kept;
    no_lost_update = kept_updates (resolve_of k) keeps s kept;
    pending_until_held = kept_pending (resolve_of k) keeps s kept;
  }

  fork_keys : AreByKey k.fork_held.documents
  fork_keys = by_key_at k.world may.made k.fork k.fork_held may.fork

  master_keys : AreByKey k.master_held.documents
  master_keys = by_key_at k.world may.made k.master k.master_held may.master

  holds_through : (steps : List Step) → AreLawfulSteps steps
      → HoldsThrough (resolve_of k) (start_of k) steps
  holds_through steps lawful front rest both =
      holds_of (run (resolve_of k) front (start_of k))
      (kept_run (resolve_of k) keeps front (start_of k)
      (lawful_front front rest (subst AreLawfulSteps (sym both) lawful))
      (kept_start k.fork_held k.master_held fork_keys master_keys k.world.epoch))

  passes_through : (steps : List Step) → AreLawfulSteps steps → PassesThrough k steps
  passes_through steps lawful test passing fork master front rest both pass =
      throughout test (resolve_of k) keeps passing k.fork_held k.master_held fork_keys master_keys
      fork master k.world.epoch front
      (lawful_front front rest (subst AreLawfulSteps (sym both) lawful)) pass

  history_of : (events : List Event) → MayHappenInTurn (lasting_of k) events (beginning k)
      → IsOfSteps k events (moment_behind (lasting_of k) events (beginning k))
  history_of events happen =
      let l = history_leads (lasting_of k) (resolve_of k) events (beginning k) (start_of k)
      stands_new begins_so happen in
      record {
        leads = l.0;
        so = l.1;
        holds = holds_through l.0.steps l.0.lawful;
        throughout = passes_through l.0.steps l.0.lawful;
      }

pub histories_are_steps : HistoriesAreSteps
histories_are_steps k may events happen = history_of k may events happen
