-- The lines of a script are events of a history.
use Rattle.std.proofs.Common.{◌≡◌, ◌≢◌, ◌∙◌, ℕ, ◌+◌, Bool, true, false, cond, List, [], ◌∷◌, ◌++◌, map, Option, Some, unwrap_or, refl, sym, ap, subst}
use Rattle.std.specs.Option.{option_map_or}
use Rattle.std.specs.Str.{bytes_eq}
use Rattle.rx_value.specs.Named.{named, put_named}
use Rattle.rx_value.proofs.Bytes.{bytes_apart, bytes_differ, bytes_itself, bytes_same}
use Rattle.rx_value.proofs.Named.{named-put_named}
use Rattle.rx_value.proofs.Outcomes.{some_same}
use Rattle.rx_record.specs.Content.{Content, collection, rows, replication, exchange, epoch, migration}
use Rattle.rx_record.specs.Writable.{IsOrdered}
use Rattle.rx_record.specs.declared.record.MasterName.TheVariants.{Local, Port}
use Rattle.rx_replication.specs.Steps.{System, run}
use Rattle.rx_replication.specs.Taking.{Resolve}
use Rattle.rx_reply.specs.declared.turn.TurnEnd.{TurnEnd}
use Rattle.rx_reply.specs.declared.turn.TurnEnd.TheVariants.{Quiet, Lost, Clock, More}
use Rattle.rx_script.specs.declared.happening.Happening.{Happening}
use Rattle.rx_session.specs.Doing.{Doing, MayDo, nothing, set_clock, write, migrate, watch, unwatch, attach, open_stream, close_stream, restart, session_after, with_emptied}
use Rattle.rx_session.specs.Session.{Session, queued_in}
use Rattle.rx_sync.specs.Asks.{Asks, asks_of, forgotten, no_asks}
use Rattle.rx_sync.specs.Exchange.{Terms, world_after}
use Rattle.rx_sync.specs.Sweep.{Sweep, Swept, sweep, swept_on, turn_in}
use Rattle.rx_sync.specs.Turn.{Turned, turn}
use Rattle.rx_sync.specs.declared.sweeping.Step.{Step as SweepStep}
use Rattle.rx_sync.proofs.Deliveries.{delivery_sound}
use Rattle.rx_sync.proofs.Elsewhere.{remote_turn_sound}
use Rattle.rx_sync.proofs.Staying.{soundly_in_turn}
use Rattle.rx_sync.proofs.Turns.{turn_sound}
use Rattle.rx_sync.proofs.Worlds.{after-append}
use Rattle.rx_world.specs.Migrating.{is_in_group}
use Rattle.rx_world.specs.Step.{legal, step}
use Rattle.rx_world.specs.World.{World}
use Rattle.rx_world.specs.declared.replication.Replication.{Replication}
use Rattle.rx_world.proofs.Steps.{epoch_legal}
use Rattle.rx_engine.specs.Calling.{WantedCall, called}
use Rattle.rx_engine.specs.Lines.{Task, answered, turns, calls, sweeps, delivers, task}
use Rattle.rx_engine.specs.Meaning.{asks_kept, meaning, records_of, task_meaning}
use Rattle.rx_engine.specs.Opening.{opened}
use Rattle.rx_engine.specs.Standing.{Standing, forgotten_where, is_of_group}
use Rattle.rx_engine.specs.Streams.{WantedDelivery, delivered_by}
use Rattle.rx_engine.specs.Sweeping.{is_quiet, swept, sweep_by}
use Rattle.rx_engine.specs.Turning.{terms, turned as made_turn, written as after_records}
use Rattle.rx_steps.specs.History.{Event, IsOfSteps, Lasting, MayHappenInTurn, Moment, TurnEvent, beginning, lasting_of, moment_after, moment_behind, resolve_of, start_of, turned, turned_by, written}
use Rattle.rx_steps.specs.Records.{asks_behind}
use Rattle.rx_steps.specs.Scripts.{IsHeldIn, LinesAreEvents, MayBeCalled, MayBeDelivered, MayBeTurnedIn, MayBePlayed, MayBePlayedInTurn, MayBeSwept, OpeningsAreEvents, ScriptsAreHistories, moment_of, script_events, standing_behind, sweep_events, task_events, turn_events, turn_of, turn_of_sweep}
use Rattle.rx_steps.specs.Shows.{Shows}
use Rattle.rx_steps.proofs.Beside.{IsOfTurn, MayComeInTurnBeside, come_beside, of_call, of_delivery, of_turn}
use Rattle.rx_steps.proofs.Histories.{Stands, begins_so, event_leads, event_stands, histories_are_steps, history_leads, stands_new}
use Rattle.rx_steps.proofs.Outcomes.{IsOfLine, TaskWrites, WritesSo, line_writes}

-- ---- what is remembered

-- where some requests are forgotten
forgotten_at : (chosen : List ℕ → Bool) (asks : List (List ℕ × Asks)) (name : List ℕ)
    → asks_of name (map (forgotten_where chosen) asks)
    ≡ cond (chosen name) (forgotten (asks_of name asks)) (asks_of name asks)
forgotten_at chosen [] name =
    elim (chosen name) as (λ b. no_asks ≡ cond b (forgotten no_asks) no_asks)
    [ true ↦ refl | false ↦ refl ]
forgotten_at chosen (e ∷ es) name =
    let later = named (map (forgotten_where chosen) es) name in
    ap (λ (k : List ℕ). unwrap_or (cond (bytes_eq name k) (Some (forgotten_where chosen e).1)
    later) no_asks) (same_name (chosen e.0))
    ∙ ap (λ (a : Asks). unwrap_or (cond (bytes_eq name e.0) (Some a) later) no_asks)
    (same_asks (chosen e.0))
    ∙ by (bytes_eq name e.0) refl (forgotten_at chosen es name)
  where
    same_name : (b : Bool) → (cond b (e.0, forgotten e.1) e).0 ≡ e.0
    same_name true = refl
    same_name false = refl

    same_asks : (b : Bool) → (cond b (e.0, forgotten e.1) e).1 ≡ cond b (forgotten e.1) e.1
    same_asks true = refl
    same_asks false = refl

    by : (b : Bool) → bytes_eq name e.0 ≡ b
        → asks_of name (map (forgotten_where chosen) es)
        ≡ cond (chosen name) (forgotten (asks_of name es)) (asks_of name es)
        → unwrap_or (cond b (Some (cond (chosen e.0) (forgotten e.1) e.1))
        (named (map (forgotten_where chosen) es) name)) no_asks
        ≡ cond (chosen name)
        (forgotten (unwrap_or (cond b (Some e.1) (named es name)) no_asks))
        (unwrap_or (cond b (Some e.1) (named es name)) no_asks)
    by true is rest =
        ap (λ (k : List ℕ). cond (chosen k) (forgotten e.1) e.1) (sym (bytes_same name e.0 is))
    by false is rest = rest

-- requests that were put are found by their name
put_at : (asks : List (List ℕ × Asks)) (k name : List ℕ) (a : Asks) → k ≡ name
    → asks_of name (put_named asks k a) ≡ a
put_at asks k name a same =
    ap (λ (o : Option Asks). unwrap_or o no_asks)
    (named-put_named asks k name a
    ∙ ap (λ (b : Bool). cond b (Some a) (named asks name))
    (ap (bytes_eq name) same ∙ bytes_itself name))

-- and leave the others
put_beside : (asks : List (List ℕ × Asks)) (k name : List ℕ) (a : Asks) → k ≢ name
    → asks_of name (put_named asks k a) ≡ asks_of name asks
put_beside asks k name a other =
    ap (λ (o : Option Asks). unwrap_or o no_asks)
    (named-put_named asks k name a
    ∙ ap (λ (b : Bool). cond b (Some a) (named asks name))
    (bytes_apart name k (λ same. other (sym same))))

-- ---- records of a session

session-world : (cs : List Content) (s : Session)
    → (after_records cs s).world ≡ world_after cs s.world
session-world [] s = refl
session-world (c ∷ cs) s = session-world cs (session_after (write c) s)

module _ (l : Lasting) where
  -- the events may happen from one moment on, and lead to another
  abbrev Leads : List Event → Moment → Moment → Type 0
  Leads es m n = MayHappenInTurn l es m × (moment_behind l es m ≡ n)

  leads_append : (es fs : List Event) (m n o : Moment) → Leads es m n → Leads fs n o
      → Leads (es ++ fs) m o
  leads_append [] fs m n o first rest =
      subst (λ (x : Moment). Leads fs x o) (sym first.1) rest
  leads_append (e ∷ es) fs m n o first rest =
      let more = leads_append es fs (moment_after l e m) n o (first.0.1, first.1) rest in
      ((first.0.0, more.0), more.1)

  -- ---- records beside the replication

  asks_same : (c : Content) → IsOfTurn c → (w : World) (a : Asks) → asks_behind l.fork w c a ≡ a
  asks_same (rows k lwt outs) is w a = refl
  asks_same (exchange k lwt outs known up down) is w a = refl
  asks_same c is w a = absurd is

  records_lead : (cs : List Content) (w : World) (a : Asks) → MayComeInTurnBeside l.name w cs
      → Leads (map written cs) (record { world = w; asks = a })
      (record { world = world_after cs w; asks = a })
  records_lead [] w a come = (tt, refl)
  records_lead (c ∷ cs) w a come =
      let rest = subst (λ (b : Asks). Leads (map written cs)
      (record { world = step c w; asks = b })
      (record { world = world_after cs (step c w); asks = a }))
      (sym (asks_same c come.1 w a)) (records_lead cs (step c w) a come.2) in
      ((come.0, rest.0), rest.1)

  -- ---- what a line does

  write_leads : (c : Content) (w : World) (a : Asks) → legal c w ≡ true → IsOrdered c
      → IsOfLine c
      → Leads (written c ∷ []) (record { world = w; asks = a })
      (record { world = step c w; asks = a })
  write_leads (collection k schema) w a may ordered is =
      ((record { lawful = may; ordered = ordered; beside = tt }, tt), refl)
  write_leads (rows k lwt outs) w a may ordered is =
      ((record { lawful = may; ordered = ordered; beside = tt }, tt), refl)
  write_leads (replication k fork master handler field) w a may ordered is =
      ((record { lawful = may; ordered = ordered; beside = tt }, tt), refl)
  write_leads c w a may ordered is = absurd is

  in_its_group : (in_group : List ℕ → Bool) (w : World) → IsHeldIn l w
      → is_of_group in_group w.replications l.name ≡ in_group l.fork
  in_its_group in_group w has =
      ap (λ (o : Option Replication). option_map_or (λ r. in_group r.fork) o false) has.held
      ∙ ap in_group has.fork

  migrate_leads : (c : Content) (s : Standing) → MayDo (migrate c) s.session
      → IsHeldIn l s.session.world
      → Leads (written c ∷ []) (moment_of l s) (record {
        world = step c s.session.world;
        asks = asks_of l.name (asks_kept (migrate c) s.session.world s.asks);
      })
  migrate_leads (migration k text steps) s may has =
      let w = s.session.world in
      let asks = asks_of l.name s.asks in
      let in_group = is_in_group w.replications k in (
        (record { lawful = may.0; ordered = tt; beside = tt }, tt),
        ap (λ (a : Asks). record { world = step (migration k text steps) w; asks = a })
            (sym (forgotten_at (is_of_group in_group w.replications) s.asks l.name
            ∙ ap (λ (b : Bool). cond b (forgotten asks) asks) (in_its_group in_group w has))),
      )
  migrate_leads c s may has = absurd may.1

  doing_leads : (d : Doing) (s : Standing) → WritesSo d → MayDo d s.session
      → IsHeldIn l s.session.world
      → Leads (map written (records_of d)) (moment_of l s) (record {
        world = (session_after d s.session).world;
        asks = asks_of l.name (asks_kept d s.session.world s.asks);
      })
  doing_leads nothing s writes may has = (tt, refl)
  doing_leads (set_clock at) s writes may has = (tt, refl)
  doing_leads (write c) s writes may has =
      write_leads c s.session.world (asks_of l.name s.asks) may.0 may.1 writes
  doing_leads (migrate c) s writes may has = migrate_leads c s may has
  doing_leads (watch name coll q) s writes may has = (tt, refl)
  doing_leads (unwatch name) s writes may has = (tt, refl)
  doing_leads (attach one) s writes may has = (tt, refl)
  doing_leads (open_stream name master) s writes may has = (tt, refl)
  doing_leads (close_stream name) s writes may has = (tt, refl)
  doing_leads (restart number) s writes may has =
      let w = s.session.world in
      let lawful : legal (epoch number) w ≡ true =
      ap (λ (n : ℕ). legal (epoch n) w) may ∙ epoch_legal w in
      ((record { lawful = lawful; ordered = tt; beside = tt }, tt), refl)

  -- ---- a turn

  module _ (t : Terms) (batch budget : ℕ) (over : List Happening) (w : World)
      (asks : List (List ℕ × Asks)) (kinds : t.kinds ≡ l.kinds)
      (may : MayBeTurnedIn l t batch budget w asks) where
    abbrev u : Turned
    u = turn t batch budget over w (asks_of t.name asks)

    abbrev x : TurnEvent
    x = record { batch = batch; budget = budget; over = over; now = t.now }

    abbrev then_asks : Asks
    then_asks = asks_of l.name (put_named asks t.name u.asks)

    abbrev first : Moment
    first = record { world = w; asks = asks_of l.name asks }

    abbrev last : Moment
    last = record { world = world_after u.records w; asks = then_asks }

    own_leads : t.name ≡ l.name → Leads (turned x ∷ []) first last
    own_leads its =
        let same : turned_by l x first ≡ u =
        λ i. turn (record { name = sym its i; now = t.now; kinds = sym kinds i }) batch budget over
        w (asks_of (sym its i) asks) in (
          (record { some = may.some; sound = may.may.ready.sound; few = may.few its }, tt),
          (λ i. record { world = world_after (same i).records w; asks = (same i).asks })
              ∙ ap (λ (a : Asks). record { world = world_after u.records w; asks = a })
              (sym (put_at asks t.name l.name u.asks its)),
        )

    other_leads : t.name ≢ l.name → Leads (map written u.records) first last
    other_leads other =
        let come = turn_sound t batch budget over w (asks_of t.name asks) may.some may.may in
        let r = records_lead u.records w (asks_of l.name asks)
        (come_beside t.name l.name other u.records w
        (of_turn t batch budget over w (asks_of t.name asks))
        (soundly_in_turn w u.records come)) in (
          r.0,
          r.1 ∙ ap (λ (a : Asks). record { world = world_after u.records w; asks = a })
              (sym (put_beside asks t.name l.name u.asks other)),
        )

    turn_leads : Leads (turn_events l t.name x u.records) first last
    turn_leads =
        elim (bytes_eq t.name l.name) as (λ b. bytes_eq t.name l.name ≡ b
        → Leads (cond b (turned x ∷ []) (map written u.records)) first last) [
          | true ↦ (λ is. own_leads (bytes_same t.name l.name is))
          | false ↦ (λ is. other_leads (bytes_differ t.name l.name is))
        ] refl

  -- ---- a turn to a master elsewhere

  here_not_there : (name : List ℕ) (port : ℕ) → Local name ≡ Port port → ⊥
  here_not_there name port is = absurd (cc)

  call_leads : (c : WantedCall) (s : Standing) → IsHeldIn l s.session.world → MayBeCalled c s
      → Leads (map written (called c s).turned.records) (moment_of l s) (record {
        world = world_after (called c s).turned.records s.session.world;
        asks = asks_of l.name (put_named s.asks c.name (called c s).turned.asks);
      })
  call_leads c s has may =
      let w = s.session.world in
      let t : Terms = terms c.name s.session.moment s.kinds in
      let a : Asks = asks_of c.name s.asks in
      let u : Turned = (called c s).turned in
      let there = may.may.ready.there in
      let other : c.name ≢ l.name =
      λ same.
      let one : there.replication ≡ has.replication =
      some_same (sym there.held ∙ ap (named w.replications) same ∙ has.held) in
      here_not_there l.master there.port
      (sym has.master ∙ ap (λ (r : Replication). r.master) (sym one) ∙ there.remote) in
      let come = remote_turn_sound t c.batch c.budget s.heard w a may.some may.may in
      let r = records_lead u.records w (asks_of l.name s.asks)
      (come_beside c.name l.name other u.records w (of_call t c.batch c.budget s.heard w a)
      (soundly_in_turn w u.records come)) in (
        r.0,
        r.1 ∙ ap (λ (a : Asks). record { world = world_after u.records w; asks = a })
            (sym (put_beside s.asks c.name l.name u.asks other)),
      )

  -- ---- a sweep

  module _ (v : Sweep) (kinds : v.kinds ≡ l.kinds) where
    abbrev AfterSweep : World → List (List ℕ × Asks) → Swept → Moment
    AfterSweep w asks t = record { world = world_after t.records w; asks = asks_of l.name t.asks }

    -- what comes behind a turn
    later_leads : (end : TurnEnd) (w : World) (asks : List (List ℕ × Asks)) (rest : Swept)
        (es : List Event)
        → (end ≡ Quiet → Leads es (record { world = w; asks = asks_of l.name asks })
        (AfterSweep w asks rest))
        → Leads (cond (is_quiet end) es []) (record { world = w; asks = asks_of l.name asks })
        (AfterSweep w asks (swept_on end asks rest))
    later_leads Quiet w asks rest es goes = goes refl
    later_leads Lost w asks rest es goes = (tt, refl)
    later_leads Clock w asks rest es goes = (tt, refl)
    later_leads More w asks rest es goes = (tt, refl)

    sweep_leads : (xs : List SweepStep) (w : World) (asks : List (List ℕ × Asks))
        → MayBeSwept l v xs w asks
        → Leads (sweep_events l v xs w asks) (record { world = w; asks = asks_of l.name asks })
        (AfterSweep w asks (sweep v xs w asks))
    sweep_leads [] w asks may = (tt, refl)
    sweep_leads (x ∷ xs) w asks may =
        let t : Turned = turn_in v x.name w asks in
        let then = put_named asks x.name t.asks in
        let next = world_after t.records w in
        let rest : Swept = sweep v xs next then in
        let es : List Event = sweep_events l v xs next then in
        let later = later_leads t.ended next then rest es
        (λ is. sweep_leads xs next then (may.1 is)) in
        let on : Swept = swept_on t.ended then rest in
        let both = leads_append (turn_events l x.name (turn_of_sweep v) t.records)
        (cond (is_quiet t.ended) es []) (record { world = w; asks = asks_of l.name asks })
        (record { world = next; asks = asks_of l.name then }) (AfterSweep next then on)
        (turn_leads (terms x.name v.now v.kinds) v.batch v.budget [] w asks kinds may.0) later in (
          both.0,
          both.1 ∙ ap (λ (z : World). record { world = z; asks = asks_of l.name on.asks })
              (sym (after-append t.records on.records w)),
        )

  -- ---- a delivery

  delivery_leads : (d : WantedDelivery) (s : Standing) → MayBeDelivered l d s
      → Leads (map written (delivered_by d s.session).records) (moment_of l s) (record {
        world = world_after (delivered_by d s.session).records s.session.world;
        asks = asks_of l.name s.asks;
      })
  delivery_leads d s may =
      let w = s.session.world in
      let es = queued_in d.name s.session in
      let cs : List Content = (delivered_by d s.session).records in
      elim (bytes_eq d.name l.name) as (λ b. bytes_eq d.name l.name ≡ b
      → Leads (map written cs) (moment_of l s)
      (record { world = world_after cs w; asks = asks_of l.name s.asks })) [
        | true ↦ (λ is.
            subst (λ (cs : List Content). Leads (map written cs) (moment_of l s)
            (record { world = world_after cs w; asks = asks_of l.name s.asks }))
            (sym (may.none (bytes_same d.name l.name is))) (tt, refl))
        | false ↦ (λ is.
            records_lead cs w (asks_of l.name s.asks)
            (come_beside d.name l.name (bytes_differ d.name l.name is) cs w
            (of_delivery d.name s.session.moment 1 d.link es w)
            (soundly_in_turn w cs
            (delivery_sound d.name s.session.moment 1 d.link es w may.may))))
      ] refl

  -- ---- a line

  -- behind the records of a session
  in_session : (es : List Event) (s : Standing) (cs : List Content) (a : Asks) (q : Session)
      → q.world ≡ s.session.world
      → Leads es (moment_of l s) (record { world = world_after cs s.session.world; asks = a })
      → Leads es (moment_of l s) (record { world = (after_records cs q).world; asks = a })
  in_session es s cs a q same leads =
      subst (λ (z : World). Leads es (moment_of l s) (record { world = z; asks = a }))
      (ap (world_after cs) (sym same) ∙ sym (session-world cs q)) leads

  task_leads : (n : ℕ) (t : Task) (s : Standing) → s.kinds ≡ l.kinds → IsHeldIn l s.session.world
      → TaskWrites t → MayBePlayed l t s
      → Leads (task_events l t (task_meaning n t s) s) (moment_of l s)
      (moment_of l (task_meaning n t s).next)
  task_leads n (answered o) s kinds has writes may = doing_leads o.doing s writes may has
  task_leads n (turns u) s kinds has writes may =
      let t : Turned = made_turn u s in
      in_session (turn_events l u.name (turn_of u s) t.records) s t.records
      (asks_of l.name (put_named s.asks u.name t.asks)) s.session refl
      (turn_leads (terms u.name s.session.moment s.kinds) u.batch u.budget u.link s.session.world
      s.asks kinds may)
  task_leads n (calls c) s kinds has writes may =
      let t : Turned = (called c s).turned in
      in_session (map written t.records) s t.records
      (asks_of l.name (put_named s.asks c.name t.asks)) s.session refl (call_leads c s has may)
  task_leads n (sweeps v) s kinds has writes may =
      let t : Swept = swept v s in
      in_session (sweep_events l (sweep_by v s) v.steps s.session.world s.asks) s t.records
      (asks_of l.name t.asks) s.session refl
      (sweep_leads (sweep_by v s) kinds v.steps s.session.world s.asks may)
  task_leads n (delivers d) s kinds has writes may =
      let cs : List Content = (delivered_by d s.session).records in
      in_session (map written cs) s cs (asks_of l.name s.asks) (with_emptied d.name s.session) refl
      (delivery_leads d s may)

pub lines_are_events : LinesAreEvents
unfolding meaning
lines_are_events l n line s kinds has may =
    task_leads l n (task s.kinds line s.session) s kinds has
    (line_writes s.kinds line s.session) may

pub openings_are_events : OpeningsAreEvents
unfolding opened
openings_are_events l host heard m = refl

-- ---- lines one after another

kinds_kept : (n : ℕ) (t : Task) (s : Standing) → (task_meaning n t s).next.kinds ≡ s.kinds
kinds_kept n (answered o) s = refl
kinds_kept n (turns u) s = refl
kinds_kept n (calls c) s = refl
kinds_kept n (sweeps v) s = refl
kinds_kept n (delivers d) s = refl

kinds_then : (n : ℕ) (line : List ℕ) (s : Standing) → (meaning n line s).next.kinds ≡ s.kinds
unfolding meaning
kinds_then n line s = kinds_kept n (task s.kinds line s.session) s

module _ (l : Lasting) (by : Resolve) where
  stands_behind : (es : List Event) (m : Moment) (x : System) → Stands l by m
      → Shows m.asks m.world l.name x → MayHappenInTurn l es m
      → Stands l by (moment_behind l es m)
  stands_behind [] m x st shows may = st
  stands_behind (e ∷ es) m x st shows may =
      let first = event_leads l by m x st shows e may.0 in
      stands_behind es (moment_after l e m) (run by first.0.steps x)
      (event_stands l by m x st shows e may.0) first.0.shown may.1

  held_so : (m : Moment) → Stands l by m → IsHeldIn l m.world
  held_so m st = record {
    replication = st.replication;
    held = st.held;
    fork = st.fork;
    master = st.master;
  }

  script_leads : (lines : List (List ℕ)) (n : ℕ) (s : Standing) (x : System) → s.kinds ≡ l.kinds
      → Stands l by (moment_of l s) → Shows (moment_of l s).asks (moment_of l s).world l.name x
      → MayBePlayedInTurn l n lines s
      → Leads l (script_events l n lines s) (moment_of l s)
      (moment_of l (standing_behind n lines s))
  script_leads [] n s x kinds st shows may = (tt, refl)
  script_leads (line ∷ lines) n s x kinds st shows may =
      let m : Moment = moment_of l s in
      let first = lines_are_events l n line s kinds (held_so m st) may.0 in
      let es : List Event = task_events l (task s.kinds line s.session) (meaning n line s) s in
      let next : Standing = (meaning n line s).next in
      let led = history_leads l by es m x st shows first.0 in
      let y : System = run by led.0.steps x in
      let rest = script_leads lines (n + 1) next y (kinds_then n line s ∙ kinds)
      (subst (λ (v : Moment). Stands l by v) first.1 (stands_behind es m x st shows first.0))
      (subst (λ (v : Moment). Shows v.asks v.world l.name y) first.1 led.0.shown) may.1 in
      leads_append l es (script_events l (n + 1) lines next) m (moment_of l next)
      (moment_of l (standing_behind (n + 1) lines next)) first rest

pub scripts_are_histories : ScriptsAreHistories
scripts_are_histories k may before happen n lines s kinds same play =
    let l : Lasting = lasting_of k in
    let by : Resolve = resolve_of k in
    let m : Moment = beginning k in
    let st = stands_new k may in
    let led = history_leads l by before m (start_of k) st (begins_so k may) happen in
    let x : System = run by led.0.steps (start_of k) in
    let all = leads_append l before (script_events l n lines s) m (moment_of l s)
    (moment_of l (standing_behind n lines s)) (happen, same)
    (script_leads l by lines n s x kinds
    (subst (λ (v : Moment). Stands l by v) same
    (stands_behind l by before m (start_of k) st (begins_so k may) happen))
    (subst (λ (v : Moment). Shows v.asks v.world l.name x) same led.0.shown) play) in
    subst (λ (v : Moment). IsOfSteps k (before ++ script_events l n lines s) v) all.1
    (histories_are_steps k may (before ++ script_events l n lines s) all.0)
