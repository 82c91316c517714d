-- Where a sweep ends quiet, each collection of the tree equals its root.
use Rattle.std.proofs.Common.{◌≡◌, ◌≢◌, ◌∙◌, ℕ, suc, ◌≤◌, List, [], ◌∷◌, ◌++◌, map, length, Option, Some, refl, sym, ap, subst, arith, append-nil}
use Rattle.std.proofs.lemmas.Slice.Eq.{bytes_eq-Decides}
use Rattle.std.specs.Prelude.{option_and_then}
use Rattle.std.specs.List.{AllByRecursion}
use Rattle.std.specs.Str.{bytes_eq}
use Rattle.rx_value.specs.Due.{◌>>=◌}
use Rattle.rx_value.specs.Named.{named, put_named}
use Rattle.rx_value.specs.declared.state.State.{State}
use Rattle.rx_value.proofs.Outcomes.{some_same}
use Rattle.rx_collection.specs.Held.{Held}
use Rattle.rx_record.specs.declared.record.MasterName.TheVariants.{Local, Port}
use Rattle.rx_replication.specs.Known.{pending}
use Rattle.rx_replication.specs.Write.{state_at}
use Rattle.rx_reply.specs.declared.swept.Pass.{Pass}
use Rattle.rx_reply.specs.declared.swept.Pass.TheVariants.{Up, Down}
use Rattle.rx_reply.specs.declared.turn.TurnEnd.TheVariants.{Quiet, Lost, Clock, More}
use Rattle.rx_tree.specs.Forest.{Reaches, climbed, master_of}
use Rattle.rx_tree.specs.Orders.{levels_down, levels_up}
use Rattle.rx_world.specs.Chain.{Forks, fork_before, forest_of}
use Rattle.rx_world.specs.World.{World, Replications}
use Rattle.rx_world.specs.declared.replication.Replication.{Replication}
use Rattle.rx_sync.specs.Asking.{fork_in, pending_in}
use Rattle.rx_sync.specs.Asks.{Asks, asks_of}
use Rattle.rx_sync.specs.Exchange.{Terms, world_after}
use Rattle.rx_sync.specs.Laws.{ComeSoundly, IsReady, MayTurn, RemembersLawful}
use Rattle.rx_sync.specs.Sweep.{AreEqualIn, HasHandler, MaySweep, QuietSweepIsEqual, Sweep, forks_in, replication_of, steps_of, sweep, sweep_from, swept_on, turn_in}
use Rattle.rx_sync.specs.declared.sweeping.Step.{Step}
use Rattle.rx_sync.specs.Turn.{Turned}
use Rattle.rx_sync.proofs.Ends.{ends_of}
use Rattle.rx_sync.proofs.Forks.{are_forks, found_in}
use Rattle.rx_sync.proofs.Staying.{IsStillThere, ready_after, ready_after-fork, ready_after-master, soundly_in_turn, stay_after, still_after}
use Rattle.rx_sync.proofs.SweptTurns.{may_then}
use Rattle.rx_sync.proofs.Turns.{turn_quiet, turn_sound}
use Rattle.rx_sync.proofs.Untouched.{exchanges_within, unlearnt, untouched}
use Rattle.rx_tree.proofs.Walks.{AllQuiet, AreTurns, all_parts, of_below, walk_ends_equal, walked}
use Rattle.rx_sync.proofs.Within.{turn_idle, turn_settles, turn_within}
use Rattle.rx_sync.proofs.Worlds.{after-append}

-- a world, and what is remembered of requests beside it
abbrev pub Standing : Type 0
Standing = World × List (List ℕ × Asks)

module _ (s : Sweep) (some : 1 ≤ s.batch) (first : World) where
  -- a fork's replication
  abbrev pub called : List ℕ → List ℕ
  called c = replication_of first.replications c

  abbrev pub terms_of : List ℕ → Terms
  terms_of c = record { name = called c; now = s.now; kinds = s.kinds }

  abbrev pub turned : List ℕ → Standing → Turned
  turned c at = turn_in s (called c) at.0 at.1

  abbrev pub step_of : List ℕ → Standing → Standing
  step_of c at =
      (world_after (turned c at).records at.0, put_named at.1 (called c) (turned c at).asks)

  abbrev pub IsQuiet : List ℕ → Standing → Type 0
  IsQuiet c at = (turned c at).ended ≡ Quiet

  -- ---- a sweep is a walk

  -- the turns of forks, each on its way
  abbrev pub stepped : List (Pass × List ℕ) → List Step
  stepped ps = map (λ p. record { pass = p.0; name = called p.1 }) ps

  pub sweep_walked : (ps : List (Pass × List ℕ)) (w : World) (asks : List (List ℕ × Asks))
      → (sweep s (stepped ps) w asks).ended ≡ Quiet
      → AllQuiet step_of IsQuiet (map (λ p. p.1) ps) (w, asks)
      × (world_after (sweep s (stepped ps) w asks).records w
      ≡ (walked step_of IsQuiet (map (λ p. p.1) ps) (w, asks)).0)
  sweep_walked [] w asks is = (tt, refl)
  sweep_walked (p ∷ ps) w asks ended =
      let cs = map (λ (q : Pass × List ℕ). q.1) ps in
      let t = turned p.1 (w, asks) in
      let then = put_named asks (called p.1) t.asks in
      let rest = sweep s (stepped ps) (world_after t.records w) then in
      (elim t.ended as (λ e. t.ended ≡ e → (swept_on e then rest).ended ≡ Quiet
      → (IsQuiet p.1 (w, asks) × AllQuiet step_of IsQuiet cs (world_after t.records w, then))
      × (world_after (t.records ++ (swept_on e then rest).records) w
      ≡ (walked step_of IsQuiet cs (world_after t.records w, then)).0)) [
        | Quiet ↦ (λ quiet is.
            let more = sweep_walked ps (world_after t.records w) then is in
            ((quiet, more.0), after-append t.records rest.records w ∙ more.1))
        | Lost ↦ (λ quiet is. absurd (cc))
        | Clock ↦ (λ quiet is. absurd (cc))
        | More ↦ (λ quiet is. absurd (cc))
      ]) refl ended

  -- ---- where each replication of the tree may make a turn

  -- the replication of a fork may, and these are its ends
  pub record IsReadyFor (c n : List ℕ) (at : Standing) : Type 0 where
    pub ready : IsReady at.0 (called c) s.kinds
    pub fork : ready.here.replication.fork ≡ c
    pub master : ready.here.master ≡ n
    pub asks : RemembersLawful at.0 (called c) (asks_of (called c) at.1)

  abbrev pub may_turn : (c n : List ℕ) (at : Standing) → IsReadyFor c n at
      → MayTurn (terms_of c) at.0 (asks_of (called c) at.1)
  may_turn c n at is = record { ready = is.ready; asks = is.asks }

  -- nothing of a fork is to be pushed
  record IsSettled (at : Standing) (y : List ℕ) : Type 0 where
    replication : Replication
    held : named at.0.replications (called y) ≡ Some replication
    fork : replication.fork ≡ y
    none : pending_in at.0 (called y) ≡ Some 0

  -- the state of a collection at a key, where it is held
  abbrev state_of : Option Held → List ℕ → Option State
  state_of o key = option_and_then (λ (c : Held). state_at c.documents key) o

  abbrev AreEqual : Standing → List ℕ → List ℕ → Type 0
  AreEqual at a b =
      (key : List ℕ)
      → state_of (named at.0.collections a) key ≡ state_of (named at.0.collections b) key

  -- how many documents are to be pushed, by the fork
  abbrev pending_of : Replication → Option Held → Option ℕ
  pending_of r o = o >>= λ fork. Some (length (pending fork.documents r.side.known))

  pending_by : (w : World) (name : List ℕ) (r : Replication) (o : Option Held)
      → named w.replications name ≡ Some r → named w.collections r.fork ≡ o
      → pending_in w name ≡ pending_of r o
  pending_by w name r o held is =
      ap (λ (x : Option Replication). x >>= λ q. fork_in w q >>= λ fork.
      Some (length (pending fork.documents q.side.known))) held
      ∙ ap (pending_of r) is

  module _ (c n : List ℕ) (at : Standing) (is : IsReadyFor c n at) where
    abbrev t : Turned
    t = turned c at

    abbrev then : World
    then = world_after t.records at.0

    abbrev may : MayTurn (terms_of c) at.0 (asks_of (called c) at.1)
    may = may_turn c n at is

    abbrev here : Replication
    here = is.ready.here.replication

    pub come : ComeSoundly at.0 t.records
    come = turn_sound (terms_of c) s.batch s.budget [] at.0 (asks_of (called c) at.1) some may

    pub still : IsStillThere then (called c) here
    still =
        still_after t.records at.0 (called c) here (soundly_in_turn at.0 t.records come)
        is.ready.here.held

    pub one_writes : (y : List ℕ) → y ≢ c → y ≢ n
        → named then.collections y ≡ named at.0.collections y
    one_writes y other apart =
        untouched (called c) is.ready.here.master t.records at.0 here is.ready.here.held
        (turn_within (terms_of c) s.batch s.budget at.0 (asks_of (called c) at.1) some may
        is.ready.here.master refl) y
        (λ same. apart (same ∙ is.master)) (λ same. other (same ∙ is.fork))

    one_idle : (y : List ℕ) → IsSettled at c → y ≢ c
        → named then.collections y ≡ named at.0.collections y
    one_idle y settled other =
        untouched (called c) here.fork t.records at.0 here is.ready.here.held
        (exchanges_within (called c) here.fork t.records
        (turn_idle (terms_of c) s.batch s.budget at.0
        (asks_of (called c) at.1) some may settled.none))
        y (λ same. other (same ∙ is.fork)) (λ same. other (same ∙ is.fork))

    one_keeps : (y : List ℕ) → y ≢ c → y ≢ n → IsSettled at y → IsSettled (step_of c at) y
    one_keeps y other apart settled =
        let name_other : called y ≢ called c =
        λ same. other (sym settled.fork
        ∙ ap (λ (r : Replication). r.fork)
        (some_same (sym settled.held ∙ ap (named at.0.replications) same ∙ is.ready.here.held))
        ∙ is.fork) in
        let stays = unlearnt (called c) is.ready.here.master t.records at.0 here is.ready.here.held
        (turn_within (terms_of c) s.batch s.budget at.0 (asks_of (called c) at.1) some may
        is.ready.here.master refl) (called y)
        name_other in
        let r = settled.replication in
        let held_then = stays ∙ settled.held in
        record {
          replication = r;
          held = held_then;
          fork = settled.fork;
          none = pending_by then (called y) r (named then.collections r.fork) held_then refl
              ∙ ap (pending_of r)
              (ap (named then.collections) settled.fork ∙ one_writes y other apart
              ∙ ap (named at.0.collections) (sym settled.fork))
              ∙ sym (pending_by at.0 (called y) r (named at.0.collections r.fork) settled.held refl)
              ∙ settled.none;
        }

    one_settles : IsQuiet c at → IsSettled (step_of c at) c
    one_settles quiet = record {
      replication = still.now;
      held = still.held;
      fork = still.fork ∙ is.fork;
      none =
          turn_settles (terms_of c) s.batch s.budget at.0 (asks_of (called c) at.1) some may quiet;
    }

    -- each replication of the tree may make a turn again
    pub one_ready : (d k : List ℕ) → IsReadyFor d k at → IsReadyFor d k (step_of c at)
    one_ready d k other = record {
      ready = ready_after t.records at.0 (called d) s.kinds other.ready come;
      fork = ready_after-fork t.records at.0 (called d) s.kinds other.ready come ∙ other.fork;
      master =
          ready_after-master t.records at.0 (called d) s.kinds other.ready come ∙ other.master;
      asks = (may_then s some (called c) (called d) at.0 at.1 may
          (record { ready = other.ready; asks = other.asks })).asks;
    }

    -- fork and master are equal then
    one_equal : IsQuiet c at → AreEqual (step_of c at) c n
    one_equal quiet key =
        let e = ends_of at.0 (called c) s.kinds is.ready in
        let held = stay_after t.records at.0 (soundly_in_turn at.0 t.records come) in
        let x = held.held here.fork e.fork e.held in
        let y = held.held is.ready.here.master e.master e.there in
        let level = turn_quiet (terms_of c) s.batch s.budget [] at.0
        (asks_of (called c) at.1) some may
        quiet in
        ap (λ (n : List ℕ). state_of (named then.collections n) key) (sym is.fork)
        ∙ ap (λ (o : Option Held). state_of o key) x.1
        ∙ level still.now still.held x.0 (ap (named then.collections) still.fork ∙ x.1)
        is.ready.here.master (still.master ∙ is.ready.here.local) y.0 y.1 key
        ∙ ap (λ (o : Option Held). state_of o key) (sym y.1)
        ∙ ap (λ (n : List ℕ). state_of (named then.collections n) key) is.master

-- ---- the whole

-- forks on one way
unfoldable pub on : Pass → List (List ℕ) → List (Pass × List ℕ)
on pass [] = []
on pass (c ∷ cs) = (pass, c) ∷ on pass cs

-- up, and then down
unfoldable pub both_ways : List (List ℕ) → List (List ℕ) → List (Pass × List ℕ)
both_ways up down = on Up up ++ on Down down

forks_on : (pass : Pass) (cs : List (List ℕ)) (ps : List (Pass × List ℕ))
    → map (λ p. p.1) (on pass cs ++ ps) ≡ cs ++ map (λ p. p.1) ps
unfolding on
forks_on pass [] ps = refl
forks_on pass (c ∷ cs) ps = ap (λ (xs : List (List ℕ)). c ∷ xs) (forks_on pass cs ps)

pub forks_both : (up down : List (List ℕ)) → map (λ p. p.1) (both_ways up down) ≡ up ++ down
unfolding on both_ways
forks_both up down =
    forks_on Up up (on Down down)
    ∙ ap (λ (xs : List (List ℕ)). up ++ xs)
    (ap (map (λ (p : Pass × List ℕ). p.1)) (sym (append-nil (on Down down)))
    ∙ forks_on Down down [] ∙ append-nil down)

module _ (s : Sweep) (some : 1 ≤ s.batch) (first : World) where
  steps_on : (pass : Pass) (cs : List (List ℕ)) (ps : List (Pass × List ℕ))
      → stepped s some first (on pass cs ++ ps)
      ≡ steps_of first.replications pass cs ++ stepped s some first ps
  unfolding on
  steps_on pass [] ps = refl
  steps_on pass (c ∷ cs) ps =
      ap (λ (xs : List Step).
      record { pass = pass; name = replication_of first.replications c } ∷ xs)
      (steps_on pass cs ps)

  pub steps_both : (up down : List (List ℕ)) → stepped s some first (both_ways up down)
      ≡ steps_of first.replications Up up ++ steps_of first.replications Down down
  unfolding both_ways
  steps_both up down =
      steps_on Up up (on Down down)
      ∙ ap (λ (xs : List Step). steps_of first.replications Up up ++ xs)
      (ap (stepped s some first) (sym (append-nil (on Down down)))
      ∙ steps_on Down down [] ∙ append-nil (steps_of first.replications Down down))

-- no more local replications than replications
forks_few : (rs : Replications) → length (forest_of rs) ≤ length rs
forks_few [] = omega arith
forks_few (e ∷ rs) =
    let rest = forks_few rs in
    elim e.1.master as (λ m. length (fork_before e.1.fork m (forest_of rs)) ≤ suc (length rs))
    [ Local m ↦ omega arith | Port port ↦ omega arith ]

module _ (s : Sweep) (root : List ℕ) (w : World) (asks : List (List ℕ × Asks))
    (may_sweep : MaySweep s root w asks) where
  abbrev pub forest : Forks
  forest = forest_of w.replications

  abbrev pub InTree : List ℕ → Type 0
  InTree c = Reaches bytes_eq forest c root

  abbrev pub IsGood : Standing → Type 0
  IsGood at =
      (c n : List ℕ) → master_of bytes_eq forest c ≡ Some n → InTree n
      → IsReadyFor s may_sweep.batch w c n at

  are_turns : AreTurns (step_of s may_sweep.batch w) (IsQuiet s may_sweep.batch w) bytes_eq forest
      (λ (at : Standing) (c : List ℕ). named at.0.collections c) (IsSettled s may_sweep.batch w)
      (AreEqual s may_sweep.batch w) IsGood InTree
  are_turns =
      let b = may_sweep.batch in
      record {
        good = λ c n at is in_tree good quiet d k follows inside.
            one_ready s b w c n at (good c n is in_tree) d k (good d k follows inside);
        writes = λ c n y at is in_tree good. one_writes s b w c n at (good c n is in_tree) y;
        idle = λ c n y at is in_tree good. one_idle s b w c n at (good c n is in_tree) y;
        keeps = λ c n y at is in_tree good. one_keeps s b w c n at (good c n is in_tree) y;
        settles = λ c n at is in_tree good. one_settles s b w c n at (good c n is in_tree);
        equal = λ c n at is in_tree good. one_equal s b w c n at (good c n is in_tree);
        inside = λ c n is way.
            (suc way.0, ap (λ o. o >>= climbed bytes_eq way.0 forest) is ∙ way.1);
        itself = λ n at key. refl;
        through = λ x y z at first then key. first key ∙ then key;
        stays = λ x y from to at_x at_y equal key.
            ap (λ (o : Option Held). state_of s b w o key) at_x ∙ equal key
            ∙ ap (λ (o : Option Held). state_of s b w o key) (sym at_y);
      }

  -- the handler of a fork's replication is there
  abbrev CanResolve : List ℕ → Type 0
  CanResolve c = HasHandler s.kinds w (replication_of w.replications c)

  of_steps : (pass : Pass) (cs : List (List ℕ))
      → AllByRecursion (λ (step : Step). HasHandler s.kinds w step.name)
      (steps_of w.replications pass cs)
      → AllByRecursion CanResolve cs
  of_steps pass [] all = tt
  of_steps pass (c ∷ cs) all = (all.0, of_steps pass cs all.1)

  can_resolve : (c n : List ℕ) → master_of bytes_eq forest c ≡ Some n → InTree n → CanResolve c
  can_resolve c n is in_tree =
      let levels = length w.replications in
      let up = levels_up (forks_in w) levels root in
      let down = levels_down (forks_in w) levels root in
      let parts = all_parts (λ (step : Step). HasHandler s.kinds w step.name)
      (steps_of w.replications Up up) (steps_of w.replications Down down) may_sweep.handled in
      of_below bytes_eq bytes_eq-Decides forest (forks_in w) (are_forks w may_sweep.made) CanResolve
      levels c root (forks_few w.replications)
      (in_tree.0, ap (λ o. o >>= climbed bytes_eq in_tree.0 forest) is ∙ in_tree.1)
      (of_steps Down down parts.1)

  pub good_first : IsGood (w, asks)
  good_first c n is in_tree =
      let f = found_in w may_sweep.made c n is in
      let kind = can_resolve c n is in_tree f.replication f.held in
      record {
        ready = record {
          made = may_sweep.made;
          sound = may_sweep.sound;
          here = record {
            replication = f.replication;
            held = f.held;
            master = n;
            local = f.local;
          };
          kind = kind.0;
          handler = kind.1;
        };
        fork = f.fork;
        master = refl;
        asks = may_sweep.remembers (replication_of w.replications c);
      }

  pub quiet_sweep : (sweep_from s root w asks).ended ≡ Quiet → (c : List ℕ) → InTree c
      → AreEqualIn (world_after (sweep_from s root w asks).records w) c root
  quiet_sweep is c way x y at_x at_y key =
      let b = may_sweep.batch in
      let levels = length w.replications in
      let up = levels_up (forks_in w) levels root in
      let down = levels_down (forks_in w) levels root in
      let steps = steps_both s b w up down in
      let walk = sweep_walked s b w (both_ways up down) w asks
      (ap (λ (xs : List Step). (sweep s xs w asks).ended) steps ∙ is) in
      let forks = forks_both up down in
      let quiet =
      subst (λ (cs : List (List ℕ)). AllQuiet (step_of s b w) (IsQuiet s b w) cs (w, asks))
      forks walk.0 in
      let after : world_after (sweep_from s root w asks).records w
      ≡ (walked (step_of s b w) (IsQuiet s b w) (up ++ down) (w, asks)).0 =
      ap (λ (xs : List Step). world_after (sweep s xs w asks).records w) (sym steps)
      ∙ walk.1
      ∙ ap (λ (cs : List (List ℕ)). (walked (step_of s b w) (IsQuiet s b w) cs (w, asks)).0)
      forks in
      let equal = walk_ends_equal (step_of s b w) (IsQuiet s b w) bytes_eq bytes_eq-Decides forest
      (forks_in w) (are_forks w may_sweep.made)
      (λ (at : Standing) (c : List ℕ). named at.0.collections c) (IsSettled s b w) (AreEqual s b w)
      IsGood InTree are_turns levels root (0, refl) (w, asks)
      (forks_few w.replications) good_first quiet c way key in
      let of_after = subst (λ (v : World). state_of s b w (named v.collections c) key
      ≡ state_of s b w (named v.collections root) key) (sym after) equal in
      ap (λ (o : Option Held). state_of s b w o key) (sym at_x) ∙ of_after
      ∙ ap (λ (o : Option Held). state_of s b w o key) at_y

pub quiet_sweep_is_equal : QuietSweepIsEqual
quiet_sweep_is_equal s root w asks may = quiet_sweep s root w asks may
