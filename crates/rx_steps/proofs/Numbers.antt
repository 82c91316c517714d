-- No line raises the number of a replication's last request by more than its turns may ask.
use Rattle.std.proofs.Common.{◌≡◌, ℕ, zero, suc, ◌+◌, ◌*◌, ◌≤◌, Bool, true, false, cond, List, [], ◌∷◌, length, map, Option, Some, None, refl, sym, subst, arith}
use Rattle.std.proofs.lemmas.Slice.Eq.{bytes_eq-Decides}
use Rattle.std.specs.Prelude.{unwrap_or, if◌then◌else◌}
use Rattle.std.specs.Str.{bytes_eq}
use Rattle.rx_value.specs.Named.{named, put_named}
use Rattle.rx_value.proofs.Named.{named-put_named}
use Rattle.rx_fork.specs.declared.ask.Asked.{Asked}
use Rattle.rx_record.specs.Content.{Content, migration}
use Rattle.rx_reply.specs.declared.turn.TurnEnd.{TurnEnd}
use Rattle.rx_reply.specs.declared.turn.TurnEnd.TheVariants.{Quiet, Lost, Clock, More}
use Rattle.rx_script.specs.declared.happening.Happening.{Happening}
use Rattle.rx_session.specs.Doing.{Doing, migrate, restart}
use Rattle.rx_sync.specs.Asking.{asked_in}
use Rattle.rx_sync.specs.Asks.{Asks, asks_of, forgotten, most_number, next_number, no_asks}
use Rattle.rx_sync.specs.Exchange.{Course, Terms, course, world_after}
use Rattle.rx_sync.specs.Remote.{Heard, RemoteTurned, first_heard, heard_course, heard_later, heard_on, remote_turn}
use Rattle.rx_sync.specs.Sweep.{Sweep, Swept, sweep, swept_on, terms_in, turn_in}
use Rattle.rx_sync.specs.Turn.{Turned, end_by, first_of, going_on, rest_of, turn}
use Rattle.rx_sync.specs.declared.sweeping.Step.{Step}
use Rattle.rx_world.specs.Migrating.{is_in_group}
use Rattle.rx_world.specs.World.{World}
use Rattle.rx_engine.specs.Calling.{called}
use Rattle.rx_engine.specs.Lines.{Task, answered, turns, calls, sweeps, delivers, task}
use Rattle.rx_engine.specs.Meaning.{asks_kept, meaning, task_meaning}
use Rattle.rx_engine.specs.Standing.{Standing, asks_after, forgotten_where, is_of_group}
use Rattle.rx_engine.specs.Sweeping.{sweep_by}
use Rattle.rx_engine.specs.Turning.{terms, turned}
use Rattle.rx_steps.specs.History.{Lasting}
use Rattle.rx_steps.specs.Numbers.{DeliversNothing, FewRequestsHaveNumbers, LinesAskNoMore, ScriptsAskNoMore, most_asked}
use Rattle.rx_steps.specs.Scripts.{EachHasNumbers, FitsHistory}
use Rattle.rx_steps.proofs.Turns.{few_more}

-- ---- a turn

turn_goes : (c : Course) (o : Option TurnEnd) (rest : Turned) (m : ℕ) → c.asks.n ≤ m
    → rest.asks.n ≤ m → (going_on c o rest).asks.n ≤ m
turn_goes c None rest m first later = later
turn_goes c (Some end) rest m first later = first

turn_asks : (t : Terms) (batch budget : ℕ) (link : List Happening) (w : World) (a : Asks)
    → (turn t batch budget link w a).asks.n ≤ a.n + budget
turn_asks t batch zero link w a = omega arith
turn_asks t batch (suc budget) link w a =
    let c : Course = course t batch (first_of link) w a in
    let rest : Turned = turn t batch budget (rest_of link) (world_after c.records w) c.asks in
    let one : c.asks.n ≤ a.n + 1 = few_more t batch (first_of link) w a in
    let more : rest.asks.n ≤ c.asks.n + budget =
    turn_asks t batch budget (rest_of link) (world_after c.records w) c.asks in
    turn_goes c (end_by batch c.came) rest (a.n + suc budget) (omega arith) (omega arith)

-- ---- a turn to a master elsewhere

heard_asks : (t : Terms) (h : Heard) (w : World) (a : Asks) (o : Option Asked)
    → (heard_course t h w a o).asks.n ≤ a.n + 1
heard_asks t h w a None = omega arith
heard_asks t h w a (Some asked) = omega arith

call_goes : (c : Course) (o : Option Asked) (hs : List Heard) (e : Option TurnEnd)
    (rest : RemoteTurned) (m : ℕ) → c.asks.n ≤ m → rest.turned.asks.n ≤ m
    → (heard_on c o hs e rest).turned.asks.n ≤ m
call_goes c o hs None rest m first later = later
call_goes c o hs (Some end) rest m first later = first

call_asks : (t : Terms) (batch budget : ℕ) (hs : List Heard) (w : World) (a : Asks)
    → (remote_turn t batch budget hs w a).turned.asks.n ≤ a.n + budget
call_asks t batch zero hs w a = omega arith
call_asks t batch (suc budget) hs w a =
    let o : Option Asked = asked_in w t.name (next_number a) batch in
    let c : Course = heard_course t (first_heard hs) w a o in
    let rest : RemoteTurned =
    remote_turn t batch budget (heard_later hs) (world_after c.records w) c.asks in
    let one : c.asks.n ≤ a.n + 1 = heard_asks t (first_heard hs) w a o in
    let more : rest.turned.asks.n ≤ c.asks.n + budget =
    call_asks t batch budget (heard_later hs) (world_after c.records w) c.asks in
    call_goes c o (heard_later hs) (end_by batch c.came) rest (a.n + suc budget) (omega arith)
    (omega arith)

-- ---- a sweep

-- what was put at a name is found there, and anything else as before
put_asks : (asks : List (List ℕ × Asks)) (name other : List ℕ) (a : Asks) (m : ℕ)
    → (other ≡ name → a.n ≤ m) → (asks_of other asks).n ≤ m
    → (asks_of other (put_named asks name a)).n ≤ m
put_asks asks name other a m here rest =
    subst (λ (o : Option Asks). (unwrap_or o no_asks).n ≤ m)
    (sym (named-put_named asks name other a)) (by (bytes_eq other name) refl)
  where
    by : (b : Bool) → bytes_eq other name ≡ b
        → (unwrap_or (cond b (Some a) (named asks other)) no_asks).n ≤ m
    by true is = here ((bytes_eq-Decides other name).0 is)
    by false is = rest

module _ (v : Sweep) (name : List ℕ) where
  step_asks : (step : Step) (w : World) (asks : List (List ℕ × Asks))
      → (asks_of name (put_named asks step.name (turn_in v step.name w asks).asks)).n
      ≤ (asks_of name asks).n + v.budget
  step_asks step w asks =
      put_asks asks step.name name (turn_in v step.name w asks).asks
      ((asks_of name asks).n + v.budget)
      (λ same. subst (λ (k : List ℕ).
      (turn_in v step.name w asks).asks.n ≤ (asks_of k asks).n + v.budget) (sym same)
      (turn_asks (terms_in v step.name) v.batch v.budget [] w (asks_of step.name asks)))
      (omega arith)

  swept_goes : (end : TurnEnd) (kept : List (List ℕ × Asks)) (rest : Swept) (m : ℕ)
      → (asks_of name kept).n ≤ m → (asks_of name rest.asks).n ≤ m
      → (asks_of name (swept_on end kept rest).asks).n ≤ m
  swept_goes Quiet kept rest m first later = later
  swept_goes Lost kept rest m first later = first
  swept_goes Clock kept rest m first later = first
  swept_goes More kept rest m first later = first

  sweep_asks : (steps : List Step) (w : World) (asks : List (List ℕ × Asks))
      → (asks_of name (sweep v steps w asks).asks).n
      ≤ (asks_of name asks).n + v.budget * length steps
  sweep_asks [] w asks = omega arith
  sweep_asks (step ∷ steps) w asks =
      let t : Turned = turn_in v step.name w asks in
      let next : World = world_after t.records w in
      let kept : List (List ℕ × Asks) = put_named asks step.name t.asks in
      let rest : Swept = sweep v steps next kept in
      let one : (asks_of name kept).n ≤ (asks_of name asks).n + v.budget =
      step_asks step w asks in
      let more : (asks_of name rest.asks).n ≤ (asks_of name kept).n + v.budget * length steps =
      sweep_asks steps next kept in
      swept_goes t.ended kept rest ((asks_of name asks).n + v.budget * suc (length steps))
      (omega arith) (omega arith)

-- ---- what a migration forgets

-- of two at a name, and of others behind them
head_asks : (b : Bool) (a c : Asks) (o p : Option Asks) → a.n ≤ c.n
    → (unwrap_or o no_asks).n ≤ (unwrap_or p no_asks).n
    → (unwrap_or (cond b (Some a) o) no_asks).n ≤ (unwrap_or (cond b (Some c) p) no_asks).n
head_asks true a c o p first rest = first
head_asks false a c o p first rest = rest

-- what is forgotten leaves the numbers
forget_asks : (chosen : List ℕ → Bool) (name : List ℕ) (asks : List (List ℕ × Asks))
    → (asks_of name (map (forgotten_where chosen) asks)).n ≤ (asks_of name asks).n
forget_asks chosen name [] = omega arith
forget_asks chosen name (e ∷ es) = by (chosen e.0) (forget_asks chosen name es)
  where
    by : (b : Bool) → (asks_of name (map (forgotten_where chosen) es)).n ≤ (asks_of name es).n
        → (asks_of name
        ((if b then (e.0, forgotten e.1) else e) ∷ map (forgotten_where chosen) es)).n
        ≤ (asks_of name (e ∷ es)).n
    by true rest =
        head_asks (bytes_eq name e.0) (forgotten e.1) e.1
        (named (map (forgotten_where chosen) es) name) (named es name) (omega arith) rest
    by false rest =
        head_asks (bytes_eq name e.0) e.1 e.1 (named (map (forgotten_where chosen) es) name)
        (named es name) (omega arith) rest

-- ---- a line

content_asks : (c : Content) (w : World) (asks : List (List ℕ × Asks)) (name : List ℕ)
    → (asks_of name (asks_after c w asks)).n ≤ (asks_of name asks).n
content_asks (migration coll text steps) w asks name =
    forget_asks (is_of_group (is_in_group w.replications coll) w.replications) name asks
content_asks other w asks name = omega arith

kept_asks : (d : Doing) (w : World) (asks : List (List ℕ × Asks)) (name : List ℕ)
    → (asks_of name (asks_kept d w asks)).n ≤ (asks_of name asks).n
kept_asks (migrate c) w asks name = content_asks c w asks name
kept_asks (restart number) w asks name = omega arith
kept_asks other w asks name = omega arith

task_asks : (n : ℕ) (t : Task) (s : Standing) (name : List ℕ)
    → (asks_of name (task_meaning n t s).next.asks).n ≤ (asks_of name s.asks).n + most_asked t
task_asks n (answered o) s name =
    omega (arith, kept_asks o.doing s.session.world s.asks name)
task_asks n (turns u) s name =
    put_asks s.asks u.name name (turned u s).asks ((asks_of name s.asks).n + u.budget)
    (λ same. subst (λ (k : List ℕ). (turned u s).asks.n ≤ (asks_of k s.asks).n + u.budget)
    (sym same)
    (turn_asks (terms u.name s.session.moment s.kinds) u.batch u.budget u.link s.session.world
    (asks_of u.name s.asks))) (omega arith)
task_asks n (calls c) s name =
    put_asks s.asks c.name name (called c s).turned.asks ((asks_of name s.asks).n + c.budget)
    (λ same. subst (λ (k : List ℕ). (called c s).turned.asks.n ≤ (asks_of k s.asks).n + c.budget)
    (sym same)
    (call_asks (terms c.name s.session.moment s.kinds) c.batch c.budget s.heard s.session.world
    (asks_of c.name s.asks))) (omega arith)
task_asks n (sweeps v) s name = sweep_asks (sweep_by v s) name v.steps s.session.world s.asks
task_asks n (delivers d) s name = omega arith

pub lines_ask_no_more : LinesAskNoMore
unfolding meaning
lines_ask_no_more name n line s = task_asks n (task s.kinds line s.session) s name

-- ---- a script

pub scripts_ask_no_more : ScriptsAskNoMore
scripts_ask_no_more name n [] s = omega arith
scripts_ask_no_more name n (line ∷ lines) s =
    let next : Standing = (meaning n line s).next in
    let one : (asks_of name next.asks).n
    ≤ (asks_of name s.asks).n + most_asked (task s.kinds line s.session) =
    lines_ask_no_more name n line s in
    let more = scripts_ask_no_more name (n + 1) lines next in
    omega arith

-- ---- where it all fits

sweep_fits : (l : Lasting) (v : Sweep) (steps : List Step) (w : World)
    (asks : List (List ℕ × Asks))
    → (asks_of l.name asks).n + v.budget * length steps ≤ most_number
    → EachHasNumbers l v steps w asks
sweep_fits l v [] w asks few = tt
sweep_fits l v (step ∷ steps) w asks few =
    let t : Turned = turn_in v step.name w asks in
    let next : List (List ℕ × Asks) = put_named asks step.name t.asks in
    let one : (asks_of l.name next).n ≤ (asks_of l.name asks).n + v.budget =
    step_asks v l.name step w asks in (
      λ same. omega arith,
      λ quiet. sweep_fits l v steps (world_after t.records w) next (omega arith),
    )

fits : (l : Lasting) (t : Task) (s : Standing)
    → (asks_of l.name s.asks).n + most_asked t ≤ most_number → DeliversNothing l t s
    → FitsHistory l t s
fits l (turns u) s few none = λ same. few
fits l (sweeps v) s few none = sweep_fits l (sweep_by v s) v.steps s.session.world s.asks few
fits l (delivers d) s few none = none
fits l (answered o) s few none = tt
fits l (calls c) s few none = tt

pub few_requests_have_numbers : FewRequestsHaveNumbers
few_requests_have_numbers l n [] s few played = tt
few_requests_have_numbers l n (line ∷ lines) s few played =
    let next : Standing = (meaning n line s).next in
    let t : Task = task s.kinds line s.session in
    let one : (asks_of l.name next.asks).n ≤ (asks_of l.name s.asks).n + most_asked t =
    lines_ask_no_more l.name n line s in (
      (played.0, fits l t s (omega arith) played.1),
      few_requests_have_numbers l (n + 1) lines next (omega arith) played.2,
    )
