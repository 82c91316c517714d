-- What a turn keeps.
use Rattle.std.proofs.Common.{◌≡◌, ◌∙◌, ℕ, ◌≤◌, List, ◌∷◌, Option, Some, None, option_map, refl, sym, ap, subst}
use Rattle.rx_value.specs.Due.{◌>>=◌}
use Rattle.rx_value.specs.Named.{named}
use Rattle.rx_value.proofs.Lists.{all_taken}
use Rattle.rx_value.proofs.Outcomes.{some_same, not_none}
use Rattle.rx_collection.specs.Held.{Held}
use Rattle.rx_wire.specs.declared.message.Request.{Request}
use Rattle.rx_replication.proofs.Lists.{all_at, from_slice_get}
use Rattle.rx_fork.specs.Asked.{asked_of}
use Rattle.rx_fork.specs.declared.ask.Asked.{Asked}
use Rattle.rx_record.specs.Content.{Content}
use Rattle.rx_reply.specs.declared.turn.Lost.TheVariants as lost
use Rattle.rx_reply.specs.declared.turn.TurnEnd.{TurnEnd}
use Rattle.rx_reply.specs.declared.turn.TurnEnd.TheVariants.{Quiet}
use Rattle.rx_schema.specs.declared.shape.Shape.{Shape}
use Rattle.rx_script.specs.declared.happening.Happening.{Happening}
use Rattle.rx_script.specs.declared.happening.Happening.TheVariants as link
use Rattle.rx_world.specs.World.{World, Replications}
use Rattle.rx_world.specs.declared.replication.Replication.{Replication}
use Rattle.rx_sync.specs.Asking.{asked_by, asked_in}
use Rattle.rx_sync.specs.Asks.{Asks, AsksAreLawful, IsLawfulRequest, next_number, with_request}
use Rattle.rx_sync.specs.Exchange.{Terms, Course, world_after, course, course_by, exchange, late_records, late_request, once_late}
use Rattle.rx_sync.specs.Handling.{Handled, handled_for}
use Rattle.rx_sync.specs.Laws.{ComeSoundly, EveryTurn, IsLevel, IsReady, IsTurnSound, MayTurn, MayTurnAgain, PullLeavesNone, QuietIsLevel, RemembersLawful}
use Rattle.rx_sync.specs.Turn.{end_by, over_link, turn}
use Rattle.rx_sync.proofs.Ends.{HasEnds, ends_of}
use Rattle.rx_sync.proofs.EveryTurn.{GoesOn, IsWellTurned, turn_by_well}
use Rattle.rx_sync.proofs.Exchanges.{HasHandled}
use Rattle.rx_sync.proofs.Going.{GoesWell, behind_well, due_here, handled_come, handled_well, lost_goes_well, lost_well, no_time_well, taken_goes_well}
use Rattle.rx_sync.proofs.Messages.{asked_at}
use Rattle.rx_sync.proofs.Repeats.{twice_is_once}
use Rattle.rx_sync.proofs.Staying.{ready_after, ready_after-master, remembers_after, soundly_in_turn}
use Rattle.rx_sync.proofs.Worlds.{soundly_front}

-- ---- an exchange

module _ (t : Terms) (w : World) (ready : IsReady w t.name t.kinds) (n batch : ℕ) (some : 1 ≤ batch)
    (asked : Asked) (is : asked_in w t.name n batch ≡ Some asked) where
  pub exchange_well : (x : Happening) → GoesWell w t.name batch (exchange t asked x w)
  exchange_well link.Ok = taken_goes_well w t.name t.kinds ready t.now n batch some asked is
  exchange_well (link.Late j) = taken_goes_well w t.name t.kinds ready t.now n batch some asked is
  exchange_well link.LoseRequest = lost_well w t.name batch lost.LoseRequest asked.request.ask
  exchange_well link.LoseReply =
      lost_goes_well w t.name t.kinds ready t.now n batch some asked is lost.LoseReply
  exchange_well link.Stale =
      lost_goes_well w t.name t.kinds ready t.now n batch some asked is lost.Stale
  exchange_well link.Twice =
      subst (GoesWell w t.name batch) (sym (twice_is_once t w ready asked (n, batch, some, is)))
      (taken_goes_well w t.name t.kinds ready t.now n batch some asked is)

  -- where an earlier request is handled first, it is still the one that was asked
  asked_then : (q : Request) (h : Handled)
      → HasHandled w ready.here.master (ends_of w t.name t.kinds ready).master t.now q h
      → asked_in (world_after h.records w) t.name n batch ≡ Some asked
  asked_then q h hh =
      let v = world_after h.records w in
      let e : HasEnds w t.name ready.here.replication ready.here.master = ends_of w t.name t.kinds
      ready in
      let r = ready.here.replication in
      let at : named v.replications t.name ≡ Some r =
      ap (λ (rs : Replications). named rs t.name) hh.leaves.replications ∙ ready.here.held in
      let held : named v.collections r.fork ≡ Some e.fork =
      hh.leaves.others r.fork (λ same. e.other (sym same)) ∙ e.held in
      ap (λ (o : Option Replication). o >>= asked_by v n batch) at
      ∙ ap (λ (o : Option Held). o >>= λ fork. Some (asked_of fork.documents r.side v.epoch n
      batch)) held
      ∙ ap (λ (k : ℕ). Some (asked_of e.fork.documents r.side k n batch)) hh.leaves.epoch
      ∙ ap Some (asked_at w t.name n batch asked r e.fork ready.here.held e.held is)

pub late_lawful : (s : Shape) (x : Happening) (a : Asks) (q : Request) → AsksAreLawful s a
    → late_request x a ≡ Some q → IsLawfulRequest s q
late_lawful s (link.Late j) a q lawful is =
    all_at (IsLawfulRequest s) a.requests q lawful (from_slice_get a.requests j q is)
late_lawful s link.Ok a q lawful is = not_none is
late_lawful s link.LoseRequest a q lawful is = not_none is
late_lawful s link.LoseReply a q lawful is = not_none is
late_lawful s link.Twice a q lawful is = not_none is
late_lawful s link.Stale a q lawful is = not_none is

module _ (t : Terms) (w : World) (ready : IsReady w t.name t.kinds) (n batch : ℕ) (some : 1 ≤ batch)
    (asked : Asked) (is : asked_in w t.name n batch ≡ Some asked) (x : Happening) where
  handled_late : (q : Request) (o : Option Handled)
      → IsLawfulRequest (ends_of w t.name t.kinds ready).fork.schema q
      → handled_for w t.name q t.now ≡ o
      → GoesWell w t.name batch (once_late t asked x w (option_map (λ h. h.records) o))
  handled_late q None lawful at = no_time_well w t.name batch
  handled_late q (Some h) lawful at =
      let hh = handled_well w t.name t.kinds ready t.now q h lawful at in
      let come = handled_come w t.name t.kinds ready t.now q h hh in
      behind_well w t.name batch h.records (exchange t asked x (world_after h.records w)) come
      (exchange_well t (world_after h.records w)
      (ready_after h.records w t.name t.kinds ready come) n
      batch
      some asked (asked_then t w ready n batch some asked is q h hh) x)

  late_by : (o : Option Request)
      → ((q : Request) → o ≡ Some q
      → IsLawfulRequest (ends_of w t.name t.kinds ready).fork.schema q)
      → GoesWell w t.name batch (once_late t asked x w (late_records t.name t.now w o))
  late_by None lawful = exchange_well t w ready n batch some asked is x
  late_by (Some q) lawful =
      handled_late q (handled_for w t.name q t.now) (lawful q refl) refl

  pub late_well : (a : Asks) → RemembersLawful w t.name a
      → GoesWell w t.name batch
      (once_late t asked x w (late_records t.name t.now w (late_request x a)))
  late_well a lawful =
      let e : HasEnds w t.name ready.here.replication ready.here.master = ends_of w t.name t.kinds
      ready in
      late_by (late_request x a) (λ q at.
      late_lawful e.fork.schema x a q
      (lawful ready.here.replication ready.here.held e.fork e.held) at)

  -- the records of the earlier request come soundly
  pub late_come : (a : Asks) → RemembersLawful w t.name a → (cs : List Content)
      → late_records t.name t.now w (late_request x a) ≡ Some cs → ComeSoundly w cs
  late_come a lawful cs at =
      soundly_front w cs (exchange t asked x (world_after cs w)).records
      (subst (λ (o : Option (List Content)). ComeSoundly w (once_late t asked x w o).records) at
      (late_well a lawful).come)

  -- the request is still the one that was asked, once the late one was handled
  once_handled_asked : (q : Request) (o : Option Handled) (cs : List Content)
      → IsLawfulRequest (ends_of w t.name t.kinds ready).fork.schema q
      → handled_for w t.name q t.now ≡ o → option_map (λ h. h.records) o ≡ Some cs
      → asked_in (world_after cs w) t.name n batch ≡ Some asked
  once_handled_asked q None cs lawful at is' = not_none is'
  once_handled_asked q (Some h) cs lawful at is' =
      subst (λ (cs : List Content). asked_in (world_after cs w) t.name n batch ≡ Some asked)
      (some_same is')
      (asked_then t w ready n batch some asked is q h
      (handled_well w t.name t.kinds ready t.now q h lawful at))

  late_asked_by : (o : Option Request) (cs : List Content)
      → ((q : Request) → o ≡ Some q
      → IsLawfulRequest (ends_of w t.name t.kinds ready).fork.schema q)
      → late_records t.name t.now w o ≡ Some cs
      → asked_in (world_after cs w) t.name n batch ≡ Some asked
  late_asked_by None cs lawful at =
      subst (λ (cs : List Content). asked_in (world_after cs w) t.name n batch ≡ Some asked)
      (some_same at) is
  late_asked_by (Some q) cs lawful at =
      once_handled_asked q (handled_for w t.name q t.now) cs (lawful q refl) refl at

  pub late_asked : (a : Asks) → RemembersLawful w t.name a → (cs : List Content)
      → late_records t.name t.now w (late_request x a) ≡ Some cs
      → asked_in (world_after cs w) t.name n batch ≡ Some asked
  late_asked a lawful cs at =
      let e : HasEnds w t.name ready.here.replication ready.here.master = ends_of w t.name t.kinds
      ready in
      late_asked_by (late_request x a) cs (λ q there.
      late_lawful e.fork.schema x a q
      (lawful ready.here.replication ready.here.held e.fork e.held) there) at

-- ---- what is remembered

pub remembers_more : (w : World) (name : List ℕ) (r : Replication) (fork : Held) (q : Request)
    (a : Asks) → named w.replications name ≡ Some r → named w.collections r.fork ≡ Some fork
    → IsLawfulRequest fork.schema q → RemembersLawful w name a
    → RemembersLawful w name (with_request q a)
remembers_more w name r fork q a at held lawful all = λ s s_at c c_held.
    let same : r ≡ s = some_same (sym at ∙ s_at) in
    let here : fork ≡ c =
    some_same (sym held ∙ ap (λ (r : Replication). named w.collections r.fork) same ∙ c_held) in
    all_taken (IsLawfulRequest c.schema) 17 (q ∷ a.requests)
    (subst (λ (c : Held). IsLawfulRequest c.schema q) here lawful, all s s_at c c_held)

-- ---- an exchange with all that belongs to it

pub record CourseGoesWell (t : Terms) (batch : ℕ) (w : World) (c : Course) : Type 0 where
  pub come : ComeSoundly w c.records
  pub asks : RemembersLawful w t.name c.asks
  pub quiet : end_by batch c.came ≡ Some Quiet → IsLevel (world_after c.records w) t.name
  pub pulled : PullLeavesNone w t.name c.records c.came

pub course_well : (t : Terms) (batch : ℕ) → 1 ≤ batch → (x : Happening) (w : World) (a : Asks)
    → MayTurn t w a → CourseGoesWell t batch w (course t batch x w a)
course_well t batch some x w a may = by (asked_in w t.name (next_number a) batch) refl
  where
    by : (o : Option Asked) → asked_in w t.name (next_number a) batch ≡ o
        → CourseGoesWell t batch w (course_by t x w a o)
    by None is = record {
      come = tt;
      asks = may.asks;
      quiet = λ is. absurd (cc);
      pulled = λ is. absurd (cc);
    }
    by (Some asked) is =
        let e : HasEnds w t.name may.ready.here.replication may.ready.here.master =
        ends_of w t.name t.kinds may.ready in
        let lawful : IsLawfulRequest e.fork.schema asked.request =
        (due_here w t.name t.kinds may.ready t.now (next_number a) batch some asked is).lawful in
        let asks : RemembersLawful w t.name (with_request asked.request a) =
        remembers_more w t.name may.ready.here.replication e.fork asked.request a
        may.ready.here.held
        e.held lawful may.asks in
        let well = late_well t w may.ready (next_number a) batch some asked is x
        (with_request asked.request a) asks in
        record { come = well.come; asks = asks; quiet = well.quiet; pulled = well.pulled }

-- after one that has pulled nothing is to be pushed
pub course_pulled : (t : Terms) (batch : ℕ) → 1 ≤ batch → (x : Happening) (w : World) (a : Asks)
    → MayTurn t w a
    → PullLeavesNone w t.name (course t batch x w a).records (course t batch x w a).came
course_pulled t batch some x w a may = (course_well t batch some x w a may).pulled

-- afterwards another one may follow
pub course_again : (t : Terms) (batch : ℕ) (w : World) (a : Asks) (c : Course) → MayTurn t w a
    → CourseGoesWell t batch w c → MayTurn t (world_after c.records w) c.asks
course_again t batch w a c may well = record {
  ready = ready_after c.records w t.name t.kinds may.ready well.come;
  asks = remembers_after c.records w t.name t.kinds c.asks may.ready
      (soundly_in_turn w c.records well.come) well.asks;
}

pub course_again-master : (t : Terms) (batch : ℕ) (w : World) (a : Asks) (c : Course)
    (may : MayTurn t w a) (well : CourseGoesWell t batch w c)
    → (course_again t batch w a c may well).ready.here.master ≡ may.ready.here.master
unfolding course_again
course_again-master t batch w a c may well =
    ready_after-master c.records w t.name t.kinds may.ready well.come

-- ---- a turn

-- where it ends quiet, the two are level
abbrev pub LevelAt : List ℕ → TurnEnd → World → Type 0
LevelAt name e w = e ≡ Quiet → IsLevel w name

pub goes_on : (t : Terms) (batch : ℕ) → 1 ≤ batch → (x : Happening) (w : World) (a : Asks)
    → MayTurn t w a → GoesOn (MayTurn t) (LevelAt t.name) batch w (course t batch x w a)
goes_on t batch some x w a may =
    let well : CourseGoesWell t batch w (course t batch x w a) = course_well t batch some x w a may
    in
    record {
      come = well.come;
      again = course_again t batch w a (course t batch x w a) may well;
      ends = λ e is quiet. well.quiet (is ∙ ap Some quiet);
    }

turn_well : (t : Terms) (batch budget : ℕ) (link : List Happening) (w : World) (a : Asks)
    → 1 ≤ batch → MayTurn t w a
    → IsWellTurned (MayTurn t) (LevelAt t.name) w (turn t batch budget link w a)
turn_well t batch budget link w a some may =
    turn_by_well (MayTurn t) (LevelAt t.name) batch (over_link t) (λ w a may is. absurd (cc))
    (goes_on t batch some) budget link w a may

-- ---- the laws

pub turn_sound : EveryTurn IsTurnSound
turn_sound t batch budget link w a some may = (turn_well t batch budget link w a some may).come

pub turn_again : EveryTurn MayTurnAgain
turn_again t batch budget link w a some may = (turn_well t batch budget link w a some may).again

pub turn_quiet : EveryTurn QuietIsLevel
turn_quiet t batch budget link w a some may = (turn_well t batch budget link w a some may).ends
