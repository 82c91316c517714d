-- What was done and answered is what the line means.
use Rattle.std.proofs.Common.{◌≡◌, ◌≤◌, ℕ, Bool, List, [], ◌++◌, length, string_bytes, true, false, true≢false, Some, None, Result, Ok, Err, IfOk, refl, sym, ap, ◌∙◌, subst, append-nil}
use Rattle.std.specs.Prelude.{IsSome}
use Rattle.rx_handler.specs.Handlers.{Kinds}
use Rattle.rx_observe.specs.declared.emission.Emission.{Emission}
use Rattle.rx_outside.specs.declared.stop.Stop.{Stop}
use Rattle.rx_reply.specs.Answer.{deliver, turn, sweep}
use Rattle.rx_reply.specs.Reply.{answer_lines, is_refusal}
use Rattle.rx_reply.specs.declared.given.Given.{Given}
use Rattle.rx_reply.specs.declared.turn.Exchanged.{Exchanged}
use Rattle.rx_reply.specs.declared.turn.TurnEnd.{TurnEnd}
use Rattle.rx_session.specs.Doing.{Doing, MayDo, nothing, session_after}
use Rattle.rx_session.specs.Emissions.{emissions, settled_session}
use Rattle.rx_session.specs.Session.{Session, has_lost, stream_of}
use Rattle.rx_sync.specs.Asks.{Asks}
use Rattle.rx_sync.specs.Delivery.{is_level, is_resync}
use Rattle.rx_sync.specs.Exchange.{world_after}
use Rattle.rx_sync.specs.Remote.{Heard}
use Rattle.rx_sync.specs.Turn.{Turned}
use Rattle.rx_engine.specs.Engine.{Answers, IsAfterDelivery, IsAfterTurn, LeavesAll, asks_in, session_of, standing_of, IsAfterSweep}
use Rattle.rx_engine.specs.Judged.{IsJudged, IsPrinted, MayDoJudged}
use Rattle.rx_engine.specs.Calling.{WantedCall, called, to_hear}
use Rattle.rx_engine.specs.Lines.{IsIdleTask, Task, answered, turns, calls, sweeps, delivers, task}
use Rattle.rx_engine.specs.Meaning.{Meaning, asks_kept, delivery_meaning, lines_of, meaning, meaning_of, records_of, task_meaning, turn_meaning, sweep_meaning}
use Rattle.rx_engine.specs.Outcome.{Outcome}
use Rattle.rx_engine.specs.Shown.{call_of, deliver_of, doing_of, turn_of, sweep_of}
use Rattle.rx_engine.specs.Standing.{Standing, standing_with}
use Rattle.rx_engine.specs.Streams.{WantedDelivery, delivered_by}
use Rattle.rx_engine.specs.Turning.{WantedTurn, turned}
use Rattle.rx_engine.specs.declared.changing.AfterTurn.{AfterTurn}
use Rattle.rx_engine.specs.declared.deliveries.AfterDelivery.{AfterDelivery}
use Rattle.rx_engine.specs.declared.engine.Engine.{Engine}
use Rattle.rx_engine.specs.declared.judging.Judged.{Judged}
use Rattle.rx_engine.specs.declared.judging.Judged.TheVariants as judged
use Rattle.rx_engine.specs.declared.judging.Printed.{Printed}
use Rattle.rx_engine.specs.declared.output.Output.{Output}
use Rattle.rx_engine.specs.declared.remote.Call.{Call}
use Rattle.rx_engine.specs.declared.streams.Deliver.{Deliver}
use Rattle.rx_engine.specs.Sweeping.{WantedSweep, swept}
use Rattle.rx_reply.specs.declared.swept.Swept.{Swept as SweptTurn}
use Rattle.rx_engine.specs.declared.sweeps.AfterSweep.{AfterSweep}
use Rattle.rx_engine.specs.declared.sweeping.Sweep.{Sweep}
use Rattle.rx_engine.specs.declared.turning.Turn.{Turn}

-- ---- what a line was judged to be

is_printed : (number : ℕ) (p : Printed) (t : Task) → IsJudged number (judged.Printed p) t
    → (o : Outcome) × (t ≡ answered o) × IsPrinted number p o
is_printed number p (answered o) j = (o, refl, j)
is_printed number p (turns u) j = absurd j
is_printed number p (calls d) j = absurd j
is_printed number p (sweeps v) j = absurd j
is_printed number p (delivers d) j = absurd j

is_turn : (number : ℕ) (m : Turn) (t : Task) → IsJudged number (judged.Turns m) t
    → t ≡ turns (turn_of m)
is_turn number m (answered o) j = absurd j
is_turn number m (turns u) j = ap turns (sym j)
is_turn number m (calls d) j = absurd j
is_turn number m (sweeps v) j = absurd j
is_turn number m (delivers d) j = absurd j

is_call : (number : ℕ) (m : Call) (t : Task) → IsJudged number (judged.Calls m) t
    → t ≡ calls (call_of m)
is_call number m (answered o) j = absurd j
is_call number m (turns u) j = absurd j
is_call number m (calls d) j = ap calls (sym j)
is_call number m (sweeps v) j = absurd j
is_call number m (delivers d) j = absurd j

is_sweep : (number : ℕ) (m : Sweep) (t : Task) → IsJudged number (judged.Sweeps m) t
    → t ≡ sweeps (sweep_of m)
is_sweep number m (answered o) j = absurd j
is_sweep number m (turns u) j = absurd j
is_sweep number m (calls d) j = absurd j
is_sweep number m (sweeps v) j = ap sweeps (sym j)
is_sweep number m (delivers d) j = absurd j

is_delivery : (number : ℕ) (m : Deliver) (t : Task) → IsJudged number (judged.Delivers m) t
    → t ≡ delivers (deliver_of m)
is_delivery number m (answered o) j = absurd j
is_delivery number m (turns u) j = absurd j
is_delivery number m (calls d) j = absurd j
is_delivery number m (sweeps v) j = absurd j
is_delivery number m (delivers d) j = ap delivers (sym j)

-- by the session that was lent for it
module _ (number : ℕ) (kinds : Kinds) (line : List ℕ) (seen session : Session)
    (same : seen ≡ session) (x : Judged) where
  pub printed_is : (p : Printed) → x ≡ judged.Printed p → IsJudged number x (task kinds line seen)
      → (o : Outcome) × (task kinds line session ≡ answered o) × IsPrinted number p o
  printed_is p is j =
      is_printed number p (task kinds line session)
      (subst (λ (x : Judged). IsJudged number x (task kinds line session)) is
      (subst (λ (s : Session). IsJudged number x (task kinds line s)) same j))

  pub turn_is : (m : Turn) → x ≡ judged.Turns m → IsJudged number x (task kinds line seen)
      → task kinds line session ≡ turns (turn_of m)
  turn_is m is j =
      is_turn number m (task kinds line session)
      (subst (λ (x : Judged). IsJudged number x (task kinds line session)) is
      (subst (λ (s : Session). IsJudged number x (task kinds line s)) same j))

  pub call_is : (m : Call) → x ≡ judged.Calls m → IsJudged number x (task kinds line seen)
      → task kinds line session ≡ calls (call_of m)
  call_is m is j =
      is_call number m (task kinds line session)
      (subst (λ (x : Judged). IsJudged number x (task kinds line session)) is
      (subst (λ (s : Session). IsJudged number x (task kinds line s)) same j))

  pub sweep_is : (m : Sweep) → x ≡ judged.Sweeps m → IsJudged number x (task kinds line seen)
      → task kinds line session ≡ sweeps (sweep_of m)
  sweep_is m is j =
      is_sweep number m (task kinds line session)
      (subst (λ (x : Judged). IsJudged number x (task kinds line session)) is
      (subst (λ (s : Session). IsJudged number x (task kinds line s)) same j))

  pub delivery_is : (m : Deliver) → x ≡ judged.Delivers m
      → IsJudged number x (task kinds line seen)
      → task kinds line session ≡ delivers (deliver_of m)
  delivery_is m is j =
      is_delivery number m (task kinds line session)
      (subst (λ (x : Judged). IsJudged number x (task kinds line session)) is
      (subst (λ (s : Session). IsJudged number x (task kinds line s)) same j))

pub may_do : (seen session : Session) → seen ≡ session → (x : Judged) (p : Printed)
    → x ≡ judged.Printed p → MayDoJudged x seen → MayDo (doing_of p.doing) session
may_do seen session same x p is may =
    subst (λ (s : Session). MayDo (doing_of p.doing) s) same
    (subst (λ (x : Judged). MayDoJudged x seen) is may)

pub some_swept : (x : Judged) (m : Sweep) (s : Session) → x ≡ judged.Sweeps m → MayDoJudged x s
    → 1 ≤ m.batch
some_swept x m s is may = subst (λ (x : Judged). MayDoJudged x s) is may

pub some_open : (x : Judged) (m : Deliver) (seen session : Session) → seen ≡ session
    → x ≡ judged.Delivers m → MayDoJudged x seen → IsSome (stream_of m.name session)
some_open x m seen session same is may =
    subst (λ (s : Session). IsSome (stream_of m.name s)) same
    (subst (λ (x : Judged). MayDoJudged x seen) is may)

-- ---- parts and wholes

-- no emissions have no lines
pub alone : (text : List ℕ) (es : List Emission) → es ≡ [] → text ++ lines_of es ≡ text
alone text es none = ap (λ (es : List Emission). text ++ lines_of es) none ∙ append-nil text

-- equal parts make equal wholes
pub standing_same : (kinds : Kinds) (heard : List Heard) (a b : Session)
    (x y : List (List ℕ × Asks)) → a ≡ b → x ≡ y
    → standing_with a x kinds heard ≡ standing_with b y kinds heard
standing_same kinds heard a b x y sessions asks =
    ap (λ (s : Session). standing_with s x kinds heard) sessions
    ∙ ap (λ (l : List (List ℕ × Asks)). standing_with b l kinds heard) asks

-- ---- a line that was printed

module _ (number : ℕ) (line : List ℕ) (s : Standing) (o : Outcome) (p : Printed)
    (is : task s.kinds line s.session ≡ answered o) (printed : IsPrinted number p o) where
  same_meaning : task_meaning number (task s.kinds line s.session) s ≡ meaning_of number o s
  same_meaning = ap (λ (t : Task). task_meaning number t s) is

  -- its records are the line's
  pub records_so : records_of (doing_of p.doing) ≡ (meaning number line s).records
  unfolding meaning
  records_so =
      ap (λ (d : Doing). records_of d) printed.doing
      ∙ sym (ap (λ (m : Meaning). m.records) same_meaning)

  -- and so is what is due after it
  due_so : emissions (session_after (doing_of p.doing) s.session)
      ≡ emissions (session_after o.doing s.session)
  due_so = ap (λ (d : Doing). emissions (session_after d s.session)) printed.doing

  -- the engine and the output are those of its meaning
  pub answers_so : (r : Result (Engine × Output) Stop)
      → IfOk r (λ x. session_of x.0 ≡ settled_session (session_after (doing_of p.doing) s.session))
      → IfOk r (λ x. asks_in x.0 ≡ asks_kept (doing_of p.doing) s.session.world s.asks)
      → IfOk r (λ x. string_bytes x.1.text
      ≡ string_bytes p.text ++ lines_of (emissions (session_after (doing_of p.doing) s.session)))
      → IfOk r
      (λ x. x.1.emissions ≡ length (emissions (session_after (doing_of p.doing) s.session)))
      → IfOk r (λ x. x.1.refused ≡ p.refused) → IfOk r (λ x. x.1.end ≡ None)
      → IfOk r (λ x. Answers s.kinds s.heard (meaning number line s) x.0 x.1)
  unfolding meaning standing_of
  answers_so (Err stop) session asks text emitted refused end = tt
  answers_so (Ok x) session asks text emitted refused end =
      subst (λ (m : Meaning). Answers s.kinds s.heard m x.0 x.1) (sym same_meaning) (record {
        next = standing_same s.kinds s.heard _ _ _ _
            (session
            ∙ ap (λ (d : Doing). settled_session (session_after d s.session)) printed.doing)
            (asks ∙ ap (λ (d : Doing). asks_kept d s.session.world s.asks) printed.doing);
        reply = text
            ∙ ap (λ (t : List ℕ). t
            ++ lines_of (emissions (session_after (doing_of p.doing) s.session)))
            printed.text
            ∙ ap (λ (es : List Emission). answer_lines number o.answer ++ lines_of es) due_so;
        emissions = emitted ∙ ap (λ (es : List Emission). length es) due_so;
        refused = refused ∙ printed.refused;
        ended = end;
      })

  -- where it does nothing, it leaves all, and its output is its answer alone
  pub left_so : (r : Result (Engine × Output) Stop)
      → IfOk r (λ x. (session_of x.0 ≡ s.session) × (string_bytes x.1.text ≡ string_bytes p.text)
      × (x.1.emissions ≡ 0))
      → IfOk r (λ x. asks_in x.0 ≡ asks_kept (doing_of p.doing) s.session.world s.asks)
      → IfOk r (λ x. x.1.end ≡ None) → o.doing ≡ nothing
      → IfOk r (λ x. LeavesAll number line s x.0 x.1)
  unfolding meaning standing_of
  left_so (Err stop) left asks end idle = tt
  left_so (Ok x) left asks end idle = record {
    outcome = o;
    is = is;
    records = ap (λ (m : Meaning). m.records) same_meaning ∙ ap (λ (d : Doing). records_of d) idle;
    next = standing_same s.kinds s.heard _ _ _ _ left.0
        (asks ∙ ap (λ (d : Doing). asks_kept d s.session.world s.asks) (printed.doing ∙ idle));
    reply = left.1 ∙ printed.text;
    emissions = left.2;
    ended = end;
  }

  -- a refused one does nothing
  pub refused_so : {Stays : Type 0} (Leaves : Engine × Output → Type 0)
      → (is_refusal o.answer ≡ true → o.doing ≡ nothing)
      → (doing_of p.doing ≡ nothing → Stays) → (r : Result (Engine × Output) Stop)
      → IfOk r (λ x. x.1.refused ≡ p.refused)
      → (o.doing ≡ nothing → IfOk r Leaves)
      → IfOk r (λ x. x.1.refused ≡ true → Stays × Leaves x)
  refused_so Leaves idle stays (Err stop) refused left = tt
  refused_so Leaves idle stays (Ok x) refused left = λ is_so.
      let none = idle (sym printed.refused ∙ sym refused ∙ is_so) in
      (stays (printed.doing ∙ none), left none)

-- ---- a line that makes a turn

-- the engine and the output are those of the turn's meaning
pub turned_so : (number : ℕ) (name : List ℕ) (t : Turned) (s : Standing) (m : AfterTurn)
    (e : Engine) (o : Output)
    → IsAfterTurn name t s m → e ≡ m.engine
    → string_bytes o.text
    ≡ answer_lines number (turn m.exchanges m.ended) ++ lines_of m.emissions.items
    → o.emissions ≡ length m.emissions.items → o.refused ≡ false → o.end ≡ Some m.ended
    → Answers s.kinds s.heard (turn_meaning number name t s) e o
unfolding standing_of
turned_so number name t s m e o made here text emitted refused end = record {
  next = standing_same s.kinds s.heard _ _ _ _
      (ap (λ (x : Engine). session_of x) here ∙ made.session)
      (ap (λ (x : Engine). asks_in x) here ∙ made.asks);
  reply = text
      ∙ ap (λ (es : List Exchanged).
      answer_lines number (turn es m.ended) ++ lines_of m.emissions.items) made.exchanges
      ∙ ap (λ (e : TurnEnd).
      answer_lines number (turn t.exchanges e) ++ lines_of m.emissions.items) made.ended
      ∙ ap (λ (es : List Emission).
      answer_lines number (turn t.exchanges t.ended) ++ lines_of es) made.due;
  emissions = emitted ∙ ap (λ (es : List Emission). length es) made.due;
  refused = refused;
  ended = end ∙ ap (λ (e : TurnEnd). Some e) made.ended;
}

module _ (number : ℕ) (line : List ℕ) (s : Standing) (u : WantedTurn)
    (is : task s.kinds line s.session ≡ turns u) where
  -- its meaning is the line's
  pub turn_so : turn_meaning number u.name (turned u s) s ≡ meaning number line s
  unfolding meaning
  turn_so = sym (ap (λ (t : Task). task_meaning number t s) is)

  -- it isn't idle
  pub busy_so : IsIdleTask (task s.kinds line s.session) → ⊥
  busy_so idle = subst IsIdleTask is idle

-- ---- a line that makes a turn to a master elsewhere

module _ (number : ℕ) (line : List ℕ) (s : Standing) (d : WantedCall)
    (is : task s.kinds line s.session ≡ calls d) where
  -- its meaning is the line's
  pub call_so : turn_meaning number d.name (called d s).turned (to_hear (called d s).later s)
      ≡ meaning number line s
  unfolding meaning
  call_so = sym (ap (λ (t : Task). task_meaning number t s) is)

  -- it isn't idle
  pub calling_so : IsIdleTask (task s.kinds line s.session) → ⊥
  calling_so idle = subst IsIdleTask is idle

-- ---- a line that makes the turns of a tree

-- the engine and the output are those of the sweep's meaning
pub swept_so : (number : ℕ) (v : WantedSweep) (s : Standing) (m : AfterSweep)
    (e : Engine) (o : Output)
    → IsAfterSweep (swept v s) s m → e ≡ m.engine
    → string_bytes o.text
    ≡ answer_lines number (sweep m.turns m.ended) ++ lines_of m.emissions.items
    → o.emissions ≡ length m.emissions.items → o.refused ≡ false → o.end ≡ Some m.ended
    → Answers s.kinds s.heard (sweep_meaning number v s) e o
unfolding standing_of
swept_so number v s m e o made here text emitted refused end =
    let t = swept v s in
    record {
      next = standing_same s.kinds s.heard _ _ _ _
          (ap (λ (x : Engine). session_of x) here ∙ made.session)
          (ap (λ (x : Engine). asks_in x) here ∙ made.asks);
      reply = text
          ∙ ap (λ (ts : List SweptTurn). answer_lines number (sweep ts m.ended)
          ++ lines_of m.emissions.items) made.turns
          ∙ ap (λ (e : TurnEnd). answer_lines number (sweep t.turns e)
          ++ lines_of m.emissions.items) made.ended
          ∙ ap (λ (es : List Emission). answer_lines number (sweep t.turns t.ended)
          ++ lines_of es) made.due;
      emissions = emitted ∙ ap (λ (es : List Emission). length es) made.due;
      refused = refused;
      ended = end ∙ ap (λ (e : TurnEnd). Some e) made.ended;
    }

module _ (number : ℕ) (line : List ℕ) (s : Standing) (v : WantedSweep)
    (is : task s.kinds line s.session ≡ sweeps v) where
  -- its meaning is the line's
  pub sweep_so : sweep_meaning number v s ≡ meaning number line s
  unfolding meaning
  sweep_so = sym (ap (λ (t : Task). task_meaning number t s) is)

  pub sweeping_so : IsIdleTask (task s.kinds line s.session) → ⊥
  sweeping_so idle = subst IsIdleTask is idle

-- ---- a line that delivers

-- the engine and the output are those of the delivery's meaning
pub delivered_so : (number : ℕ) (d : WantedDelivery) (s : Standing) (m : AfterDelivery) (e : Engine)
    (o : Output) → IsAfterDelivery d s m → e ≡ m.engine
    → string_bytes o.text
    ≡ answer_lines number (deliver m.given m.level m.resync) ++ lines_of m.emissions.items
    → o.emissions ≡ length m.emissions.items → o.refused ≡ false → o.end ≡ None
    → Answers s.kinds s.heard (delivery_meaning number d s) e o
unfolding standing_of
delivered_so number d s m e o made here text emitted refused end =
    let due : List ℕ = lines_of m.emissions.items in
    let level = is_level (world_after (delivered_by d s.session).records s.session.world) d.name in
    record {
      next = standing_same s.kinds s.heard _ _ _ _
          (ap (λ (x : Engine). session_of x) here ∙ made.session)
          (ap (λ (x : Engine). asks_in x) here ∙ made.asks);
      reply = text
          ∙ ap (λ (gs : List Given). answer_lines number (deliver gs m.level m.resync) ++ due)
          made.given
          ∙ ap (λ (b : Bool).
          answer_lines number (deliver (delivered_by d s.session).given b m.resync)
          ++ due) made.level
          ∙ ap (λ (b : Bool). answer_lines number (deliver (delivered_by d s.session).given level b)
          ++ due) made.resync
          ∙ ap (λ (es : List Emission).
          answer_lines number (deliver (delivered_by d s.session).given
          level (is_resync (has_lost d.name s.session) (delivered_by d s.session).given))
          ++ lines_of es) made.due;
      emissions = emitted ∙ ap (λ (es : List Emission). length es) made.due;
      refused = refused;
      ended = end;
    }

module _ (number : ℕ) (line : List ℕ) (s : Standing) (d : WantedDelivery)
    (is : task s.kinds line s.session ≡ delivers d) where
  -- its meaning is the line's
  pub delivery_so : delivery_meaning number d s ≡ meaning number line s
  unfolding meaning
  delivery_so = sym (ap (λ (t : Task). task_meaning number t s) is)

  -- it isn't idle
  pub delivering_so : IsIdleTask (task s.kinds line s.session) → ⊥
  delivering_so idle = subst IsIdleTask is idle

-- what holds of each holds of all
pub of_each : {A H : Type 0} (P : H → A → Type 0) (r : Result A Stop) → ((h : H) → IfOk r (P h))
    → IfOk r (λ x. (h : H) → P h x)
of_each P (Err stop) each = tt
of_each P (Ok x) each = each

-- nor is it refused
pub not_refused : (P : Engine × Output → Type 0) (r : Result (Engine × Output) Stop)
    → IfOk r (λ x. x.1.refused ≡ false) → IfOk r (λ x. x.1.refused ≡ true → P x)
not_refused P (Err stop) is = tt
not_refused P (Ok x) is = λ is_so. absurd (true≢false (sym is_so ∙ is))
