-- What a line was judged to be.
use Rattle.std.specs.Prelude.{◌≡◌, ◌≤◌, ℕ, IsSome, string_bytes}
use Rattle.rx_reply.specs.Reply.{answer_lines, is_refusal}
use Rattle.rx_session.specs.Doing.{MayDo}
use Rattle.rx_session.specs.Session.{Session, stream_of}
use Rattle.rx_engine.specs.Lines.{Task, answered, turns, calls, sweeps, delivers}
use Rattle.rx_engine.specs.Outcome.{Outcome}
use Rattle.rx_engine.specs.Shown.{call_of, deliver_of, doing_of, sweep_of, turn_of}
use Rattle.rx_engine.specs.declared.judging.Judged.{Judged}
use Rattle.rx_engine.specs.declared.judging.Judged.TheVariants as judged
use Rattle.rx_engine.specs.declared.judging.Printed.{Printed}

-- what was printed is an outcome: what it does, and the lines of its answer
pub record IsPrinted (number : ℕ) (p : Printed) (o : Outcome) : Type 0 where
  pub doing : doing_of p.doing ≡ o.doing
  pub text : string_bytes p.text ≡ answer_lines number o.answer
  pub refused : p.refused ≡ is_refusal o.answer

-- what was judged is that task
abbrev pub IsJudged : ℕ → Judged → Task → Type 0
IsJudged number (judged.Printed p) (answered o) = IsPrinted number p o
IsJudged number (judged.Turns t) (turns u) = turn_of t ≡ u
IsJudged number (judged.Calls c) (calls d) = call_of c ≡ d
IsJudged number (judged.Delivers d) (delivers e) = deliver_of d ≡ e
IsJudged number (judged.Sweeps v) (sweeps w) = sweep_of v ≡ w
IsJudged number (judged.Printed p) (turns u) = ⊥
IsJudged number (judged.Printed p) (calls d) = ⊥
IsJudged number (judged.Turns t) (answered o) = ⊥
IsJudged number (judged.Turns t) (calls d) = ⊥
IsJudged number (judged.Calls c) (answered o) = ⊥
IsJudged number (judged.Calls c) (turns u) = ⊥
IsJudged number (judged.Printed p) (delivers e) = ⊥
IsJudged number (judged.Turns t) (delivers e) = ⊥
IsJudged number (judged.Calls c) (delivers e) = ⊥
IsJudged number (judged.Delivers d) (answered o) = ⊥
IsJudged number (judged.Delivers d) (turns u) = ⊥
IsJudged number (judged.Delivers d) (calls c) = ⊥
IsJudged number (judged.Printed p) (sweeps w) = ⊥
IsJudged number (judged.Turns t) (sweeps w) = ⊥
IsJudged number (judged.Calls c) (sweeps w) = ⊥
IsJudged number (judged.Delivers d) (sweeps w) = ⊥
IsJudged number (judged.Sweeps v) (answered o) = ⊥
IsJudged number (judged.Sweeps v) (turns u) = ⊥
IsJudged number (judged.Sweeps v) (calls c) = ⊥
IsJudged number (judged.Sweeps v) (delivers e) = ⊥

-- it may be done in a session; an exchange is of one document at least, a turn to a master
-- elsewhere has one at least, and a stream that delivers is open
abbrev pub MayDoJudged : Judged → Session → Type 0
MayDoJudged (judged.Printed p) s = MayDo (doing_of p.doing) s
MayDoJudged (judged.Turns t) s = 1 ≤ t.batch
MayDoJudged (judged.Calls c) s = (1 ≤ c.batch) × (1 ≤ c.budget)
MayDoJudged (judged.Sweeps v) s = 1 ≤ v.batch
MayDoJudged (judged.Delivers d) s = IsSome (stream_of d.name s)
