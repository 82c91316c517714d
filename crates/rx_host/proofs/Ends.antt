-- How a connection ended, by another meaning of what holds.
use Rattle.std.proofs.Common.{ℕ, List, [], ◌∷◌, inl, inr, arith}
use Rattle.rx_outside.specs.Clock.{GivesMoment}
use Rattle.rx_host.specs.Moments.{GivesMoments}
use Rattle.rx_serve.specs.Answered.{Commits}
use Rattle.rx_serve.specs.Ends.{Connection, EndsBy, IsCutOff, IsServed, IsStopped}
use Rattle.rx_serve.specs.declared.ended.Why.{Why}
use Rattle.rx_serve.specs.declared.ended.Why.TheVariants as why

module _ (H K : Commits → Type 0) (weaker : (commits : Commits) → H commits → K commits)
    (c : Connection) where
  served_too : (w : Why) (n : ℕ) → IsServed w n H c → IsServed w n K c
  served_too w n s = record {
    after = s.after;
    answered = s.answered;
    ended = s.ended;
    sent = s.sent;
    holds = weaker _ s.holds;
  }

  cut_off_too : (n : ℕ) → IsCutOff n H c → IsCutOff n K c
  cut_off_too n s = record {
    front = s.front;
    answered = s.answered;
    after = s.after;
    holds = weaker _ s.holds;
    whole = s.whole;
    lines = s.lines;
    within = s.within;
    replied = s.replied;
  }

  pub ends_too : (w : Why) (n : ℕ) → EndsBy w n H c → EndsBy w n K c
  ends_too why.Wire n s = cut_off_too n s
  ends_too why.Peer n s = served_too why.Peer n s
  ends_too why.Request n s = served_too why.Request n s
  ends_too why.Clock n s = served_too why.Clock n s

pub stopped_too : (H K : Commits → Commits → Type 0)
    → ((sure more : Commits) → H sure more → K sure more) → (c : Connection)
    → IsStopped H c → IsStopped K c
stopped_too H K weaker c s = record {
  n = s.n;
  answered = s.answered;
  sent = s.sent;
  front = s.front;
  begun = s.begun;
  no_fewer = s.no_fewer;
  one_more = s.one_more;
  next = s.next;
  more = s.more;
  due = s.due;
  holds = weaker _ _ s.holds;
}

-- one moment that a clock gave
pub gives_one : (old new : List ℕ) (now : ℕ) → GivesMoment old new now
    → GivesMoments old new (now ∷ [])
gives_one old new now (inl is) = inl is
gives_one old new now (inr past) = inr (omega (arith, past))
