-- How a connection ended.
use Rattle.std.specs.Prelude.{◌≡◌, ◌⊎◌, ℕ, ◌+◌, ◌≤◌, List, ◌++◌, length, drop, Option, Some, None}
use Rattle.rx_collection.specs.Held.{Held}
use Rattle.rx_outside.specs.declared.stop.Stop.{Stop}
use Rattle.rx_outside.specs.declared.stop.Stop.TheVariants.{Memory}
use Rattle.rx_serve.specs.Answered.{Commits}
use Rattle.rx_serve.specs.Course.{IsFront}
use Rattle.rx_serve.specs.Served.{served, served_first}
use Rattle.rx_serve.specs.declared.ended.Why.{Why}
use Rattle.rx_serve.specs.declared.ended.Why.TheVariants as why

-- what a list has more than it had
abbrev pub joined_since : List ℕ → List ℕ → List ℕ
joined_since old new = drop (length old) new

-- the connection by its parts: the collection before it and after it, the moments that joined, the
-- bytes that came and the bytes that were sent
pub record Connection : Type 0 where
  pub before : Held
  pub after : Held
  pub moments : List ℕ
  pub coming : List ℕ
  pub sent : List ℕ

-- All that is served was served: that collection, so many requests, that reason, the bytes due; and
-- it holds over its commits.
pub record IsServed (why : Why) (n : ℕ) (Holds : Commits → Type 0) (c : Connection) : Type 0 where
  pub after : (served c.before c.moments c.coming).after ≡ c.after
  pub answered : (served c.before c.moments c.coming).replies ≡ n
  pub ended : (served c.before c.moments c.coming).why ≡ why
  pub sent : (served c.before c.moments c.coming).due ≡ c.sent
  pub holds : Holds (served c.before c.moments c.coming).commits

-- The wire failed: a front of the bytes due was sent, so many requests were answered, the
-- collection is that after them, and it holds over their commits. All their replies but the last
-- were sent whole, and of no further reply was a byte sent: all that was sent is due on the first
-- lines, on which no more replies are.
pub record IsCutOff (n : ℕ) (Holds : Commits → Type 0) (c : Connection) : Type 0 where
  pub front : IsFront c.sent (served c.before c.moments c.coming).due
  pub answered : (served_first n c.before c.moments c.coming).replies ≡ n
  pub after : (served_first n c.before c.moments c.coming).after ≡ c.after
  pub holds : Holds (served_first n c.before c.moments c.coming).commits
  pub whole : (m : ℕ) × (m ≤ n) × (n ≤ m + 1)
      × IsFront (served_first m c.before c.moments c.coming).due c.sent
  pub lines : ℕ
  pub within : IsFront c.sent (served_first lines c.before c.moments c.coming).due
  pub replied : (served_first lines c.before c.moments c.coming).replies ≡ n

-- how it ended
abbrev pub EndsBy : Why → ℕ → (Commits → Type 0) → Connection → Type 0
EndsBy why.Wire n Holds c = IsCutOff n Holds c
EndsBy why.Peer n Holds c = IsServed why.Peer n Holds c
EndsBy why.Request n Holds c = IsServed why.Request n Holds c
EndsBy why.Clock n Holds c = IsServed why.Clock n Holds c

-- A stop came: the replies to the first n requests were sent whole, and nothing else; they are a
-- front of the bytes due. All their commits are sure; that of one request more may be there, or is
-- sure as well.
pub record IsStopped (Holds : Commits → Commits → Type 0) (c : Connection) : Type 0 where
  pub n : ℕ
  pub answered : (served_first n c.before c.moments c.coming).replies ≡ n
  pub sent : (served_first n c.before c.moments c.coming).due ≡ c.sent
  pub front : IsFront c.sent (served c.before c.moments c.coming).due
  pub begun : ℕ
  pub no_fewer : n ≤ begun
  pub one_more : begun ≤ n + 1
  pub next : Commits
  pub more : Commits
  pub due : (served_first begun c.before c.moments c.coming).commits
      ≡ ((served_first n c.before c.moments c.coming).commits ++ next) ++ more
  pub holds : Holds ((served_first n c.before c.moments c.coming).commits ++ next) more

-- the stop is that of the answer, or memory is wanting and the answer didn't stop
abbrev pub IsStopOf : Stop → Option Stop → Type 0
IsStopOf why stop = (stop ≡ Some why) ⊎ ((why ≡ Memory) × (stop ≡ None))
