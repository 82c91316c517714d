-- That no exchange of a turn to a master of the same journal loses an update, alone or in a sweep.
use Rattle.std.specs.Prelude.{◌≡◌, ◌≤◌, ◌⊎◌, ℕ, List, [], ◌++◌, Some, Ok}
use Rattle.std.specs.List.{AllByRecursion}
use Rattle.rx_value.specs.Named.{named}
use Rattle.rx_fork.specs.declared.ask.Asked.{Asked}
use Rattle.rx_record.specs.Content.{Content}
use Rattle.rx_script.specs.declared.happening.Happening.{Happening}
use Rattle.rx_world.specs.World.{World}
use Rattle.rx_sync.specs.Asking.{asked_in}
use Rattle.rx_sync.specs.Asks.{Asks, asks_of, next_number, with_request}
use Rattle.rx_sync.specs.Exchange.{Terms, Course, late_records, late_request, taken_as, world_after}
use Rattle.rx_sync.specs.Handling.{Handled, handled_for}
use Rattle.rx_sync.specs.Laws.{ForFork, KeepsPendingIn, MayTurn}
use Rattle.rx_sync.specs.Sweep.{EachSwept, Sweep, terms_in}
use Rattle.rx_sync.specs.Taking.{taken}
use Rattle.rx_sync.specs.Turn.{EachExchange}
use Rattle.rx_sync.specs.declared.sweeping.Step.{Step}

-- The reply that an exchange takes: that of its master to the request that was made, behind the
-- records of an earlier request that arrived late. Its records are those, what its master wrote,
-- and those of the taking.
pub record TakesReply (t : Terms) (batch : ℕ) (w : World) (a : Asks) (x : Happening) (c : Course)
    : Type 0 where
  pub asked : Asked
  pub made : asked_in w t.name (next_number a) batch ≡ Some asked
  pub late : List Content
  pub arrived : late_records t.name t.now w (late_request x (with_request asked.request a))
      ≡ Some late
  pub answer : Handled
  pub answered : handled_for (world_after late w) t.name asked.request t.now ≡ Some answer
  pub learnt : List Content
  pub is_taken : taken (world_after (late ++ answer.records) w) t.kinds t.name asked answer.reply
      t.now
      ≡ Some (Ok learnt)
  pub records : c.records ≡ late ++ answer.records ++ learnt
  pub came : c.came ≡ Some (taken_as asked.request.ask answer.reply.body)
  -- no document that is to be pushed changes but by the handler's answer on its conflict in this
  -- reply
  pub updates : KeepsPendingIn w t.kinds t.name answer.reply c.records

-- no document of the fork changes
abbrev pub LeavesFork : World → List ℕ → List Content → Type 0
LeavesFork w name cs =
    ForFork w name (λ r fork. named (world_after cs w).collections r.fork ≡ Some fork)

-- an exchange takes a reply so, or leaves the fork as it is
abbrev pub KeepsUpdates : Terms → ℕ → World → Asks → Happening → Course → Type 0
KeepsUpdates t batch w a x c =
    TakesReply t batch w a x c ⊎ LeavesFork w t.name c.records

-- of each exchange of a turn
abbrev pub EachKeepsUpdates : Terms → ℕ → ℕ → List Happening → World → Asks → Type 0
EachKeepsUpdates t batch budget link w a =
    EachExchange (KeepsUpdates t batch) t batch budget link w a

-- of each exchange of each turn of a sweep
abbrev pub EachSweptKeepsUpdates : Sweep → List Step → World → List (List ℕ × Asks) → Type 0
EachSweptKeepsUpdates s steps w asks =
    EachSwept (λ name w asks.
    EachKeepsUpdates (terms_in s name) s.batch s.budget [] w (asks_of name asks)) s steps w asks

-- each turn of a sweep may be made in the world before the first
abbrev pub MayTurnEach : Sweep → List Step → World → List (List ℕ × Asks) → Type 0
MayTurnEach s steps w asks =
    AllByRecursion (λ (step : Step). MayTurn (terms_in s step.name) w (asks_of step.name asks)) steps

-- so it is of every sweep over such turns
abbrev pub SweepsKeepUpdates : Type 0
SweepsKeepUpdates =
    (s : Sweep) (steps : List Step) (w : World) (asks : List (List ℕ × Asks)) → 1 ≤ s.batch
    → MayTurnEach s steps w asks → EachSweptKeepsUpdates s steps w asks
