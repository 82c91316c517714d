-- The steps of an exchange and of a turn.
use Rattle.std.specs.Prelude.{◌≡◌, ℕ, zero, suc, ◌+◌, ◌<◌, ◌≤◌, List, [], ◌∷◌, ◌++◌, Option, Some, None}
use Rattle.rx_wire.specs.declared.message.Request.{Request}
use Rattle.rx_replication.specs.Steps.{Step, System}
use Rattle.rx_replication.specs.Steps.Step.{Ask, Handle, Arrive}
use Rattle.rx_replication.specs.Taking.{Resolve}
use Rattle.rx_reply.specs.declared.turn.Exchanged.{Exchanged}
use Rattle.rx_reply.specs.declared.turn.TurnEnd.{TurnEnd}
use Rattle.rx_script.specs.declared.happening.Happening.{Happening}
use Rattle.rx_script.specs.declared.happening.Happening.TheVariants as link
use Rattle.rx_world.specs.World.{World}
use Rattle.rx_sync.specs.Asks.{Asks, most_number}
use Rattle.rx_sync.specs.Exchange.{Terms, Course, course, late_request, world_after}
use Rattle.rx_sync.specs.Laws.{MayTurn}
use Rattle.rx_sync.specs.Turn.{end_by, first_of, rest_of, turn}
use Rattle.rx_steps.specs.Shows.{LeadsTo, Resolves, Shows}

-- ---- which steps

-- those of a request that was made, by what the link does: where it is handled twice the first of
-- the two replies arrives
abbrev pub answer_steps : ℕ → Happening → List Step
answer_steps now link.Ok = Handle 0 now ∷ Arrive 0 now ∷ []
answer_steps now (link.Late j) = Handle 0 now ∷ Arrive 0 now ∷ []
answer_steps now link.LoseRequest = []
answer_steps now link.LoseReply = Handle 0 now ∷ []
answer_steps now link.Twice = Handle 0 now ∷ Handle 0 now ∷ Arrive 1 now ∷ []
answer_steps now link.Stale = Handle 0 now ∷ []

-- an earlier request that arrives late is handled before, where it is remembered
abbrev pub late_steps : ℕ → Happening → Option Request → List Step
late_steps now (link.Late j) (Some q) = Handle j now ∷ []
late_steps now x q = []

-- those of an exchange: the request is made, and is remembered from then on
abbrev pub exchange_steps : Terms → ℕ → Happening → Asks → List Step
exchange_steps t batch x a =
    Ask batch ∷ late_steps t.now x (late_request x a) ++ answer_steps t.now x

-- steps are the first of these, and all of them unless a commit finds no write time
pub record AreFirst (all : List Step) (came : Option Exchanged) (steps : List Step) : Type 0 where
  pub rest : List Step
  pub first : steps ++ rest ≡ all
  pub whole : (e : Exchanged) → came ≡ Some e → rest ≡ []

-- steps that begin so and go on so
pub record BeginWith (First Rest : List Step → Type 0) (steps : List Step) : Type 0 where
  pub first : List Step
  pub rest : List Step
  pub both : first ++ rest ≡ steps
  pub begin : First first
  pub go_on : Rest rest

-- those behind an exchange: none where it ends the turn
abbrev pub AreLater : Option TurnEnd → (List Step → Type 0) → List Step → Type 0
AreLater None Rest steps = Rest steps
AreLater (Some end) Rest steps = steps ≡ []

-- the steps of a turn are those of one exchange after another
abbrev pub AreTurnSteps : Terms → ℕ → ℕ → List Happening → World → Asks → List Step → Type 0
AreTurnSteps t batch zero over w a steps = steps ≡ []
AreTurnSteps t batch (suc budget) over w a steps =
    let c = course t batch (first_of over) w a in
    BeginWith (AreFirst (exchange_steps t batch (first_of over) c.asks) c.came)
    (AreLater (end_by batch c.came)
    (AreTurnSteps t batch budget (rest_of over) (world_after c.records w) c.asks)) steps

-- ---- what holds

-- steps lead to what an exchange leaves, and they are its steps
abbrev pub LeadsToCourse : Terms → ℕ → Happening → Resolve → System → World → Course → Type 0
LeadsToCourse t batch x by s w c =
    (l : LeadsTo by s c.asks (world_after c.records w) t.name)
    × AreFirst (exchange_steps t batch x c.asks) c.came l.steps

-- every exchange that may be made, whatever the link does, is a list of steps
abbrev pub ExchangesAreSteps : Type 0
ExchangesAreSteps =
    (t : Terms) (batch : ℕ) (x : Happening) (w : World) (a : Asks) (by : Resolve) (s : System)
    → 1 ≤ batch → MayTurn t w a → a.n < most_number → Resolves t.kinds w t.name by
    → Shows a w t.name s → LeadsToCourse t batch x by s w (course t batch x w a)

-- and so is every turn
abbrev pub TurnsAreSteps : Type 0
TurnsAreSteps =
    (t : Terms) (batch budget : ℕ) (over : List Happening) (w : World) (a : Asks) (by : Resolve)
    (s : System) → 1 ≤ batch → MayTurn t w a → a.n + budget ≤ most_number
    → Resolves t.kinds w t.name by → Shows a w t.name s
    → (l : LeadsTo by s (turn t batch budget over w a).asks
    (world_after (turn t batch budget over w a).records w) t.name)
    × AreTurnSteps t batch budget over w a l.steps
