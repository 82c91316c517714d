-- That whoever hands the master a request takes the step `Handle`.
use Rattle.std.specs.Prelude.{◌≡◌, ℕ, List, ◌∷◌, ◌++◌, take, Option, Some, None, Ok, slice_get, reverse}
use Rattle.std.specs.List.{AllByRecursion, flat_map}
use Rattle.rx_schema.specs.declared.shape.Shape.{Shape}
use Rattle.rx_collection.specs.Held.{Held}
use Rattle.rx_handler.specs.Handlers.{Kinds}
use Rattle.rx_wire.specs.Spelling.{request_of}
use Rattle.rx_wire.specs.Writing.{reply_text}
use Rattle.rx_wire.specs.declared.message.Reply.{Reply}
use Rattle.rx_wire.specs.declared.message.Request.{Request}
use Rattle.rx_replication.specs.Steps.{System, MadeReply, Step, run, system_after}
use Rattle.rx_replication.specs.Steps.Step.{Handle}
use Rattle.rx_replication.specs.Taking.{Resolve}
use Rattle.rx_serve.specs.Answered.{Gives, answered_at}
use Rattle.rx_serve.specs.Served.{Served, as_line, served_lines}
use Rattle.rx_sync.specs.Asks.{Asks}
use Rattle.rx_sync.specs.Exchange.{world_after}
use Rattle.rx_sync.specs.Handling.{Handled, handled_for}
use Rattle.rx_sync.specs.Laws.{IsLawfulIn, IsReady}
use Rattle.rx_world.specs.World.{World}
use Rattle.rx_steps.specs.Shows.{Shows, of_schema}

-- ---- a request and its step

-- the collection is the master of the system, but for the schema
abbrev pub IsItsMaster : Held → System → Type 0
IsItsMaster c s = c ≡ of_schema c.schema s.master

-- the request is the one of that place among those that may still be handled
abbrev pub MayBeHandled : System → ℕ → Request → Type 0
MayBeHandled s which q = slice_get (take s.since s.requests) which ≡ Some q

-- a reply that a master makes
abbrev pub reply_of : Reply → Held → MadeReply
reply_of reply master = record { reply = reply; master = master }

-- the master and the replies alone change, by this reply; where there is none nothing does
abbrev pub IsWithReply : System → System → Option Reply → Type 0
IsWithReply s next None = next ≡ s
IsWithReply s next (Some reply) =
    next
    ≡ record s { master = next.master; replies = reply_of reply next.master ∷ s.replies }

-- such a step, which leaves that collection as the master
pub record IsStepTo (s next : System) (c : Held) (given : Option Reply) : Type 0 where
  pub master : IsItsMaster c next
  pub reply : IsWithReply s next given

-- ---- each answer

-- what a master gives and leaves at a moment is what the step `Handle` of that moment makes
abbrev pub AnswersAreSteps : Type 0
AnswersAreSteps =
    (by : Resolve) (s : System) (which now : ℕ) (q : Request) (c new : Held)
    (reply : Option Reply) → MayBeHandled s which q → IsItsMaster c s
    → Gives (answered_at c now q) c reply new
    → IsStepTo s (system_after by s (Handle which now)) new reply

-- ---- a connection

-- each line is read as a request that may still be handled
abbrev pub AreToBeHandled : Shape → System → List (List ℕ) → Type 0
AreToBeHandled schema s lines =
    AllByRecursion
    (λ line. (which : ℕ) × (q : Request) × (request_of schema line ≡ Ok q)
    × MayBeHandled s which q)
    lines

abbrev pub IsHandle : Step → Type 0
IsHandle step = (which : ℕ) × (now : ℕ) × (step ≡ Handle which now)

-- The steps `Handle` that a connection makes: the collection that it leaves is the master behind
-- them, and what is due is their replies, a line each, the oldest first.
pub record IsServedBySteps (by : Resolve) (s : System) (served : Served) : Type 0 where
  pub steps : List Step
  pub handles : AllByRecursion IsHandle steps
  pub master : IsItsMaster served.after (run by steps s)
  pub made : List MadeReply
  pub joined : (run by steps s).replies ≡ made ++ s.replies
  pub due : served.due ≡ flat_map (λ r. as_line (reply_text r.reply)) (reverse made)

-- so is every connection, whatever its peer sends of such requests and however often
abbrev pub ConnectionsAreSteps : Type 0
ConnectionsAreSteps =
    (by : Resolve) (s : System) (c : Held) (moments : List ℕ) (lines : List (List ℕ))
    → IsItsMaster c s → AreToBeHandled c.schema s lines
    → IsServedBySteps by s (served_lines c moments lines)

-- ---- a master of the same journal

-- the world behind the handling shows the system behind the step; where no write time is left the
-- step changes nothing
abbrev pub IsHandledTo : Asks → World → List ℕ → System → System → Option Handled → Type 0
IsHandledTo a w name s next None = next ≡ s
IsHandledTo a w name s next (Some h) =
    Shows a (world_after h.records w) name next × IsWithReply s next (Some h.reply)

-- what the master of a replication does with a request of it is the step
abbrev pub HandlingsAreSteps : Type 0
HandlingsAreSteps =
    (w : World) (a : Asks) (name : List ℕ) (kinds : Kinds) (by : Resolve) (s : System)
    (which now : ℕ) (q : Request) → IsReady w name kinds → IsLawfulIn w name q
    → Shows a w name s → MayBeHandled s which q
    → IsHandledTo a w name s (system_after by s (Handle which now)) (handled_for w name q now)
