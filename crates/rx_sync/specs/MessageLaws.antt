-- What the two ends send each other is lawful, so that each reads what the other wrote.
use Rattle.std.specs.Prelude.{◌≡◌, ℕ, ◌≤◌, List, Some}
use Rattle.rx_value.specs.Named.{named}
use Rattle.rx_collection.specs.Held.{Held}
use Rattle.rx_wire.specs.Lawful.{IsReply, IsRequest}
use Rattle.rx_wire.specs.Limits.{IsCount, most_states}
use Rattle.rx_wire.specs.declared.message.Request.{Request}
use Rattle.rx_fork.specs.declared.ask.Asked.{Asked}
use Rattle.rx_world.specs.Made.{IsMadeWorld}
use Rattle.rx_world.specs.World.{World}
use Rattle.rx_sync.specs.Asking.{asked_in}
use Rattle.rx_sync.specs.Handling.{Handled, handled, handled_for}
use Rattle.rx_sync.specs.Laws.{ForFork}

-- what a fork asks is a lawful request of its schema, where the epoch and the number are counts and
-- a message may have as many documents as it asks for
abbrev pub AsksLawfully : Type 0
AsksLawfully =
    (w : World) → IsMadeWorld w → IsCount w.epoch → (name : List ℕ) (n batch : ℕ) → IsCount n
    → 1 ≤ batch → batch ≤ most_states → (asked : Asked) → asked_in w name n batch ≡ Some asked
    → ForFork w name (λ r fork. IsRequest fork.schema asked.request)

-- what a collection answers to a lawful request of its schema is a lawful reply of that schema
abbrev pub AnswersLawfully : Type 0
AnswersLawfully =
    (w : World) → IsMadeWorld w → (name : List ℕ) (c : Held) → named w.collections name ≡ Some c
    → (q : Request) → IsRequest c.schema q → (now : ℕ) (h : Handled)
    → handled w name q now ≡ Some h → IsReply c.schema h.reply

-- so what the master of a replication answers to a lawful request of the fork's schema is a lawful
-- reply of the fork's schema
abbrev pub AnswersItsFork : Type 0
AnswersItsFork =
    (w : World) → IsMadeWorld w → (name : List ℕ) (q : Request) (now : ℕ) (h : Handled)
    → handled_for w name q now ≡ Some h
    → ForFork w name (λ r fork. IsRequest fork.schema q → IsReply fork.schema h.reply)
