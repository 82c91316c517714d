-- What a master's answer to a request is, and what it leaves.
use Rattle.std.specs.Prelude.{◌≡◌, ◌⊎◌, ℕ, List, [], ◌∷◌, ◌++◌, Option, Some, None, option_map}
use Rattle.std.specs.Option.{option_to_list}
use Rattle.rx_collection.specs.Commit.{rows_of}
use Rattle.rx_collection.specs.Held.{Held}
use Rattle.rx_collection.specs.Time.{stamp}
use Rattle.rx_document.specs.declared.stored.Stored.{Stored}
use Rattle.rx_replication.specs.Master.{body_of, master_then, reply_with, writes}
use Rattle.rx_value.specs.declared.state.State.{State}
use Rattle.rx_wire.specs.declared.message.AskKind.{AskKind}
use Rattle.rx_wire.specs.declared.message.AskKind.TheVariants.{Push, Pull}
use Rattle.rx_wire.specs.declared.message.Reply.{Reply}
use Rattle.rx_wire.specs.declared.message.Request.{Request}

-- the reply, and the collection after it; none where a row is to be written and no write time is
-- left
abbrev pub answered_at : Held → ℕ → Request → Option (Reply × Held)
answered_at c now q =
    option_map (λ after. (reply_with q (body_of c.documents q.ask), after))
    (master_then c q.ask now)

-- a commit: its write time, and the rows that it writes
pub record Commit : Type 0 where
  pub lwt : ℕ
  pub rows : List Stored

abbrev pub Commits : Type 0
Commits = List Commit

-- the commit of states at a write time
abbrev pub commit_with : Held → List State → ℕ → Commit
commit_with c states lwt = record { lwt = lwt; rows = rows_of c states lwt }

-- the commit of states, if there are any and a write time is left
abbrev pub commit_of : Held → List State → ℕ → Commits
commit_of c [] now = []
commit_of c (s ∷ ss) now =
    option_to_list (option_map (commit_with c (s ∷ ss)) (stamp c.documents now))

-- the commit of an answer, if there is one
abbrev pub commit_by : Held → AskKind → ℕ → Commits
commit_by c (Push rows) now = commit_of c (writes c.documents rows) now
commit_by c (Pull place batch) now = []

-- nothing is written where there is no reply
abbrev pub commit_if : Option (Reply × Held) → Commits → Commits
commit_if None commits = []
commit_if (Some p) commits = commits

-- the commit of a request at this moment, if there is one
abbrev pub commit_at : Held → ℕ → Request → AskKind → Commits
commit_at c now q ask = commit_if (answered_at c now q) (commit_by c ask now)

-- it was given, or there was none
abbrev pub Gives : Option (Reply × Held) → Held → Option Reply → Held → Type 0
Gives (Some p) old reply new = (reply ≡ Some p.0) × (new ≡ p.1)
Gives None old reply new = (reply ≡ None) × (new ≡ old)

-- at this moment, and so it holds over its commit
pub record AnswersAt (ask : AskKind) (q : Request) (old : Held) (now : ℕ) (reply : Option Reply)
    (new : Held) (Holds : Commits → Type 0) : Type 0 where
  pub gives : Gives (answered_at old now q) old reply new
  pub holds : Holds (commit_at old now q ask)

-- a push has a moment of its own, and a pull none
abbrev pub AnswersAsk : AskKind → Request → Held → List ℕ → Option Reply → Held → List ℕ
    → (Commits → Type 0) → Type 0
AnswersAsk (Push rows) q old before reply new after Holds =
    (now : ℕ) × (after ≡ before ++ now ∷ []) × AnswersAt (Push rows) q old now reply new Holds
AnswersAsk (Pull place batch) q old before reply new after Holds =
    (after ≡ before) × AnswersAt (Pull place batch) q old 0 reply new Holds

-- the request was answered
abbrev pub Answers : Request → Held → List ℕ → Option Reply → Held → List ℕ → (Commits → Type 0)
    → Type 0
Answers q = AnswersAsk q.ask q

-- A stop came within an answer, and no commit of it is sure: the moment of a push joined, and its
-- commit may be there; or neither.
abbrev pub StopsAsk : AskKind → Request → Held → List ℕ → List ℕ
    → (Commits → Commits → Type 0) → Type 0
StopsAsk (Push rows) q old before after Holds =
    ((after ≡ before) × Holds [] [])
    ⊎ ((now : ℕ) × (after ≡ before ++ now ∷ []) × Holds [] (commit_at old now q (Push rows)))
StopsAsk (Pull place batch) q old before after Holds = (after ≡ before) × Holds [] []

-- a stop came within the answer
abbrev pub Stops : Request → Held → List ℕ → List ℕ → (Commits → Commits → Type 0) → Type 0
Stops q = StopsAsk q.ask q

-- more may have joined
abbrev pub Continues : List ℕ → List ℕ → Type 0
Continues old new = (more : List ℕ) × (new ≡ old ++ more)

-- it holds over some commits
abbrev pub HoldsForSome : (Commits → Type 0) → Type 0
HoldsForSome Holds = (commits : Commits) × Holds commits

-- it holds over some that are sure, and some that may be there
abbrev pub LeavesSome : (Commits → Commits → Type 0) → Type 0
LeavesSome Holds = (sure : Commits) × (more : Commits) × Holds sure more
