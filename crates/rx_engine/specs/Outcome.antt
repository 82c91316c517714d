-- What a line does, and what it is answered.
use Rattle.std.specs.Prelude.{ℕ, List, Result, Ok, Err, Option, Some, None}
use Rattle.rx_collection.specs.Held.{Held}
use Rattle.rx_record.specs.Content.{Content}
use Rattle.rx_reply.specs.Answer.{Answer}
use Rattle.rx_reply.specs.declared.refusal.Refusal.TheVariants.{Clock, NoCollection}
use Rattle.rx_value.specs.Named.{named}
use Rattle.rx_value.specs.declared.state.State.{State}
use Rattle.rx_value.specs.Due.{or_fault}
use Rattle.rx_world.specs.Commit.{commit_to}
use Rattle.rx_session.specs.Doing.{Doing, nothing, write}
use Rattle.rx_session.specs.Session.{Session}
use Rattle.rx_writes.specs.declared.fault.Fault.{Fault}
use Rattle.rx_writes.specs.declared.fault.Fault.TheVariants.{Refused}

pub record Outcome : Type 0 where
  pub doing : Doing
  pub answer : Answer

-- an answer that changes nothing
abbrev pub answer_alone : Answer → Outcome
answer_alone answer = record { doing = nothing; answer = answer }

-- the collection of a name, which is to be held
abbrev pub collection_at : List ℕ → Session → Result Held Fault
collection_at coll s = or_fault (Refused (NoCollection coll)) (named s.world.collections coll)

-- a record and an answer; none where no write time is left
abbrev pub write_outcome : Answer → Option Content → Result Outcome Fault
write_outcome answer None = Err (Refused Clock)
write_outcome answer (Some content) = Ok (record { doing = write content; answer = answer })

-- states are written to a collection at the present moment
abbrev pub commit : List ℕ → List State → Answer → Held → Session → Result Outcome Fault
commit coll states answer c s = write_outcome answer (commit_to coll states s.moment c)
