-- That no update is lost.
use Rattle.std.specs.Prelude.{◌≡◌, ◌≢◌, ◌⊎◌, ℕ, true, List, Option, Some}
use Rattle.rx_value.specs.Named.{named}
use Rattle.rx_value.specs.declared.state.State.{State}
use Rattle.rx_document.specs.Documents.{Documents}
use Rattle.rx_document.specs.declared.stored.Stored.{Stored}
use Rattle.rx_wire.specs.declared.message.Body.{Body}
use Rattle.rx_wire.specs.declared.message.Body.TheVariants.{Conflicts}
use Rattle.rx_replication.specs.Known.{KnownStates, is_pending}
use Rattle.rx_replication.specs.Member.{Member}
use Rattle.rx_replication.specs.Taking.{Resolve}
use Rattle.rx_replication.specs.Write.{state_at}

-- the answer has a conflict of that very document with another state, and the document is now what
-- the handler makes of the two
pub record IsResolvedBy (resolve : Resolve) (body : Body) (d : Stored) (now : Option State)
    : Type 0 where
  pub conflicts : List State
  pub answer : body ≡ Conflicts conflicts
  pub real : State
  pub met : Member real conflicts
  pub key : real.key ≡ d.state.key
  pub other : real ≢ d.state
  pub resolved : now ≡ Some (resolve real d.state)

-- each pending document of the fork stays as it is, or is resolved by the answer
abbrev pub KeepsPending : Resolve → KnownStates → Body → Documents → Documents → Type 0
KeepsPending resolve known body before after =
    (key : List ℕ) (d : Stored) → named before key ≡ Some d → is_pending known d ≡ true
    → (named after key ≡ Some d) ⊎ IsResolvedBy resolve body d (state_at after key)
