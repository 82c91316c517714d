-- What a taking is of.
use Rattle.std.proofs.Common.{◌≡◌, ℕ, List, Some, Result}
use Rattle.rx_value.specs.Due.{◌>>=◌}
use Rattle.rx_value.specs.Named.{named}
use Rattle.rx_value.proofs.Outcomes.{some_then, some_same}
use Rattle.rx_collection.specs.Held.{Held}
use Rattle.rx_handler.specs.Handlers.{Kinds}
use Rattle.rx_handler.specs.declared.kind.HandlerKind.{HandlerKind}
use Rattle.rx_wire.specs.declared.message.Reply.{Reply}
use Rattle.rx_fork.specs.declared.ask.Asked.{Asked}
use Rattle.rx_record.specs.Content.{Content}
use Rattle.rx_world.specs.World.{World}
use Rattle.rx_world.specs.declared.replication.Replication.{Replication}
use Rattle.rx_sync.specs.Asking.{fork_in}
use Rattle.rx_sync.specs.Taking.{taken, taken_by}
use Rattle.rx_sync.specs.declared.fault.TakeFault.{TakeFault}

-- a replication, its fork and its handler, which are there
pub record IsTakingOf (w : World) (kinds : Kinds) (name : List ℕ) (asked : Asked) (reply : Reply)
    (now : ℕ) (due : Result (List Content) TakeFault) : Type 0 where
  pub r : Replication
  pub at : named w.replications name ≡ Some r
  pub fork : Held
  pub held : named w.collections r.fork ≡ Some fork
  pub kind : HandlerKind
  pub handler : named kinds r.handler ≡ Some kind
  pub is : taken_by name now asked reply r fork kind ≡ due

pub taking_of : (w : World) (kinds : Kinds) (name : List ℕ) (asked : Asked) (reply : Reply)
    (now : ℕ) (due : Result (List Content) TakeFault)
    → taken w kinds name asked reply now ≡ Some due
    → IsTakingOf w kinds name asked reply now due
taking_of w kinds name asked reply now due is =
    let a = some_then (named w.replications name) (λ r. fork_in w r >>= λ fork.
    named kinds r.handler >>= λ kind. Some (taken_by name now asked reply r fork kind)) due
    is in
    let b = some_then (fork_in w a.0) (λ fork. named kinds a.0.handler >>= λ kind.
    Some (taken_by name now asked reply a.0 fork kind)) due a.2 in
    let d = some_then (named kinds a.0.handler) (λ kind.
    Some (taken_by name now asked reply a.0 b.0 kind)) due b.2 in
    record {
      r = a.0;
      at = a.1;
      fork = b.0;
      held = b.1;
      kind = d.0;
      handler = d.1;
      is = some_same {x = taken_by name now asked reply a.0 b.0 d.0} {y = due} d.2;
    }
