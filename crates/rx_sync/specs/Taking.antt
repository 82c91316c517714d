-- What the fork of a replication makes of a reply.
use Rattle.std.specs.Prelude.{ℕ, ◌==◌, Bool, true, false, ◌&&◌, List, [], ◌∷◌, map, length, Option, Some, None, option_map, unwrap_or, Result, Ok, if◌then◌else◌}
use Rattle.std.specs.List.{list_all}
use Rattle.std.specs.Ordering.{eq_by_cmp}
use Rattle.rx_value.specs.Due.{◌>>=◌, ◌>>◌, lifted, or_fault}
use Rattle.rx_value.specs.Named.{named}
use Rattle.rx_value.specs.declared.state.State.{State}
use Rattle.rx_document.specs.Place.{place_cmp}
use Rattle.rx_document.specs.declared.place.Place.{Place}
use Rattle.rx_collection.specs.Commit.{rows_of}
use Rattle.rx_collection.specs.Held.{Held}
use Rattle.rx_collection.specs.Time.{stamp}
use Rattle.rx_wire.specs.declared.message.Reply.{Reply}
use Rattle.rx_handler.specs.Handlers.{Kinds}
use Rattle.rx_handler.specs.Resolve.{resolve}
use Rattle.rx_handler.specs.declared.kind.HandlerKind.{HandlerKind}
use Rattle.rx_meta.specs.Side.{Side}
use Rattle.rx_replication.specs.Known.{KnownStates, is_state}
use Rattle.rx_replication.specs.Taking.{Resolve}
use Rattle.rx_fork.specs.Accept.{accepted}
use Rattle.rx_fork.specs.declared.accept.ExchangePlan.{ExchangePlan}
use Rattle.rx_fork.specs.declared.ask.Asked.{Asked}
use Rattle.rx_fork.specs.declared.fault.AcceptFault.{AcceptFault}
use Rattle.rx_fork.specs.declared.fault.AcceptFault.TheVariants as refused
use Rattle.rx_record.specs.Content.{Content, exchange}
use Rattle.rx_world.specs.Commit.{out_of}
use Rattle.rx_world.specs.World.{World}
use Rattle.rx_world.specs.declared.replication.Replication.{Replication}
use Rattle.rx_sync.specs.Asking.{fork_in}
use Rattle.rx_sync.specs.declared.fault.TakeFault.{TakeFault}
use Rattle.rx_sync.specs.declared.fault.TakeFault.TheVariants.{Foreign, Moved, BadReply, ClockEnd, Memory}

-- ---- whether anything changes

-- the state is the known one of its key
abbrev pub is_known : KnownStates → State → Bool
is_known known s = is_state (named known s.key) s

abbrev pub is_same_place : Option Place → Option Place → Bool
is_same_place None None = true
is_same_place (Some p) (Some q) = eq_by_cmp place_cmp p q
is_same_place p q = false

-- no row is written, the checkpoints stay, and each state is known already
abbrev pub changes_nothing : Side → ExchangePlan → Bool
changes_nothing side plan =
    length plan.rows == 0 && is_same_place side.up plan.up && is_same_place side.down plan.down
    && list_all (is_known side.known) plan.known

-- ---- the record

-- the write time, which is 0 where there is no row; none where none is left
abbrev pub write_time : ℕ → Held → List State → Option ℕ
write_time now fork [] = Some 0
write_time now fork (s ∷ ss) = stamp fork.documents now

-- of the replication of that name
abbrev pub exchange_at : List ℕ → Held → ExchangePlan → ℕ → Content
exchange_at name fork plan lwt =
    exchange name lwt (map out_of (rows_of fork plan.rows lwt)) plan.known plan.up plan.down

-- one, or none where nothing changes
abbrev pub recorded : List ℕ → ℕ → Held → Side → ExchangePlan → Result (List Content) TakeFault
recorded name now fork side plan =
    if changes_nothing side plan then Ok []
    else or_fault ClockEnd
    (option_map (λ lwt. exchange_at name fork plan lwt ∷ []) (write_time now fork plan.rows))

-- ---- taking

-- a reply that isn't taken
abbrev pub take_fault : AcceptFault → TakeFault
take_fault (refused.Foreign epoch n) = Foreign epoch n
take_fault (refused.Moved then_lwt now_lwt) = Moved then_lwt now_lwt
take_fault (refused.BadReply place) = BadReply place
take_fault refused.Memory = Memory

-- how a handler of that kind resolves the conflicts of a replication
abbrev pub resolve_for : HandlerKind → Replication → Resolve
resolve_for kind r = resolve kind (unwrap_or r.field [])

-- the records of a taking, or why there are none
abbrev pub taken_by : List ℕ → ℕ → Asked → Reply → Replication → Held → HandlerKind
    → Result (List Content) TakeFault
taken_by name now asked reply r fork kind =
    lifted take_fault (accepted (resolve_for kind r) fork.documents r.side asked reply)
    >> recorded name now fork r.side

-- of the replication of a name, where it, its fork and its handler are there
abbrev pub taken : World → Kinds → List ℕ → Asked → Reply → ℕ
    → Option (Result (List Content) TakeFault)
taken w kinds name asked reply now =
    named w.replications name >>= λ r. fork_in w r >>= λ fork. named kinds r.handler >>= λ kind.
    Some (taken_by name now asked reply r fork kind)
