-- The line that has a hook stand before the writes of a collection.
use Rattle.std.specs.Prelude.{ℕ, List, length, filter, nat_lt, Bool, true, false, Option, Some, Result, Ok}
use Rattle.std.specs.Str.{bytes_eq}
use Rattle.rx_value.specs.Due.{◌>>◌, demand, or_fault}
use Rattle.rx_value.specs.Named.{named}
use Rattle.rx_value.specs.declared.kinds.Kind.{Kind}
use Rattle.rx_value.specs.declared.kinds.Kind.TheVariants.{Flag, Int}
use Rattle.rx_schema.specs.Writing.{kinds_of as field_kinds}
use Rattle.rx_schema.specs.declared.shape.Shape.{Shape}
use Rattle.rx_reply.specs.Answer.{hook as hooked}
use Rattle.rx_reply.specs.declared.refusal.Refusal.TheVariants.{NoHook, TooMany}
use Rattle.rx_session.specs.Doing.{attach}
use Rattle.rx_session.specs.Session.{Session}
use Rattle.rx_update.specs.declared.attached.Attached.{Attached}
use Rattle.rx_update.specs.declared.attached.When.{When}
use Rattle.rx_update.specs.declared.kind.HookKind.{HookKind}
use Rattle.rx_update.specs.declared.kind.HookKind.TheVariants.{Count, Zero, Lock}
use Rattle.rx_engine.specs.Outcome.{Outcome, collection_at}
use Rattle.rx_writes.specs.declared.fault.Fault.{Fault}
use Rattle.rx_writes.specs.declared.fault.Fault.TheVariants.{Refused}

-- the most hooks of a collection
abbrev pub max_hooks : ℕ
max_hooks = 16

-- `lock` goes by a property of flags, and every other hook by one of whole numbers
abbrev pub takes_kind : HookKind → Option Kind → Bool
takes_kind Lock (Some Flag) = true
takes_kind Count (Some Int) = true
takes_kind Zero (Some Int) = true
takes_kind _ _ = false

abbrev pub takes : HookKind → Shape → List ℕ → Bool
takes kind schema field = takes_kind kind (named (field_kinds schema.properties) field)

-- the hooks of a collection
abbrev pub hooks_in : List ℕ → List Attached → List Attached
hooks_in coll hooks = filter (λ a. bytes_eq coll a.coll) hooks

-- The collection is held, the run knows the hook, which takes the field, and there is room.
abbrev pub hook_line : List ℕ → When → List ℕ → List ℕ → Session → Result Outcome Fault
hook_line coll when hook field s =
    collection_at coll s >> λ c.
    or_fault (Refused NoHook) (named s.hooks.known hook) >> λ kind.
    demand (takes kind c.schema field) (Refused NoHook) >> λ _.
    demand (nat_lt (length (hooks_in coll s.hooks.attached)) max_hooks) (Refused TooMany) >> λ _.
    Ok (record {
      doing = attach (record {
        coll = coll;
        when = when;
        hook = hook;
        kind = kind;
        field = field;
      });
      answer = hooked;
    })
