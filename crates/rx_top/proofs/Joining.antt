-- What was told by lines joined what the sink had.
use Rattle.std.proofs.Common.{◌≡◌, ◌∙◌, refl, sym, ℕ, List, [], ◌++◌, Bool, Result, Ok, Err, IsErrOf, append-nil, string_bytes}
use Rattle.rx_disk.specs.declared.disk.Disk.{Ghosts}
use Rattle.rx_engine.specs.Dialled.{DialStanding}
use Rattle.rx_engine.specs.Engine.{standing_of}
use Rattle.rx_engine.specs.declared.engine.Engine.{Engine}
use Rattle.rx_handler.specs.Handlers.{Kinds}
use Rattle.rx_outside.specs.declared.stop.Stop.{Stop}
use Rattle.rx_top.specs.Group.{SettlesGroup}
use Rattle.rx_top.specs.Script.{line_effect}
use Rattle.rx_top.specs.Stops.{Appends}
use Rattle.rx_top.specs.Work.{WorksLine}
use Rattle.rx_top.specs.declared.early_end.EarlyEnd.{EarlyEnd}
use Rattle.rx_top.specs.declared.early_end.EarlyEnd.TheVariants.{Read, Sink, Work}
use Rattle.rx_top.specs.declared.early_end.ReadFault.{ReadFault}
use Rattle.rx_top.specs.declared.group.Group.{Group}

same_joined : (old new : List ℕ) → new ≡ old → Appends old new
same_joined old new e = ([], e ∙ sym (append-nil old))

-- those of a group
pub group_joined : {D : Type 0} {d : Ghosts D} {k_tells : Type 0} {g : Group} {old new : D}
    {w w' : List ℕ} (r : Result Engine EarlyEnd) → SettlesGroup d k_tells g old new w w' r
    → ((f : ReadFault) → IsErrOf r (Read f) → ⊥) → k_tells → Appends w w'
group_joined {g = g} (Ok e) s unread t = (string_bytes g.text, s.told t)
group_joined (Err Sink) s unread t = let f = s.front t refl in (f.0, f.3)
group_joined {w = w} {w' = w'} (Err (Work why)) s unread t = same_joined w w' (s.unsaid t why refl)
group_joined (Err (Read f)) s unread t = absurd (unread f refl)

-- those of a line
pub line_joined : {D : Type 0} {d : Ghosts D} {kinds : Kinds} {wires k_tells : Type 0} {n : ℕ}
    {line : List ℕ} {e : Engine} {old new : D} {n0 n1 : DialStanding} {w w' : List ℕ}
    (r : Result (Engine × Bool) EarlyEnd)
    → WorksLine d kinds wires k_tells n line e old new n0 n1 w w' r
    → (k_tells → (why : Stop) → IsErrOf r (Work why) → w' ≡ w)
    → ((f : ReadFault) → IsErrOf r (Read f) → ⊥) → k_tells → Appends w w'
line_joined {kinds = kinds} {n = n} {line = line} {e = e} (Ok p) s unsaid unread t =
    ((line_effect n line (standing_of kinds (s.heard ++ []) e)).reply, s.told [] t)
line_joined (Err Sink) s unsaid unread t = let f = s.front [] t refl in (f.0, f.3)
line_joined {w = w} {w' = w'} (Err (Work why)) s unsaid unread t =
    same_joined w w' (unsaid t why refl)
line_joined (Err (Read f)) s unsaid unread t = absurd (unread f refl)
