-- A copy of a journal, and what runs over both come to.
use Rattle.std.specs.Prelude.{◌≡◌, ℕ, List, ◌++◌, map, Bool, Ok}
use Rattle.rx_compact.specs.Plan.{plan}
use Rattle.rx_compact.specs.Writing.{IsCopied}
use Rattle.rx_compact.specs.declared.copying.Copied.{Copied}
use Rattle.rx_disk.specs.declared.disk.Disk.{Ghosts}
use Rattle.rx_engine.specs.Opening.{Host}
use Rattle.rx_outside.specs.declared.dial.Dial.{Ghosts as DialGhosts}
use Rattle.rx_outside.specs.declared.sink.Sink.{Ghosts as SinkGhosts}
use Rattle.rx_outside.specs.declared.source.Source.{Ghosts as SourceGhosts}
use Rattle.rx_record.specs.Content.{content_bytes}
use Rattle.rx_sync.specs.Remote.{Heard}
use Rattle.rx_world.specs.World.{World}
use Rattle.rx_top.specs.RunEnds.{Ran}
use Rattle.rx_top.specs.Start.{IsStart}

-- a disk that holds the copy of a world is a journal of that world, which a run may begin with
abbrev pub CopyStarts : {D : Type 0} → Ghosts D → Type 0
CopyStarts {D} d =
    (disk : D) (w : World) (made : Copied) → IsCopied d disk w made
    → IsStart d disk (map content_bytes (plan w)) w

-- a run that began with a journal of this world and was played to its end had this input, and wrote
-- this
pub record HasPlayed
    {S K D N W : Type 0}
    (s : SourceGhosts S)
    (k : SinkGhosts K)
    (d : Ghosts D)
    (n : DialGhosts N W)
    (wires : Type 0)
    (host : Host)
    (heard : List Heard)
    (w : World)
    (input output : List ℕ) : Type 0 where
  pub run : Ran s k d n wires
  pub by_host : run.host ≡ host
  pub hears : run.heard ≡ heard
  pub source_tells : s.tells
  pub sink_tells : k.tells
  pub disk_tells : d.tells
  pub bodies : List (List ℕ)
  pub start : IsStart d run.disk bodies w
  pub given : s.left run.source ≡ input
  -- it was played to its end
  pub refused : Bool
  pub whole : run.plays.ended ≡ Ok refused
  pub wrote : k.written run.out' ≡ k.written run.out ++ output

-- Over two journals of one world, a journal and its copy for example, the same input is answered
-- alike where the same was heard.
abbrev pub PlayAlike
    : {S K D E N W : Type 0} → SourceGhosts S → SinkGhosts K → Ghosts D → Ghosts E → DialGhosts N W
    → Type 0 → Type 0
PlayAlike s k d e n wires =
    (host : Host) (heard : List Heard) (w : World) (input x y : List ℕ)
    → HasPlayed s k d n wires host heard w input x
    → HasPlayed s k e n wires host heard w input y → x ≡ y
