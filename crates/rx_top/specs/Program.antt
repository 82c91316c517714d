-- What the program promises, by the command that its words ask for.
use Rattle.std.specs.Prelude.{◌≡◌, ◌⊎◌, ℕ, List, codes, Option, None, Some}
use Rattle.rx_disk.specs.declared.disk.Disk.{Ghosts}
use Rattle.rx_engine.specs.Opening.{Host}
use Rattle.rx_outside.specs.declared.clock.Clock.{Ghosts as ClockGhosts}
use Rattle.rx_outside.specs.declared.dial.Dial.{Ghosts as DialGhosts}
use Rattle.rx_outside.specs.declared.listen.Listen.{Ghosts as DoorGhosts}
use Rattle.rx_outside.specs.declared.sink.Sink.{Ghosts as SinkGhosts}
use Rattle.rx_outside.specs.declared.source.Source.{Ghosts as SourceGhosts}
use Rattle.rx_sync.specs.Remote.{Heard}
use Rattle.rx_words.specs.declared.command.Command.{Command}
use Rattle.rx_words.specs.declared.command.Command.TheVariants.{Run, Serve, Check, Trial, Compact}
use Rattle.rx_top.specs.CopiesJournal.{CopiesJournal}
use Rattle.rx_top.specs.PlaysScript.{PlaysScript}
use Rattle.rx_top.specs.ReportsJournal.{ReportsJournal}
use Rattle.rx_top.specs.ServesCollection.{ServesCollection}
use Rattle.rx_top.specs.Stops.{EndsWith, stop_line}
use Rattle.rx_top.specs.TriesScript.{TriesScript}

-- all that a command may touch but its sink
pub record Reach (S D L N C E : Type 0) : Type 0 where
  pub source : S
  pub disk : D
  pub door : L
  pub dial : N
  pub clock : C
  pub copy : E

-- these
abbrev pub reach : {S D L N C E : Type 0} → S → D → L → N → C → E → Reach S D L N C E
reach source disk door dial clock copy = record {
  source = source;
  disk = disk;
  door = door;
  dial = dial;
  clock = clock;
  copy = copy;
}

-- Of a call that ended with a status, from one state of all this to a later one. The wires of the
-- door and of the dial tell what went over them, or don't.
module _
    {S K D L V N W C E : Type 0}
    (s : SourceGhosts S)
    (k : SinkGhosts K)
    (d : Ghosts D)
    (l : DoorGhosts L V)
    (door_wires : Type 0)
    (n : DialGhosts N W)
    (dial_wires : Type 0)
    (c : ClockGhosts C)
    (e : Ghosts E)
    (host : Host)
    (status : ℕ)
    (out out' : K)
    (old new : Reach S D L N C E)
  where
    -- Nothing is read, opened or asked, and this line is written, or a front of it where the sink
    -- failed.
    pub record OnlyWrites (line : List ℕ) : Type 0 where
      pub untouched : new ≡ old
      pub told : EndsWith k.tells (k.faults out) (k.faults out') (k.written out) (k.written out')
          line

    -- The words may be no command. Each command does what its record says, by what was heard of
    -- masters elsewhere where it makes turns, and what it doesn't need it leaves alone.
    abbrev pub Promises : Option Command → Type 0
    Promises None = (status ≡ 2) × OnlyWrites (stop_line (codes "usage"))
    Promises (Some (Run path limit)) =
        ((heard : List Heard) × PlaysScript s k d n dial_wires host heard limit status
        old.source new.source out out' old.disk new.disk old.dial new.dial)
        × (new.door ≡ old.door) × (new.clock ≡ old.clock) × (new.copy ≡ old.copy)
    Promises (Some (Serve path name port connections limit)) =
        ServesCollection k d l door_wires c name port connections limit status out out' old.disk
        new.disk old.door new.door old.clock new.clock
        × (new.source ≡ old.source) × (new.dial ≡ old.dial) × (new.copy ≡ old.copy)
    Promises (Some (Check path)) =
        ReportsJournal k d status out out' old.disk new.disk
        × (new.source ≡ old.source) × (new.door ≡ old.door) × (new.dial ≡ old.dial)
        × (new.clock ≡ old.clock) × (new.copy ≡ old.copy)
    Promises (Some (Trial path seed count limit)) =
        ((heard : List Heard) × TriesScript k d n dial_wires host heard limit seed count status
        out out' old.disk new.disk old.dial new.dial)
        × (new.source ≡ old.source) × (new.door ≡ old.door) × (new.clock ≡ old.clock)
        × (new.copy ≡ old.copy)
    Promises (Some (Compact path out_path limit)) =
        CopiesJournal k d e limit status out out' old.disk new.disk old.copy new.copy
        × (new.source ≡ old.source) × (new.door ≡ old.door) × (new.dial ≡ old.dial)
        × (new.clock ≡ old.clock)

    -- memory was wanting for the words themselves
    abbrev pub LacksMemory : Type 0
    LacksMemory = (status ≡ 6) × OnlyWrites (stop_line (codes "memory"))

    -- it does what is promised, or memory was wanting for the words
    abbrev pub Plays : Option Command → Type 0
    Plays command = Promises command ⊎ LacksMemory
