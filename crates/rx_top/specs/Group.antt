-- Lines that are played together: what they come to before one commit, and after it.
use Rattle.rx_serve.specs.Lines.{cut}
use Rattle.std.specs.Prelude.{◌≡◌, ◌||◌, ℕ, ◌+◌, ◌≤◌, List, [], ◌++◌, length, Bool, true, false, Option, None, Some, Result, Ok, Err, IfOk, OnOk, IsErrOf, string_bytes}
use Rattle.rx_disk.specs.declared.disk.Disk.{Ghosts}
use Rattle.rx_engine.specs.Ahead.{AddsTo, IsAhead, IsLeft}
use Rattle.rx_engine.specs.Calling.{WantedCall}
use Rattle.rx_engine.specs.Engine.{IsAt, limit_of, standing_of}
use Rattle.rx_engine.specs.Lines.{calls, task}
use Rattle.rx_engine.specs.Standing.{Standing}
use Rattle.rx_engine.specs.declared.engine.Engine.{Engine}
use Rattle.rx_handler.specs.Handlers.{Kinds}
use Rattle.rx_outside.specs.Sink.{WritesFront}
use Rattle.rx_outside.specs.declared.stop.Stop.{Stop}
use Rattle.rx_store.specs.Safe.{IsCrashSafe}
use Rattle.rx_sync.specs.Remote.{Heard}
use Rattle.rx_top.specs.Chunks.{all_of}
use Rattle.rx_top.specs.Lines.{is_blank}
use Rattle.rx_top.specs.Reader.{Reading, TakesKept}
use Rattle.rx_top.specs.Script.{line_effect}
use Rattle.rx_top.specs.Story.{EachLine, Effect, any_refused, chunks, replies, state_after}
use Rattle.rx_top.specs.Turns.{HoldsOfTurn}
use Rattle.rx_top.specs.Work.{HasAll}
use Rattle.rx_top.specs.declared.early_end.EarlyEnd.{EarlyEnd}
use Rattle.rx_top.specs.declared.early_end.EarlyEnd.TheVariants.{Read, Sink, Work}
use Rattle.rx_top.specs.declared.group.Group.{Group}
use Rattle.rx_top.specs.declared.group.Played.{Played}
use Rattle.rx_top.specs.declared.reader.Next.{Next}
use Rattle.rx_top.specs.declared.reader.Next.TheVariants.{Line}

-- the most lines of a group
abbrev pub max_group_lines : ℕ
max_group_lines = 1024

-- the bytes of records, and those of replies, from which on a group takes no line more
abbrev pub max_group_bytes : ℕ
max_group_bytes = 1048576

-- ---- before the commit

-- a line makes no turn to a master elsewhere
abbrev pub CallsNobody : ℕ → List ℕ → Standing → Standing → Type 0
CallsNobody n line s next =
    is_blank line ≡ false → (c : WantedCall) → task s.kinds line s.session ≡ calls c → ⊥

-- what the next line does to a group
abbrev pub does_next : Kinds → List Heard → List ℕ → Group → Effect Standing
does_next kinds heard line g = line_effect (g.number + 1) line (standing_of kinds heard g.engine)

-- a group has a line more, whatever is to be heard of masters elsewhere
pub record AddsOne (kinds : Kinds) (line : List ℕ) (g then : Group) : Type 0 where
  pub number : then.number ≡ g.number + 1
  pub next : (heard : List Heard)
      → standing_of kinds heard then.engine ≡ (does_next kinds heard line g).next
  pub text : (heard : List Heard)
      → string_bytes then.text ≡ string_bytes g.text ++ (does_next kinds heard line g).reply
  pub refused : (heard : List Heard)
      → then.refused ≡ (g.refused || (does_next kinds heard line g).refused)
  pub turn : (heard : List Heard) → HoldsOfTurn (g.number + 1) line
      (standing_of kinds heard g.engine) (does_next kinds heard line g).next
  pub here : (heard : List Heard) → CallsNobody (g.number + 1) line
      (standing_of kinds heard g.engine) (does_next kinds heard line g).next
  pub adds : (heard : List Heard)
      → AddsTo g.engine then.engine (does_next kinds heard line g).bodies

-- a group is as it was
pub record StaysGroup (g then : Group) : Type 0 where
  pub number : then.number ≡ g.number
  pub text : string_bytes then.text ≡ string_bytes g.text
  pub refused : then.refused ≡ g.refused
  pub left : IsLeft g.engine then.engine

-- the line was added, or it has to be played alone
abbrev pub AddsLine : Kinds → List ℕ → Group → Group → Bool → Type 0
AddsLine kinds line g then true = AddsOne kinds line g then
AddsLine kinds line g then false = StaysGroup g then

-- lines from number n + 1 on were played, from an engine on, and wait for a commit, whatever is to
-- be heard of masters elsewhere
pub record IsGroup
    (kinds : Kinds)
    (n : ℕ)
    (lines : List (List ℕ))
    (e : Engine)
    (g : Group) : Type 0 where
  pub number : g.number ≡ n + length lines
  pub next : (heard : List Heard) → standing_of kinds heard g.engine
      ≡ state_after line_effect (n + 1) lines (standing_of kinds heard e)
  pub text : (heard : List Heard) → string_bytes g.text
      ≡ replies line_effect (n + 1) lines (standing_of kinds heard e)
  pub refused : (heard : List Heard) → g.refused
      ≡ any_refused line_effect (n + 1) lines (standing_of kinds heard e)
  pub turns : (heard : List Heard)
      → EachLine line_effect HoldsOfTurn (n + 1) lines (standing_of kinds heard e)
  pub here : (heard : List Heard)
      → EachLine line_effect CallsNobody (n + 1) lines (standing_of kinds heard e)
  pub adds : (heard : List Heard) → AddsTo e g.engine
      (all_of (chunks line_effect (n + 1) lines (standing_of kinds heard e)))

-- ---- of what is to come

-- whole lines were taken of what was to come
pub record TakesLines (old : List ℕ) (lines : List (List ℕ)) (mid : List ℕ) : Type 0 where
  pub bytes : List ℕ
  pub split : old ≡ bytes ++ mid
  pub whole : (cut bytes).rest ≡ []
  pub are : (cut bytes).whole ≡ lines

-- behind a group: the next line is to be taken yet; or a reader has it, and it is to be played
abbrev pub StandsBehind : Next → Reading → List ℕ → List ℕ → Bool → Type 0
StandsBehind next reader mid left true = mid ≡ reader.unread ++ left
StandsBehind next reader mid left false = TakesKept next reader.line mid (reader.unread ++ left)

-- how far a group leads a reader and the number of lines, from number n on
pub record LeadsOn
    (next : Next)
    (n : ℕ)
    (old new : Reading)
    (number : ℕ)
    (played : Bool) : Type 0 where
  pub bounded : number ≤ n + max_group_lines
  -- nothing was read, and each line but the first takes a byte at least of what was
  pub given : new.given ≡ old.given
  pub shorter : length new.unread ≤ length old.unread
  pub count : number + length new.unread ≤ n + length old.unread + 1
  pub count_alone : played ≡ false → number + length new.unread ≤ n + length old.unread
  -- a line without an end is played alone
  pub ended : played ≡ true → next ≡ Line
  pub last : (next ≡ Line → ⊥) → number ≡ n

-- some lines of what was to come are a group
pub record Gathers
    (kinds : Kinds)
    (next : Next)
    (n : ℕ)
    (old left : List ℕ)
    (reader : Reading)
    (e : Engine)
    (g : Group)
    (played : Bool) : Type 0 where
  pub lines : List (List ℕ)
  pub mid : List ℕ
  pub takes : TakesLines old lines mid
  pub behind : StandsBehind next reader mid left played
  pub group : IsGroup kinds n lines e g

-- ---- after the commit

-- how that ended: the engine goes on, or the sink failed; or work stopped
abbrev pub settled : Result Engine EarlyEnd → Result (Option Engine) Stop
settled (Ok e) = Ok (Some e)
settled (Err (Work stop)) = Err stop
settled (Err (Read fault)) = Ok None
settled (Err Sink) = Ok None

-- the group's records were put on the disk, and then its replies were written
pub record SettlesGroup
    {D : Type 0}
    (d : Ghosts D)
    (k_tells : Type 0)
    (g : Group)
    (old new : D)
    (written written' : List ℕ)
    (result : Result Engine EarlyEnd) : Type 0 where
  pub same : IfOk result (λ e. (kinds : Kinds) (heard : List Heard)
      → standing_of kinds heard e ≡ standing_of kinds heard g.engine)
  pub limit : IfOk result (λ e. limit_of e ≡ limit_of g.engine)
  pub told : k_tells → OnOk result (written' ≡ written ++ string_bytes g.text)
  pub front : k_tells → IsErrOf result Sink → WritesFront written written' (string_bytes g.text)
  pub unsaid : k_tells → (s : Stop) → IsErrOf result (Work s) → written' ≡ written
  pub safe : d.tells → (bodies more : List (List ℕ)) → IsAhead d old g.engine bodies more
      → IsCrashSafe d old new bodies more (limit_of g.engine) (HasAll d new) (settled result)

-- how the play of a group ended: lines were played together, or work on them stopped
abbrev pub group_of : Result Played EarlyEnd → Result (Option Engine) Stop
group_of (Ok p) = Ok (Some p.engine)
group_of (Err (Work stop)) = Err stop
group_of (Err (Read fault)) = Ok None
group_of (Err Sink) = Ok None

-- A group was played over a disk and a sink. Whatever is to be heard of masters elsewhere, it is
-- what its lines do, and where work stopped, a front of their records may be there.
pub record WorksGroup
    {D : Type 0}
    (d : Ghosts D)
    (kinds : Kinds)
    (k_tells : Type 0)
    (next : Next)
    (n : ℕ)
    (old left : List ℕ)
    (reader : Reading)
    (engine : Engine)
    (disk disk' : D)
    (written written' : List ℕ)
    (result : Result Played EarlyEnd) : Type 0 where
  pub lines : List (List ℕ)
  pub mid : List ℕ
  pub takes : TakesLines old lines mid
  pub behind : IfOk result (λ p. StandsBehind next reader mid left p.whole)
  pub number : IfOk result (λ p. p.number ≡ n + length lines)
  pub next_so : (heard : List Heard) → IfOk result (λ p. standing_of kinds heard p.engine
      ≡ state_after line_effect (n + 1) lines (standing_of kinds heard engine))
  pub refused : (heard : List Heard) → IfOk result (λ p. p.refused
      ≡ any_refused line_effect (n + 1) lines (standing_of kinds heard engine))
  pub told : (heard : List Heard) → k_tells → OnOk result (written'
      ≡ written ++ replies line_effect (n + 1) lines (standing_of kinds heard engine))
  pub front : (heard : List Heard) → k_tells → IsErrOf result Sink
      → WritesFront written written'
      (replies line_effect (n + 1) lines (standing_of kinds heard engine))
  pub unsaid : k_tells → (s : Stop) → IsErrOf result (Work s) → written' ≡ written
  pub turns : (heard : List Heard)
      → EachLine line_effect HoldsOfTurn (n + 1) lines (standing_of kinds heard engine)
  pub here : (heard : List Heard)
      → EachLine line_effect CallsNobody (n + 1) lines (standing_of kinds heard engine)
  pub safe : (heard : List Heard) → d.tells → (bodies : List (List ℕ))
      → IsAt d disk engine bodies → IsCrashSafe d disk disk' bodies
      (all_of (chunks line_effect (n + 1) lines (standing_of kinds heard engine)))
      (limit_of engine) (HasAll d disk') (group_of result)

-- the same of the disk alone, also where nothing is known of the source
pub record GrowsByGroup
    {D : Type 0}
    (d : Ghosts D)
    (engine : Engine)
    (disk disk' : D)
    (bodies : List (List ℕ))
    (result : Result Played EarlyEnd) : Type 0 where
  pub more : List (List ℕ)
  pub safe : IsCrashSafe d disk disk' bodies more (limit_of engine) (HasAll d disk')
      (group_of result)
