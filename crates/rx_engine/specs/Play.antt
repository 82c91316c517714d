-- A line in play, and its disk.
use Rattle.std.specs.Prelude.{◌≡◌, ◌<◌, ℕ, List, ◌∷◌, ◌++◌, Option, Some, None, Result, IfOk, IsErrOf}
use Rattle.rx_value.specs.Named.{put_named}
use Rattle.rx_disk.specs.declared.disk.Disk.{Ghosts}
use Rattle.rx_journal.specs.Ready.{grown_end}
use Rattle.rx_journal.specs.declared.journal.Journal.{Journal}
use Rattle.rx_outside.specs.declared.stop.Stop.{Stop}
use Rattle.rx_outside.specs.declared.stop.Stop.TheVariants.{NotJournal}
use Rattle.rx_record.specs.Content.{Content, content_bytes}
use Rattle.rx_session.specs.Session.{Session}
use Rattle.rx_store.specs.Holds.{Holds}
use Rattle.rx_store.specs.Safe.{HasDiskCause, IsCrashSafe}
use Rattle.rx_store.specs.Staged.{Adds}
use Rattle.rx_sync.specs.Asks.{Asks}
use Rattle.rx_sync.specs.Turn.{Turned}
use Rattle.rx_world.specs.World.{World}
use Rattle.rx_engine.specs.Meaning.{bodies_of}
use Rattle.rx_engine.specs.Turning.{written}
use Rattle.rx_engine.specs.declared.play.Past.{Past}
use Rattle.rx_engine.specs.declared.play.Play.{Play}
use Rattle.rx_engine.specs.declared.turning.Turned.{Turned as Made}

-- ---- with no word of a disk

-- a line in play that has staged nothing yet
abbrev pub play_of : Journal → Session → Play
play_of journal session = record { journal = journal; playing = session; past = None }

-- of all the records of a line these are staged: all; or those before one that would end past the
-- limit
abbrev pub AreStaged : Option Past → Journal → List Content → List Content → Type 0
AreStaged None journal staged all = all ≡ staged
AreStaged (Some past) journal staged all =
    (c : Content) × (behind : List Content) × (all ≡ staged ++ c ∷ behind)
    × (past.would ≡ grown_end journal (content_bytes c)) × (past.limit ≡ journal.limit)
    × (past.limit < past.would)

-- a line that began with a journal and a world has come to another journal and world, and these are
-- its records so far
pub record IsAfter (first : Journal) (v : World) (all : List Content) (journal : Journal)
    (past : Option Past) (w : World) : Type 0 where
  pub staged : List Content
  pub world : World
  pub adds : Adds first journal v world (bodies_of staged)
  pub are : AreStaged past journal staged all
  pub same : past ≡ None → world ≡ w

-- a line in play is another one after some records more
pub record Follows (p : Play) (cs : List Content) (q : Play) : Type 0 where
  pub session : q.playing ≡ written cs p.playing
  pub limit : q.journal.limit ≡ p.journal.limit
  pub staged : (first : Journal) (v : World) (all : List Content)
      → IsAfter first v all p.journal p.past p.playing.world
      → IsAfter first v (all ++ cs) q.journal q.past q.playing.world

-- ---- with its disk

-- the disk holds these bodies, they are the world in play, and nothing was to be staged past the
-- limit
abbrev pub IsPlayAt : {D : Type 0} → Ghosts D → D → Play → List (List ℕ) → Type 0
IsPlayAt d disk p bodies = Holds d disk p.journal bodies p.playing.world × (p.past ≡ None)

-- What a line in play had staged was to be put on the disk. Where a record would have ended past
-- the limit, those before it are there.
pub record CommitsStaged {D : Type 0} (d : Ghosts D) (old new : D) (p : Play)
    (result : Result Play Stop) : Type 0 where
  pub session : IfOk result (λ q. q.playing ≡ p.playing)
  pub safe : d.tells → (bodies : List (List ℕ)) (first : Journal) (v : World) (all : List Content)
      → Holds d old first bodies v → IsAfter first v all p.journal p.past p.playing.world
      → IsCrashSafe d old new bodies (bodies_of all) first.limit (IsPlayAt d new) result
  pub limit : IfOk result (λ q. q.journal.limit ≡ p.journal.limit)
  pub not_journal : IsErrOf result NotJournal → ⊥
  pub cause : HasDiskCause (d.faults old) (d.faults new) result

-- ---- a turn

-- a turn was made from a session on: its records are written, its exchanges are those, it ended so,
-- and these requests are remembered
pub record IsMade (t : Turned) (first : Session) (made : Made) (remembered : Asks) : Type 0 where
  pub session : made.play.playing ≡ written t.records first
  pub asks : remembered ≡ t.asks
  pub exchanges : made.exchanges ≡ t.exchanges
  pub ended : made.ended ≡ t.ended

-- the same, where its requests are remembered under the name of its replication
pub record IsMadeByName (name : List ℕ) (t : Turned) (first : Session) (made : Made)
    (before now : List (List ℕ × Asks)) : Type 0 where
  pub session : made.play.playing ≡ written t.records first
  pub asks : now ≡ put_named before name t.asks
  pub exchanges : made.exchanges ≡ t.exchanges
  pub ended : made.ended ≡ t.ended
