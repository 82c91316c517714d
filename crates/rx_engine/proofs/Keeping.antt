-- What is done to a session, and its world.
use Rattle.std.proofs.Common.{◌≡◌, ◌∙◌, [], true, refl, ap}
use Rattle.rx_record.specs.Content.{Content, epoch, migration}
use Rattle.rx_record.specs.Writable.{IsOrdered}
use Rattle.rx_record.specs.declared.record.Record.{Record}
use Rattle.rx_world.specs.Made.{IsMadeWorld}
use Rattle.rx_world.specs.Sound.{IsSoundWorld}
use Rattle.rx_world.specs.Step.{legal, step}
use Rattle.rx_world.specs.Touch.{IsMigration}
use Rattle.rx_world.specs.World.{World}
use Rattle.rx_world.proofs.Making.{made_step}
use Rattle.rx_world.proofs.Settled.{keeps_sound}
use Rattle.rx_world.proofs.Sounds.{sound_step}
use Rattle.rx_world.proofs.Steps.{epoch_legal}
use Rattle.rx_session.specs.Doing.{Doing, nothing, set_clock, write, migrate, watch, unwatch, attach, open_stream, close_stream, restart, session_after, MayDo}
use Rattle.rx_session.specs.Session.{Session}
use Rattle.rx_session.specs.Shown.{done_by}
use Rattle.rx_session.specs.declared.doing.Doing.{Doing as Done}
use Rattle.rx_session.specs.declared.doing.Doing.TheVariants as done
use Rattle.rx_engine.specs.Meaning.{records_of}
use Rattle.rx_engine.specs.Shown.{WritesNoExchange}

-- what is no record to be written has none
pub no_record : (x : Done) → ((entry : Record) → x ≡ done.Write entry → ⊥)
    → records_of (done_by x) ≡ []
no_record done.Nothing other = refl
no_record (done.SetClock at) other = refl
no_record (done.Write entry) other = absurd (other entry refl)
no_record (done.Watch w) other = refl
no_record (done.Unwatch name) other = refl
no_record (done.Attach one) other = refl
no_record (done.OpenStream opening) other = refl
no_record (done.CloseStream name) other = refl

-- and leaves the world
pub world_kept : (d : Doing) (s : Session) → records_of d ≡ []
    → (session_after d s).world ≡ s.world
world_kept nothing s none = refl
world_kept (set_clock at) s none = refl
world_kept (write c) s none = absurd (cc)
world_kept (migrate c) s none = absurd (cc)
world_kept (watch name coll q) s none = refl
world_kept (unwatch name) s none = refl
world_kept (attach one) s none = refl
world_kept (open_stream name master) s none = refl
world_kept (close_stream name) s none = refl
world_kept (restart number) s none = absurd (cc)

-- what is done within a session
abbrev pub IsInSession : Doing → Type 0
IsInSession (migrate c) = ⊥
IsInSession other = Unit {0}

pub in_session : (x : Done) → IsInSession (done_by x)
in_session done.Nothing = tt
in_session (done.SetClock at) = tt
in_session (done.Write entry) = tt
in_session (done.Watch w) = tt
in_session (done.Unwatch name) = tt
in_session (done.Attach one) = tt
in_session (done.OpenStream opening) = tt
in_session (done.CloseStream name) = tt

-- the record of a migration is in order
pub migration_ordered : (c : Content) → IsMigration c → IsOrdered c
migration_ordered (migration name text steps) is = tt
migration_ordered other is = absurd is

-- and leaves a sound world
pub migration_sound : (c : Content) (w : World) → legal c w ≡ true → IsMigration c → IsSoundWorld w
    → IsSoundWorld (step c w)
migration_sound (migration name text steps) w may is sound = keeps_sound name text steps w may sound
migration_sound other w may is sound = absurd is

-- a world that records made stays one
pub made_then : (d : Doing) (s : Session) → MayDo d s → IsMadeWorld s.world
    → IsMadeWorld (session_after d s).world
made_then nothing s may made = made
made_then (set_clock at) s may made = made
made_then (write c) s may made = made_step c s.world may.0 may.1 made
made_then (migrate c) s may made =
    made_step c s.world may.0 (migration_ordered c may.1) made
made_then (watch name coll q) s may made = made
made_then (unwatch name) s may made = made
made_then (attach one) s may made = made
made_then (open_stream name master) s may made = made
made_then (close_stream name) s may made = made
made_then (restart number) s may made =
    made_step (epoch number) s.world (ap (λ n. legal (epoch n) s.world) may
    ∙ epoch_legal s.world) tt made

-- and a sound one stays sound
pub sound_then : (d : Doing) (s : Session) → MayDo d s → WritesNoExchange d → IsMadeWorld s.world
    → IsSoundWorld s.world → IsSoundWorld (session_after d s).world
sound_then nothing s may apart made sound = sound
sound_then (set_clock at) s may apart made sound = sound
sound_then (write c) s may apart made sound = sound_step c s.world may.0 may.1 apart made sound
sound_then (migrate c) s may apart made sound = migration_sound c s.world may.0 may.1 sound
sound_then (watch name coll q) s may apart made sound = sound
sound_then (unwatch name) s may apart made sound = sound
sound_then (attach one) s may apart made sound = sound
sound_then (open_stream name master) s may apart made sound = sound
sound_then (close_stream name) s may apart made sound = sound
sound_then (restart number) s may apart made sound = sound
