use Rattle.std.proofs.Common.{[], ◌∷◌, ◌++◌, ℕ, List, sym, subst}
use Rattle.rx_record.specs.Content.{content_bytes}
use Rattle.rx_record.specs.Shown.{content}
use Rattle.rx_store.specs.Holds.{Holds}
use Rattle.rx_store.proofs.Crashes.{answered, ran_out, same_stop}
use Rattle.rx_store.proofs.Stops.{handed_on, memory_stop}
use Rattle.rx_world.specs.World.{World}
use Rattle.rx_host.specs.Engine.{IsAt, world_at}
use Rattle.rx_host.proofs.engine.MasterEngine.write.Goals as goal

pub returns-in_err-journal-clause-safe : goal.returns-in_err-journal-clause-safe
returns-in_err-journal-clause-safe g c told bodies at =
    same_stop g.D.Disk c.args.disk.now c.keep.new.disk bodies
    (content_bytes (content c.args.entry) ∷ []) c.args.self.journal.limit _ _
    c.in_err-journal.field-0.0 c.from_residual.result
    (handed_on c.from_residual.result c.in_err-journal.field-0.0 c.from_residual.ensures.1)
    (c.in_err-journal.ensures.safe told bodies (world_at c.args.self) at c.requires.legal
    (c.requires.sound at.sound))

pub returns-in_err-world-clause-safe : goal.returns-in_err-world-clause-safe
returns-in_err-world-clause-safe g c told bodies at =
    ran_out g.D.Disk c.args.disk.now c.keep.new.disk bodies
    (content_bytes (content c.args.entry) ∷ []) c.args.self.journal.limit _
    c.from_residual-in_err-world.result
    (memory_stop c.from_residual-in_err-world.result c.from_residual-in_err-world.ensures.1)
    (c.in_ok-journal.ensures.safe told bodies (world_at c.args.self) at c.requires.legal
    (c.requires.sound at.sound)).moments

pub returns-clause-safe : goal.returns-clause-safe
returns-clause-safe g c told bodies at =
    let more : List (List ℕ) = content_bytes (content c.args.entry) ∷ [] in
    answered g.D.Disk c.args.disk.now c.keep.new.disk bodies more c.args.self.journal.limit _
    (IsAt g.D.Disk c.keep.new.disk) _ _
    (c.in_ok-journal.ensures.safe told bodies (world_at c.args.self) at c.requires.legal
    (c.requires.sound at.sound))
    (λ holds. subst (λ (x : World). Holds g.D.Disk c.keep.new.disk c.in_ok-journal.journal
    (bodies ++ more) x) (sym c.in_ok-world.ensures.world) holds)
