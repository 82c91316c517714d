use Rattle.std.proofs.Common.{◌≡◌, ◌≤◌, ◌+◌, ◌-◌, ◌^◌, [], Ok}
use Rattle.rx_disk.specs.Calls.{OnlyReads}
use Rattle.rx_journal.specs.Reading.{IsUntouched}
use Rattle.rx_journal.specs.Windows.{HaveLent, limit_of, gate_place, version_of}
use Rattle.rx_world.specs.Copy.{most_copied_epoch}
use Rattle.rx_store.specs.Phase.{IsMadeIn, epoch_of}
use Rattle.rx_store.proofs.Phases.{IsPlaying, HasPlayed, HasRead}
use Rattle.rx_store.proofs.phase.play.Given as goal

abbrev pub invariant-loop-body : goal.invariant-loop-body
invariant-loop-body g l = record {
  untouched : g.D.Disk.tells → IsUntouched g.D.Disk l.initial.disk l.disk;
  only_reads : g.D.Disk.tells → OnlyReads g.D.Disk l.initial.disk l.disk;
  playing : g.D.Disk.tells
      → IsPlaying g.H.Holder.held (version_of l.initial.windows)
      (g.D.Disk.content l.initial.disk) l.initial.windows l.windows
      l.phase;
  lent : g.D.Disk.tells → HaveLent g.D.Disk l.initial.disk l.initial.windows []
      → HasPlayed g.H.Holder.held (version_of l.initial.windows) g.D.Disk l.disk l.windows l.phase;
  counted : g.D.Disk.tells
      → HasRead g.H.Holder.held (version_of l.initial.windows)
      (g.D.Disk.content l.initial.disk) l.initial.windows l.windows
      l.phase l.records l.bytes;
  epoch : epoch_of l.phase ≤ most_copied_epoch + gate_place l.windows;
  fewer : l.records ≤ gate_place l.windows;
  size : l.bytes + gate_place l.initial.windows ≡ gate_place l.windows;
  made : IsMadeIn (λ c h. g.F.Fn.post l.make (c, tt) (Ok h)) g.H.Holder.written l.phase;
  limit : limit_of l.windows ≡ limit_of l.initial.windows;
  faults : g.D.Disk.faults l.initial.disk ≤ g.D.Disk.faults l.disk;
}

abbrev pub decreases-loop-body : goal.decreases-loop-body
decreases-loop-body g l = 2 ^ 32 - gate_place l.windows
