use Rattle.std.proofs.Common.{◌≡◌, ◌∙◌, ap, sym, ◌++◌, ℕ, List}
use Rattle.std.proofs.lemmas.List.{append_cancel_left}
use Rattle.rx_disk.specs.declared.disk.Disk.{Ghosts}
use Rattle.rx_engine.specs.Opening.{Host, opened}
use Rattle.rx_outside.specs.declared.dial.Dial.{Ghosts as DialGhosts}
use Rattle.rx_outside.specs.declared.sink.Sink.{Ghosts as SinkGhosts}
use Rattle.rx_outside.specs.declared.source.Source.{Ghosts as SourceGhosts}
use Rattle.rx_sync.specs.Remote.{Heard}
use Rattle.rx_world.specs.World.{World}
use Rattle.rx_top.specs.Alike.{HasPlayed}
use Rattle.rx_top.specs.Lines.{lines}
use Rattle.rx_top.specs.Script.{transcript}
use Rattle.rx_top.proofs.RunEnds as by
use Rattle.rx_top.proofs.laws.play_alike.Goals as goal

-- it wrote the transcript of its input
module _ {S K D N W : Type 0} (s : SourceGhosts S) (k : SinkGhosts K) (d : Ghosts D)
    (n : DialGhosts N W) (wires : Type 0) (host : Host) (heard : List Heard) (w : World)
    (input output : List ℕ) (p : HasPlayed s k d n wires host heard w input output) where
  told : output ≡ transcript (lines input) (opened host heard w)
  told =
      let r = p.run in
      let whole = by.whole s k d n wires r p.bodies w p.refused p.whole
      (by.ends s k d n wires r p.bodies w r.plays.ended
      (r.plays.headline p.source_tells p.disk_tells p.bodies w p.start) r.plays.is_status) in
      append_cancel_left (k.written r.out) output _
      (sym p.wrote ∙ whole.told p.sink_tells
      ∙ ap (λ (given : List ℕ). k.written r.out
      ++ transcript (lines given) (opened r.host r.heard w)) p.given
      ∙ ap (λ (h : Host). k.written r.out ++ transcript (lines input) (opened h r.heard w))
      p.by_host
      ∙ ap (λ (hs : List Heard). k.written r.out ++ transcript (lines input) (opened host hs w))
      p.hears)

pub returns : goal.returns
returns g c = λ host heard w input x y one other.
    told g.S.Source g.K.Sink g.D.Disk g.N.Dial g.N.W.Wire.tells host heard w input x one
    ∙ sym (told g.S.Source g.K.Sink g.E.Disk g.N.Dial g.N.W.Wire.tells host heard w input y other)
