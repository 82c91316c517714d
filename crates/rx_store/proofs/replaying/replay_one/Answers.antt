use Rattle.std.proofs.Common.{◌≡◌, true, Option, IfSome, is_some, Ok, sym, ◌∙◌, ap, subst, arith}
use Rattle.rx_record.specs.Content.{Content}
use Rattle.rx_record.specs.Shown.{content, content_in}
use Rattle.rx_record.specs.declared.record.Record.{Record}
use Rattle.rx_world.specs.Holders.{world_in}
use Rattle.rx_world.specs.Step.{legal}
use Rattle.rx_world.specs.World.{World}
use Rattle.rx_store.proofs.Made.{made_after}
use Rattle.rx_store.proofs.Playing.{epoch_next}
use Rattle.rx_store.proofs.replaying.replay_one.Goals as goal

pub returns-clause-made : goal.returns-clause-made
returns-clause-made g c =
    made_after
    (λ held h. g.F.Fn.post c.args.make.now (held, tt) (Ok h)) g.H.Holder.written g.H.Holder.held
    _ _ _ c.in_ok-apply_legal.ensures.holders c.requires.made

pub returns-clause-epoch : goal.returns-clause-epoch
returns-clause-epoch g c =
    let before = world_in g.H.Holder.held c.args.world in
    let view = content_in c.in-Ok.view in
    let same : content c.in-Some.entry ≡ view =
    subst (λ (o : Option Record). IfSome o (λ entry. content entry ≡ view)) c.in-Some.is
    c.in_ok-entry.ensures.some in
    let is : legal view before ≡ true =
    sym c.in_ok-entry.ensures.legal ∙ ap (λ (o : Option Record). is_some o) c.in-Some.is in
    omega (
      arith,
      ap (λ (w : World). w.epoch) c.in_ok-apply_legal.ensures.world,
      epoch_next (content c.in-Some.entry) before
          (ap (λ (x : Content). legal x before) same ∙ is),
    )
