use Rattle.std.proofs.Common.{◌≡◌, true, ◌∙◌, ◌++◌, ◌∷◌, [], ap, subst, map, take, filter, length, Option, option_map}
use Rattle.std.specs.Prelude.{IfSome}
use Rattle.rx_wire.specs.declared.message.PushRow.{PushRow}
use Rattle.rx_collection.specs.Since.{since}
use Rattle.rx_replication.specs.Known.{is_pending}
use Rattle.rx_replication.specs.Request.{push_row}
use Rattle.rx_fork.proofs.Walk.{pending_above, pending_step, pending_ended, pending_full}
use Rattle.rx_fork.proofs.fork.Fork.rows.Goals as goal
use Rattle.rx_fork.proofs.fork.Fork.rows.Goals.{in-None, in-Some+then-left-eq0}

pub loop-held-preserved-in-Some-2 : goal.loop-held-preserved-in-Some-2
loop-held-preserved-in-Some-2 c =
    let known = c.args.self.now.meta.now.known in
    let held = c.in-Some.held.now in
    let found =
    subst (λ (o : Option PushRow). IfSome o
    (λ row. (is_pending known held ≡ true) × (row ≡ push_row known held)))
    c.in-Some-2.is c.in_ok-row.ensures.some in (
      pending_step known c.loop-held.left held c.loop-held.held-iterator c.next.new.self
          c.loop-held.rows c.push.new.self _ c.in-Some.ensures.steps found.0
          c.if-left-eq0.false
          (c.in_ok-push.ensures.ok ∙ ap (λ row. c.loop-held.rows ++ row ∷ []) found.1)
          c.loop-held.invariant.0,
      tt,
      tt,
    )

pub returns : goal.returns
returns c =
    let held = c.args.collection.now in
    let known = c.args.self.now.meta.now.known in
    let whole =
    ap (λ ds. map (push_row known) (take c.args.most (filter (is_pending known) ds)))
    (c.into_iter-held-iterator.ensures.into_iter_gives ∙ c.page-held-items.ensures.documents
    ∙ ap (λ n. since held.documents (option_map (λ p. p.now) c.up.result) n) c.len.ensures.count
    ∙ ap (λ up. since held.documents up (length held.documents)) c.up.ensures)
    ∙ ap (λ ds. map (push_row known) (take c.args.most ds))
    (pending_above held known c.args.self.now.meta.now.up c.len.ensures.lawful c.requires) in
    elim c.match-next.branch [
      | in-None w ↦ pending_ended known c.loop-held.left c.loop-held.held-iterator
          c.loop-held.rows _ w.in-None.ensures.steps.0 c.loop-held.invariant.0 ∙ whole
      | in-Some+then-left-eq0 w ↦ pending_full known c.loop-held.left c.loop-held.held-iterator
          c.loop-held.rows _ w.if-left-eq0.true c.loop-held.invariant.0 ∙ whole
    ]
