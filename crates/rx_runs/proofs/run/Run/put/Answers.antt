use Rattle.std.proofs.Common.{ℕ, ◌+◌, ◌∙◌, ap, sym, not, length, List, []}
use Rattle.rx_value.specs.Named.{named, put_in_order}
use Rattle.rx_runs.specs.Run.{flat}
use Rattle.rx_runs.proofs.Chunks.{flat_put, old_put}
use Rattle.rx_runs.proofs.Joined.{length_added, length_kept}
use Rattle.rx_runs.proofs.run.Run.put.Goals as goal
use Rattle.rx_runs.proofs.run.Run.put.Goals.{then-is_none, else-is_none}

pub invariant_of-self-then-is_none : goal.invariant_of-self-then-is_none
invariant_of-self-then-is_none g c =
    let k = c.args.name in
    let es = flat c.self.inside.chunks.items in
    let cs = c.make_room.new.chunks.items in
    let d : List ℕ × List (List ℕ × g.row.V.Denot) = (k, []) in
    let is = rw c.as_bytes.ensures at c.in-Ok.ensures.place in
    let put = flat_put k c.args.value es cs c.put_at.new.chunks.items c.in-Ok.i d
    c.in-Ok.ensures.lawful is
    c.in-Ok.ensures.same (c.in_ok-old.ensures.ok d) in
    let old = old_put k es cs c.in-Ok.i d c.in_ok-old.old c.in-Ok.ensures.lawful is
    c.in-Ok.ensures.same
    (c.in_ok-old.ensures.old d) in
    let more = length_added es k c.args.value c.in_ok-old.old old
    (c.is_none.ensures ∙ ap not c.if-is_none.true) in (
      put.0,
      c.in-Some.ensures.1 ∙ ap (λ n. n + 1) c.self.invariant.1 ∙ sym more
          ∙ sym (ap length put.1),
    )

pub invariant_of-self-else-is_none : goal.invariant_of-self-else-is_none
invariant_of-self-else-is_none g c =
    let k = c.args.name in
    let es = flat c.self.inside.chunks.items in
    let cs = c.make_room.new.chunks.items in
    let d : List ℕ × List (List ℕ × g.row.V.Denot) = (k, []) in
    let is = rw c.as_bytes.ensures at c.in-Ok.ensures.place in
    let put = flat_put k c.args.value es cs c.put_at.new.chunks.items c.in-Ok.i d
    c.in-Ok.ensures.lawful is
    c.in-Ok.ensures.same (c.in_ok-old.ensures.ok d) in
    let old = old_put k es cs c.in-Ok.i d c.in_ok-old.old c.in-Ok.ensures.lawful is
    c.in-Ok.ensures.same
    (c.in_ok-old.ensures.old d) in
    let same = length_kept es k c.args.value c.in_ok-old.old c.self.invariant.0.rising old
    (c.is_none.ensures ∙ ap not c.if-is_none.false) in
    (put.0, c.self.invariant.1 ∙ sym same ∙ sym (ap length put.1))

pub returns-clause-old : goal.returns-clause-old
returns-clause-old g c =
    let k = c.args.name in
    let d : List ℕ × List (List ℕ × g.row.V.Denot) = (k, []) in
    let is = rw c.as_bytes.ensures at c.in-Ok.ensures.place in
    old_put k (flat c.self.inside.chunks.items) c.make_room.new.chunks.items c.in-Ok.i d
    c.in_ok-old.old
    c.in-Ok.ensures.lawful is c.in-Ok.ensures.same (c.in_ok-old.ensures.old d)
    ∙ ap (λ es. named es k) c.self.view_is

pub returns-clause-ok : goal.returns-clause-ok
returns-clause-ok g c =
    let k = c.args.name in
    let v = c.args.value in
    let d : List ℕ × List (List ℕ × g.row.V.Denot) = (k, []) in
    let is = rw c.as_bytes.ensures at c.in-Ok.ensures.place in
    let put = flat_put k v (flat c.self.inside.chunks.items) c.make_room.new.chunks.items
    c.put_at.new.chunks.items
    c.in-Ok.i d c.in-Ok.ensures.lawful is c.in-Ok.ensures.same (c.in_ok-old.ensures.ok d) in
    (elim c.if-is_none.branch [ then-is_none w ↦ w.self-is | else-is_none w ↦ w.self-is ])
    ∙ put.1 ∙ ap (λ es. put_in_order es k v) c.self.view_is
