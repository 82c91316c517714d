use Rattle.std.proofs.Common.{◌+◌, ◌∙◌, ◌++◌, add-one, ap, drop, append-nil}
use Rattle.rx_runs.specs.Run.{flat, from_name}
use Rattle.rx_runs.proofs.Chunks.{from_in}
use Rattle.rx_runs.proofs.run.Run.from.Goals as goal

pub returns-clause-value : goal.returns-clause-value
returns-clause-value g c =
    let k = c.args.name.now in
    let cs = c.self.inside.chunks.items in
    let i = c.chunk_of-i.result in
    let is = rw c.as_slice.ensures.value at c.chunk_of-i.ensures in
    let first = c.from.ensures.value ∙ ap (λ h. from_name h.1 k) c.index.ensures in
    let rest = c.split_at.ensures.back ∙ ap (drop (i + 1)) c.as_slice-2.ensures.value
    ∙ ap (λ n. drop n cs) (add-one i) in
    c.new-2.ensures ∙ append-nil (c.from.result.now ++ flat c.split_at.result.1.now)
    ∙ (λ j. first j ++ flat (rest j))
    ∙ from_in k cs i c.index.result.now c.self.invariant.0.parted is
    ∙ ap (λ es. from_name es k) c.self.view_is
