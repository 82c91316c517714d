use Rattle.rx_runs.proofs.Joined.{write_rising, insert_rising}
use Rattle.rx_runs.proofs.chunk.Chunk.put.Goals as goal

-- a name that is there has its value written over
pub invariant_of-self : goal.invariant_of-self
invariant_of-self g c =
    write_rising _ _ c.replace.new.dest c.in-Ok.i c.index_mut.result.now
    (rw c.as_slice.ensures.value at c.in-Ok.ensures.found) c.index_mut.ensures.value
    c.self.invariant

-- a new one is inserted with its value
pub invariant_of-self-in-Err : goal.invariant_of-self-in-Err
invariant_of-self-in-Err g c =
    rw c.in_ok-add-in-Err.ensures.ok
    (insert_rising _ c.args.name c.args.value c.in-Err.i
    (rw (c.as_slice.ensures.value, c.as_bytes.ensures) at c.in-Err.ensures.absent)
    c.self.invariant)
