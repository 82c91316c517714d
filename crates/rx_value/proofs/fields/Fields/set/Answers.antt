use Rattle.rx_value.proofs.Setting.{write_fields, insert_fields}
use Rattle.rx_value.proofs.fields.Fields.set.Goals as goal

-- a name that is there has its value written over
pub invariant_of-self : goal.invariant_of-self
invariant_of-self c =
    write_fields _ _ c.args.value c.in-Ok.i c.index_mut.result.now
    (rw c.as_slice.ensures.value at c.in-Ok.ensures.found) c.index_mut.ensures.value
    c.self.invariant c.requires

-- a new one is inserted with its value
pub invariant_of-self-in-Err : goal.invariant_of-self-in-Err
invariant_of-self-in-Err c =
    rw (c.in_ok-insert-in-Err.ensures.items, c.make_room.ensures)
    (insert_fields _ c.args.name c.args.value c.in-Err.i
    (rw (c.as_slice.ensures.value, c.as_str.ensures) at c.in-Err.ensures.absent)
    c.self.invariant c.requires)
