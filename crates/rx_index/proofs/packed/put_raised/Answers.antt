use Rattle.std.proofs.Common.{arith}
use Rattle.rx_index.proofs.Characters.{low_at}
use Rattle.rx_index.proofs.packed.put_raised.Goals as goal

pub overflow_add-byte : goal.overflow_add-byte
overflow_add-byte c =
    let text = c.as_bytes-byte-items in
    let low = low_at text.result.now text.ensures.utf8 c.loop-byte.byte-index 0
    c.loop-byte-test.true in
    omega (arith, low)
