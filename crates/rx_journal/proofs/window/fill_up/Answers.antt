use Rattle.std.proofs.Common.{[], ◌∷◌, List, ℕ, take, ap, ◌∙◌, arith}
use Rattle.std.proofs.lemmas.List.{take_all, take-append-le}
use Rattle.rx_journal.proofs.window.fill_up.Goals as goal

pub loop-bytes-init : goal.loop-bytes-init
loop-bytes-init c =
    let bytes = c.args.bytes.now in
    record {
      capacity = omega arith;
      longer = omega arith;
      kept = take_all bytes.len bytes.items (omega (arith, bytes.ok.0));
    }

pub loop-bytes-preserved : goal.loop-bytes-preserved
loop-bytes-preserved c =
    let inv = c.loop-bytes.invariant in
    let bytes = c.loop-bytes.bytes in
    record {
      capacity = c.push_reserved.ensures.capacity ∙ inv.capacity;
      longer = omega (arith, inv.longer, c.push_reserved.ensures.len);
      kept = ap (λ (l : List ℕ). take c.args.bytes.now.len l) c.push_reserved.ensures.items
          ∙ take-append-le c.args.bytes.now.len bytes.items (0 ∷ [])
          (omega (arith, inv.longer, bytes.ok.0))
          ∙ inv.kept;
    }
