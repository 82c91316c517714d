use Rattle.std.proofs.Common.{◌≡◌, ◌≢◌, ◌∙◌, ◌+◌, ℕ, ap, ap₂, arith, drop, get_or, subst, sym, true≢false}
use Rattle.rx_collection.specs.Hints.{key_hash, walk, LeadsTo}
use Rattle.rx_collection.specs.Log.{HasKey}
use Rattle.rx_collection.proofs.Hinted.{hinted_key, led_free, led_next, led_past}
use Rattle.rx_collection.proofs.hints.Hints.find.Goals as goal
use Rattle.rx_collection.proofs.hints.Hints.find.Goals.{else-place_hash-hash-via-then-place_hash-hash+else-has_key, else-place_hash-hash-via-else-place_hash-hash}

pub returns-in_err-slot-clause-none : goal.returns-in_err-slot-clause-none
returns-in_err-slot-clause-none c =
    let key = c.args.key.now in
    let hash = c.hash_of-hash.ensures ∙ ap key_hash c.as_bytes.ensures.value in
    let walked = c.walk-after-items.ensures ∙ ap₂ walk c.as_slice.ensures.value hash in
    let items = c.walk-after-items.result.now in
    let i = c.loop-after.after-index in
    let free : (get_or items i (0, 0)).0 ≡ 0 = omega (arith, c.in_err-slot.ensures) in
    rw c.from_residual.ensures (λ hinted s has.
    led_free items i c.loop-after-test.true s (key_hash key) free
    (subst (λ ps. LeadsTo (s + 1, key_hash key) (drop i ps)) (sym walked)
    (c.loop-after.invariant s has
    (hinted_key c.args.self.now.places.items c.args.rows.now s key hinted has))))

pub loop-after-preserved : goal.loop-after-preserved
loop-after-preserved c = λ s has led.
    let key = c.args.key.now in
    let hash = c.hash_of-hash.ensures ∙ ap key_hash c.as_bytes.ensures.value in
    let walked = c.walk-after-items.ensures ∙ ap₂ walk c.as_slice.ensures.value hash in
    let items = c.walk-after-items.result.now in
    let i = c.loop-after.after-index in
    let e : ℕ × ℕ = (s + 1, key_hash key) in
    let other : get_or items i (0, 0) ≢ e = λ is.
    let slot : c.in_ok-slot.slot ≡ s =
    omega (arith, c.in_ok-slot.ensures.1, ap (λ (q : ℕ × ℕ). q.0) is) in
    elim c.else-place_hash-hash.branch [
      | else-place_hash-hash-via-then-place_hash-hash+else-has_key w ↦
          true≢false (sym
          (w.has_key.ensures.1 (subst (λ t. HasKey c.args.rows.now t key) (sym slot) has))
          ∙ w.if-has_key.false)
      | else-place_hash-hash-via-else-place_hash-hash w ↦
          let there = ap (λ (q : ℕ × ℕ). q.1) is ∙ sym hash in
          w.if-place_hash-hash.false there
    ] in
    subst (λ ps. LeadsTo e (drop (i + 1) ps)) walked
    (led_next items i c.loop-after-test.true e other
    (subst (λ ps. LeadsTo e (drop i ps)) (sym walked) (c.loop-after.invariant s has led)))

pub returns-clause-none : goal.returns-clause-none
returns-clause-none c = λ hinted s has.
    let key = c.args.key.now in
    let hash = c.hash_of-hash.ensures ∙ ap key_hash c.as_bytes.ensures.value in
    let walked = c.walk-after-items.ensures ∙ ap₂ walk c.as_slice.ensures.value hash in
    let items = c.walk-after-items.result.now in
    let i = c.loop-after.after-index in
    led_past (s + 1, key_hash key) items i c.loop-after-test.false
    (subst (λ ps. LeadsTo (s + 1, key_hash key) (drop i ps)) (sym walked)
    (c.loop-after.invariant s has
    (hinted_key c.args.self.now.places.items c.args.rows.now s key hinted has)))
