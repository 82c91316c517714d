use Rattle.std.proofs.Common.{ℕ, ◌+◌, drop}
use Rattle.rx_collection.specs.Hints.{key_hash, walk, LeadsTo}
use Rattle.rx_collection.specs.Log.{HasKey}
use Rattle.rx_collection.proofs.hints.Hints.find.Given as goal

-- what the walk comes to for the key is still to come
abbrev pub invariant-loop-after : goal.invariant-loop-after
invariant-loop-after l = (s : ℕ) → HasKey l.rows s l.key
    → LeadsTo (s + 1, key_hash l.key) (walk l.self.places.items (key_hash l.key))
    → LeadsTo (s + 1, key_hash l.key)
    (drop l.after-index (walk l.self.places.items (key_hash l.key)))
