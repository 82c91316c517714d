use Rattle.std.proofs.Common.{◌∙◌, ◌+◌, ap, arith}
use Rattle.rx_collection.specs.Hints.{key_hash}
use Rattle.rx_collection.proofs.Hinted.{hinted_more, placed_now}
use Rattle.rx_collection.proofs.hints.Hints.add.Goals as goal

pub put-requires : goal.put-requires
put-requires c = λ none. omega (arith, c.in-Some.ensures.1, none)

pub returns-clause-added : goal.returns-clause-added
returns-clause-added c = λ yes hinted.
    let rows = c.args.rows.now in
    let d = c.at.result.now in
    let new = c.put.new.self.places.items in
    let hash = c.hash_of-hash.ensures ∙ ap key_hash (c.as_bytes.ensures.value ∙ c.as_str.ensures) in
    hinted_more new rows c.args.slot d (λ s e lt there.
    c.put.ensures.kept (s + 1, key_hash e.state.key) (λ no. omega (arith, no))
    (hinted s e lt there))
    c.at.ensures
    (placed_now new c.in-Some.after c.hash_of-hash.result c.args.slot d.state.key
    c.in-Some.ensures.1 hash (c.put.ensures.placed yes))
