use Rattle.std.proofs.Common.{◌≡◌, ℕ, List, Some, None, slice_get, rules}
use Rattle.rx_value.specs.declared.state.State.{State}
use Rattle.rx_meta.proofs.After.{taken}
use Rattle.rx_meta.proofs.migrating.take_first.Goals as goal

pub returns-in-Some-remove-clause-first : goal.returns-in-Some-remove-clause-first
returns-in-Some-remove-clause-first c =
    let first : List ℕ × State = (c.in-Some.key.now, c.in-Some.field-0-1.now) in
    let at : slice_get c.args.known.now 0 ≡ Some first = search rules in
    let key : c.in_ok-key-in-Some.key ≡ c.in-Some.key.now = search rules in
    let name : c.as_bytes.result.now ≡ c.in-Some.key.now = search rules in
    taken c.args.known.now first c.in_ok-key-in-Some.key c.as_bytes.result.now
    (Some c.in-Some-remove.state) at key name c.in-Some-remove.ensures.old

pub returns-in-None-remove-clause-first : goal.returns-in-None-remove-clause-first
returns-in-None-remove-clause-first c =
    let first : List ℕ × State = (c.in-Some.key.now, c.in-Some.field-0-1.now) in
    let at : slice_get c.args.known.now 0 ≡ Some first = search rules in
    let key : c.in_ok-key-in-Some.key ≡ c.in-Some.key.now = search rules in
    let name : c.as_bytes.result.now ≡ c.in-Some.key.now = search rules in
    taken c.args.known.now first c.in_ok-key-in-Some.key c.as_bytes.result.now None at key name
    c.in-None-remove.ensures.old
