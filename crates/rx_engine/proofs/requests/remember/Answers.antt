use Rattle.std.proofs.Common.{◌≡◌, ◌∙◌, ℕ, List, true, false, is_some, refl, sym, ap}
use Rattle.rx_value.specs.Named.{by_bytes, named, put_named}
use Rattle.rx_value.proofs.Named.{by_bytes-insert_entry, lookup-by_bytes}
use Rattle.rx_sync.specs.Asks.{no_asks}
use Rattle.rx_engine.proofs.Rooms.{other_or, put_named_or}
use Rattle.rx_engine.proofs.requests.remember.Goals as goal

pub returns-then-contains_key : goal.returns-then-contains_key
returns-then-contains_key c =
    let es = c.args.asks.now.entries in
    let name = c.args.name.now in
    let there : is_some (named (by_bytes es) name) ≡ true =
    ap is_some (sym (lookup-by_bytes es name)) ∙ sym c.contains_key.ensures ∙ c.if-contains_key.true
    in
    sym (put_named_or (by_bytes es) name (named (by_bytes es) name) no_asks refl there)

pub returns : goal.returns
returns c =
    let es = c.args.asks.now.entries in
    let name = c.args.name.now in
    let absent : is_some (named (by_bytes es) name) ≡ false =
    ap is_some (sym (lookup-by_bytes es name)) ∙ sym c.contains_key.ensures ∙
    c.if-contains_key.false in
    ap by_bytes c.in_ok-insert.ensures.entries
    ∙ by_bytes-insert_entry es c.in_ok-from_str.field-0 c.new.result
    ∙ ap (λ (k : List ℕ). put_named (by_bytes es) k c.new.result) c.in_ok-from_str.ensures.ok
    ∙ ap (put_named (by_bytes es) name)
    (c.new.ensures ∙ sym (other_or (named (by_bytes es) name) no_asks absent))
