use Rattle.std.proofs.Common.{◌≡◌, ◌∙◌, ℕ, List, IfOk, ap, sym, subst}
use Rattle.rx_handler.specs.Shown.{kinds_of}
use Rattle.rx_sync.specs.Asks.{Asks, asks_of}
use Rattle.rx_sync.specs.Laws.{MayTurn}
use Rattle.rx_sync.specs.Turn.{Turned, turn}
use Rattle.rx_value.specs.Named.{by_bytes, put_named}
use Rattle.rx_value.proofs.Outcomes.{some_same, not_none, if_ok}
use Rattle.rx_engine.specs.Play.{Follows, IsMade}
use Rattle.rx_engine.specs.Turning.{terms}
use Rattle.rx_engine.specs.declared.turning.Turned.{Turned as Made}
use Rattle.rx_engine.proofs.Rooms.{changed_there, found_there}
use Rattle.rx_engine.proofs.requests.turn_by_name.Goals as goal

pub take_turn-requires-clause-may : goal.take_turn-requires-clause-may
take_turn-requires-clause-may g c =
    let t = terms c.args.wanted.now.name c.args.now (kinds_of c.args.handlers.now) in
    let es = by_bytes c.args.asks.now.entries in
    let key = c.as_str-2.result.now in
    let room : by_bytes c.remember.new.asks.entries ≡ put_named es key (asks_of key es) =
    c.in_ok-remember.ensures
    ∙ ap (λ (n : List ℕ). put_named es n (asks_of n es)) (c.as_str.ensures ∙ sym c.as_str-2.ensures)
    in
    let same : c.in-Some.remembered.now ≡ asks_of c.args.wanted.now.name es =
    some_same (c.in-Some.ensures.value
    ∙ found_there c.remember.new.asks.entries es key (asks_of key es) room)
    ∙ ap (λ (n : List ℕ). asks_of n es) c.as_str-2.ensures in
    subst (λ (a : Asks). MayTurn t c.args.play.playing.world a) (sym same) c.requires.may

pub unreachable-requires : goal.unreachable-requires
unreachable-requires g c =
    let es = by_bytes c.args.asks.now.entries in
    let key = c.as_str-2.result.now in
    let room : by_bytes c.remember.new.asks.entries ≡ put_named es key (asks_of key es) =
    c.in_ok-remember.ensures
    ∙ ap (λ (n : List ℕ). put_named es n (asks_of n es)) (c.as_str.ensures ∙ sym c.as_str-2.ensures)
    in
    not_none (c.in-None.ensures.value
    ∙ found_there c.remember.new.asks.entries es key (asks_of key es) room)

pub returns-clause-turned : goal.returns-clause-turned
returns-clause-turned g c =
    let name = c.args.wanted.now.name in
    let t = terms name c.args.now (kinds_of c.args.handlers.now) in
    let first = c.args.play.playing in
    let es = by_bytes c.args.asks.now.entries in
    let key = c.as_str-2.result.now in
    let room : by_bytes c.remember.new.asks.entries ≡ put_named es key (asks_of key es) =
    c.in_ok-remember.ensures
    ∙ ap (λ (n : List ℕ). put_named es n (asks_of n es)) (c.as_str.ensures ∙ sym c.as_str-2.ensures)
    in
    let same : c.in-Some.remembered.now ≡ asks_of name es =
    some_same (c.in-Some.ensures.value
    ∙ found_there c.remember.new.asks.entries es key (asks_of key es) room)
    ∙ ap (λ (n : List ℕ). asks_of n es) c.as_str-2.ensures in
    let made : Asks → Turned =
    turn t c.args.wanted.now.batch c.args.wanted.now.budget c.args.wanted.now.link.items first.world
    in
    let left = c.take_turn.new.asks in
    let then = ap by_bytes (c.get_mut.follows.holds left).0
    ∙ changed_there c.remember.new.asks.entries es key (asks_of key es) room left
    ∙ ap (λ (n : List ℕ). put_named es n left) c.as_str-2.ensures in
    if_ok c.take_turn.result _ _
    (subst (λ (a : Asks). IfOk c.take_turn.result (λ turned. IsMade (made a) first turned left))
    same
    c.take_turn.ensures.turned)
    (λ turned m. record {
      session = m.session;
      asks = then ∙ ap (put_named es name) m.asks;
      exchanges = m.exchanges;
      ended = m.ended;
    })

pub returns-clause-staged : goal.returns-clause-staged
returns-clause-staged g c =
    let t = terms c.args.wanted.now.name c.args.now (kinds_of c.args.handlers.now) in
    let w = c.args.play.playing.world in
    let es = by_bytes c.args.asks.now.entries in
    let key = c.as_str-2.result.now in
    let room : by_bytes c.remember.new.asks.entries ≡ put_named es key (asks_of key es) =
    c.in_ok-remember.ensures
    ∙ ap (λ (n : List ℕ). put_named es n (asks_of n es)) (c.as_str.ensures ∙ sym c.as_str-2.ensures)
    in
    let same : c.in-Some.remembered.now ≡ asks_of c.args.wanted.now.name es =
    some_same (c.in-Some.ensures.value
    ∙ found_there c.remember.new.asks.entries es key (asks_of key es) room)
    ∙ ap (λ (n : List ℕ). asks_of n es) c.as_str-2.ensures in
    subst (λ (a : Asks). IfOk c.take_turn.result (λ (made : Made). Follows c.args.play
    (turn t c.args.wanted.now.batch c.args.wanted.now.budget c.args.wanted.now.link.items w
    a).records made.play)) same c.take_turn.ensures.staged
