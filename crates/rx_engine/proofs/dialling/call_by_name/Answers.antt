use Rattle.std.proofs.Common.{◌≡◌, ◌∙◌, ℕ, List, [], ap, sym, subst, rules}
use Rattle.rx_handler.specs.Shown.{kinds_of}
use Rattle.rx_sync.specs.Asks.{Asks, asks_of}
use Rattle.rx_sync.specs.Remote.{Heard, remote_turn}
use Rattle.rx_sync.specs.RemoteLaws.{MayCall}
use Rattle.rx_value.specs.Named.{by_bytes, put_named}
use Rattle.rx_value.proofs.Outcomes.{some_same, not_none}
use Rattle.rx_engine.specs.Callings.{IsDialledBy, IsRemoteMade}
use Rattle.rx_engine.specs.Play.{IsPlayAt}
use Rattle.rx_engine.specs.Turning.{terms}
use Rattle.rx_engine.specs.declared.turning.Turned.{Turned as Made}
use Rattle.rx_engine.proofs.Dialled.{none_called}
use Rattle.rx_engine.proofs.Remotely.{in_words}
use Rattle.rx_engine.proofs.Rooms.{changed_there, found_there}
use Rattle.rx_engine.proofs.dialling.call_by_name.Goals as goal

pub returns-in_err-remember-clause-turned : goal.returns-in_err-remember-clause-turned
returns-in_err-remember-clause-turned g c =
    let name = c.args.wanted.now.name in
    let t = terms name c.args.now (kinds_of c.args.handlers.now) in
    none_called g.D.Disk c.args.disk.now
    (λ told left e. g.met.D.Disk.only_now c.args.disk.now left told e) g.L.W.Wire.tells t
    c.args.wanted.now.batch c.args.wanted.now.budget c.args.play
    (asks_of name (by_bytes c.args.asks.now.entries))
    (asks_of name (by_bytes c.args.asks.now.entries))
    c.args.wanted.now.port (record { faults = 0; broken = 0; talks = []; asked = [] })
    (record { faults = 0; broken = 0; talks = []; asked = [] })
    _ _ c.from_residual.result
    (search rules)

pub dial_turn-requires-clause-may : goal.dial_turn-requires-clause-may
dial_turn-requires-clause-may g c =
    let t = terms c.args.wanted.now.name c.args.now (kinds_of c.args.handlers.now) in
    let es = by_bytes c.args.asks.now.entries in
    let key = c.as_str-2.result.now in
    let room : by_bytes c.remember.new.asks.entries ≡ put_named es key (asks_of key es) =
    c.in_ok-remember.ensures
    ∙ ap (λ (n : List ℕ). put_named es n (asks_of n es)) (c.as_str.ensures ∙ sym c.as_str-2.ensures)
    in
    let same : c.in-Some.remembered.now ≡ asks_of c.args.wanted.now.name es =
    some_same (c.in-Some.ensures.value
    ∙ found_there c.remember.new.asks.entries es key (asks_of key es) room)
    ∙ ap (λ (n : List ℕ). asks_of n es) c.as_str-2.ensures in
    subst (λ (a : Asks). MayCall t c.args.play.playing.world a) (sym same) c.requires.may

pub unreachable-requires : goal.unreachable-requires
unreachable-requires g c =
    let es = by_bytes c.args.asks.now.entries in
    let key = c.as_str-2.result.now in
    let room : by_bytes c.remember.new.asks.entries ≡ put_named es key (asks_of key es) =
    c.in_ok-remember.ensures
    ∙ ap (λ (n : List ℕ). put_named es n (asks_of n es)) (c.as_str.ensures ∙ sym c.as_str-2.ensures)
    in
    not_none (c.in-None.ensures.value
    ∙ found_there c.remember.new.asks.entries es key (asks_of key es) room)

pub returns-clause-turned : goal.returns-clause-turned
returns-clause-turned g c =
    let name = c.args.wanted.now.name in
    let t = terms name c.args.now (kinds_of c.args.handlers.now) in
    let first = c.args.play.playing in
    let es = by_bytes c.args.asks.now.entries in
    let key = c.as_str-2.result.now in
    let room : by_bytes c.remember.new.asks.entries ≡ put_named es key (asks_of key es) =
    c.in_ok-remember.ensures
    ∙ ap (λ (n : List ℕ). put_named es n (asks_of n es)) (c.as_str.ensures ∙ sym c.as_str-2.ensures)
    in
    let same : c.in-Some.remembered.now ≡ asks_of name es =
    some_same (c.in-Some.ensures.value
    ∙ found_there c.remember.new.asks.entries es key (asks_of key es) room)
    ∙ ap (λ (n : List ℕ). asks_of n es) c.as_str-2.ensures in
    let left = c.dial_turn.new.asks in
    let then = ap by_bytes (c.get_mut.follows.holds left).0
    ∙ changed_there c.remember.new.asks.entries es key (asks_of key es) room left
    ∙ ap (λ (n : List ℕ). put_named es n left) c.as_str-2.ensures in
    in_words g.D.Disk c.args.disk.now c.dial_turn.new.disk c.args.play.journal.limit
    (IsPlayAt g.D.Disk c.args.disk.now c.args.play)
    (λ (m : Made). IsPlayAt g.D.Disk c.dial_turn.new.disk m.play)
    (λ (heard : List Heard). remote_turn t c.args.wanted.now.batch c.args.wanted.now.budget heard
    first.world c.in-Some.remembered.now)
    (IsRemoteMade first left)
    (IsDialledBy g.L.W.Wire.tells c.args.wanted.now.port first.world name _
    _) c.dial_turn.result c.dial_turn.ensures.turned
    (IsPlayAt g.D.Disk c.args.disk.now c.args.play)
    (λ (m : Made). IsPlayAt g.D.Disk c.dial_turn.new.disk m.play)
    (λ (heard : List Heard). remote_turn t c.args.wanted.now.batch c.args.wanted.now.budget heard
    first.world (asks_of name es))
    _ _ (λ bodies at. at) (λ m bodies held. held)
    (λ heard. ap (λ (a : Asks). remote_turn t c.args.wanted.now.batch c.args.wanted.now.budget heard
    first.world a) same)
    (λ u later m so. record {
      made_so = record {
        session = so.made_so.session;
        asks = then ∙ ap (put_named es name) so.made_so.asks;
        exchanges = so.made_so.exchanges;
        ended = so.made_so.ended;
      };
      later_so = so.later_so;
    })
    (λ requests heard shown. shown)
