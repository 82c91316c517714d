use Rattle.std.proofs.Common.{◌≡◌, List, ℕ, sym, subst}
use Rattle.rx_handler.specs.Shown.{kinds_of}
use Rattle.rx_script.specs.declared.happening.Happening.{Happening}
use Rattle.rx_sync.specs.Asks.{asks_of}
use Rattle.rx_sync.specs.Laws.{MayTurn}
use Rattle.rx_sync.specs.Turn.{Turned, turn}
use Rattle.rx_value.specs.Named.{by_bytes, put_named}
use Rattle.rx_world.specs.World.{World}
use Rattle.rx_engine.specs.Marks.{AreMarked, AreMarkedBut}
use Rattle.rx_engine.specs.Play.{Follows}
use Rattle.rx_engine.specs.Turning.{terms}
use Rattle.rx_engine.proofs.SweepSteps.{good_then, may_step, others_then}
use Rattle.rx_engine.proofs.sweeping.make_step.Goals as goal

pub turn_by_name-requires-clause-may : goal.turn_by_name-requires-clause-may
turn_by_name-requires-clause-may g c =
    let kinds = kinds_of c.args.handlers.now in
    let asks = by_bytes c.args.remembered.now.asks.entries in
    subst (λ (n : List ℕ).
    MayTurn (terms n c.args.now kinds) c.args.play.playing.world (asks_of n asks))
    (sym c.in_ok-copy.ensures)
    (may_step kinds c.args.wanted.now.batch c.args.wanted.now.budget c.args.now c.requires.batch
    c.args.play c.args.remembered.now c.requires.good c.args.step.now.name c.requires.can)

pub set-requires-clause-others : goal.set-requires-clause-others
set-requires-clause-others g c =
    let kinds = kinds_of c.args.handlers.now in
    let r = c.args.remembered.now in
    let asks = by_bytes r.asks.entries in
    let p = c.args.play in
    let q = c.in_ok-made.made.play in
    let name = c.args.step.now.name in
    let turn_of : List ℕ → List Happening → Turned = λ n over.
    turn (terms n c.args.now kinds) c.args.wanted.now.batch c.args.wanted.now.budget over
    p.playing.world (asks_of n asks) in
    let follows = subst (λ (over : List Happening). Follows p (turn_of name over).records q)
    c.new.ensures.items
    (subst (λ (n : List ℕ). Follows p (turn_of n c.new.result.items).records q) c.in_ok-copy.ensures
    c.in_ok-made.ensures.staged) in
    subst (λ (w : World). AreMarkedBut c.as_str-2.result.now w r.marks) (sym c.world-2.ensures)
    (subst (λ (n : List ℕ). AreMarkedBut n q.playing.world r.marks) (sym c.as_str-2.ensures)
    (others_then kinds c.args.wanted.now.batch c.args.wanted.now.budget c.args.now
    c.requires.batch p r c.requires.good name c.requires.can q follows))

pub returns-clause-good : goal.returns-clause-good
returns-clause-good g c =
    let kinds = kinds_of c.args.handlers.now in
    let r = c.args.remembered.now in
    let asks = by_bytes r.asks.entries in
    let p = c.args.play in
    let q = c.in_ok-made.made.play in
    let name = c.args.step.now.name in
    let turn_of : List ℕ → List Happening → Turned = λ n over.
    turn (terms n c.args.now kinds) c.args.wanted.now.batch c.args.wanted.now.budget over
    p.playing.world (asks_of n asks) in
    let follows = subst (λ (over : List Happening). Follows p (turn_of name over).records q)
    c.new.ensures.items
    (subst (λ (n : List ℕ). Follows p (turn_of n c.new.result.items).records q) c.in_ok-copy.ensures
    c.in_ok-made.ensures.staged) in
    let same = subst (λ (over : List Happening).
    by_bytes c.turn_by_name.new.asks.entries ≡ put_named asks name (turn_of name over).asks)
    c.new.ensures.items
    (subst (λ (n : List ℕ). by_bytes c.turn_by_name.new.asks.entries
    ≡ put_named asks n (turn_of n c.new.result.items).asks) c.in_ok-copy.ensures
    c.in_ok-made.ensures.turned.asks) in
    good_then kinds c.args.wanted.now.batch c.args.wanted.now.budget c.args.now c.requires.batch p r
    c.requires.good name c.requires.can q follows
    (record { asks = c.turn_by_name.new.asks; marks = c.set.new.self }) same
    (subst (λ (w : World). AreMarked w c.set.new.self) c.world-2.ensures c.in_ok-set.ensures)
