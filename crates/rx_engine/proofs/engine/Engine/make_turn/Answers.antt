use Rattle.std.proofs.Common.{◌≡◌, ◌∙◌, ℕ, List, [], Some, refl, ap, sym, subst}
use Rattle.rx_value.specs.Named.{by_bytes}
use Rattle.rx_handler.specs.Shown.{kinds_of}
use Rattle.rx_journal.specs.declared.journal.Journal.{Journal}
use Rattle.rx_session.specs.Emissions.{settled_session}
use Rattle.rx_session.specs.Session.{Session}
use Rattle.rx_store.proofs.Stops.{handed_on, memory_stop}
use Rattle.rx_sync.specs.Asking.{pending_in}
use Rattle.rx_engine.specs.Engine.{session_of, standing_of}
use Rattle.rx_engine.specs.Shown.{turn_of}
use Rattle.rx_engine.specs.Turning.{turned}
use Rattle.rx_engine.specs.Turns.{IsBegun, MayEnd}
use Rattle.rx_engine.specs.declared.turning.Turned.{Turned as Made}
use Rattle.rx_engine.proofs.AfterTurns.{after_so, at_end, follows_begun, leaves_begun, level_begun, made_begun, may_begun, may_end, none_begun}
use Rattle.rx_engine.proofs.Committing.{commits_before, commits_play, commits_so, commits_stopped, engine_with, none_committed, play_may_commit}
use Rattle.rx_engine.proofs.engine.Engine.make_turn.Goals as goal

pub turn_by_name-requires-clause-may : goal.turn_by_name-requires-clause-may
turn_by_name-requires-clause-may g c =
    let u = turn_of c.args.wanted.now in
    let b = c.begin_turn-begun in
    let begun : IsBegun u.name c.args.self b.result =
    subst (λ (n : List ℕ). IsBegun n c.args.self b.result) c.as_str-name.ensures b.ensures in
    may_begun u (kinds_of c.args.handlers.now) c.args.self b.result begun c.requires.batch
    c.requires.can

pub turn_by_name-requires-clause-none : goal.turn_by_name-requires-clause-none
turn_by_name-requires-clause-none g c =
    let b = c.begin_turn-begun in
    none_begun c.args.wanted.now.name c.args.self b.result
    (subst (λ (n : List ℕ). IsBegun n c.args.self b.result) c.as_str-name.ensures b.ensures)

pub returns-in_err-made-clause-commits : goal.returns-in_err-made-clause-commits
returns-in_err-made-clause-commits g c =
    none_committed g.D.Disk c.args.disk.now c.args.self
    (λ told left e. g.met.D.Disk.only_now c.args.disk.now left told e) _ _ c.from_residual.result
    (memory_stop c.from_residual.result c.from_residual.ensures.1)

pub commit-requires : goal.commit-requires
commit-requires g c told =
    let u = turn_of c.args.wanted.now in
    let kinds = kinds_of c.args.handlers.now in
    let self = c.args.self in
    let b = c.begin_turn-begun in
    let begun : IsBegun u.name self b.result =
    subst (λ (n : List ℕ). IsBegun n self b.result) c.as_str-name.ensures b.ensures in
    let at = c.requires.at told in
    play_may_commit g.D.Disk c.args.disk.now c.args.disk.now self
    (turned u (standing_of kinds [] self)).records (session_of self)
    refl c.in_ok-made.made.play
    (follows_begun u kinds self b.result begun c.requires.batch c.requires.can
    c.in_ok-made.made.play c.in_ok-made.ensures.staged) at.0 at.1

pub returns-in_err-play-clause-commits : goal.returns-in_err-play-clause-commits
returns-in_err-play-clause-commits g c =
    let u = turn_of c.args.wanted.now in
    let kinds = kinds_of c.args.handlers.now in
    let self = c.args.self in
    let b = c.begin_turn-begun in
    let begun : IsBegun u.name self b.result =
    subst (λ (n : List ℕ). IsBegun n self b.result) c.as_str-name.ensures b.ensures in
    let cs = (turned u (standing_of kinds [] self)).records in
    let d = g.D.Disk in
    let old = c.args.disk.now in
    let new = c.commit.new.disk in
    let stop = c.in_err-play.field-0.0 in
    let r = c.from_residual-in_err-play in
    commits_stopped d old new self cs (engine_with self) _ stop r.result
    (handed_on r.result stop r.ensures.1)
    (commits_play d old new self cs (session_of self) refl c.in_ok-made.made.play
    (follows_begun u kinds self b.result begun c.requires.batch c.requires.can
    c.in_ok-made.made.play c.in_ok-made.ensures.staged) _ c.in_err-play.ensures)

pub returns-in_err-after-clause-commits : goal.returns-in_err-after-clause-commits
returns-in_err-after-clause-commits g c =
    let u = turn_of c.args.wanted.now in
    let kinds = kinds_of c.args.handlers.now in
    let self = c.args.self in
    let b = c.begin_turn-begun in
    let begun : IsBegun u.name self b.result =
    subst (λ (n : List ℕ). IsBegun n self b.result) c.as_str-name.ensures b.ensures in
    let cs = (turned u (standing_of kinds [] self)).records in
    let d = g.D.Disk in
    let old = c.args.disk.now in
    let new = c.commit.new.disk in
    let r = c.from_residual-in_err-after in
    commits_before d old new self cs (engine_with self) _ c.in_ok-play.play r.result
    (memory_stop r.result r.ensures.1)
    (commits_play d old new self cs (session_of self) refl c.in_ok-made.made.play
    (follows_begun u kinds self b.result begun c.requires.batch c.requires.can
    c.in_ok-made.made.play c.in_ok-made.ensures.staged) _ c.in_ok-play.ensures)

pub returns-clause-commits : goal.returns-clause-commits
unfolding session_of
returns-clause-commits g c =
    let u = turn_of c.args.wanted.now in
    let kinds = kinds_of c.args.handlers.now in
    let self = c.args.self in
    let b = c.begin_turn-begun in
    let begun : IsBegun u.name self b.result =
    subst (λ (n : List ℕ). IsBegun n self b.result) c.as_str-name.ensures b.ensures in
    let cs = (turned u (standing_of kinds [] self)).records in
    let d = g.D.Disk in
    let old = c.args.disk.now in
    let new = c.commit.new.disk in
    let made = c.in_ok-made.made in
    let play = c.in_ok-play.play in
    let then : Made = record made { play = play } in
    commits_so d old new self cs (engine_with self) _ play c.in_ok-after.after
    (at_end d new then _ c.in_ok-after.after c.in_ok-after.ensures)
    (ap (λ (j : Journal). j.limit) c.in_ok-after.ensures.journal)
    (commits_play d old new self cs (session_of self) refl made.play
    (follows_begun u kinds self b.result begun c.requires.batch c.requires.can made.play
    c.in_ok-made.ensures.staged) _ c.in_ok-play.ensures)

pub end-requires : goal.end-requires
end-requires g c =
    let u = turn_of c.args.wanted.now in
    let kinds = kinds_of c.args.handlers.now in
    let self = c.args.self in
    let b = c.begin_turn-begun in
    let name = c.as_str-name.ensures in
    let begun : IsBegun u.name self b.result =
    subst (λ (n : List ℕ). IsBegun n self b.result) name b.ensures in
    let was = made_begun u kinds self b.result begun c.requires.batch c.requires.can
    c.in_ok-made.made (by_bytes c.turn_by_name.new.asks.entries) c.in_ok-made.ensures.turned in
    let then : Made = record c.in_ok-made.made { play = c.in_ok-play.play } in
    let r = record b.result.remembered { asks = c.turn_by_name.new.asks } in
    record {
      may = subst (λ (n : List ℕ). MayEnd n then r) (sym name)
          (may_end u.name self b.result begun
          (turned u (standing_of kinds [] self)) then r
          (record {
            session = c.in_ok-play.ensures.session ∙ was.session;
            asks = was.asks;
            exchanges = was.exchanges;
            ended = was.ended;
          }) (leaves_begun u kinds self b.result begun c.requires.batch c.requires.can) refl
          (λ is. subst (λ (x : Session). pending_in x.world u.name ≡ Some 0)
          (sym c.in_ok-play.ensures.session) (c.in_ok-made.ensures.none is)));
    }

pub returns-clause-turned : goal.returns-clause-turned
returns-clause-turned g c =
    let u = turn_of c.args.wanted.now in
    let kinds = kinds_of c.args.handlers.now in
    let self = c.args.self in
    let b = c.begin_turn-begun in
    let begun : IsBegun u.name self b.result =
    subst (λ (n : List ℕ). IsBegun n self b.result) c.as_str-name.ensures b.ensures in
    let was = made_begun u kinds self b.result begun c.requires.batch c.requires.can
    c.in_ok-made.made (by_bytes c.turn_by_name.new.asks.entries) c.in_ok-made.ensures.turned in
    let then : Made = record c.in_ok-made.made { play = c.in_ok-play.play } in
    let r = record b.result.remembered { asks = c.turn_by_name.new.asks } in
    after_so u.name self b.result begun
    (turned u (standing_of kinds [] self)) then r
    (record {
      session = c.in_ok-play.ensures.session ∙ was.session;
      asks = was.asks;
      exchanges = was.exchanges;
      ended = was.ended;
    }) c.in_ok-after.after c.in_ok-after.ensures kinds []

pub returns-clause-quiet : goal.returns-clause-quiet
returns-clause-quiet g c =
    let u = turn_of c.args.wanted.now in
    let kinds = kinds_of c.args.handlers.now in
    let self = c.args.self in
    let b = c.begin_turn-begun in
    let begun : IsBegun u.name self b.result =
    subst (λ (n : List ℕ). IsBegun n self b.result) c.as_str-name.ensures b.ensures in
    let was = made_begun u kinds self b.result begun c.requires.batch c.requires.can
    c.in_ok-made.made (by_bytes c.turn_by_name.new.asks.entries) c.in_ok-made.ensures.turned in
    level_begun u kinds self b.result begun c.requires.batch c.requires.can c.in_ok-after.after
    (c.in_ok-after.ensures.session
    ∙ ap (λ (x : Session). settled_session x) (c.in_ok-play.ensures.session ∙ was.session))
