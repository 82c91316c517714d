-- Turns of lines that follow each other come to their end in time.
use Rattle.std.proofs.Common.{◌≡◌, ◌∙◌, inl, inr, refl, sym, ap, subst, ℕ, ◌+◌, ◌≤◌, cond, List, [], ◌∷◌, length, false, Option}
use Rattle.std.specs.List.{AllByRecursion}
use Rattle.rx_engine.specs.Lines.{Task, turns, task}
use Rattle.rx_engine.specs.Meaning.{meaning, task_meaning, turn_meaning}
use Rattle.rx_sync.specs.Asks.{asks_of}
use Rattle.rx_engine.specs.Standing.{Standing}
use Rattle.rx_engine.specs.Turning.{WantedTurn, turned}
use Rattle.rx_engine.proofs.Plays.{written-world}
use Rattle.rx_handler.specs.Handlers.{Kinds}
use Rattle.rx_sync.proofs.Bound.{turns_in_time}
use Rattle.rx_sync.specs.Bound.{IsOkTurn, NextTurn, enough, exchanges_of, is_done}
use Rattle.rx_sync.specs.Bound as bound
use Rattle.rx_sync.specs.Exchange.{world_after}
use Rattle.rx_sync.specs.Turn.{Turned}
use Rattle.rx_world.specs.World.{World}
use Rattle.rx_top.specs.Lines.{is_blank}
use Rattle.rx_top.specs.Script.{effect_of, line_effect, no_effect}
use Rattle.rx_top.specs.TurnLines.{AreTurnsOf, TurnLinesEndInTime, exchanges_by, turn_made, with_those_behind}

-- a turn of a line, as one of turns that follow each other
abbrev as_next : WantedTurn → Standing → NextTurn
as_next t s = record {
  batch = t.batch;
  budget = t.budget;
  link = t.link;
  now = s.session.moment;
  asks = asks_of t.name s.asks;
}

abbrev next_turns : (name : List ℕ) (n : ℕ) (ls : List (List ℕ)) (s : Standing)
    → AreTurnsOf name n ls s → List NextTurn
next_turns name n [] s are = []
next_turns name n (l ∷ ls) s (inl m, are) =
    as_next m.wanted s ∷ next_turns name (n + 1) ls (line_effect n l s).next are
next_turns name n (l ∷ ls) s (inr idle, are) =
    next_turns name (n + 1) ls (line_effect n l s).next are

all_ok : (name : List ℕ) (n : ℕ) (ls : List (List ℕ)) (s : Standing) (are : AreTurnsOf name n ls s)
    → AllByRecursion IsOkTurn (next_turns name n ls s are)
all_ok name n [] s are = tt
all_ok name n (l ∷ ls) s (inl m, are) =
    ((m.some, m.ok), all_ok name (n + 1) ls (line_effect n l s).next are)
all_ok name n (l ∷ ls) s (inr idle, are) = all_ok name (n + 1) ls (line_effect n l s).next are

-- ---- how things stand after the line of a turn

module _ (n : ℕ) (l : List ℕ) (s : Standing) (t : WantedTurn) (full : is_blank l ≡ false)
    (is : task s.kinds l s.session ≡ turns t) where
  next_is : (line_effect n l s).next ≡ (turn_meaning n t.name (turned t s) s).next
  unfolding meaning
  next_is =
      ap (λ b. (cond b (no_effect s) (effect_of (meaning n l s))).next) full
      ∙ ap (λ (x : Task). (task_meaning n x s).next) is

  same_kinds : (line_effect n l s).next.kinds ≡ s.kinds
  same_kinds = ap (λ (x : Standing). x.kinds) next_is

  next_world : (line_effect n l s).next.session.world
      ≡ world_after (turned t s).records s.session.world
  next_world = ap (λ (x : Standing). x.session.world) next_is
      ∙ written-world (turned t s).records s.session

-- ---- all of them

same_count : (name : List ℕ) (n : ℕ) (ls : List (List ℕ)) (s : Standing)
    (are : AreTurnsOf name n ls s)
    → exchanges_by n ls s ≡ exchanges_of name s.kinds (next_turns name n ls s are) s.session.world
same_count name n [] s are = refl
same_count name n (l ∷ ls) s (inl m, are) =
    let t = m.wanted in
    let then = (line_effect n l s).next in
    let ns = next_turns name (n + 1) ls then are in
    let u = turned t s in
    let behind : exchanges_by (n + 1) ls then
    ≡ exchanges_of name s.kinds ns (world_after u.records s.session.world) =
    same_count name (n + 1) ls then are
    ∙ ap (λ (k : Kinds). exchanges_of name k ns then.session.world)
    (same_kinds n l s t m.some_line m.is)
    ∙ ap (λ (w : World). exchanges_of name s.kinds ns w) (next_world n l s t m.some_line m.is) in
    ap (λ (x : Task). with_those_behind (turn_made x s) (exchanges_by (n + 1) ls then)) m.is
    ∙ ap (λ (k : ℕ). length u.exchanges + cond (is_done u.ended) 0 k) behind
    ∙ ap (λ (at : List ℕ).
    let v : Turned = bound.turn_of_line at s.kinds (as_next t s) s.session.world in
    length v.exchanges
    + cond (is_done v.ended) 0
    (exchanges_of name s.kinds ns (world_after v.records s.session.world))) m.by_name
same_count name n (l ∷ ls) s (inr idle, are) =
    let then = (line_effect n l s).next in
    let ns = next_turns name (n + 1) ls then are in
    ap (λ (u : Option Turned). with_those_behind u (exchanges_by (n + 1) ls then)) idle.no_turn
    ∙ same_count name (n + 1) ls then are
    ∙ ap (λ (k : Kinds). exchanges_of name k ns then.session.world) idle.same_kinds
    ∙ ap (λ (w : World). exchanges_of name s.kinds ns w) idle.same_world

pub turn_lines_in_time : TurnLinesEndInTime
turn_lines_in_time name n lines s ready are =
    let found = turns_in_time name s.kinds s.session.world ready (next_turns name n lines s are)
    (all_ok name n lines s are) in (
      found.0,
      found.1,
      subst (λ (k : ℕ). k ≤ enough found.0) (sym (same_count name n lines s are)) found.2,
    )
