-- Turns of a run that follow each other come to their end in time.
use Rattle.std.proofs.Common.{◌≡◌, ◌⊎◌, ◌∙◌, inl, inr, refl, sym, ap, subst, ℕ, suc, ◌+◌, ◌≤◌, List, [], ◌∷◌, ◌++◌, length, Some, arith}
use Rattle.rx_disk.specs.declared.disk.Disk.{Ghosts}
use Rattle.rx_handler.specs.Handlers.{Kinds}
use Rattle.rx_outside.specs.declared.dial.Dial.{Ghosts as DialGhosts}
use Rattle.rx_outside.specs.declared.sink.Sink.{Ghosts as SinkGhosts}
use Rattle.rx_outside.specs.declared.source.Source.{Ghosts as SourceGhosts}
use Rattle.rx_engine.specs.Standing.{Standing}
use Rattle.rx_sync.specs.Bound.{enough, link_in}
use Rattle.rx_sync.specs.Laws.{IsReady}
use Rattle.rx_value.proofs.Outcomes.{some_same}
use Rattle.rx_world.specs.World.{World}
use Rattle.rx_top.specs.RunEnds.{first}
use Rattle.rx_top.specs.Script.{line_effect}
use Rattle.rx_top.specs.Story.{EachLine, Step, state_after}
use Rattle.rx_top.specs.TurnLines.{AreTurnsOf, RunTurnsEndInTime, exchanges_by, with_those_behind}
use Rattle.rx_top.specs.Turns.{HoldsOfTurn}
use Rattle.rx_top.proofs.TurnLines.{turn_lines_in_time}

-- ---- lists of lines

module _ {S : Type 0} (step : Step S) (P : ℕ → List ℕ → S → S → Type 0) where
  -- what holds of each line holds of those of a front
  each_before : (n : ℕ) (ls ms : List (List ℕ)) (s : S) → EachLine step P n (ls ++ ms) s
      → EachLine step P n ls s
  each_before n [] ms s each = tt
  each_before n (l ∷ ls) ms s each =
      (each.0, each_before (n + 1) ls ms (step n l s).next each.1)

  -- and of those behind it
  each_behind : (n : ℕ) (ls ms : List (List ℕ)) (s : S) → EachLine step P n (ls ++ ms) s
      → EachLine step P (n + length ls) ms (state_after step n ls s)
  each_behind n [] ms s each =
      let e : n ≡ n + 0 = omega arith in subst (λ (k : ℕ). EachLine step P k ms s) e each
  each_behind n (l ∷ ls) ms s each =
      let next : S = (step n l s).next in
      let e : n + 1 + length ls ≡ n + suc (length ls) = omega arith in
      subst (λ (k : ℕ). EachLine step P k ms (state_after step (n + 1) ls next)) e
      (each_behind (n + 1) ls ms next each.1)

-- ---- turns of one replication

-- the first of them may be made, or there is none
ready_or_none : (name : List ℕ) (n : ℕ) (ls : List (List ℕ)) (s : Standing)
    → EachLine line_effect HoldsOfTurn n ls s → AreTurnsOf name n ls s
    → IsReady s.session.world name s.kinds ⊎ (exchanges_by n ls s ≡ 0)
ready_or_none name n [] s each are = inr refl
ready_or_none name n (l ∷ ls) s each (inl m, are) =
    inl (subst (λ (x : List ℕ). IsReady s.session.world x s.kinds) m.by_name
    ((each.0 m.some_line).meant.ready m.wanted m.is))
ready_or_none name n (l ∷ ls) s each (inr idle, are) =
    let next : Standing = (line_effect n l s).next in
    elim (ready_or_none name (n + 1) ls next each.1 are) [
      | inl ready ↦
          inl (subst (λ (w : World). IsReady w name s.kinds) idle.same_world
          (subst (λ (k : Kinds). IsReady next.session.world name k) idle.same_kinds ready))
      | inr none ↦
          inr (ap (λ o. with_those_behind o (exchanges_by (n + 1) ls next)) idle.no_turn ∙ none)
    ]

in_time : (name : List ℕ) (n : ℕ) (ls : List (List ℕ)) (s : Standing)
    → EachLine line_effect HoldsOfTurn n ls s → AreTurnsOf name n ls s
    → (l : _) → link_in s.session.world name ≡ Some l → exchanges_by n ls s ≤ enough l
in_time name n ls s each are l is =
    elim (ready_or_none name n ls s each are) [
      | inl ready ↦
          let found = turn_lines_in_time name n ls s ready are in
          let same : found.0 ≡ l = some_same (sym found.1 ∙ is) in
          subst (λ m. exchanges_by n ls s ≤ enough m) same found.2
      | inr none ↦ omega (arith, none)
    ]

-- ---- a run

pub run_turns_in_time : {S K D N W : Type 0} (s : SourceGhosts S) (k : SinkGhosts K) (d : Ghosts D)
    (n : DialGhosts N W) (wires : Type 0) → RunTurnsEndInTime s k d n wires
run_turns_in_time s k d n wires r told t bodies w start whole before these after split name are l is =
    let from : Standing = first s k d n wires r bodies w in
    let at : Standing = state_after line_effect 1 before from in
    let all : EachLine line_effect HoldsOfTurn 1 (before ++ (these ++ after)) from =
    subst (λ (ls : List (List ℕ)). EachLine line_effect HoldsOfTurn 1 ls from) split whole.turns in
    in_time name (1 + length before) these at
    (each_before line_effect HoldsOfTurn (1 + length before) these after at
    (each_behind line_effect HoldsOfTurn 1 before (these ++ after) from all)) are l is
