-- How a dial shows what was heard in lines, one after another.
use Rattle.std.proofs.Common.{◌≡◌, ◌∙◌, refl, sym, ap, subst, cond, true, ℕ, ◌+◌, List, [], ◌∷◌, ◌++◌, length, Bool, false, true≢false, inl, Result, Ok, Err, arith}
use Rattle.rx_engine.specs.Calling.{WantedCall, to_hear}
use Rattle.rx_engine.specs.Dialled.{DialStanding}
use Rattle.rx_engine.specs.Engine.{session_of, standing_of}
use Rattle.rx_engine.specs.Hearing.{IsShownBy}
use Rattle.rx_engine.specs.Lines.{Task, answered, turns, calls, sweeps, delivers, task}
use Rattle.rx_engine.specs.Meaning.{meaning, task_meaning}
use Rattle.rx_engine.specs.Opening.{Host, opened}
use Rattle.rx_engine.specs.Standing.{Standing}
use Rattle.rx_engine.specs.declared.engine.Engine.{Engine}
use Rattle.rx_handler.specs.Handlers.{Kinds}
use Rattle.rx_sync.specs.Remote.{Heard}
use Rattle.rx_world.specs.World.{World}
use Rattle.rx_top.specs.Hears.{HearsAll, HearsLast, HearsLines, HearsNothing, IsShownAt}
use Rattle.rx_top.specs.Lines.{is_blank}
use Rattle.rx_top.specs.Group.{CallsNobody}
use Rattle.rx_top.specs.Script.{effect_of, line_effect, no_effect}
use Rattle.rx_top.specs.Story.{EachLine, state_after}
use Rattle.rx_top.specs.declared.early_end.EarlyEnd.{EarlyEnd}
use Rattle.rx_top.specs.declared.early_end.EarlyEnd.TheVariants.{Read, Sink, Work}

-- ---- what is to be heard

pub heard_in : (kinds : Kinds) (hs : List Heard) (e : Engine) → (standing_of kinds hs e).heard ≡ hs
unfolding standing_of
heard_in kinds hs e = refl

pub heard_at_first : (host : Host) (hs : List Heard) (w : World) → (opened host hs w).heard ≡ hs
unfolding opened
heard_at_first host hs w = refl

-- ---- what is shown of a line

module _ {Done Then : Type 0} (wires : Type 0) (old new : DialStanding) (heard : List Heard)
    (as_done : Then → Done) where
  -- it doesn't depend on what is to be heard later
  pub shown_by : (hs : List Heard) (s : Standing) (t : Task)
      → IsShownBy wires t s old new heard Done
      → IsShownBy wires t (to_hear hs s) old new heard Then
  shown_by hs s (answered o) shown = shown
  shown_by hs s (turns t) shown = shown
  shown_by hs s (sweeps v) shown = shown
  shown_by hs s (delivers d) shown = shown
  shown_by hs s (calls c) shown = record {
    requests = shown.requests;
    made = λ later. let m = shown.made later in (m.0, m.1, λ done. m.2 (as_done done));
    dialled = shown.dialled;
  }

pub then_shown : {Done Then : Type 0} (wires : Type 0) (line : List ℕ) (old new : DialStanding)
    (heard : List Heard) → (Then → Done) → (s : Standing)
    → IsShownAt wires line s old new heard Done → IsShownAt wires line s old new heard Then
then_shown wires line old new heard as_done s shown = (
  shown.0,
  λ full. shown_by wires old new heard as_done s.heard s (task s.kinds line s.session)
      (shown.1 full),
)

-- so an engine shows it of a line that isn't blank
pub shown_in : {Done Then : Type 0} (wires : Type 0) (line : List ℕ) (kinds : Kinds) (e : Engine)
    (old new : DialStanding) (heard : List Heard) → (Then → Done) → (hs : List Heard)
    → is_blank line ≡ false
    → IsShownBy wires (task kinds line (session_of e)) (standing_of kinds [] e) old new heard Done
    → IsShownAt wires line (standing_of kinds hs e) old new heard Then
unfolding standing_of
shown_in wires line kinds e old new heard as_done hs full shown = (
  λ blank. absurd (true≢false (sym blank ∙ full)),
  λ _. shown_by wires old new heard as_done hs (standing_of kinds [] e)
      (task kinds line (session_of e)) shown,
)

-- ---- lines that are done

-- lines more
pub hears-append : (wires : Type 0) (n : ℕ) (ls ms : List (List ℕ)) (s : Standing) (k : ℕ)
    (old between new : DialStanding) → k ≡ n + length ls → HearsLines wires n ls s old between
    → HearsLines wires k ms (state_after line_effect n ls s) between new
    → HearsLines wires n (ls ++ ms) s old new
hears-append wires n [] ms s k old between new is before these =
    let same : k ≡ n = omega (arith, is) in
    subst (λ (x : DialStanding). HearsLines wires n ms s x new) before
    (subst (λ (m : ℕ). HearsLines wires m ms s between new) same these)
hears-append wires n (y ∷ ys) ms s k old between new is before these = (
  before.0,
  before.1,
  before.2,
  before.3,
  hears-append wires (n + 1) ys ms (line_effect n y s).next k before.1 between new
      (omega (arith, is)) before.4 these,
)

-- ---- lines that make no turn to a master elsewhere

-- what is to be heard stays so
same_task : (n : ℕ) (t : Task) (s : Standing) → ((c : WantedCall) → t ≡ calls c → ⊥)
    → (task_meaning n t s).next.heard ≡ s.heard
same_task n (answered o) s none = refl
same_task n (turns u) s none = refl
same_task n (sweeps v) s none = refl
same_task n (delivers d) s none = refl
same_task n (calls c) s none = absurd (none c refl)

same_full : (n : ℕ) (l : List ℕ) (s : Standing) (b : Bool) → is_blank l ≡ b
    → CallsNobody n l s s → (line_effect n l s).next.heard ≡ s.heard
unfolding meaning
same_full n l s true blank none =
    ap (λ b. (cond b (no_effect s) (effect_of (meaning n l s))).next.heard) blank
same_full n l s false full none =
    ap (λ b. (cond b (no_effect s) (effect_of (meaning n l s))).next.heard) full
    ∙ same_task n (task s.kinds l s.session) s (none full)

-- and the dial shows nothing of one
nobody_shown : (wires : Type 0) (t : Task) (s : Standing) (dial : DialStanding)
    → ((c : WantedCall) → t ≡ calls c → ⊥) → IsShownBy wires t s dial dial [] (Unit {0})
nobody_shown wires (answered o) s dial none = (refl, refl)
nobody_shown wires (turns u) s dial none = (refl, refl)
nobody_shown wires (sweeps v) s dial none = (refl, refl)
nobody_shown wires (delivers d) s dial none = (refl, refl)
nobody_shown wires (calls c) s dial none = absurd (none c refl)

pub heard_kept : (n : ℕ) (ls : List (List ℕ)) (s : Standing)
    → EachLine line_effect CallsNobody n ls s → (state_after line_effect n ls s).heard ≡ s.heard
heard_kept n [] s each = refl
heard_kept n (l ∷ ls) s each =
    heard_kept (n + 1) ls (line_effect n l s).next each.1
    ∙ same_full n l s (is_blank l) refl each.0

pub hears_nobody : (wires : Type 0) (n : ℕ) (ls : List (List ℕ)) (s : Standing)
    (dial : DialStanding) → EachLine line_effect CallsNobody n ls s
    → HearsLines wires n ls s dial dial
hears_nobody wires n [] s dial each = refl
hears_nobody wires n (l ∷ ls) s dial each = (
  [],
  dial,
  sym (same_full n l s (is_blank l) refl each.0),
  (
    λ blank. (refl, refl),
    λ full. nobody_shown wires (task s.kinds l s.session) s dial (each.0 full),
  ),
  hears_nobody wires (n + 1) ls (line_effect n l s).next dial each.1,
)

-- ---- ends

-- no line was begun and not done
pub nothing_last : (wires : Type 0) (ended : Result Bool EarlyEnd) (rest : List (List ℕ))
    (s : Standing)
    (old new : DialStanding) → HearsNothing s old new → HearsLast wires ended rest s old new
nothing_last wires (Ok refused) rest s old new none = none
nothing_last wires (Err (Read fault)) rest s old new none = none
nothing_last wires (Err Sink) rest s old new none = none
nothing_last wires (Err (Work why)) rest s old new none = λ other. inl none

-- no line was
pub unheard : (wires : Type 0) (dial : DialStanding) (s : Standing) (ended : Result Bool EarlyEnd)
    (rest : List (List ℕ)) → s.heard ≡ [] → HearsAll wires s dial dial ended [] rest
unheard wires dial s ended rest none = record {
  between = dial;
  lines = refl;
  last = nothing_last wires ended rest s dial dial (none, refl);
}
