-- What is kept of a line says what the line means.
use Rattle.std.proofs.Common.{◌≡◌, ◌∙◌, sym, ap, subst, ℕ, ◌+◌, ◌<◌, false, cond, leb, List, length, refl, arith, inl, inr}
use Rattle.std.proofs.lemmas.Bool.Decides.{leb_tells}
use Rattle.std.proofs.lemmas.List.{take_all, length-take-le}
use Rattle.rx_engine.proofs.Cut.{same_ask_when_cut, same_task_when_cut, same_when_cut}
use Rattle.rx_engine.specs.Dialled.{DialStanding}
use Rattle.rx_engine.specs.Engine.{IsUnharmedBy}
use Rattle.rx_engine.specs.Hearing.{IsShownBy}
use Rattle.rx_engine.specs.Kept.{IsInOrder, TurnsKeepUpdates}
use Rattle.rx_engine.specs.Lines.{Task}
use Rattle.rx_engine.specs.Meaning.{Meaning, meaning}
use Rattle.rx_engine.specs.Standing.{Standing}
use Rattle.rx_script.specs.Line.{max_line_bytes}
use Rattle.rx_sync.specs.Remote.{Heard}
use Rattle.rx_top.specs.Group.{CallsNobody}
use Rattle.rx_top.specs.Hears.{IsShownAt}
use Rattle.rx_top.specs.Lines.{is_blank}
use Rattle.rx_top.specs.Reader.{kept_front}
use Rattle.rx_top.specs.Script.{effect_of, line_effect, no_effect}
use Rattle.rx_top.specs.Turns.{HoldsOfTurn}

above : (n : ℕ) → max_line_bytes < n → leb n max_line_bytes ≡ false
above n h = elim (leb_tells n max_line_bytes)
    [ inl w ↦ absurd (omega (arith, w.1, h)) | inr w ↦ w.0 ]

-- a line that is too long is not blank
long_blank : (line : List ℕ) → max_line_bytes < length line → is_blank line ≡ false
long_blank line h = rw (above (length line) h) refl

still_long : (line : List ℕ) → max_line_bytes < length line
    → max_line_bytes < length (kept_front line)
still_long line h = omega (arith, length-take-le (max_line_bytes + 1) line (omega (arith, h)))

kept_blank : (line : List ℕ) → is_blank (kept_front line) ≡ is_blank line
kept_blank line = elim (leb_tells (length line) max_line_bytes) [
  | inl w ↦ ap is_blank (take_all (max_line_bytes + 1) line (omega (arith, w.1)))
  | inr w ↦ let h : max_line_bytes < length line = omega (arith, w.1) in
      long_blank (kept_front line) (still_long line h) ∙ sym (long_blank line h)
]

pub kept_effect : (n : ℕ) (line : List ℕ) (s : Standing)
    → line_effect n (kept_front line) s ≡ line_effect n line s
kept_effect n line s =
    ap (λ b. cond b (no_effect s) (effect_of (meaning n (kept_front line) s))) (kept_blank line)
    ∙ ap (λ (m : Meaning). cond (is_blank line) (no_effect s) (effect_of m))
    (same_when_cut n line s)

-- so it is of what holds of it
pub kept_turn : (n : ℕ) (line : List ℕ) (s next : Standing)
    → HoldsOfTurn n (kept_front line) s next → HoldsOfTurn n line s next
kept_turn n line s next holds full =
    let had = holds (kept_blank line ∙ full) in
    let same = same_task_when_cut line s in
    record {
      meant = record {
        ready = λ t is. had.meant.ready t (same ∙ is);
        updates = subst (λ (t : Task). TurnsKeepUpdates t s) same had.meant.updates;
        unharmed = λ c is. had.meant.unharmed c (same ∙ is);
        bounded = record {
          lowered = λ t is. had.meant.bounded.lowered t (same ∙ is);
          twice = λ t is. had.meant.bounded.twice t (same ∙ is);
          in_time = λ t is. had.meant.bounded.in_time t (same ∙ is);
        };
        waits = λ d is. had.meant.waits d (same ∙ is);
        streamed = had.meant.streamed;
      };
      in_order = subst (λ (t : Task). IsInOrder t s.session) same had.in_order;
      kept = record {
        quiet = λ t is. had.kept.quiet t (same ∙ is);
        level = λ d is. had.kept.level d (same ∙ is);
        swept = record {
          equal = λ root batch budget asks v is.
              had.kept.swept.equal root batch budget (same_ask_when_cut line ∙ asks) v (same ∙ is);
          in_time = λ root batch budget asks v is.
              had.kept.swept.in_time root batch budget (same_ask_when_cut line ∙ asks) v
              (same ∙ is);
        };
      };
    }

-- of what no master can do in it
pub kept_unharmed : (line : List ℕ) (s : Standing)
    → (is_blank (kept_front line) ≡ false → IsUnharmedBy (kept_front line) s)
    → is_blank line ≡ false → IsUnharmedBy line s
kept_unharmed line s unharmed full c is =
    unharmed (kept_blank line ∙ full) c (same_task_when_cut line s ∙ is)

-- and of whom it calls
pub kept_nobody : (n : ℕ) (line : List ℕ) (s next then : Standing)
    → CallsNobody n (kept_front line) s next → CallsNobody n line s then
kept_nobody n line s next then none full c is =
    none (kept_blank line ∙ full) c (same_task_when_cut line s ∙ is)

-- and of what its dial shows
pub kept_shown : (wires : Type 0) (line : List ℕ) (s : Standing) (old new : DialStanding)
    (heard : List Heard) (Done : Type 0) → IsShownAt wires (kept_front line) s old new heard Done
    → IsShownAt wires line s old new heard Done
kept_shown wires line s old new heard Done shown = (
  λ blank. shown.0 (kept_blank line ∙ blank),
  λ full. subst (λ (t : Task). IsShownBy wires t s old new heard Done) (same_task_when_cut line s)
      (shown.1 (kept_blank line ∙ full)),
)
