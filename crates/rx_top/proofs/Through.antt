-- How the play of lines goes on that are given one by one, and how it ends.
use Rattle.std.proofs.Common.{◌≡◌, ◌∙◌, refl, sym, ap, subst, ℕ, ◌+◌, List, [], ◌∷◌, ◌++◌, length, All, Option, None, Some, IfNone, IfSome, Ok, Err, IsErrOf, arith, append_assoc, append-nil}
use Rattle.rx_disk.specs.declared.disk.Disk.{Ghosts}
use Rattle.rx_disk.proofs.Moments.{started}
use Rattle.rx_engine.specs.Dialled.{DialStanding}
use Rattle.rx_engine.specs.Engine.{IsAt, limit_of, standing_of}
use Rattle.rx_engine.specs.Hearing.{PlaysLine}
use Rattle.rx_engine.specs.Kept.{IsWellMeant}
use Rattle.rx_engine.specs.Meaning.{meaning}
use Rattle.rx_engine.specs.Standing.{Standing}
use Rattle.rx_engine.specs.declared.engine.Engine.{Engine}
use Rattle.rx_engine.specs.declared.output.Output.{Output}
use Rattle.rx_handler.specs.Handlers.{Kinds}
use Rattle.rx_outside.specs.declared.stop.Stop.{Stop}
use Rattle.rx_outside.specs.declared.stop.Stop.TheVariants.{Memory}
use Rattle.rx_sync.specs.Remote.{Heard}
use Rattle.rx_store.specs.Holds.{StandsLegally}
use Rattle.rx_store.specs.Safe.{IsCrashSafe}
use Rattle.rx_store.proofs.Crashes.{answered}
use Rattle.rx_top.specs.Chunks.{all_of, singly}
use Rattle.rx_top.specs.Hears.{HearsAll, IsShownAt}
use Rattle.rx_top.specs.Run.{KeepsFrom}
use Rattle.rx_top.specs.Script.{line_effect}
use Rattle.rx_top.specs.Story.{Effect, chunks}
use Rattle.rx_top.specs.Tally.{ComesTo, meanings, tally_of, with_line}
use Rattle.rx_top.specs.TriesScript.{DoesLines, as_run}
use Rattle.rx_top.specs.Work.{HasAll}
use Rattle.rx_top.specs.declared.tally.Tally.{Tally}
use Rattle.rx_top.proofs.Chunks.{CountsNow, OnlyNow, keeps_stopped}
use Rattle.rx_top.proofs.Done.{HasDone, all_kept, done_line, heard_all, hears_stopped, leaves_at, none_done, stopped_keeps}
use Rattle.rx_top.proofs.Filled.{IsFilled, all_front, filled_effect, first_filled}
use Rattle.rx_top.proofs.Hears.{heard_in, shown_in}
use Rattle.rx_top.proofs.Tallies.{comes_to, length-meanings, meanings-push, tally_more}

-- lines were played from an engine to another, and some are left
pub record Through
    {D : Type 0}
    (s0 s1 : Standing)
    (d : Ghosts D)
    (wires : Type 0)
    (d0 d1 : D)
    (n0 n1 : DialStanding)
    (first engine : Engine)
    (lines left : List (List ℕ))
    (t : Tally) : Type 0 where
  pub done : List (List ℕ)
  pub whole : lines ≡ done ++ left
  pub tally : t ≡ tally_of (meanings 1 done s0)
  pub has : HasDone singly d wires s0 s1 d0 d1 n0 n1 first (Some engine) done

pub begins : (s : Standing) {D : Type 0} (d : Ghosts D) (wires : Type 0) (disk : D)
    (dial : DialStanding)
    (first : Engine) (lines : List (List ℕ)) → (d.tells → OnlyNow d disk)
    → Through s s d wires disk disk dial dial first first lines lines
    (record { lines = 0; emissions = 0; refused = 0; end = None })
begins s d wires disk dial first lines only_now = record {
  done = [];
  whole = refl;
  tally = refl;
  has = none_done singly d wires s disk dial first only_now;
}

pub none_so : {A : Type 0} (r : Option A) (P : Type 0) → r ≡ None → IfNone r P → P
none_so None P is p = p
none_so (Some x) P is p = cc

pub some_so : {A : Type 0} (r : Option A) (x : A) (P : A → Type 0) → r ≡ Some x → IfSome r P → P x
some_so None x P is p = cc
some_so (Some y) x P is p = let same : y ≡ x = cc in subst P same p

-- what is kept of the lines is said in other words
pub does_as : {lines : List (List ℕ)} {stop : Option Stop}
    {Shown : List (List ℕ) → List (List ℕ) → Type 0} (P Q : List (List ℕ) → List (List ℕ) → Type 0)
    → ((done rest : List (List ℕ)) → P done rest → Q done rest)
    → DoesLines lines stop Shown P → DoesLines lines stop Shown Q
does_as P Q f does = record {
  done = does.done;
  rest = does.rest;
  whole = does.whole;
  all = does.all;
  shown = does.shown;
  kept = f does.done does.rest does.kept;
}

-- ---- between two lines

module _
    {s0 s1 : Standing} {D : Type 0} {d : Ghosts D} {wires : Type 0} {d0 d1 : D}
    {n0 n1 : DialStanding} {first engine : Engine} {lines left : List (List ℕ)} {t : Tally}
    (a : Through s0 s1 d wires d0 d1 n0 n1 first engine lines left t)
  where
    -- how the play ends, and what the disk keeps then
    abbrev Ends : Option Stop → Type 0
    Ends stop =
        DoesLines lines stop (HearsAll wires s0 n0 n1 (as_run stop))
        (KeepsFrom singly s0 d d0 d1 first (as_run stop))

    pub all_done : s1.heard ≡ [] → left ≡ [] → (d.tells → OnlyNow d d1) → Ends None
    all_done unheard none only_now = record {
      done = a.done;
      rest = [];
      whole = a.whole ∙ ap (λ (v : List (List ℕ)). a.done ++ v) none;
      all = λ is. refl;
      shown = heard_all a.has (as_run None) [] unheard;
      kept = all_kept a.has (as_run None) [] refl only_now;
    }

    -- memory ran out
    pub memory_out : (d.tells → OnlyNow d d1) → (d.tells → CountsNow d d1) → Ends (Some Memory)
    memory_out only_now counts_now = record {
      done = a.done;
      rest = left;
      whole = a.whole;
      all = λ is. cc;
      shown = record {
        between = n1;
        lines = a.has.hears;
        last = λ other. absurd (other refl);
      };
      kept = λ told bodies at le.
          let cs = chunks line_effect 1 a.done s0 in
          let before = bodies ++ all_of cs in
          let here : IsAt d d1 engine before = a.has.at told bodies at in
          keeps_stopped singly d d0 d1 d1 bodies cs _ (limit_of first) Memory
          (a.has.kept told bodies at le)
          (started d d1 (StandsLegally before _)
          (λ c since. leaves_at d d1 engine before _ here c (only_now told c since)))
          (counts_now told) (λ would most is. cc);
    }

    -- the number of the next line
    number : t.lines + 1 ≡ 1 + length a.done
    number =
        let count : t.lines ≡ length a.done =
        ap (λ (x : Tally). x.lines) a.tally ∙ length-meanings 1 a.done s0 in
        omega (arith, count)

-- what an engine and a tally come to where no line is left
pub all_so : (kinds : Kinds) {s0 : Standing} {D : Type 0} {d : Ghosts D} {wires : Type 0}
    {d0 d1 : D} {n0 n1 : DialStanding} {first engine : Engine} {lines left : List (List ℕ)}
    {t : Tally}
    → Through s0 (standing_of kinds [] engine) d wires d0 d1 n0 n1 first engine lines left t
    → left ≡ [] → ComesTo lines s0 engine t
all_so kinds {s0} {engine = engine} {lines = lines} {t = t} a none =
    let whole : a.done ≡ lines =
    sym (a.whole ∙ ap (λ (v : List (List ℕ)). a.done ++ v) none ∙ append-nil a.done) in
    subst (λ (v : List (List ℕ)). ComesTo v s0 engine t) whole
    (comes_to kinds [] engine t a.done s0 a.tally a.has.state)

-- ---- a line is played

-- what holds of an engine that made an output
abbrev IsMade : {D : Type 0} → Ghosts D → D → Engine × Output → List (List ℕ) → Type 0
IsMade d disk p bodies = IsAt d disk p.0 bodies

stop_is : (why other : Stop) → IsErrOf {T = Engine × Output} (Err why) other → why ≡ other
stop_is why other is = cc

module _
    {s0 : Standing} {D : Type 0} {d : Ghosts D} {wires : Type 0} {d0 d1 d2 : D}
    {n0 n1 n2 : DialStanding} {first engine : Engine} {lines left left' : List (List ℕ)}
    {t : Tally} {kinds : Kinds} {l : List ℕ}
  where
    -- its work stopped
    pub line_stopped : {why : Stop}
        (plays : PlaysLine d wires kinds (t.lines + 1) l d1 d2 n1 n2 engine (Err why))
        (a : Through s0 (standing_of kinds (plays.heard ++ []) engine) d wires d0 d1 n0 n1 first
        engine lines left t)
        → left ≡ l ∷ left' → All IsFilled lines
        → ((heard : List Heard) → IsWellMeant l (standing_of kinds heard engine))
        → (d.tells → CountsNow d d2)
        → DoesLines lines (Some why) (HearsAll wires s0 n0 n2 (as_run (Some why)))
        (KeepsFrom singly s0 d d0 d2 first (as_run (Some why)))
    line_stopped {why} plays a next filled meant counts_now =
        let heard = plays.heard ++ [] in
        let s1 = standing_of kinds heard engine in
        let full = first_filled lines a.done l left' left a.whole next filled in
        let all : plays.heard ≡ s1.heard =
        sym (append-nil plays.heard) ∙ sym (heard_in kinds heard engine) in
        record {
          done = a.done;
          rest = l ∷ left';
          whole = a.whole ∙ ap (λ (v : List (List ℕ)). a.done ++ v) next;
          all = λ is. cc;
          shown = hears_stopped a.has (t.lines + 1) (number a) l left' why
              (λ other. subst (λ (hs : List Heard). IsShownAt wires l s1 n1 n2 hs ⊥) all
              (shown_in wires l kinds engine n1 n2 plays.heard (λ none. absurd none) heard full
              (plays.shown (λ is. other (stop_is why Memory is)))))
              (λ other some. (meant heard).unharmed);
          kept = stopped_keeps a.has (t.lines + 1) (number a) l left' why (IsMade d d2)
              (λ told before at. subst (λ (e : Effect Standing).
              IsCrashSafe d d1 d2 before e.bodies (limit_of engine) (IsMade d d2) (Err why))
              (sym (filled_effect (t.lines + 1) l s1 full)) (plays.safe [] told before at))
              counts_now;
        }

    -- it was done
    pub line_done : {p : Engine × Output}
        (plays : PlaysLine d wires kinds (t.lines + 1) l d1 d2 n1 n2 engine (Ok p))
        (later : List Heard)
        (a : Through s0 (standing_of kinds (plays.heard ++ later) engine) d wires d0 d1 n0 n1 first
        engine lines left t) → left ≡ l ∷ left' → All IsFilled lines
        → limit_of p.0 ≡ limit_of engine → (d.tells → OnlyNow d d2)
        → Through s0 (standing_of kinds later p.0) d wires d0 d2 n0 n2 first p.0 lines left'
        (with_line t p.1)
    line_done {p} plays later a next filled limit only_now =
        let heard = plays.heard ++ later in
        let s1 = standing_of kinds heard engine in
        let m = meaning (t.lines + 1) l s1 in
        let ms = meanings 1 a.done s0 in
        let full = first_filled lines a.done l left' left a.whole next filled in
        let does = sym (filled_effect (t.lines + 1) l s1 full) in
        let answers = plays.answers later in
        let after = answers.next ∙ ap (λ (e : Effect Standing). e.next) does in
        record {
          done = a.done ++ l ∷ [];
          whole = a.whole ∙ ap (λ (v : List (List ℕ)). a.done ++ v) next
              ∙ sym (append_assoc a.done (l ∷ []) left');
          tally = ap (λ (x : Tally). with_line x p.1) a.tally
              ∙ tally_more ms m p.1 answers.emissions answers.refused answers.ended
              ∙ ap (λ (x : Standing). tally_of (ms ++ meaning (t.lines + 1) l x ∷ [])) a.has.state
              ∙ ap tally_of (sym (meanings-push 1 a.done l s0 (t.lines + 1)
              (all_front IsFilled a.done left
              (subst (λ (v : List (List ℕ)). All IsFilled v) a.whole filled)) (number a)));
          has = done_line a.has (t.lines + 1) (number a) l plays.heard limit after
              (shown_in wires l kinds engine n1 n2 plays.heard (λ all. refl) heard full
              (plays.shown (λ is. cc)))
              (heard_in kinds heard engine
              ∙ ap (λ (hs : List Heard). plays.heard ++ hs)
              (sym (heard_in kinds later p.0) ∙ ap (λ (x : Standing). x.heard) after))
              (λ told before at. subst (λ (e : Effect Standing).
              IsCrashSafe d d1 d2 before e.bodies (limit_of engine) (HasAll d d2) (Ok (Some p.0)))
              does
              (answered d d1 d2 before _ (limit_of engine) (IsMade d d2) (HasAll d d2) p (Some p.0)
              (plays.safe later told before at) (λ held. held)))
              only_now;
        }
