-- How the play of a script goes on, and how it ends.
use Rattle.rx_serve.specs.Lines.{cut}
use Rattle.std.proofs.Common.{◌≡◌, ◌∙◌, refl, sym, ap, subst, ℕ, ◌+◌, ◌≤◌, Bool, false, ◌||◌, List, [], ◌∷◌, ◌++◌, length, take, Option, None, Some, Result, Ok, Err, IsErrOf, IsOk, OnOk, arith, append_assoc, append-nil, length-append}
use Rattle.std.proofs.Math.Seq.{take-append_seam}
use Rattle.std.specs.Prelude.{IfSome}
use Rattle.rx_disk.specs.declared.disk.Disk.{Ghosts}
use Rattle.rx_engine.specs.Dialled.{DialStanding}
use Rattle.rx_engine.specs.Engine.{IsUnharmedBy, limit_of, standing_of}
use Rattle.rx_engine.specs.Standing.{Standing}
use Rattle.rx_engine.specs.declared.engine.Engine.{Engine}
use Rattle.rx_handler.specs.Handlers.{Kinds}
use Rattle.rx_store.specs.Safe.{IsCrashSafe}
use Rattle.rx_outside.specs.Sink.{WritesFront}
use Rattle.rx_outside.specs.declared.stop.Stop.{Stop}
use Rattle.rx_outside.specs.declared.stop.Stop.TheVariants.{Memory}
use Rattle.rx_sync.specs.Remote.{Heard}
use Rattle.rx_top.specs.Chunks.{in_groups}
use Rattle.rx_top.specs.Hears.{HearsAll, IsShownAt}
use Rattle.rx_top.specs.Lines.{is_blank, lines}
use Rattle.rx_top.specs.Reader.{Takes, TakesKept, StopsBy, StopsWithin, Took, kept_front, max_input_bytes}
use Rattle.rx_top.specs.Run.{IsReadPromptly, KeepsFrom, Plays, Reads, Writes, stop_of}
use Rattle.rx_top.specs.Script.{line_effect}
use Rattle.rx_top.specs.Story.{EachLine, Effect, replies}
use Rattle.rx_top.specs.Work.{HasAll, WorksLine, work_of}
use Rattle.rx_top.specs.Turns.{HoldsOfTurn}
use Rattle.rx_top.specs.declared.early_end.EarlyEnd.{EarlyEnd}
use Rattle.rx_top.specs.declared.early_end.EarlyEnd.TheVariants.{Read, Sink, Work}
use Rattle.rx_top.specs.declared.early_end.ReadFault.{ReadFault}
use Rattle.rx_top.specs.declared.early_end.ReadFault.TheVariants as fault
use Rattle.rx_top.specs.declared.reader.Next.{Next}
use Rattle.rx_top.specs.declared.reader.Next.TheVariants.{Line, Last, End}
use Rattle.rx_top.proofs.Chunks.{CountsNow, OnlyNow}
use Rattle.rx_top.proofs.Done.{HasDone, all_kept, done_line, heard_all, hears_stopped, none_done, stopped_keeps}
use Rattle.rx_top.proofs.Hears.{heard_in, then_shown}
use Rattle.rx_top.proofs.Kept.{kept_effect, kept_shown, kept_turn, kept_unharmed}
use Rattle.rx_top.proofs.Promptly.{prompt_ahead, prompt_more}
use Rattle.rx_top.proofs.Story.{SoFar, none_yet, line_more, lines_more, rest_lines, lines_last, lines_next, begun, refused_more, replies-push, each-push}

-- ---- what was given

-- bytes more were given
pub took_on : (g : ℕ) (l0 l1 l2 : List ℕ) (P : ℕ → Type 0) → Took 0 l0 l1 (λ n. n ≡ g)
    → Took g l1 l2 P → Took 0 l0 l2 P
took_on g l0 l1 l2 P t u =
    let count : g + length u.0 ≡ 0 + length (t.0
    ++ u.0) = omega (arith, t.2, length-append t.0 u.0) in (
      t.0 ++ u.0,
      t.1 ∙ ap (λ v. t.0 ++ v) u.1 ∙ sym (append_assoc t.0 u.0 l2),
      subst P count u.2,
    )

within_on : (given g : ℕ) (l0 l1 : List ℕ) → Took given l0 l1 (λ n. n ≡ g) → g ≤ max_input_bytes
    → Took given l0 l1 (λ n. n ≤ max_input_bytes)
within_on given g l0 l1 t h = (t.0, t.1, omega (arith, t.2, h))

-- and so no more than an input may have
pub took_within : {g more : ℕ} {l0 l1 l2 : List ℕ} → Took 0 l0 l1 (λ n. n ≡ g)
    → Took g l1 l2 (λ n. n ≡ more) → more ≤ max_input_bytes
    → Took 0 l0 l2 (λ n. n ≤ max_input_bytes)
took_within {g} {more} {l0} {l1} {l2} t u le =
    took_on g l0 l1 l2 (λ n. n ≤ max_input_bytes) t (within_on g more l1 l2 u le)

-- ---- what remains

append_none : (xs ys : List ℕ) → xs ++ ys ≡ [] → ys ≡ []
append_none [] ys h = h
append_none (x ∷ xs) ys h = cc

-- nothing is left of a source where nothing is to come
pub none_left : (step : Next) (line rest unread left : List ℕ) → (step ≡ Line → ⊥)
    → TakesKept step line rest (unread ++ left) → left ≡ []
none_left Line line rest unread left ends takes = absurd (ends refl)
none_left Last line rest unread left ends takes = append_none unread left takes.2.3
none_left End line rest unread left ends takes = append_none unread left takes.2.1

pub only_line : (step : Next) → (step ≡ End → ⊥) → (step ≡ Last → ⊥) → step ≡ Line
only_line Line some more = refl
only_line Last some more = absurd (more refl)
only_line End some more = absurd (some refl)

-- the line as it is lent
pub taken_as : (step : Next) (line lent rest rest' : List ℕ) → line ≡ lent
    → TakesKept step line rest rest' → TakesKept step lent rest rest'
taken_as step line lent rest rest' e takes = (takes.0, sym e ∙ takes.1, takes.2)

-- the line that was taken is the next one
next_line : (step : Next) (l rest rest' : List ℕ) → (step ≡ End → ⊥) → Takes step l rest rest'
    → (more : List (List ℕ)) × (lines rest ≡ l ∷ more)
next_line Line l rest rest' some takes =
    (lines rest', ap lines takes.0 ∙ lines_next l rest' takes.1)
next_line Last l rest rest' some takes =
    ([], ap lines takes.0 ∙ lines_last l takes.1 takes.2)
next_line End l rest rest' some takes = absurd (some refl)

-- ---- the run so far

-- lines were played from an engine to another
pub record Along
    {D : Type 0}
    (s0 s1 : Standing)
    (d : Ghosts D)
    (k_tells wires : Type 0)
    (d0 d1 : D)
    (n0 n1 : DialStanding)
    (first engine : Engine)
    (w0 w1 input rest : List ℕ)
    (n : ℕ)
    (r : Bool) : Type 0 where
  pub bytes : List ℕ
  pub so : SoFar line_effect bytes input rest n r s0 s1
  pub told : k_tells → w1 ≡ w0 ++ replies line_effect 1 (cut bytes).whole s0
  pub each : EachLine line_effect HoldsOfTurn 1 (cut bytes).whole s0
  pub has : HasDone in_groups d wires s0 s1 d0 d1 n0 n1 first (Some engine) (cut bytes).whole

pub begins : (s0 : Standing) {D : Type 0} (d : Ghosts D) (k_tells wires : Type 0) (disk : D)
    (dial : DialStanding) (first : Engine) (w input unread : List ℕ) → unread ≡ []
    → (d.tells → OnlyNow d disk)
    → Along s0 s0 d k_tells wires disk disk dial dial first first w w input
    (unread ++ input) 0 false
begins s0 d k_tells wires disk dial first w input unread none only_now = record {
  bytes = [];
  so = subst (λ (v : List ℕ).
      SoFar line_effect [] input (v ++ input) 0 false s0 s0)
      (sym none) (none_yet line_effect input s0);
  told = λ t. sym (append-nil w);
  each = tt;
  has = none_done in_groups d wires s0 disk dial first only_now;
}

-- the same in other words of where it began and of what is to come
pub along_as : {s0 s0' s1 : Standing} {D : Type 0} {d : Ghosts D} {k_tells wires : Type 0}
    {d0 d1 : D} {n0 n1 : DialStanding} {first engine : Engine} {w0 w1 input rest rest' : List ℕ}
    {n : ℕ} {r : Bool} → s0 ≡ s0' → rest ≡ rest'
    → Along s0 s1 d k_tells wires d0 d1 n0 n1 first engine w0 w1 input rest n r
    → Along s0' s1 d k_tells wires d0 d1 n0 n1 first engine w0 w1 input rest' n r
along_as same_start same_rest a = rw same_start at (rw same_rest at a)

-- an end behind lines, with all that was due on the disk
pub ends : {s0 s1 : Standing} {D : Type 0} {d : Ghosts D} {wires : Type 0} {d0 d1 : D}
    {n0 n1 : DialStanding} {first : Engine} {x : Option Engine} {ls : List (List ℕ)}
    (has : HasDone in_groups d wires s0 s1 d0 d1 n0 n1 first x ls) (rest : List (List ℕ))
    (tells : Type 0) (w0 w1 input left : List ℕ) (ended : Result Bool EarlyEnd)
    → stop_of ended ≡ None → s1.heard ≡ [] → lines input ≡ ls ++ rest
    → EachLine line_effect HoldsOfTurn 1 ls s0
    → Reads line_effect ended input left ls rest s0
    → (tells → Writes ended w0 w1 (replies line_effect 1 ls s0))
    → (d.tells → OnlyNow d d1)
    → Plays line_effect HoldsOfTurn tells w0 w1 input left s0 ended (HearsAll wires s0 n0 n1 ended)
    (KeepsFrom in_groups s0 d d0 d1 first ended)
ends {ls = ls} has rest tells w0 w1 input left ended none unheard whole each reads writes only_now =
    record {
      done = ls;
      rest = rest;
      whole = whole;
      each = each;
      reads = reads;
      writes = writes;
      shown = heard_all has ended rest unheard;
      kept = all_kept has ended rest none only_now;
    }

-- ---- the reader stopped

reading_stopped : (done input rest left : List ℕ) (n : ℕ) (r : Bool) (s0 s : Standing)
    (lines : List (List ℕ)) → SoFar line_effect done input rest n r s0 s → StopsWithin rest left
    → Reads line_effect (Err (Read fault.Failed)) input left (cut done).whole lines s0
reading_stopped done input rest left n r s0 s lines so stop = (
  done ++ stop.0,
  so.split ∙ ap (λ v. done ++ v) stop.1 ∙ sym (append_assoc done stop.0 left),
  sym (begun done stop.0 so.whole stop.2),
)

within_limit : (input done front left taken : List ℕ) (b : ℕ)
    → input ≡ ((done ++ front) ++ b ∷ []) ++ left → input ≡ taken ++ left
    → length taken ≡ max_input_bytes + 1 → length (done ++ front) ≡ max_input_bytes
within_limit input done front left taken b e f count =
    omega (
      arith,
      count,
      ap length (sym e ∙ f),
      length-append ((done ++ front) ++ b ∷ []) left,
      length-append (done ++ front) (b ∷ []),
      length-append taken left,
    )

too_long_stopped : (done input rest left : List ℕ) (n : ℕ) (r : Bool) (s0 s : Standing)
    (lines : List (List ℕ)) → SoFar line_effect done input rest n r s0 s
    → (b : ℕ) × StopsWithin rest (b ∷ left) → Took 0 input left (λ k. k ≡ max_input_bytes + 1)
    → Reads line_effect (Err (Read fault.TooLong)) input left (cut done).whole lines s0
too_long_stopped done input rest left n r s0 s lines so stop took =
    let front = stop.1.0 in
    let split : input ≡ ((done ++ front) ++ stop.0 ∷ []) ++ left =
    so.split ∙ ap (λ v. done ++ v) stop.1.1 ∙ sym (append_assoc done front (stop.0 ∷ left))
    ∙ sym (append_assoc (done ++ front) (stop.0 ∷ []) left) in
    let count : length (done ++ front) ≡ max_input_bytes =
    within_limit input done front left took.0 stop.0 split took.1 (omega (arith, took.2)) in
    let cutoff : take max_input_bytes ((done ++ front) ++ stop.0 ∷ []) ≡ done ++ front =
    ap (λ k. take k ((done ++ front) ++ stop.0 ∷ [])) (sym count)
    ∙ take-append_seam (done ++ front) (stop.0 ∷ []) in (
      (done ++ front) ++ stop.0 ∷ [],
      split,
      omega (arith, count, length-append (done ++ front) (stop.0 ∷ [])),
      sym (ap (λ v. (cut v).whole) cutoff ∙ begun done front so.whole stop.1.2),
    )

reader_reads : (why : ReadFault) (done input rest left : List ℕ) (n : ℕ) (r : Bool)
    (s0 s : Standing) (lines : List (List ℕ)) → SoFar line_effect done input rest n r s0 s
    → StopsBy why rest left
    → (IsErrOf {T = Next} (Err why) fault.TooLong
    → Took 0 input left (λ k. k ≡ max_input_bytes + 1))
    → Reads line_effect (Err (Read why)) input left (cut done).whole lines s0
reader_reads fault.Failed done input rest left n r s0 s lines so stops took =
    reading_stopped done input rest left n r s0 s lines so stops
reader_reads fault.Memory done input rest left n r s0 s lines so stops took =
    prompt_ahead done rest input so.whole so.split left stops
reader_reads fault.TooLong done input rest left n r s0 s lines so stops took =
    too_long_stopped done input rest left n r s0 s lines so stops (took refl)

module _
    {s0 s1 : Standing} {D : Type 0} {d : Ghosts D} {k_tells wires : Type 0} {d0 d1 : D}
    {n0 n1 : DialStanding} {first engine : Engine} {w0 w1 input rest : List ℕ} {n : ℕ} {r : Bool}
    (a : Along s0 s1 d k_tells wires d0 d1 n0 n1 first engine w0 w1 input rest n r)
  where
    abbrev ls : List (List ℕ)
    ls = (cut a.bytes).whole

    -- how the play ends, and what the disk keeps then
    abbrev Ends : D → DialStanding → List ℕ → List ℕ → Result Bool EarlyEnd → Type 0
    Ends d2 n2 w2 left ended =
        Plays line_effect HoldsOfTurn k_tells w0 w2 input left s0 ended
        (HearsAll wires s0 n0 n2 ended) (KeepsFrom in_groups s0 d d0 d2 first ended)

    to_come : lines input ≡ ls ++ lines rest
    to_come = rest_lines line_effect a.bytes input rest n r s0 s1 a.so

    pub reader_stopped : s1.heard ≡ [] → (why : ReadFault) (left : List ℕ)
        → StopsBy why rest left
        → (IsErrOf {T = Next} (Err why) fault.TooLong
        → Took 0 input left (λ k. k ≡ max_input_bytes + 1))
        → (d.tells → OnlyNow d d1) → Ends d1 n1 w1 left (Err (Read why))
    reader_stopped none why left stops took only_now =
        ends a.has (lines rest) k_tells w0 w1 input left (Err (Read why)) refl none to_come a.each
        (reader_reads why a.bytes input rest left n r s0 s1 (lines rest) a.so stops took)
        a.told only_now

    -- nothing is to come
    pub ended : s1.heard ≡ [] → (left : List ℕ) → rest ≡ [] → (d.tells → OnlyNow d d1)
        → Ends d1 n1 w1 left (Ok r)
    ended unheard left none only_now =
        ends a.has [] k_tells w0 w1 input left (Ok r) refl unheard
        (to_come ∙ ap (λ v. ls ++ lines v) none) a.each (refl, a.so.refusals) a.told only_now

    -- ---- a line is taken

    module _ (l line : List ℕ) (kept : line ≡ kept_front l) where
      -- what it does, which is what is kept of it does
      abbrev m : Effect Standing
      m = line_effect (n + 1) l s1

      as_kept : line_effect (n + 1) line s1 ≡ m
      as_kept = ap (λ v. line_effect (n + 1) v s1) kept ∙ kept_effect (n + 1) l s1

      count : n + 1 ≡ 1 + length ls
      count = omega (arith, a.so.number)

      each_line : HoldsOfTurn (n + 1) line s1 (line_effect (n + 1) line s1).next
          → EachLine line_effect HoldsOfTurn 1 (ls ++ l ∷ []) s0
      each_line holds =
          let now = subst (λ (v : List ℕ).
          HoldsOfTurn (n + 1) v s1 (line_effect (n + 1) line s1).next) kept holds in
          let then = subst (λ (e : Effect Standing). HoldsOfTurn (n + 1) l s1 e.next) as_kept
          (kept_turn (n + 1) l s1 (line_effect (n + 1) line s1).next now) in
          each-push line_effect HoldsOfTurn 1 ls l s0 (n + 1) count a.each
          (subst (λ (s : Standing). HoldsOfTurn (n + 1) l s (line_effect (n + 1) l s).next)
          a.so.state then)

      shown_line : (n2 : DialStanding) (heard : List Heard) (Done : Type 0)
          → IsShownAt wires line s1 n1 n2 heard Done → IsShownAt wires l s1 n1 n2 heard Done
      shown_line n2 heard Done shown =
          kept_shown wires l s1 n1 n2 heard Done
          (subst (λ (v : List ℕ). IsShownAt wires v s1 n1 n2 heard Done) kept shown)

      unharmed_line : (is_blank line ≡ false → IsUnharmedBy line s1)
          → is_blank l ≡ false → IsUnharmedBy l s1
      unharmed_line unharmed =
          kept_unharmed l s1
          (subst (λ (v : List ℕ). is_blank v ≡ false → IsUnharmedBy v s1) kept unharmed)

      told_line : replies line_effect 1 (ls ++ l ∷ []) s0
          ≡ replies line_effect 1 ls s0 ++ (line_effect (n + 1) line s1).reply
      told_line =
          replies-push line_effect 1 ls l s0 (n + 1) count
          ∙ ap (λ (s : Standing). replies line_effect 1 ls s0 ++ (line_effect (n + 1) l s).reply)
          (sym a.so.state)
          ∙ ap (λ (e : Effect Standing). replies line_effect 1 ls s0 ++ e.reply) (sym as_kept)

      told_on : (w2 : List ℕ) → (k_tells → w2 ≡ w1 ++ (line_effect (n + 1) line s1).reply)
          → k_tells → w2 ≡ w0 ++ replies line_effect 1 (ls ++ l ∷ []) s0
      told_on w2 had t =
          had t ∙ ap (λ v. v ++ (line_effect (n + 1) line s1).reply) (a.told t)
          ∙ append_assoc w0 (replies line_effect 1 ls s0) (line_effect (n + 1) line s1).reply
          ∙ ap (λ v. w0 ++ v) (sym told_line)

      front_on : (w2 : List ℕ)
          → (k_tells → WritesFront w1 w2 (line_effect (n + 1) line s1).reply) → k_tells
          → WritesFront w0 w2 (replies line_effect 1 (ls ++ l ∷ []) s0)
      front_on w2 front t =
          let f = front t in
          let had = replies line_effect 1 ls s0 in (
            had ++ f.0,
            f.1,
            told_line ∙ ap (λ v. had ++ v) f.2 ∙ sym (append_assoc had f.0 f.1),
            f.3 ∙ ap (λ v. v ++ f.0) (a.told t) ∙ append_assoc w0 had f.0,
          )

      refused_on : (now : Bool) → now ≡ (line_effect (n + 1) line s1).refused
          → (r || now) ≡ (r || m.refused)
      refused_on now is =
          ap (λ v. r || v) (is ∙ ap (λ (e : Effect Standing). e.refused) as_kept)

      whole_with : (step : Next) (rest' : List ℕ) → (step ≡ End → ⊥) → Takes step l rest rest'
          → (more : List (List ℕ)) × (lines input ≡ ls ++ l ∷ more)
      whole_with step rest' some takes =
          let more = next_line step l rest rest' some takes in
          (more.0, to_come ∙ ap (λ (v : List (List ℕ)). ls ++ v) more.1)

-- ---- and played

on_ok : {A E : Type 0} (r : Result A E) (x : A) (P : Type 0) → r ≡ Ok x → OnOk r P → P
on_ok (Ok y) x P is p = p
on_ok (Err e) x P is p = cc

was_ok : {A E : Type 0} (r : Result A E) (x : A) → r ≡ Ok x → IsOk r
was_ok (Ok y) x is = refl
was_ok (Err e) x is = cc

no_error : {A E : Type 0} (x : A) (e : E) → IsErrOf (Ok x) e → ⊥
no_error x e is = cc

same_stop : (why : Stop) → IsErrOf {T = Engine × Bool} (Err (Work why)) (Work Memory)
    → why ≡ Memory
same_stop why same = cc

module _
    {s0 : Standing} {D : Type 0} {d : Ghosts D} {k_tells wires : Type 0} {d0 d1 d2 : D}
    {n0 n1 n2 : DialStanding} {first engine : Engine} {w0 w1 w2 input rest : List ℕ} {n : ℕ}
    {r : Bool} {kinds : Kinds} {line : List ℕ}
  where
    -- it was done
    has_line : (worked : Result (Engine × Bool) EarlyEnd)
        (works : WorksLine d kinds wires k_tells (n + 1) line engine d1 d2 n1 n2 w1 w2 worked)
        (later : List Heard)
        (a : Along s0 (standing_of kinds (works.heard ++ later) engine) d k_tells wires d0 d1 n0 n1
        first engine w0 w1 input rest n r)
        (l : List ℕ) → line ≡ kept_front l → (x : Option Engine) (s2 : Standing)
        → work_of worked ≡ Ok x → (IsErrOf worked (Work Memory) → ⊥)
        → IfSome x (λ e. limit_of e ≡ limit_of engine)
        → s2 ≡ (line_effect (n + 1) line (standing_of kinds (works.heard ++ later) engine)).next
        → (d.tells → OnlyNow d d2)
        → HasDone in_groups d wires s0 s2 d0 d2 n0 n2 first x ((cut a.bytes).whole ++ l ∷ [])
    has_line worked works later a l kept x s2 is enough limit after only_now =
        let s1 = standing_of kinds (works.heard ++ later) engine in
        let same = as_kept a l line kept in
        done_line a.has (n + 1) (count a l line kept) l works.heard limit
        (after ∙ ap (λ (e : Effect Standing). e.next) same)
        (shown_line a l line kept n2 works.heard (Unit {0})
        (then_shown wires line n1 n2 works.heard (λ all. was_ok (work_of worked) x is) s1
        (works.shown later enough)))
        (heard_in kinds (works.heard ++ later) engine
        ∙ ap (λ (hs : List Heard). works.heard ++ hs)
        (sym (on_ok (work_of worked) x _ is (works.later_so later))
        ∙ ap (λ (e : Effect Standing). e.next.heard) same))
        (λ t before at. subst (λ (e : Effect Standing).
        IsCrashSafe d d1 d2 before e.bodies (limit_of engine) (HasAll d d2) (Ok x)) same
        (subst (λ (v : Result (Option Engine) Stop). IsCrashSafe d d1 d2 before
        (line_effect (n + 1) line s1).bodies (limit_of engine) (HasAll d d2) v) is
        (works.safe later t before at)))
        only_now

    -- the sink failed
    line_sunk :
        (works : WorksLine d kinds wires k_tells (n + 1) line engine d1 d2 n1 n2 w1 w2 (Err Sink))
        (a : Along s0 (standing_of kinds (works.heard ++ []) engine) d k_tells wires d0 d1 n0 n1
        first engine w0 w1 input rest n r)
        (step : Next) (rest' left : List ℕ) → (step ≡ End → ⊥) → TakesKept step line rest rest'
        → IsReadPromptly input left (cut a.bytes).whole → (d.tells → OnlyNow d d2)
        → Plays line_effect HoldsOfTurn k_tells w0 w2 input left s0 (Err Sink)
        (HearsAll wires s0 n0 n2 (Err Sink)) (KeepsFrom in_groups s0 d d0 d2 first (Err Sink))
    line_sunk works a step rest' left some takes prompt only_now =
        let l = takes.0 in
        let more = whole_with a l line takes.1 step rest' some takes.2 in
        let s1 = standing_of kinds (works.heard ++ []) engine in
        ends (has_line (Err Sink) works [] a l takes.1 None (line_effect (n + 1) line s1).next refl
        (λ is. cc) tt refl only_now)
        more.0 k_tells w0 w2 input left (Err Sink) refl (works.later_so [])
        (more.1 ∙ sym (append_assoc (cut a.bytes).whole (l ∷ []) more.0))
        (each_line a l line takes.1 (works.turn []))
        (prompt_more input left (cut a.bytes).whole (l ∷ []) prompt)
        (front_on a l line takes.1 w2 (λ k. works.front [] k refl)) only_now

    -- work on it stopped
    line_stopped : (why : Stop)
        (works : WorksLine d kinds wires k_tells (n + 1) line engine d1 d2 n1 n2 w1 w2
        (Err (Work why)))
        (a : Along s0 (standing_of kinds (works.heard ++ []) engine) d k_tells wires d0 d1 n0 n1
        first engine w0 w1 input rest n r)
        (step : Next) (rest' left : List ℕ) → (step ≡ End → ⊥) → TakesKept step line rest rest'
        → IsReadPromptly input left (cut a.bytes).whole → (k_tells → w2 ≡ w1)
        → (d.tells → CountsNow d d2)
        → Plays line_effect HoldsOfTurn k_tells w0 w2 input left s0 (Err (Work why))
        (HearsAll wires s0 n0 n2 (Err (Work why)))
        (KeepsFrom in_groups s0 d d0 d2 first (Err (Work why)))
    line_stopped why works a step rest' left some takes prompt unsaid counts_now =
        let l = takes.0 in
        let s1 = standing_of kinds (works.heard ++ []) engine in
        let more = whole_with a l line takes.1 step rest' some takes.2 in
        let is : works.heard ≡ s1.heard =
        sym (append-nil works.heard) ∙ sym (heard_in kinds (works.heard ++ []) engine) in
        record {
          done = (cut a.bytes).whole;
          rest = l ∷ more.0;
          whole = more.1;
          each = a.each;
          reads = prompt;
          writes = λ k. unsaid k ∙ a.told k;
          shown = hears_stopped a.has (n + 1) (count a l line takes.1) l more.0 why
              (λ other. subst (λ (hs : List Heard). IsShownAt wires l s1 n1 n2 hs ⊥) is
              (shown_line a l line takes.1 n2 works.heard ⊥
              (then_shown wires line n1 n2 works.heard (λ none. absurd none) s1
              (works.shown [] (λ same. other (same_stop why same))))))
              (λ other. unharmed_line a l line takes.1
              (works.unharmed [] (λ same. other (same_stop why same))));
          kept = stopped_keeps a.has (n + 1) (count a l line takes.1) l more.0 why (HasAll d d2)
              (λ t before at. subst (λ (e : Effect Standing).
              IsCrashSafe d d1 d2 before e.bodies (limit_of engine) (HasAll d d2) (Err why))
              (as_kept a l line takes.1) (works.safe [] t before at))
              counts_now;
        }

    pub line_failed : (why : EarlyEnd)
        (works : WorksLine d kinds wires k_tells (n + 1) line engine d1 d2 n1 n2 w1 w2 (Err why))
        (a : Along s0 (standing_of kinds (works.heard ++ []) engine) d k_tells wires d0 d1 n0 n1
        first engine w0 w1 input rest n r)
        (step : Next) (rest' left : List ℕ) → (step ≡ End → ⊥) → TakesKept step line rest rest'
        → IsReadPromptly input left (cut a.bytes).whole
        → ((f : ReadFault) → IsErrOf {T = Engine × Bool} (Err why) (Read f) → ⊥)
        → (k_tells → (st : Stop) → IsErrOf {T = Engine × Bool} (Err why) (Work st) → w2 ≡ w1)
        → (d.tells → OnlyNow d d2) → (d.tells → CountsNow d d2)
        → Plays line_effect HoldsOfTurn k_tells w0 w2 input left s0 (Err why)
        (HearsAll wires s0 n0 n2 (Err why)) (KeepsFrom in_groups s0 d d0 d2 first (Err why))
    line_failed (Read f) works a step rest' left some takes prompt unread unsaid only counts =
        absurd (unread f refl)
    line_failed (Work why) works a step rest' left some takes prompt unread unsaid only counts =
        line_stopped why works a step rest' left some takes prompt (λ k. unsaid k why refl) counts
    line_failed Sink works a step rest' left some takes prompt unread unsaid only counts =
        line_sunk works a step rest' left some takes prompt only

    -- the last line was played
    pub last_played : (p : Engine × Bool)
        (works : WorksLine d kinds wires k_tells (n + 1) line engine d1 d2 n1 n2 w1 w2 (Ok p))
        (a : Along s0 (standing_of kinds (works.heard ++ []) engine) d k_tells wires d0 d1 n0 n1
        first engine w0 w1 input rest n r)
        (rest' left : List ℕ) → TakesKept Last line rest rest' → limit_of p.0 ≡ limit_of engine
        → (d.tells → OnlyNow d d2)
        → Plays line_effect HoldsOfTurn k_tells w0 w2 input left s0 (Ok (r || p.1))
        (HearsAll wires s0 n0 n2 (Ok (r || p.1)))
        (KeepsFrom in_groups s0 d d0 d2 first (Ok (r || p.1)))
    last_played p works a rest' left takes limit only_now =
        let l = takes.0 in
        let done = (cut a.bytes).whole in
        let s1 = standing_of kinds (works.heard ++ []) engine in
        ends (has_line (Ok p) works [] a l takes.1 (Some p.0) (line_effect (n + 1) line s1).next
        refl (no_error p (Work Memory)) limit refl only_now)
        [] k_tells w0 w2 input left (Ok (r || p.1)) refl (works.later_so [])
        (to_come a
        ∙ ap (λ (v : List (List ℕ)). done ++ v)
        (ap lines takes.2.0 ∙ lines_last l takes.2.1 takes.2.2)
        ∙ sym (append-nil (done ++ l ∷ [])))
        (each_line a l line takes.1 (works.turn [])) (
          refl,
          refused_on a l line takes.1 p.1 (works.refused [])
              ∙ refused_more line_effect done l n r s0 _ a.so.number a.so.refusals a.so.state,
        )
        (told_on a l line takes.1 w2 (works.told [])) only_now

    -- a line was played, and more are to come
    pub line_played : (p : Engine × Bool)
        (works : WorksLine d kinds wires k_tells (n + 1) line engine d1 d2 n1 n2 w1 w2 (Ok p))
        (later : List Heard)
        (a : Along s0 (standing_of kinds (works.heard ++ later) engine) d k_tells wires d0 d1 n0 n1
        first engine w0 w1 input rest n r)
        (rest' : List ℕ) → TakesKept Line line rest rest' → limit_of p.0 ≡ limit_of engine
        → (d.tells → OnlyNow d d2)
        → Along s0 (standing_of kinds later p.0) d k_tells wires d0 d2 n0 n2 first p.0 w0 w2 input
        rest' (n + 1) (r || p.1)
    line_played p works later a rest' takes limit only_now =
        let l = takes.0 in
        let s2 = standing_of kinds later p.0 in
        let same = as_kept a l line takes.1 in
        let more = line_more line_effect a.bytes input rest rest' l n r s0 _ a.so
        takes.2.0 takes.2.1 in
        let ls_more = sym (lines_more a.bytes l a.so.whole takes.2.1) in
        let played = a.bytes ++ (l ++ 10 ∷ []) in
        record {
          bytes = played;
          so = subst (λ (s : Standing).
              SoFar line_effect played input rest' (n + 1) (r || p.1) s0 s)
              (sym (works.next later ∙ ap (λ (e : Effect Standing). e.next) same))
              (subst (λ (b : Bool). SoFar line_effect played input rest' (n + 1) b s0
              (line_effect (n + 1) l (standing_of kinds (works.heard ++ later) engine)).next)
              (sym (refused_on a l line takes.1 p.1 (works.refused later))) more);
          told = λ t. subst (λ (v : List (List ℕ)). w2 ≡ w0 ++ replies line_effect 1 v s0) ls_more
              (told_on a l line takes.1 w2 (works.told later) t);
          each = subst (λ (v : List (List ℕ)). EachLine line_effect HoldsOfTurn 1 v s0) ls_more
              (each_line a l line takes.1 (works.turn later));
          has = subst (λ (v : List (List ℕ)).
              HasDone in_groups d wires s0 s2 d0 d2 n0 n2 first (Some p.0) v) ls_more
              (has_line (Ok p) works later a l takes.1 (Some p.0) s2 refl
              (no_error p (Work Memory)) limit (works.next later) only_now);
        }
