-- Where a play stands: lines that were done from an engine on, whatever gave them and however they
-- were committed.
use Rattle.std.proofs.Common.{◌≡◌, ◌≢◌, ◌∙◌, refl, sym, ap, subst, ℕ, ◌+◌, ◌≤◌, List, [], ◌∷◌, ◌++◌, length, ◌⊎◌, inl, inr, Bool, false, Option, None, Some, Result, Ok, Err, arith, append_assoc, append-nil}
use Rattle.std.specs.Prelude.{IfSome}
use Rattle.rx_disk.specs.declared.disk.Disk.{Ghosts}
use Rattle.rx_engine.specs.Dialled.{DialStanding}
use Rattle.rx_engine.specs.Engine.{IsAt, IsUnharmedBy, limit_of, session_of}
use Rattle.rx_engine.specs.Standing.{Standing}
use Rattle.rx_engine.specs.declared.engine.Engine.{Engine}
use Rattle.rx_frame.specs.File.{end_of}
use Rattle.rx_outside.specs.declared.stop.Stop.{Stop}
use Rattle.rx_outside.specs.declared.stop.Stop.TheVariants.{Memory}
use Rattle.rx_store.specs.Holds.{GrowsLegally, ImagesStandFor, Leaves}
use Rattle.rx_store.specs.Safe.{IsCrashSafe, IsFull}
use Rattle.rx_store.proofs.Growing.{held, held_alike}
use Rattle.rx_sync.specs.Remote.{Heard}
use Rattle.rx_top.specs.Chunks.{AreCommitted, Grouping, Keeps, all_of}
use Rattle.rx_top.specs.Hears.{HearsAll, HearsLines, IsShownAt}
use Rattle.rx_top.specs.Lines.{is_blank}
use Rattle.rx_top.specs.Run.{KeepsFrom, due_then, stop_of}
use Rattle.rx_top.specs.Script.{line_effect}
use Rattle.rx_top.specs.Story.{Effect, chunks, state_after}
use Rattle.rx_top.specs.Work.{HasAll}
use Rattle.rx_top.specs.declared.early_end.EarlyEnd.{EarlyEnd}
use Rattle.rx_top.specs.declared.early_end.EarlyEnd.TheVariants.{Work}
use Rattle.rx_top.proofs.Chunks.{CountsNow, Kept, OnlyNow, all_of-append, committed-push, keeps_all, keeps_stopped, kept_none, kept_on}
use Rattle.rx_top.proofs.Due.{due_full, due_grows}
use Rattle.rx_top.proofs.Hears.{hears-append, nothing_last}
use Rattle.rx_top.proofs.Story.{chunks-append, state_after-append}

-- ---- a disk at rest

pub leaves_at : {D : Type 0} (d : Ghosts D) (disk : D) (e : Engine) (bodies more : List (List ℕ))
    → IsAt d disk e bodies → Leaves d disk bodies more
leaves_at d disk e bodies more at = held d disk e.journal bodies more (session_of e).world at

pub images_at : {D : Type 0} (d : Ghosts D) (disk : D) (e : Engine) (bodies : List (List ℕ))
    → IsAt d disk e bodies → ImagesStandFor d disk bodies
images_at d disk e bodies at = held_alike d disk e.journal bodies (session_of e).world at

leaves_all : {D : Type 0} (d : Ghosts D) (disk : D) (x : Option Engine) (bodies : List (List ℕ))
    → HasAll d disk x bodies → Leaves d disk bodies []
leaves_all d disk None bodies all = all
leaves_all d disk (Some e) bodies all = leaves_at d disk e bodies [] all

-- what was added ends within the limit, as what was there
fits_all : (bodies more : List (List ℕ)) (limit : ℕ)
    → (more ≡ []) ⊎ (end_of (bodies ++ more) ≤ limit)
    → end_of bodies ≤ limit → end_of (bodies ++ more) ≤ limit
fits_all bodies more limit (inl none) le =
    subst (λ (bs : List (List ℕ)). end_of bs ≤ limit)
    (sym (ap (λ (bs : List (List ℕ)). bodies ++ bs) none ∙ append-nil bodies)) le
fits_all bodies more limit (inr le) before = le

-- ---- lines that are done

-- Lines were done, and there is the engine after them unless the sink failed at the last.
pub record HasDone
    {D : Type 0}
    (by : Grouping)
    (d : Ghosts D)
    (wires : Type 0)
    (s0 s1 : Standing)
    (d0 d1 : D)
    (n0 n1 : DialStanding)
    (first : Engine)
    (engine : Option Engine)
    (done : List (List ℕ)) : Type 0 where
  pub limit : IfSome engine (λ e. limit_of e ≡ limit_of first)
  pub state : s1 ≡ state_after line_effect 1 done s0
  pub hears : HearsLines wires 1 done s0 n0 n1
  pub at : d.tells → (bodies : List (List ℕ)) → IsAt d d0 first bodies
      → HasAll d d1 engine (bodies ++ all_of (chunks line_effect 1 done s0))
  pub kept : d.tells → (bodies : List (List ℕ)) → IsAt d d0 first bodies
      → end_of bodies ≤ limit_of first
      → Kept by d d0 d1 bodies (chunks line_effect 1 done s0) (limit_of first)

pub none_done : (by : Grouping) {D : Type 0} (d : Ghosts D) (wires : Type 0) (s : Standing)
    (disk : D) (dial : DialStanding) (first : Engine) → (d.tells → OnlyNow d disk)
    → HasDone by d wires s s disk disk dial dial first (Some first) []
none_done by d wires s disk dial first only_now = record {
  limit = refl;
  state = refl;
  hears = refl;
  at = λ t bodies at. subst (λ (bs : List (List ℕ)). IsAt d disk first bs) (sym (append-nil bodies))
      at;
  kept = λ t bodies at le. kept_none by d disk bodies (limit_of first) (only_now t)
      (leaves_at d disk first bodies [] at) le;
}

limit_on : (x : Option Engine) (most least : ℕ) → IfSome x (λ e. limit_of e ≡ most) → most ≡ least
    → IfSome x (λ e. limit_of e ≡ least)
limit_on None most least so same = tt
limit_on (Some e) most least so same = so ∙ same

-- ---- an end behind them

module _
    {D : Type 0} {by : Grouping} {d : Ghosts D} {wires : Type 0} {s0 s1 : Standing} {d0 d1 : D}
    {n0 n1 : DialStanding} {first : Engine} {x : Option Engine} {done : List (List ℕ)}
    (a : HasDone by d wires s0 s1 d0 d1 n0 n1 first x done)
  where
    -- where nothing is to be heard any more
    pub heard_all : (ended : Result Bool EarlyEnd) (rest : List (List ℕ)) → s1.heard ≡ []
        → HearsAll wires s0 n0 n1 ended done rest
    heard_all ended rest none = record {
      between = n1;
      lines = a.hears;
      last = nothing_last wires ended rest (state_after line_effect 1 done s0) n1 n1
          (ap (λ (s : Standing). s.heard) (sym a.state) ∙ none, refl);
    }

    -- where no work stopped
    pub all_kept : (ended : Result Bool EarlyEnd) (rest : List (List ℕ)) → stop_of ended ≡ None
        → (d.tells → OnlyNow d d1) → KeepsFrom by s0 d d0 d1 first ended done rest
    all_kept ended rest none only_now t bodies at le =
        let cs = chunks line_effect 1 done s0 in
        let next = due_then by (stop_of ended) (length done + 1) rest
        (state_after line_effect 1 done s0) in
        subst (λ (stop : Option Stop). Keeps by d d0 d1 bodies cs next (limit_of first) stop)
        (sym none)
        (keeps_all by d d0 d1 bodies cs next (limit_of first) (a.kept t bodies at le)
        (only_now t))

-- ---- what was done behind them

module _
    {D : Type 0} {by : Grouping} {d : Ghosts D} {wires : Type 0} {s0 s1 : Standing} {d0 d1 : D}
    {n0 n1 : DialStanding} {first engine : Engine} {done : List (List ℕ)}
    (a : HasDone by d wires s0 s1 d0 d1 n0 n1 first (Some engine) done)
    (k : ℕ) (count : k ≡ 1 + length done)
  where
    abbrev cs : List (List (List ℕ))
    cs = chunks line_effect 1 done s0

    -- the disk has their bodies, within the limit
    fits : (t : d.tells) (bodies : List (List ℕ)) → IsAt d d0 first bodies
        → end_of bodies ≤ limit_of first → end_of (bodies ++ all_of cs) ≤ limit_of engine
    fits t bodies at le =
        subst (λ (m : ℕ). end_of (bodies ++ all_of cs) ≤ m) (sym a.limit)
        (a.kept t bodies at le).fits

    -- lines more were done
    module _
        {d2 : D} (n2 : DialStanding) {s2 : Standing} {x : Option Engine} (gs : List (List ℕ))
        (limit : IfSome x (λ e. limit_of e ≡ limit_of engine))
        (after : s2 ≡ state_after line_effect k gs s1) (hears : HearsLines wires k gs s1 n1 n2)
        (committed : (groups : List (List (List ℕ))) → AreCommitted by cs groups
        → AreCommitted by (cs ++ chunks line_effect k gs s1)
        (groups ++ all_of (chunks line_effect k gs s1) ∷ []))
        (safe : d.tells → (before : List (List ℕ)) → IsAt d d1 engine before
        → IsCrashSafe d d1 d2 before (all_of (chunks line_effect k gs s1)) (limit_of engine)
        (HasAll d d2) (Ok x))
        (only_now : d.tells → OnlyNow d d2)
      where
        abbrev more : List (List (List ℕ))
        more = chunks line_effect k gs s1

        chunks_all : chunks line_effect 1 (done ++ gs) s0 ≡ cs ++ more
        chunks_all =
            chunks-append line_effect 1 done gs s0 k count
            ∙ ap (λ (s : Standing). cs ++ chunks line_effect k gs s) (sym a.state)

        together : (bodies : List (List ℕ)) → (bodies ++ all_of cs) ++ all_of more
            ≡ bodies ++ all_of (chunks line_effect 1 (done ++ gs) s0)
        together bodies =
            append_assoc bodies (all_of cs) (all_of more)
            ∙ ap (λ (bs : List (List ℕ)). bodies ++ bs) (sym (all_of-append cs more))
            ∙ ap (λ (ds : List (List (List ℕ))). bodies ++ all_of ds) (sym chunks_all)

        kept_all : d.tells → (bodies : List (List ℕ)) → IsAt d d0 first bodies
            → end_of bodies ≤ limit_of first → Kept by d d0 d2 bodies (cs ++ more) (limit_of first)
        kept_all t bodies at le =
            let so_far = a.kept t bodies at le in
            let here : IsAt d d1 engine (bodies ++ all_of cs) = a.at t bodies at in
            let before = bodies ++ all_of cs in
            let now = safe t before here in
            kept_on by d d0 d1 d2 bodies cs more (limit_of first) so_far
            (committed so_far.groups so_far.committed)
            (now.moments (images_at d d1 engine before here))
            (leaves_all d d2 x (before ++ all_of more) now.at)
            (subst (λ (m : ℕ). end_of (before ++ all_of more) ≤ m) a.limit
            (fits_all before (all_of more) (limit_of engine) now.fits (fits t bodies at le)))
            (only_now t)

        pub done_more : HasDone by d wires s0 s2 d0 d2 n0 n2 first x (done ++ gs)
        done_more = record {
          limit = limit_on x (limit_of engine) (limit_of first) limit a.limit;
          state = after ∙ ap (λ (s : Standing). state_after line_effect k gs s) a.state
              ∙ sym (state_after-append line_effect 1 done gs s0 k count);
          hears = hears-append wires 1 done gs s0 k n0 n1 n2 count a.hears
              (subst (λ (s : Standing). HearsLines wires k gs s n1 n2) a.state hears);
          at = λ t bodies at.
              subst (λ (bs : List (List ℕ)). HasAll d d2 x bs) (together bodies)
              (safe t (bodies ++ all_of cs) (a.at t bodies at)).at;
          kept = λ t bodies at le.
              subst (λ (ds : List (List (List ℕ))). Kept by d d0 d2 bodies ds (limit_of first))
              (sym chunks_all) (kept_all t bodies at le);
        }

    -- ---- one line more

    module _ (l : List ℕ) where
      abbrev m : Effect Standing
      m = line_effect k l s1

      -- what its work does to a disk that has the bodies before it
      abbrev IsSafe : {A : Type 0} → D → (A → List (List ℕ) → Type 0) → Result A Stop → Type 0
      IsSafe d2 Has worked =
          d.tells → (before : List (List ℕ)) → IsAt d d1 engine before
          → IsCrashSafe d d1 d2 before m.bodies (limit_of engine) Has worked

      -- it was done
      pub done_line : {d2 : D} {n2 : DialStanding} {s2 : Standing} {x : Option Engine}
          (heard : List Heard)
          → IfSome x (λ e. limit_of e ≡ limit_of engine) → s2 ≡ m.next
          → IsShownAt wires l s1 n1 n2 heard (Unit {0}) → s1.heard ≡ heard ++ m.next.heard
          → IsSafe d2 (HasAll d d2) (Ok x) → (d.tells → OnlyNow d d2)
          → HasDone by d wires s0 s2 d0 d2 n0 n2 first x (done ++ l ∷ [])
      done_line {d2 = d2} {n2 = n2} {x = x} heard limit after shown took safe only_now =
          done_more n2 (l ∷ []) limit after (heard, n2, took, shown, refl)
          (λ groups is. committed-push by cs groups m.bodies is)
          (λ t before at. subst (λ (bs : List (List ℕ)).
          IsCrashSafe d d1 d2 before bs (limit_of engine) (HasAll d d2) (Ok x))
          (sym (append-nil m.bodies)) (safe t before at))
          only_now

      -- ---- work on it stopped

      module _ (rest : List (List ℕ)) (why : Stop) where
        -- what the dial shows; nothing is said of it where memory was wanting
        pub hears_stopped : {n2 : DialStanding} → (why ≢ Memory → IsShownAt wires l s1 n1 n2
            s1.heard ⊥)
            → (why ≢ Memory → is_blank l ≡ false → IsUnharmedBy l s1)
            → HearsAll wires s0 n0 n2 (Err (Work why)) done (l ∷ rest)
        hears_stopped {n2} shown unharmed = record {
          between = n1;
          lines = a.hears;
          last = λ other. inr (
            l,
            rest,
            refl,
            subst (λ (s : Standing). IsShownAt wires l s n1 n2 s.heard ⊥) a.state (shown other),
            subst (λ (s : Standing). is_blank l ≡ false → IsUnharmedBy l s) a.state
                (unharmed other),
          );
        }

        abbrev then : Standing
        then = state_after line_effect 1 done s0

        due : m.bodies ≡ (line_effect (length done + 1) l then).bodies
        due =
            let e : k ≡ length done + 1 = omega (arith, count) in
            ap (λ (s : Standing). (line_effect k l s).bodies) a.state
            ∙ ap (λ (i : ℕ). (line_effect i l then).bodies) e

        pub stopped_keeps : {d2 : D} {A : Type 0} (Has : A → List (List ℕ) → Type 0)
            → IsSafe d2 Has (Err why) → (d.tells → CountsNow d d2)
            → KeepsFrom by s0 d d0 d2 first (Err (Work why)) done (l ∷ rest)
        stopped_keeps {d2} Has safe counts_now t bodies at le =
            let before = bodies ++ all_of cs in
            let here : IsAt d d1 engine before = a.at t bodies at in
            let stopped = safe t before here in
            keeps_stopped by d d0 d1 d2 bodies cs _ (limit_of first) why (a.kept t bodies at le)
            (due_grows d d1 d2 before (length done + 1) l rest then by why
            (subst (λ (bs : List (List ℕ)). GrowsLegally d d1 d2 before bs) due
            (stopped.moments (images_at d d1 engine before here))))
            (counts_now t)
            (λ would most is.
            let found = stopped.full would most (ap (λ (v : Stop). Err v) is) in (
              found.0 ∙ a.limit,
              due_full d d1 d2 before (length done + 1) l rest then by why would most is
                  (subst (λ (bs : List (List ℕ)). IsFull d d2 before bs would most) due found.1),
            ))
