-- How the play of a script goes on by lines that are played together, and how it ends in them.
use Rattle.rx_serve.specs.Lines.{Cut, cut}
use Rattle.std.proofs.Common.{◌≡◌, ◌∙◌, refl, sym, ap, subst, ℕ, ◌+◌, Bool, ◌||◌, List, [], ◌++◌, length, Option, None, Some, Result, Ok, Err, IsErrOf, arith, append_assoc, length-append}
use Rattle.std.specs.Prelude.{IfSome}
use Rattle.rx_disk.specs.declared.disk.Disk.{Ghosts}
use Rattle.rx_engine.specs.Dialled.{DialStanding}
use Rattle.rx_engine.specs.Engine.{IsAt, limit_of, standing_of}
use Rattle.rx_engine.specs.Standing.{Standing}
use Rattle.rx_engine.specs.declared.engine.Engine.{Engine}
use Rattle.rx_handler.specs.Handlers.{Kinds}
use Rattle.rx_outside.specs.Sink.{WritesFront}
use Rattle.rx_outside.specs.declared.stop.Stop.{Stop}
use Rattle.rx_outside.specs.declared.stop.Stop.TheVariants.{Disk, NotJournal, Full, Memory}
use Rattle.rx_store.specs.Holds.{GrowsLegally}
use Rattle.rx_store.specs.Safe.{IsCrashSafe}
use Rattle.rx_store.proofs.Growing.{grows_longer}
use Rattle.rx_sync.specs.Remote.{Heard}
use Rattle.rx_top.specs.Chunks.{all_of, in_groups}
use Rattle.rx_top.specs.Group.{CallsNobody, TakesLines, WorksGroup}
use Rattle.rx_top.specs.Hears.{HearsAll}
use Rattle.rx_top.specs.Lines.{lines}
use Rattle.rx_top.specs.Reader.{Reading}
use Rattle.rx_top.specs.Run.{IsReadPromptly, KeepsFrom, Plays, due_then}
use Rattle.rx_top.specs.Script.{line_effect}
use Rattle.rx_top.specs.Story.{EachLine, any_refused, chunks, replies, state_after}
use Rattle.rx_top.specs.Turns.{HoldsOfTurn}
use Rattle.rx_top.specs.Work.{HasAll}
use Rattle.rx_top.specs.declared.early_end.EarlyEnd.{EarlyEnd}
use Rattle.rx_top.specs.declared.early_end.EarlyEnd.TheVariants.{Read, Sink, Work}
use Rattle.rx_top.specs.declared.early_end.ReadFault.{ReadFault}
use Rattle.rx_top.specs.declared.group.Played.{Played}
use Rattle.rx_top.specs.declared.reader.Next.{Next}
use Rattle.rx_top.proofs.Chunks.{CountsNow, OnlyNow, all_of-append, grouped-push, keeps_stopped}
use Rattle.rx_top.proofs.Done.{HasDone, done_more, heard_all, images_at}
use Rattle.rx_top.proofs.Exits.{Along, ends}
use Rattle.rx_top.proofs.Hears.{heard_in, heard_kept, hears_nobody}
use Rattle.rx_top.proofs.Promptly.{prompt_more}
use Rattle.rx_top.proofs.Story.{chunks-append, cut-append, each-append, joined, lines_on, refused-append, replies-append, rest_lines}

module _
    {s0 s1 : Standing} {D : Type 0} {d : Ghosts D} {k_tells wires : Type 0} {d0 d1 : D}
    {n0 n1 : DialStanding} {first engine : Engine} {w0 w1 input rest : List ℕ} {n : ℕ} {r : Bool}
    (a : Along s0 s1 d k_tells wires d0 d1 n0 n1 first engine w0 w1 input rest n r)
    {gs : List (List ℕ)} {mid : List ℕ} (takes : TakesLines rest gs mid)
    (turns : EachLine line_effect HoldsOfTurn (n + 1) gs s1)
    (here : EachLine line_effect CallsNobody (n + 1) gs s1)
  where
    -- the lines so far, and with the group
    abbrev ls : List (List ℕ)
    ls = (cut a.bytes).whole

    abbrev all : List (List ℕ)
    all = ls ++ gs

    abbrev bytes : List ℕ
    bytes = a.bytes ++ takes.bytes

    -- the chunks of the group
    abbrev more : List (List (List ℕ))
    more = chunks line_effect (n + 1) gs s1

    -- ---- both together

    cut_all : cut bytes ≡ joined (cut a.bytes) (cut takes.bytes)
    cut_all = cut-append a.bytes takes.bytes a.so.whole

    ls_all : (cut bytes).whole ≡ all
    ls_all = ap (λ (x : Cut). x.whole) cut_all
        ∙ ap (λ (v : List (List ℕ)). ls ++ v) takes.are

    count : n + 1 ≡ 1 + length ls
    count = omega (arith, a.so.number)

    to_come : lines input ≡ all ++ lines mid
    to_come =
        rest_lines line_effect a.bytes input rest n r s0 s1 a.so
        ∙ ap (λ (v : List (List ℕ)). ls ++ v) behind
        ∙ sym (append_assoc ls gs (lines mid))
      where
        behind : lines rest ≡ gs ++ lines mid
        behind = lines_on takes.bytes mid rest takes.split takes.whole
            ∙ ap (λ (v : List (List ℕ)). v ++ lines mid) takes.are

    told_all : replies line_effect 1 all s0
        ≡ replies line_effect 1 ls s0 ++ replies line_effect (n + 1) gs s1
    told_all =
        let e : 1 + length ls ≡ n + 1 = omega (arith, count) in
        let had = replies line_effect 1 ls s0 in
        replies-append line_effect 1 ls gs s0
        ∙ ap (λ (k : ℕ). had ++ replies line_effect k gs (state_after line_effect 1 ls s0)) e
        ∙ ap (λ (x : Standing). had ++ replies line_effect (n + 1) gs x) (sym a.so.state)

    each_all : EachLine line_effect HoldsOfTurn 1 all s0
    each_all =
        each-append line_effect HoldsOfTurn 1 ls gs s0 (n + 1) count a.each
        (subst (λ (x : Standing). EachLine line_effect HoldsOfTurn (n + 1) gs x) a.so.state turns)

    refused_all : (r || any_refused line_effect (n + 1) gs s1) ≡ any_refused line_effect 1 all s0
    refused_all =
        ap (λ v. v || any_refused line_effect (n + 1) gs s1) a.so.refusals
        ∙ ap (λ (x : Standing).
        any_refused line_effect 1 ls s0 || any_refused line_effect (n + 1) gs x) a.so.state
        ∙ sym (refused-append line_effect 1 ls gs s0 (n + 1) count)

    -- what the work on the group does to a disk that has the bodies before it
    abbrev IsGroupSafe : D → Result (Option Engine) Stop → Type 0
    IsGroupSafe d2 worked =
        d.tells → (before : List (List ℕ)) → IsAt d d1 engine before
        → IsCrashSafe d d1 d2 before (all_of more) (limit_of engine) (HasAll d d2) worked

    has_all : {d2 : D} (x : Option Engine) (s2 : Standing)
        → IfSome x (λ e. limit_of e ≡ limit_of engine)
        → s2 ≡ state_after line_effect (n + 1) gs s1 → IsGroupSafe d2 (Ok x)
        → (d.tells → OnlyNow d d2)
        → HasDone in_groups d wires s0 s2 d0 d2 n0 n1 first x all
    has_all x s2 limit after safe only_now =
        done_more a.has (n + 1) count n1 gs limit after (hears_nobody wires (n + 1) gs s1 n1 here)
        (λ groups is. grouped-push (chunks line_effect 1 ls s0) groups more is) safe only_now

    -- ---- the run goes on

    pub group_played : {d2 : D} {w2 : List ℕ} (p : Played) (s2 : Standing)
        → limit_of p.engine ≡ limit_of engine → s2 ≡ state_after line_effect (n + 1) gs s1
        → p.number ≡ n + length gs → p.refused ≡ any_refused line_effect (n + 1) gs s1
        → (k_tells → w2 ≡ w1 ++ replies line_effect (n + 1) gs s1)
        → IsGroupSafe d2 (Ok (Some p.engine)) → (d.tells → OnlyNow d d2)
        → Along s0 s2 d k_tells wires d0 d2 n0 n1 first p.engine w0 w2 input mid p.number
        (r || p.refused)
    group_played {d2} p s2 limit after number is had safe only_now =
        let has = has_all (Some p.engine) s2 limit after safe only_now in
        record {
          bytes = bytes;
          so = record {
            whole = ap (λ (x : Cut). x.rest) cut_all ∙ takes.whole;
            split = a.so.split ∙ ap (λ v. a.bytes ++ v) takes.split
                ∙ sym (append_assoc a.bytes takes.bytes mid);
            number = omega (arith, a.so.number, number, ap length ls_all, length-append ls gs);
            refusals = ap (λ v. r || v) is ∙ refused_all
                ∙ ap (λ (v : List (List ℕ)). any_refused line_effect 1 v s0) (sym ls_all);
            state = has.state
                ∙ ap (λ (v : List (List ℕ)). state_after line_effect 1 v s0) (sym ls_all);
          };
          told = λ t.
              let new = replies line_effect (n + 1) gs s1 in
              had t ∙ ap (λ v. v ++ new) (a.told t)
              ∙ append_assoc w0 (replies line_effect 1 ls s0) new
              ∙ ap (λ v. w0 ++ v) (sym told_all)
              ∙ ap (λ (v : List (List ℕ)). w0 ++ replies line_effect 1 v s0) (sym ls_all);
          each = subst (λ (v : List (List ℕ)). EachLine line_effect HoldsOfTurn 1 v s0)
              (sym ls_all) each_all;
          has = subst (λ (v : List (List ℕ)).
              HasDone in_groups d wires s0 s2 d0 d2 n0 n1 first (Some p.engine) v) (sym ls_all) has;
        }

    -- ---- or it ends, where nothing is to be heard any more

    -- how the play ends, and what the disk keeps then
    abbrev GroupEnds : D → List ℕ → List ℕ → Result Bool EarlyEnd → Type 0
    GroupEnds d2 w2 left ended =
        Plays line_effect HoldsOfTurn k_tells w0 w2 input left s0 ended
        (HearsAll wires s0 n0 n1 ended) (KeepsFrom in_groups s0 d d0 d2 first ended)

    -- the sink failed: all lines of the group are on the disk
    pub group_sunk : {d2 : D} {w2 : List ℕ} (left : List ℕ) → IsReadPromptly input left ls
        → (state_after line_effect (n + 1) gs s1).heard ≡ []
        → (k_tells → WritesFront w1 w2 (replies line_effect (n + 1) gs s1))
        → IsGroupSafe d2 (Ok None) → (d.tells → OnlyNow d d2) → GroupEnds d2 w2 left (Err Sink)
    group_sunk {w2 = w2} left prompt none front safe only_now =
        ends (has_all None (state_after line_effect (n + 1) gs s1) tt refl safe only_now)
        (lines mid) k_tells w0 w2 input left (Err Sink) refl none to_come each_all
        (prompt_more input left ls gs prompt)
        (λ t.
        let f = front t in
        let had = replies line_effect 1 ls s0 in (
          had ++ f.0,
          f.1,
          told_all ∙ ap (λ v. had ++ v) f.2 ∙ sym (append_assoc had f.0 f.1),
          f.3 ∙ ap (λ v. v ++ f.0) (a.told t) ∙ append_assoc w0 had f.0,
        ))
        only_now

    -- work stopped, and no line of it is done
    pub group_stopped : {d2 : D} {w2 : List ℕ} (left : List ℕ) (why : Stop)
        → IsReadPromptly input left ls
        → ((would most : ℕ) → why ≡ Full would most → ⊥) → s1.heard ≡ []
        → (k_tells → w2 ≡ w1) → IsGroupSafe d2 (Err why) → (d.tells → CountsNow d d2)
        → GroupEnds d2 w2 left (Err (Work why))
    group_stopped {d2} left why prompt fits none unsaid safe counts_now = record {
      done = ls;
      rest = gs ++ lines mid;
      whole = to_come ∙ append_assoc ls gs (lines mid);
      each = a.each;
      reads = prompt;
      writes = λ k. unsaid k ∙ a.told k;
      shown = heard_all a.has (Err (Work why)) (gs ++ lines mid) none;
      kept = λ t bodies at le.
          let cs = chunks line_effect 1 ls s0 in
          let before = bodies ++ all_of cs in
          let at_now : IsAt d d1 engine before = a.has.at t bodies at in
          let stopped = safe t before at_now in
          keeps_stopped in_groups d d0 d1 d2 bodies cs _ (limit_of first) why
          (a.has.kept t bodies at le)
          (due why fits before (stopped.moments (images_at d d1 engine before at_now)))
          (counts_now t) (λ would most is. absurd (fits would most is));
    }
      where
        left_chunks : all_of (chunks line_effect (length ls + 1) (gs ++ lines mid)
            (state_after line_effect 1 ls s0))
            ≡ all_of more ++ all_of (chunks line_effect ((n + 1) + length gs) (lines mid)
            (state_after line_effect (n + 1) gs s1))
        left_chunks =
            let e : length ls + 1 ≡ n + 1 = omega (arith, count) in
            ap (λ (k : ℕ). all_of (chunks line_effect k (gs ++ lines mid)
            (state_after line_effect 1 ls s0))) e
            ∙ ap (λ (x : Standing). all_of (chunks line_effect (n + 1) (gs ++ lines mid) x))
            (sym a.so.state)
            ∙ ap all_of (chunks-append line_effect (n + 1) gs (lines mid) s1
            ((n + 1) + length gs) refl)
            ∙ all_of-append more _

        grown : (before : List (List ℕ)) → GrowsLegally d d1 d2 before (all_of more)
            → GrowsLegally d d1 d2 before
            (all_of (chunks line_effect (length ls + 1) (gs ++ lines mid)
            (state_after line_effect 1 ls s0)))
        grown before grows =
            subst (λ (bs : List (List ℕ)). GrowsLegally d d1 d2 before bs) (sym left_chunks)
            (grows_longer d d1 d2 before (all_of more) _ grows)

        due : (stop : Stop) → ((would most : ℕ) → stop ≡ Full would most → ⊥)
            → (before : List (List ℕ)) → GrowsLegally d d1 d2 before (all_of more)
            → GrowsLegally d d1 d2 before
            (due_then in_groups (Some stop) (length ls + 1) (gs ++ lines mid)
            (state_after line_effect 1 ls s0))
        due (Full would most) fits before grows = absurd (fits would most refl)
        due Disk fits before grows = grown before grows
        due NotJournal fits before grows = grown before grows
        due Memory fits before grows = grown before grows

-- ---- as the play of a group tells it

module _
    {s0 : Standing} {D : Type 0} {d : Ghosts D} {k_tells wires : Type 0} {d0 d1 d2 : D}
    {n0 n1 : DialStanding} {first engine : Engine} {w0 w1 w2 input rest : List ℕ} {n : ℕ}
    {r : Bool} {kinds : Kinds} {next : Next} {left : List ℕ} {reader : Reading}
    (heard : List Heard)
    (a : Along s0 (standing_of kinds heard engine) d k_tells wires d0 d1 n0 n1 first engine w0 w1
    input rest n r)
  where
    -- it was played, and the run goes on
    pub after_group : {p : Played}
        (works : WorksGroup d kinds k_tells next n rest left reader engine d1 d2 w1 w2 (Ok p))
        → limit_of p.engine ≡ limit_of engine → (d.tells → OnlyNow d d2)
        → Along s0 (standing_of kinds heard p.engine) d k_tells wires d0 d2 n0 n1 first p.engine w0
        w2 input works.mid p.number (r || p.refused)
    after_group {p} works limit only_now =
        group_played a works.takes (works.turns heard) (works.here heard) p
        (standing_of kinds heard p.engine) limit (works.next_so heard) works.number
        (works.refused heard) (works.told heard) (works.safe heard) only_now

    -- it ended there, where nothing is to be heard any more
    pub group_ended : (why : EarlyEnd)
        (works : WorksGroup d kinds k_tells next n rest left reader engine d1 d2 w1 w2 (Err why))
        → IsReadPromptly input left (cut a.bytes).whole → heard ≡ []
        → ((f : ReadFault) → IsErrOf {T = Played} (Err why) (Read f) → ⊥)
        → ((would most : ℕ) → IsErrOf {T = Played} (Err why) (Work (Full would most)) → ⊥)
        → (d.tells → OnlyNow d d2) → (d.tells → CountsNow d d2)
        → Plays line_effect HoldsOfTurn k_tells w0 w2 input left s0 (Err why)
        (HearsAll wires s0 n0 n1 (Err why)) (KeepsFrom in_groups s0 d d0 d2 first (Err why))
    group_ended (Read f) works prompt none unread fits only counts = absurd (unread f refl)
    group_ended (Work stop) works prompt none unread fits only counts =
        group_stopped a works.takes (works.turns heard) (works.here heard) left stop prompt
        (λ would most is. fits would most (ap (λ (x : Stop). Err (Work x)) is))
        (heard_in kinds heard engine ∙ none) (λ k. works.unsaid k stop refl) (works.safe heard)
        counts
    group_ended Sink works prompt none unread fits only counts =
        group_sunk a works.takes (works.turns heard) (works.here heard) left prompt
        (heard_kept (n + 1) works.lines (standing_of kinds heard engine) (works.here heard)
        ∙ heard_in kinds heard engine ∙ none)
        (λ k. works.front heard k refl) (works.safe heard) only
