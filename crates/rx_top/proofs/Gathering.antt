-- Lines that are gathered before one commit, one after another.
use Rattle.rx_serve.specs.Lines.{Cut, is_within}
use Rattle.std.proofs.Common.{◌≡◌, ◌∙◌, refl, sym, ap, subst, ℕ, ◌+◌, Bool, true, false, true≢false, cond, ◌||◌, List, [], ◌∷◌, ◌++◌, length, string_bytes, Option, Some, Result, Ok, Err, IsErrOf, arith, append_assoc, append-nil, length-append}
use Rattle.std.proofs.Math.Bool.{or-false}
use Rattle.rx_disk.specs.declared.disk.Disk.{Ghosts}
use Rattle.rx_engine.specs.Ahead.{AddsTo, IsAhead, PlaysAhead}
use Rattle.rx_engine.specs.Calling.{WantedCall}
use Rattle.rx_engine.specs.Engine.{IsAt, limit_of, session_of, standing_of}
use Rattle.rx_engine.specs.Lines.{answered, calls, delivers, sweeps, task, turns}
use Rattle.rx_engine.specs.Meaning.{meaning}
use Rattle.rx_engine.specs.Streams.{WantedDelivery}
use Rattle.rx_engine.specs.Sweeping.{WantedSweep}
use Rattle.rx_engine.specs.Turning.{WantedTurn}
use Rattle.rx_engine.specs.Standing.{Standing}
use Rattle.rx_engine.specs.declared.engine.Engine.{Engine}
use Rattle.rx_engine.specs.declared.output.Output.{Output}
use Rattle.rx_handler.specs.Handlers.{Kinds}
use Rattle.rx_outside.specs.Sink.{WritesFront}
use Rattle.rx_outside.specs.declared.stop.Stop.{Stop}
use Rattle.rx_outside.specs.declared.stop.Stop.TheVariants.{Memory}
use Rattle.rx_store.specs.Safe.{IsCrashSafe}
use Rattle.rx_store.proofs.Crashes.{ran_out}
use Rattle.rx_store.proofs.Growing.{stays}
use Rattle.rx_store.proofs.Staged.{adds_none, adds_on, more_due, none_due}
use Rattle.rx_sync.specs.Remote.{Heard}
use Rattle.rx_top.specs.Chunks.{all_of}
use Rattle.rx_top.specs.Group.{AddsOne, CallsNobody, Gathers, GrowsByGroup, IsGroup, SettlesGroup, StandsBehind, StaysGroup, TakesLines, WorksGroup, does_next, group_of, settled}
use Rattle.rx_top.specs.Lines.{is_blank}
use Rattle.rx_top.specs.Reader.{Reading, TakesKept, TakesRead, kept_front}
use Rattle.rx_top.specs.Script.{effect_of, line_effect, no_effect}
use Rattle.rx_top.specs.Story.{Effect, any_refused, chunks, replies, state_after}
use Rattle.rx_top.specs.Turns.{HoldsOfTurn}
use Rattle.rx_top.specs.Work.{HasAll}
use Rattle.rx_top.specs.declared.early_end.EarlyEnd.{EarlyEnd}
use Rattle.rx_top.specs.declared.early_end.EarlyEnd.TheVariants.{Read, Sink, Work}
use Rattle.rx_top.specs.declared.early_end.ReadFault.{ReadFault}
use Rattle.rx_top.specs.declared.group.Group.{Group}
use Rattle.rx_top.specs.declared.group.Played.{Played}
use Rattle.rx_top.specs.declared.reader.Next.{Next}
use Rattle.rx_top.specs.declared.reader.Next.TheVariants.{Line}
use Rattle.rx_top.proofs.Chunks.{OnlyNow, all_of-push}
use Rattle.rx_top.proofs.Kept.{kept_effect, kept_nobody, kept_turn}
use Rattle.rx_top.proofs.Story.{chunks-push, each-push, line_cut, refused-push, replies-push, state_after-push}

-- ---- what is taken

pub takes_none : (old : List ℕ) → TakesLines old [] old
takes_none old = record { bytes = []; split = refl; whole = refl; are = refl }

pub takes_more : (old mid mid' l : List ℕ) (ls : List (List ℕ)) → TakesLines old ls mid
    → mid ≡ l ++ 10 ∷ mid' → is_within l ≡ true → TakesLines old (ls ++ l ∷ []) mid'
takes_more old mid mid' l ls takes split within =
    let c = line_cut takes.bytes l takes.whole within in
    record {
      bytes = takes.bytes ++ (l ++ 10 ∷ []);
      split = takes.split
          ∙ ap (λ v. takes.bytes ++ v) (split ∙ sym (append_assoc l (10 ∷ []) mid'))
          ∙ sym (append_assoc takes.bytes (l ++ 10 ∷ []) mid');
      whole = ap (λ (x : Cut). x.rest) c;
      are = ap (λ (x : Cut). x.whole) c ∙ ap (λ (v : List (List ℕ)). v ++ l ∷ []) takes.are;
    }

-- a line that was read was taken
pub read_taken : (old new : Reading) (mid left : List ℕ) → mid ≡ old.unread ++ left
    → TakesRead old new → TakesKept Line new.line mid (new.unread ++ left)
read_taken old new mid left is takes = (
  takes.0,
  takes.3,
  (is ∙ ap (λ v. v ++ left) takes.1 ∙ append_assoc takes.0 (10 ∷ new.unread) left, takes.2),
)

-- ---- what is gathered

module _ (kinds : Kinds) (n : ℕ) (e : Engine) where
  pub group_none : (g : Group) → g.engine ≡ e → g.number ≡ n → g.refused ≡ false
      → string_bytes g.text ≡ [] → IsGroup kinds n [] e g
  group_none g engine number refused text = record {
    number = omega (arith, number);
    next = λ heard. ap (standing_of kinds heard) engine;
    text = λ heard. text;
    refused = λ heard. refused;
    turns = λ heard. tt;
    here = λ heard. tt;
    adds = λ heard. subst (λ (x : Engine). AddsTo e x []) (sym engine)
        (adds_none e.journal (session_of e).world);
  }

  module _ (ls : List (List ℕ)) (g then : Group) (is : IsGroup kinds n ls e g) where
    -- a line more
    module _ (line l : List ℕ) (kept : line ≡ kept_front l) (adds : AddsOne kinds line g then)
      where
        abbrev before : List Heard → Standing
        before heard = standing_of kinds heard e

        abbrev now : List Heard → Standing
        now heard = standing_of kinds heard g.engine

        abbrev at : List Heard → Standing
        at heard = state_after line_effect (n + 1) ls (before heard)

        abbrev does : List Heard → Effect Standing
        does heard = line_effect (g.number + 1) l (at heard)

        -- the line as it was kept does the same
        same_kept : (heard : List Heard)
            → does_next kinds heard line g ≡ line_effect (g.number + 1) l (now heard)
        same_kept heard =
            ap (λ (v : List ℕ). line_effect (g.number + 1) v (now heard)) kept
            ∙ kept_effect (g.number + 1) l (now heard)

        same : (heard : List Heard) → does_next kinds heard line g ≡ does heard
        same heard = same_kept heard
            ∙ ap (λ (x : Standing). line_effect (g.number + 1) l x) (is.next heard)

        count : g.number + 1 ≡ (n + 1) + length ls
        count = omega (arith, is.number)

        turn : (heard : List Heard) → HoldsOfTurn (g.number + 1) l (at heard) (does heard).next
        turn heard =
            let k = g.number + 1 in
            let s = now heard in
            let lent : HoldsOfTurn k (kept_front l) s (does_next kinds heard line g).next =
            subst (λ (v : List ℕ). HoldsOfTurn k v s (does_next kinds heard line g).next) kept
            (adds.turn heard) in
            let then : HoldsOfTurn k l s (line_effect k l s).next =
            subst (λ (x : Effect Standing). HoldsOfTurn k l s x.next) (same_kept heard)
            (kept_turn k l s (does_next kinds heard line g).next lent) in
            subst (λ (x : Standing). HoldsOfTurn k l x (line_effect k l x).next) (is.next heard)
            then

        nobody : (heard : List Heard)
            → CallsNobody (g.number + 1) l (at heard) (does heard).next
        nobody heard =
            let k = g.number + 1 in
            let s = now heard in
            let lent : CallsNobody k (kept_front l) s s =
            subst (λ (v : List ℕ). CallsNobody k v s s) kept (adds.here heard) in
            subst (λ (x : Standing). CallsNobody k l x (line_effect k l x).next) (is.next heard)
            (kept_nobody k l s s (line_effect k l s).next lent)

        pub group_more : IsGroup kinds n (ls ++ l ∷ []) e then
        group_more = record {
          number = omega (arith, is.number, adds.number, length-append ls (l ∷ []));
          next = λ heard. adds.next heard ∙ ap (λ (x : Effect Standing). x.next) (same heard)
              ∙ sym (state_after-push line_effect (n + 1) ls l (before heard) (g.number + 1) count);
          text = λ heard.
              adds.text heard
              ∙ ap (λ (v : List ℕ). v ++ (does_next kinds heard line g).reply) (is.text heard)
              ∙ ap (λ (x : Effect Standing).
              replies line_effect (n + 1) ls (before heard) ++ x.reply) (same heard)
              ∙ sym (replies-push line_effect (n + 1) ls l (before heard) (g.number + 1) count);
          refused = λ heard.
              adds.refused heard
              ∙ ap (λ v. v || (does_next kinds heard line g).refused) (is.refused heard)
              ∙ ap (λ (x : Effect Standing).
              any_refused line_effect (n + 1) ls (before heard) || x.refused) (same heard)
              ∙ sym (refused-push line_effect (n + 1) ls l (before heard) (g.number + 1) count);
          turns = λ heard.
              each-push line_effect HoldsOfTurn (n + 1) ls l (before heard) (g.number + 1) count
              (is.turns heard) (turn heard);
          here = λ heard.
              each-push line_effect CallsNobody (n + 1) ls l (before heard) (g.number + 1) count
              (is.here heard) (nobody heard);
          adds = λ heard.
              let cs = chunks line_effect (n + 1) ls (before heard) in
              subst (λ (bs : List (List ℕ)). AddsTo e then.engine bs)
              (ap (λ (x : Effect Standing). all_of cs ++ x.bodies) (same heard)
              ∙ sym (all_of-push cs (does heard).bodies)
              ∙ ap all_of
              (sym (chunks-push line_effect (n + 1) ls l (before heard) (g.number + 1) count)))
              (adds_on e.journal g.engine.journal then.engine.journal (session_of e).world
              (session_of g.engine).world (session_of then.engine).world (all_of cs)
              (does_next kinds heard line g).bodies (is.adds heard) (adds.adds heard));
        }

    -- a line that has to be played alone
    pub group_same : StaysGroup g then → IsGroup kinds n ls e then
    group_same stays = record {
      number = stays.number ∙ is.number;
      next = λ heard. stays.left.same kinds heard ∙ is.next heard;
      text = λ heard. stays.text ∙ is.text heard;
      refused = λ heard. stays.refused ∙ is.refused heard;
      turns = is.turns;
      here = is.here;
      adds = λ heard.
          let bs = all_of (chunks line_effect (n + 1) ls (standing_of kinds heard e)) in
          subst (λ (v : List (List ℕ)). AddsTo e then.engine v) (append-nil bs)
          (adds_on e.journal g.engine.journal then.engine.journal (session_of e).world
          (session_of g.engine).world (session_of then.engine).world bs [] (is.adds heard)
          stays.left.adds);
    }

-- ---- one line

module _ (kinds : Kinds) (line : List ℕ) (g : Group) where
  abbrev from : List Heard → Standing
  from heard = standing_of kinds heard g.engine

  -- a blank one
  pub blank_adds : is_blank line ≡ true → AddsOne kinds line g (record g { number = g.number + 1 })
  blank_adds blank =
      let does : (heard : List Heard) → no_effect (from heard) ≡ does_next kinds heard line g =
      λ heard. sym (ap (λ b. cond b (no_effect (from heard))
      (effect_of (meaning (g.number + 1) line (from heard)))) blank) in
      record {
        number = refl;
        next = λ heard. ap (λ (x : Effect Standing). x.next) (does heard);
        text = λ heard. sym (append-nil (string_bytes g.text))
            ∙ ap (λ (x : Effect Standing). string_bytes g.text ++ x.reply) (does heard);
        refused = λ heard. sym (or-false g.refused)
            ∙ ap (λ (x : Effect Standing). g.refused || x.refused) (does heard);
        turn = λ heard full. absurd (true≢false (sym blank ∙ full));
        here = λ heard full. absurd (true≢false (sym blank ∙ full));
        adds = λ heard. subst (λ (x : Effect Standing). AddsTo g.engine g.engine x.bodies)
            (does heard) (adds_none g.engine.journal (session_of g.engine).world);
      }

  -- one that was staged
  pub staged_adds : is_blank line ≡ false → (then : Group) (o : Output)
      → PlaysAhead kinds (g.number + 1) line g.engine then.engine o
      → then.number ≡ g.number + 1
      → string_bytes then.text ≡ string_bytes g.text ++ string_bytes o.text
      → then.refused ≡ (g.refused || o.refused) → AddsOne kinds line g then
  unfolding standing_of session_of
  staged_adds full then o plays number text refused =
      let n = g.number + 1 in
      let does : (heard : List Heard)
      → effect_of (meaning n line (from heard)) ≡ does_next kinds heard line g =
      λ heard. sym (ap (λ b. cond b (no_effect (from heard))
      (effect_of (meaning n line (from heard)))) full) in
      record {
        number = number;
        next = λ heard. (plays.answers heard).next
            ∙ ap (λ (x : Effect Standing). x.next) (does heard);
        text = λ heard. text
            ∙ ap (λ (v : List ℕ). string_bytes g.text ++ v) ((plays.answers heard).reply
            ∙ ap (λ (x : Effect Standing). x.reply) (does heard));
        refused = λ heard. refused
            ∙ ap (λ v. g.refused || v) ((plays.answers heard).refused
            ∙ ap (λ (x : Effect Standing). x.refused) (does heard));
        turn = λ heard _. record {
          meant = plays.meant heard;
          in_order = plays.in_order;
          kept = record {
            quiet = λ t is. absurd (no_turn t is);
            level = λ d is. absurd (no_delivery d is);
            swept = record {
              equal = λ root batch budget asks v is. absurd (no_sweep v is);
              in_time = λ root batch budget asks v is. absurd (no_sweep v is);
            };
          };
        };
        here = λ heard _ c is. no_call c is;
        adds = λ heard. subst (λ (x : Effect Standing). AddsTo g.engine then.engine x.bodies)
            (does heard) (plays.adds heard);
      }
    where
      no_turn : (t : WantedTurn) → task kinds line (session_of g.engine) ≡ turns t → ⊥
      no_turn t is = let both : answered plays.outcome ≡ turns t = sym plays.is ∙ is in cc

      no_delivery : (d : WantedDelivery) → task kinds line (session_of g.engine) ≡ delivers d → ⊥
      no_delivery d is = let both : answered plays.outcome ≡ delivers d = sym plays.is ∙ is in cc

      no_sweep : (v : WantedSweep) → task kinds line (session_of g.engine) ≡ sweeps v → ⊥
      no_sweep v is = let both : answered plays.outcome ≡ sweeps v = sym plays.is ∙ is in cc

      no_call : (c : WantedCall) → task kinds line (session_of g.engine) ≡ calls c → ⊥
      no_call c is = let both : answered plays.outcome ≡ calls c = sym plays.is ∙ is in cc

-- ---- all of them

module _ {D : Type 0} (d : Ghosts D) (k_tells : Type 0) (kinds : Kinds) (next : Next) (n : ℕ)
    (old left : List ℕ) (reader : Reading) (e : Engine) (d1 d2 : D) (w1 w2 : List ℕ) where
  -- memory ran out before anything was done
  pub none_works : (r : Result Played EarlyEnd) → r ≡ Err (Work Memory) → (d.tells → OnlyNow d d1)
      → d2 ≡ d1 → w2 ≡ w1
      → WorksGroup d kinds k_tells next n old left reader e d1 d2 w1 w2 r
  none_works r is only same_disk same_told =
      subst (λ (x : Result Played EarlyEnd).
      WorksGroup d kinds k_tells next n old left reader e d1 d2 w1 w2 x) (sym is)
      (subst (λ (x : D). WorksGroup d kinds k_tells next n old left reader e d1 x w1 w2
      (Err (Work Memory))) (sym same_disk) (record {
        lines = [];
        mid = old;
        takes = takes_none old;
        behind = tt;
        number = tt;
        next_so = λ heard. tt;
        refused = λ heard. tt;
        told = λ heard k. tt;
        front = λ heard k is. absurd (cc);
        unsaid = λ k s is. same_told;
        turns = λ heard. tt;
        here = λ heard. tt;
        safe = λ heard told bodies at. ran_out d d1 d1 bodies [] (limit_of e) (HasAll d d1) _ refl
            (λ alike. stays d d1 e.journal bodies [] (session_of e).world at (only told));
      }))

  module _ (g : Group) (played : Bool) (got : Gathers kinds next n old left reader e g played)
    where
      -- an engine that is at its disk has nothing to be written; the group adds its records
      abbrev bodies_with : List Heard → List (List ℕ)
      bodies_with heard = all_of (chunks line_effect (n + 1) got.lines (standing_of kinds heard e))

      pub ahead : (heard : List Heard) (bodies : List (List ℕ)) → IsAt d d1 e bodies
          → IsAhead d d1 g.engine bodies (bodies_with heard)
      ahead heard bodies at =
          more_due d d1 e.journal g.engine.journal bodies [] (bodies_with heard)
          (session_of e).world (session_of g.engine).world
          (none_due d d1 e.journal bodies (session_of e).world at) (got.group.adds heard)

      same_limit : limit_of g.engine ≡ limit_of e
      same_limit = (got.group.adds []).same_limit

      -- what was done to the disk, by how the group was settled
      safe_for : (heard : List Heard) (r : Result Engine EarlyEnd)
          → SettlesGroup d k_tells g d1 d2 w1 w2 r → d.tells → (bodies : List (List ℕ))
          → IsAt d d1 e bodies
          → IsCrashSafe d d1 d2 bodies (bodies_with heard) (limit_of e) (HasAll d d2) (settled r)
      safe_for heard r s told bodies at =
          subst (λ (k : ℕ). IsCrashSafe d d1 d2 bodies (bodies_with heard) k (HasAll d d2)
          (settled r)) same_limit
          (s.safe told bodies (bodies_with heard) (ahead heard bodies at))

      -- the lines were played
      pub group_works : (e2 : Engine) → SettlesGroup d k_tells g d1 d2 w1 w2 (Ok e2)
          → (p : Played) → p.engine ≡ e2 → p.number ≡ g.number → p.refused ≡ g.refused
          → p.whole ≡ played
          → WorksGroup d kinds k_tells next n old left reader e d1 d2 w1 w2 (Ok p)
      group_works e2 s p engine number refused whole = record {
        lines = got.lines;
        mid = got.mid;
        takes = got.takes;
        behind = subst (λ (b : Bool). StandsBehind next reader got.mid left b) (sym whole)
            got.behind;
        number = number ∙ got.group.number;
        next_so = λ heard. ap (standing_of kinds heard) engine ∙ s.same kinds heard
            ∙ got.group.next heard;
        refused = λ heard. refused ∙ got.group.refused heard;
        told = λ heard k. s.told k ∙ ap (λ v. w1 ++ v) (got.group.text heard);
        front = λ heard k is. absurd (cc);
        unsaid = λ k st is. absurd (cc);
        turns = got.group.turns;
        here = got.group.here;
        safe = λ heard told bodies at.
            subst (λ (x : Engine). IsCrashSafe d d1 d2 bodies (bodies_with heard) (limit_of e)
            (HasAll d d2) (Ok (Some x))) (sym engine) (safe_for heard (Ok e2) s told bodies at);
      }

      -- work stopped, or the sink failed
      pub group_failed : (why : EarlyEnd) → SettlesGroup d k_tells g d1 d2 w1 w2 (Err why)
          → ((f : ReadFault) → IsErrOf {T = Engine} (Err why) (Read f) → ⊥)
          → WorksGroup d kinds k_tells next n old left reader e d1 d2 w1 w2 (Err why)
      group_failed (Read f) s unread = absurd (unread f refl)
      group_failed (Work why) s unread = record {
        lines = got.lines;
        mid = got.mid;
        takes = got.takes;
        behind = tt;
        number = tt;
        next_so = λ heard. tt;
        refused = λ heard. tt;
        told = λ heard k. tt;
        front = λ heard k is. absurd (cc);
        unsaid = λ k st is. s.unsaid k why refl;
        turns = got.group.turns;
        here = got.group.here;
        safe = λ heard told bodies at. safe_for heard (Err (Work why)) s told bodies at;
      }
      group_failed Sink s unread = record {
        lines = got.lines;
        mid = got.mid;
        takes = got.takes;
        behind = tt;
        number = tt;
        next_so = λ heard. tt;
        refused = λ heard. tt;
        told = λ heard k. tt;
        front = λ heard k is. subst (λ (v : List ℕ). WritesFront w1 w2 v)
            (got.group.text heard) (s.front k refl);
        unsaid = λ k st is. absurd (cc);
        turns = got.group.turns;
        here = got.group.here;
        safe = λ heard told bodies at. safe_for heard (Err Sink) s told bodies at;
      }

-- ---- while they are gathered

module _ (kinds : Kinds) (n : ℕ) (old left : List ℕ) (e : Engine) where
  -- some lines of what was to come are a group, and a reader has the next one
  abbrev pub IsGathering : Reading → Group → Type 0
  IsGathering reader g =
      (lines : List (List ℕ)) × (mid : List ℕ) × TakesLines old lines mid
      × TakesKept Line reader.line mid (reader.unread ++ left) × IsGroup kinds n lines e g

  pub gathering_none : (reader : Reading) (g : Group)
      → TakesKept Line reader.line old (reader.unread ++ left) → g.engine ≡ e → g.number ≡ n
      → g.refused ≡ false → string_bytes g.text ≡ [] → IsGathering reader g
  gathering_none reader g takes engine number refused text =
      ([], old, takes_none old, takes, group_none kinds n e g engine number refused text)

  -- there is none that ended
  pub gathers_none : (next : Next) (reader : Reading) (g : Group)
      → TakesKept next reader.line old (reader.unread ++ left) → g.engine ≡ e → g.number ≡ n
      → g.refused ≡ false → string_bytes g.text ≡ []
      → Gathers kinds next n old left reader e g false
  gathers_none next reader g takes engine number refused text = record {
    lines = [];
    mid = old;
    takes = takes_none old;
    behind = takes;
    group = group_none kinds n e g engine number refused text;
  }

  module _ (reader : Reading) (g then : Group) (next : Next) (line : next ≡ Line)
      (got : IsGathering reader g) where
    -- the next one has to be played alone
    pub gathers_alone : StaysGroup g then → Gathers kinds next n old left reader e then false
    gathers_alone stays = record {
      lines = got.0;
      mid = got.1;
      takes = got.2;
      behind = subst (λ (x : Next). TakesKept x reader.line got.1 (reader.unread ++ left))
          (sym line) got.3;
      group = group_same kinds n e got.0 g then got.4 stays;
    }

    module _ (adds : AddsOne kinds reader.line g then) where
      -- the line that the reader has
      abbrev l : List ℕ
      l = got.3.0

      taken : TakesLines old (got.0 ++ l ∷ []) (reader.unread ++ left)
      taken = takes_more old got.1 (reader.unread ++ left) l got.0 got.2 got.3.2.0 got.3.2.1

      more : IsGroup kinds n (got.0 ++ l ∷ []) e then
      more = group_more kinds n e got.0 g then got.4 reader.line l got.3.1 adds

      -- it is the last one that was read whole
      pub gathers_whole : Gathers kinds next n old left reader e then true
      gathers_whole = record {
        lines = got.0 ++ l ∷ [];
        mid = reader.unread ++ left;
        takes = taken;
        behind = refl;
        group = more;
      }

      -- or there is another
      pub gathering_on : (reader' : Reading) → TakesRead reader reader' → IsGathering reader' then
      gathering_on reader' read = (
        got.0 ++ l ∷ [],
        reader.unread ++ left,
        taken,
        read_taken reader reader' (reader.unread ++ left) left refl read,
        more,
      )

-- ---- what is to be written, whatever the lines were

module _ (e : Engine) (g then : Group) (had : (more : List (List ℕ)) × AddsTo e g.engine more)
  where
    -- as much, where a line has to be played alone
    pub adds_left : StaysGroup g then → (more : List (List ℕ)) × AddsTo e then.engine more
    adds_left stays = (
      had.0 ++ [],
      adds_on e.journal g.engine.journal then.engine.journal (session_of e).world
          (session_of g.engine).world (session_of then.engine).world had.0 [] had.1 stays.left.adds,
    )

    -- and what a line adds
    pub adds_line : (kinds : Kinds) (line : List ℕ) → AddsOne kinds line g then
        → (more : List (List ℕ)) × AddsTo e then.engine more
    adds_line kinds line adds =
        let due = (does_next kinds [] line g).bodies in (
          had.0 ++ due,
          adds_on e.journal g.engine.journal then.engine.journal (session_of e).world
              (session_of g.engine).world (session_of then.engine).world had.0 due had.1
              (adds.adds []),
        )

-- ---- the disk alone

module _ {D : Type 0} (d : Ghosts D) where
  -- nothing was done
  pub none_grown_by : (e : Engine) (disk : D) (bodies : List (List ℕ)) → IsAt d disk e bodies
      → OnlyNow d disk → GrowsByGroup d e disk disk bodies (Err (Work Memory))
  none_grown_by e disk bodies at only = record {
    more = [];
    safe = ran_out d disk disk bodies [] (limit_of e) (HasAll d disk) (Err Memory) refl
        (λ alike. stays d disk e.journal bodies [] (session_of e).world at only);
  }

  -- the group's records were put on it, or some of them where work stopped
  pub grown_by : (k_tells : Type 0) (e : Engine) (g : Group) (d1 d2 : D) (w1 w2 : List ℕ)
      (more : List (List ℕ)) → AddsTo e g.engine more → (r : Result Engine EarlyEnd)
      → SettlesGroup d k_tells g d1 d2 w1 w2 r → d.tells → (bodies : List (List ℕ))
      → IsAt d d1 e bodies → (q : Result Played EarlyEnd) → group_of q ≡ settled r
      → GrowsByGroup d e d1 d2 bodies q
  grown_by k_tells e g d1 d2 w1 w2 more adds r s told bodies at q same = record {
    more = more;
    safe = subst (λ (x : Result (Option Engine) Stop).
        IsCrashSafe d d1 d2 bodies more (limit_of e) (HasAll d d2) x) (sym same)
        (subst (λ (k : ℕ). IsCrashSafe d d1 d2 bodies more k (HasAll d d2) (settled r))
        adds.same_limit
        (s.safe told bodies more
        (more_due d d1 e.journal g.engine.journal bodies [] more (session_of e).world
        (session_of g.engine).world
        (none_due d d1 e.journal bodies (session_of e).world at) adds)));
  }
