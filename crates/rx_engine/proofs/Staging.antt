-- Records that a line stages, one after another.
use Rattle.std.proofs.Common.{◌≡◌, ◌∙◌, ◌<◌, ◌+◌, inr, ℕ, List, [], ◌∷◌, ◌++◌, length, Option, Some, None, Result, Ok, Err, IsErrOf, refl, sym, ap, subst, arith, append_assoc, append-nil}
use Rattle.rx_disk.specs.declared.disk.Disk.{Ghosts}
use Rattle.rx_frame.proofs.Records.{end_of-append, end_of-push}
use Rattle.rx_journal.specs.Ready.{MayCommit, due_end, staged_bytes}
use Rattle.rx_journal.specs.declared.journal.Journal.{Journal}
use Rattle.rx_journal.proofs.Commit.{ready_end}
use Rattle.rx_outside.specs.declared.stop.Stop.{Stop}
use Rattle.rx_outside.specs.declared.stop.Stop.TheVariants.{Full}
use Rattle.rx_record.specs.Content.{Content, content_bytes}
use Rattle.rx_session.specs.Session.{Session}
use Rattle.rx_store.specs.Holds.{GrowsLegally, Holds}
use Rattle.rx_store.specs.Safe.{IsCrashSafe}
use Rattle.rx_store.specs.Staged.{Adds, HoldsDue}
use Rattle.rx_store.proofs.Crashes.{answered, sooner}
use Rattle.rx_store.proofs.Growing.{grows_longer, held_alike}
use Rattle.rx_store.proofs.Staged.{adds_none, adds_on, more_due, none_due}
use Rattle.rx_sync.specs.Exchange.{world_after as world_after}
use Rattle.rx_sync.specs.Laws.{ComeSoundly}
use Rattle.rx_world.specs.Step.{step}
use Rattle.rx_world.specs.World.{World}
use Rattle.rx_engine.specs.Meaning.{bodies_of}
use Rattle.rx_engine.specs.Play.{AreStaged, Follows, IsAfter, IsPlayAt}
use Rattle.rx_engine.specs.Turning.{written}
use Rattle.rx_engine.specs.declared.play.Past.{Past}
use Rattle.rx_engine.specs.declared.play.Play.{Play}
use Rattle.rx_engine.proofs.Plays.{bodies-append, soundly_behind, written-append, written-world}

-- ---- one record

-- none yet
pub after_none : (journal : Journal) (w : World) → IsAfter journal w [] journal None w
after_none journal w = record {
  staged = [];
  world = w;
  adds = adds_none journal w;
  are = refl;
  same = λ e. refl;
}

module _ (first old new : Journal) (v w : World) (all : List Content) (c : Content) where
  -- one more
  pub after_one : (past : Option Past) → past ≡ None → IsAfter first v all old past w
      → Adds old new w (step c w) (content_bytes c ∷ [])
      → IsAfter first v (all ++ c ∷ []) new None (step c w)
  after_one past none is adds = record {
    staged = all ++ c ∷ [];
    world = step c w;
    adds = subst (λ l. Adds first new v (step c w) l) (sym (bodies-append all (c ∷ [])))
        (adds_on first old new v w (step c w) (bodies_of all) (content_bytes c ∷ [])
        (subst (λ (x : World). Adds first old v x (bodies_of all)) (is.same none)
        (subst (λ (cs : List Content). Adds first old v is.world (bodies_of cs))
        (sym (subst (λ (o : Option Past). AreStaged o old is.staged all) none is.are)) is.adds))
        adds);
    are = refl;
    same = λ e. refl;
  }

  -- one that would end past the limit
  pub after_full : (past : Option Past) (then : Past) → past ≡ None → IsAfter first v all old past w
      → new.end ≡ old.end → new.limit ≡ old.limit → staged_bytes new ≡ staged_bytes old
      → then.would ≡ due_end old + 5 + length (content_bytes c) → then.limit ≡ old.limit
      → then.limit < then.would
      → IsAfter first v (all ++ c ∷ []) new (Some then) (step c w)
  after_full past then none is end limit kept would most less =
      let due : due_end new ≡ due_end old =
      omega (arith, end, ap length kept, old.staged.ok.0, new.staged.ok.0) in
      record {
        staged = is.staged;
        world = is.world;
        adds = record {
          same_end = end ∙ is.adds.same_end;
          same_limit = limit ∙ is.adds.same_limit;
          ends = due ∙ is.adds.ends;
          staged = λ more has. kept ∙ is.adds.staged more has;
          world = is.adds.world;
          sound = is.adds.sound;
        };
        are = (
          c,
          [],
          ap (λ (l : List Content). l ++ c ∷ [])
              (subst (λ (o : Option Past). AreStaged o old is.staged all) none is.are),
          would ∙ ap (λ (n : ℕ). n + 5 + length (content_bytes c)) (sym due),
          most ∙ sym limit,
          less,
        );
        same = λ e. absurd (cc);
      }

-- one behind a record that would end past the limit
pub after_past : (first journal : Journal) (v w x : World) (all : List Content) (c : Content)
    (past : Past) → IsAfter first v all journal (Some past) w
    → IsAfter first v (all ++ c ∷ []) journal (Some past) x
after_past first journal v w x all c past is = record {
  staged = is.staged;
  world = is.world;
  adds = is.adds;
  are = (
    is.are.0,
    is.are.1 ++ c ∷ [],
    ap (λ (l : List Content). l ++ c ∷ []) is.are.2
        ∙ append_assoc is.staged (is.are.0 ∷ is.are.1) (c ∷ []),
    is.are.3,
    is.are.4,
    is.are.5,
  );
  same = λ e. absurd (cc);
}

abbrev pub no_past : Option Past
no_past = None

-- ---- one call after another

pub follows_none : (p : Play) → Follows p [] p
follows_none p = record {
  session = refl;
  limit = refl;
  staged = λ first v all is.
      subst (λ (cs : List Content). IsAfter first v cs p.journal p.past p.playing.world)
      (sym (append-nil all)) is;
}

pub follows_on : (p q r : Play) (xs ys : List Content) → Follows p xs q → Follows q ys r
    → Follows p (xs ++ ys) r
follows_on p q r xs ys first next = record {
  session = next.session ∙ ap (written ys) first.session ∙ sym (written-append xs ys p.playing);
  limit = next.limit ∙ first.limit;
  staged = λ start v all is.
      subst (λ (cs : List Content). IsAfter start v cs r.journal r.past r.playing.world)
      (append_assoc all xs ys) (next.staged start v (all ++ xs) (first.staged start v all is));
}

-- the world after some records
pub world_of : (p q : Play) (cs : List Content) → Follows p cs q
    → q.playing.world ≡ world_after cs p.playing.world
world_of p q cs follows =
    ap (λ (s : Session). s.world) follows.session ∙ written-world cs p.playing

-- A line is to stage some records. The first of them are staged, and the others are to come.
pub record IsStaging (first : Play) (all : List Content) (play : Play) (rest : List Content)
    : Type 0 where
  pub done : List Content
  pub whole : all ≡ done ++ rest
  pub come : ComeSoundly play.playing.world rest
  pub follows : Follows first done play

-- none is staged yet
pub begun : (first : Play) (all : List Content) → ComeSoundly first.playing.world all
    → IsStaging first all first all
begun first all come = record {
  done = [];
  whole = refl;
  come = come;
  follows = follows_none first;
}

-- some more are
pub further : (first : Play) (all : List Content) (play : Play) (cs rest : List Content)
    → IsStaging first all play (cs ++ rest) → (next : Play) → Follows play cs next
    → IsStaging first all next rest
further first all play cs rest way next follows = record {
  done = way.done ++ cs;
  whole = way.whole ∙ sym (append_assoc way.done cs rest);
  come = subst (λ (w : World). ComeSoundly w rest) (sym (world_of play next cs follows))
      (soundly_behind cs rest play.playing.world way.come);
  follows = follows_on first play next way.done cs way.follows follows;
}

-- all are
pub all_staged : (first : Play) (all : List Content) (play : Play) → IsStaging first all play []
    → Follows first all play
all_staged first all play way =
    subst (λ (cs : List Content). Follows first cs play)
    (sym (way.whole ∙ append-nil way.done)) way.follows

-- ---- what was staged is to be written

module _ {B : Type 0} (a b would most : ℕ)
    (e : IsErrOf {T = B} (Err (Full a b)) (Full would most)) where
  full_would : a ≡ would
  full_would = ap would_or e
    where
      would_or : Result B Stop → ℕ
      would_or (Err (Full x y)) = x
      would_or _ = 0

  full_most : b ≡ most
  full_most = ap most_or e
    where
      most_or : Result B Stop → ℕ
      most_or (Err (Full x y)) = y
      most_or _ = 0

module _
    {D : Type 0}
    (d : Ghosts D)
    (old : D)
    (bodies : List (List ℕ))
    (first journal : Journal)
    (v w : World)
    (all : List Content)
  where
    pub due : (past : Option Past) → Holds d old first bodies v
        → (is : IsAfter first v all journal past w)
        → HoldsDue d old journal bodies (bodies_of is.staged) is.world
    due past holds is =
        more_due d old first journal bodies [] (bodies_of is.staged) v is.world
        (none_due d old first bodies v holds) is.adds

    -- those that weren't staged are behind the others
    rest : (past : Option Past) → (is : IsAfter first v all journal past w)
        → (behind : List Content) × (all ≡ is.staged ++ behind)
    rest None is = ([], is.are ∙ sym (append-nil is.staged))
    rest (Some past) is = (is.are.0 ∷ is.are.1, is.are.2)

    module _ {A B : Type 0} (new : D) (P : A → List (List ℕ) → Type 0)
        (Q : B → List (List ℕ) → Type 0) (holds : Holds d old first bodies v) where
      -- the disk failed
      pub write_failed : (past : Option Past) → (is : IsAfter first v all journal past w)
          → (stop : Stop) (r : Result B Stop) → r ≡ Err stop
          → IsCrashSafe d old new bodies (bodies_of is.staged) journal.limit P (Err stop)
          → IsCrashSafe d old new bodies (bodies_of all) first.limit Q r
      write_failed past is stop r stops safe =
          let behind = rest past is in
          subst (λ (more : List (List ℕ)). IsCrashSafe d old new bodies more first.limit Q r)
          (sym (ap bodies_of behind.1 ∙ bodies-append is.staged behind.0))
          (subst (λ (n : ℕ). IsCrashSafe d old new bodies
          (bodies_of is.staged ++ bodies_of behind.0) n Q r) is.adds.same_limit
          (sooner d old new bodies (bodies_of is.staged) (bodies_of behind.0) journal.limit P Q stop
          r stops safe))

      -- all that was to be staged was
      pub write_done : (past : Option Past) → past ≡ None
          → (is : IsAfter first v all journal past w) → (x : A) (y : B)
          → IsCrashSafe d old new bodies (bodies_of is.staged) journal.limit P (Ok x)
          → ((is.world ≡ w) → (more : List (List ℕ)) → P x more → Q y more)
          → IsCrashSafe d old new bodies (bodies_of all) first.limit Q (Ok y)
      write_done past none is x y safe then =
          subst (λ (cs : List Content). IsCrashSafe d old new bodies (bodies_of cs) first.limit Q
          (Ok y)) (sym (subst (λ (o : Option Past). AreStaged o journal is.staged all) none is.are))
          (subst (λ (n : ℕ). IsCrashSafe d old new bodies (bodies_of is.staged) n Q (Ok y))
          is.adds.same_limit
          (answered d old new bodies (bodies_of is.staged) journal.limit P Q x y safe
          (then (is.same none) (bodies ++ bodies_of is.staged))))

    -- a record would have ended past the limit, and those before it are there
    module _ {B : Type 0} (new : D) (kept : Journal) (Q : B → List (List ℕ) → Type 0)
        (P : Journal → List (List ℕ) → Type 0) (past : Past)
        (holds : Holds d old first bodies v) where
      pub write_full : (is : IsAfter first v all journal (Some past) w)
          → IsCrashSafe d old new bodies (bodies_of is.staged) journal.limit P (Ok kept)
          → (P kept (bodies ++ bodies_of is.staged)
          → Holds d new kept (bodies ++ bodies_of is.staged) is.world)
          → IsCrashSafe d old new bodies (bodies_of all) first.limit Q
          (Err (Full past.would past.limit))
      write_full is safe held =
          let c = is.are.0 in
          let behind = is.are.1 in
          let whole : bodies_of all
          ≡ bodies_of is.staged ++ content_bytes c ∷ bodies_of behind =
          ap bodies_of is.are.2 ∙ bodies-append is.staged (c ∷ behind) in
          let now = held safe.at in
          record {
            moments = λ alike.
                subst (λ l. GrowsLegally d old new bodies l) (sym whole)
                (grows_longer d old new bodies (bodies_of is.staged)
                (content_bytes c ∷ bodies_of behind) (safe.moments alike));
            at = tt;
            fits = tt;
            full = λ would most e.
                let woulds = full_would {B = B} past.would past.limit would most e in
                let mosts = full_most {B = B} past.would past.limit would most e in (
                  sym mosts ∙ is.are.4 ∙ is.adds.same_limit,
                  record {
                    before = bodies_of is.staged;
                    body = content_bytes c;
                    behind = bodies_of behind;
                    whole = whole;
                    would_end = omega (
                      arith,
                      woulds,
                      is.are.3,
                      is.adds.ends,
                      ready_end d old first bodies holds.ready,
                      end_of-append bodies (bodies_of is.staged),
                      end_of-push (bodies ++ bodies_of is.staged) (content_bytes c),
                    );
                    past = omega (arith, woulds, mosts, is.are.5);
                    content = inr now.ready.whole;
                    images = held_alike d new kept (bodies ++ bodies_of is.staged) is.world now;
                  },
                );
            not_journal = λ e. absurd (cc);
          }

-- a line in play wrote some records, and nothing before them
module _
    {D : Type 0}
    (d : Ghosts D)
    (old : D)
    (p q : Play)
    (cs : List Content)
    (follows : Follows p cs q)
    (bodies : List (List ℕ))
    (at : IsPlayAt d old p bodies)
  where
    pub so_far : IsAfter p.journal p.playing.world cs q.journal q.past q.playing.world
    so_far =
        follows.staged p.journal p.playing.world []
        (subst (λ (o : Option Past).
        IsAfter p.journal p.playing.world [] p.journal o p.playing.world)
        (sym at.1) (after_none p.journal p.playing.world))

    pub may_commit : MayCommit d old q.journal
    may_commit = ∣ (
      bodies,
      bodies_of so_far.staged,
      (due d old bodies p.journal q.journal p.playing.world q.playing.world cs q.past at.0
          so_far).staged,
    ) ∣₁
