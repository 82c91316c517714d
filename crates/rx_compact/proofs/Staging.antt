-- A record is staged, and what is staged is written.
use Rattle.std.proofs.Common.{◌≡◌, ◌∙◌, ◌≤◌, ◌<◌, ◌^◌, inl, inr, ap, sym, subst, refl, ℕ, ◌+◌, List, [], ◌∷◌, ◌++◌, append_assoc, append-nil, map, length-append, Result, Ok, Err, arith}
use Rattle.std.proofs.lemmas.List.{map-append}
use Rattle.std.specs.List.{AllByRecursion}
use Rattle.rx_disk.specs.declared.disk.Disk.{Ghosts}
use Rattle.rx_disk.specs.Moments.{LeavesOnly}
use Rattle.rx_disk.proofs.Moments.{joined, leaves_now, weaker}
use Rattle.rx_frame.proofs.Headers.{second_header_is}
use Rattle.rx_frame.proofs.Records.{end_of-push}
use Rattle.rx_frame.specs.File.{BeginsWith, StandsFor, end_of, second_header}
use Rattle.rx_journal.proofs.Commit.{grown}
use Rattle.rx_journal.specs.Growing.{GrowsAtOnce, KeepsHeader, StandsForAllOrNone}
use Rattle.rx_journal.specs.Ready.{IsReady}
use Rattle.rx_journal.specs.declared.journal.Journal.{Journal}
use Rattle.rx_outside.specs.declared.stop.Stop.{Stop}
use Rattle.rx_record.specs.Content.{Content, content_bytes}
use Rattle.rx_store.proofs.Crashes.{other_stop}
use Rattle.rx_store.proofs.Growing.{both}
use Rattle.rx_store.specs.Staged.{Stages}
use Rattle.rx_tree.proofs.Walks.{all_both, all_parts}
use Rattle.rx_compact.specs.Writing.{Adds, HasWritten, IsFront, IsRead}
use Rattle.rx_compact.specs.declared.writing.Copying.{Copying}
use Rattle.rx_compact.proofs.Adding.{adds_more, adds_then, front_more}

-- ---- a record is staged

module _ {D : Type 0} (d : Ghosts D) (disk : D) (copy : Copying) (entry : Content) where
  abbrev bytes : List ℕ
  bytes = content_bytes entry

  -- the records, and one more
  said : (cs : List Content) (bodies more : List (List ℕ)) → map content_bytes cs ≡ bodies ++ more
      → map content_bytes (cs ++ entry ∷ []) ≡ bodies ++ (more ++ bytes ∷ [])
  said cs bodies more is =
      map-append content_bytes cs (entry ∷ [])
      ∙ ap (λ (l : List (List ℕ)). l ++ bytes ∷ []) is
      ∙ append_assoc bodies more (bytes ∷ [])

  still : (first : D) (cs : List Content) → HasWritten d first disk copy cs
      → LeavesOnly d first disk (IsFront (cs ++ entry ∷ []))
  still first cs had =
      weaker d first disk (IsFront cs) (IsFront (cs ++ entry ∷ [])) (front_more cs (entry ∷ []))
      had.moments

  -- it is staged
  module _ (journal : Journal)
      (staged : Stages {A = Unit {0}} copy.journal journal entry (Ok (tt {0}))) (next : Copying)
      (journal_is : next.journal ≡ journal) (one_more : next.records ≡ copy.records + 1) where
    pub staged_one : (first : D) (cs : List Content) → HasWritten d first disk copy cs
        → HasWritten d first disk next (cs ++ entry ∷ [])
    staged_one first cs had = record {
      bodies = had.bodies;
      more = had.more ++ bytes ∷ [];
      split = said cs had.bodies had.more had.split;
      staged = record {
        whole = had.staged.whole;
        ends = ap (λ (j : Journal). j.end) journal_is ∙ staged.same_end ∙ had.staged.ends;
        durable = had.staged.durable;
        staged = ap (λ (j : Journal). j.staged.items) journal_is
            ∙ staged.staged had.more had.staged.staged;
      };
      second = had.second;
      read = all_both IsRead cs (entry ∷ []) had.read (staged.back, tt);
      counted = omega (arith, one_more, had.counted, length-append cs (entry ∷ []));
      moments = still first cs had;
    }

    pub adds_one : Adds d disk disk copy (entry ∷ []) (Ok next)
    adds_one = record {
      written = λ told first cs had. staged_one first cs had;
      moments = λ told first cs had. still first cs had;
      full = λ told first cs had would most is. absurd (cc);
      limit = ap (λ (j : Journal). j.limit) journal_is ∙ staged.same_limit;
      not_journal = λ is. absurd (cc);
      cause = record { later = omega arith; failed = λ is. absurd (cc) };
    }

  -- or it isn't: what was staged before still is
  module _ (journal : Journal) (stop : Stop)
      (staged : Stages {A = Unit {0}} copy.journal journal entry (Err stop)) (next : Copying)
      (journal_is : next.journal ≡ journal) (same_count : next.records ≡ copy.records) where
    -- the same records are there
    still_written : (first : D) (cs : List Content) → HasWritten d first disk copy cs
        → HasWritten d first disk next cs
    still_written first cs had = record {
      bodies = had.bodies;
      more = had.more;
      split = had.split;
      staged = record {
        whole = had.staged.whole;
        ends = ap (λ (j : Journal). j.end) journal_is ∙ staged.same_end ∙ had.staged.ends;
        durable = had.staged.durable;
        staged = ap (λ (j : Journal). j.staged.items) journal_is ∙ staged.kept ∙ had.staged.staged;
      };
      second = had.second;
      read = had.read;
      counted = same_count ∙ had.counted;
      moments = had.moments;
    }

    -- so nothing was added
    adds_nothing : Adds d disk disk copy [] (Ok next)
    adds_nothing = record {
      written = λ told first cs had.
          subst (λ (l : List Content). HasWritten d first disk next l) (sym (append-nil cs))
          (still_written first cs had);
      moments = λ told first cs had.
          subst (λ (l : List Content). LeavesOnly d first disk (IsFront l)) (sym (append-nil cs))
          had.moments;
      full = λ told first cs had would most is. absurd (cc);
      limit = ap (λ (j : Journal). j.limit) journal_is ∙ staged.same_limit;
      not_journal = λ is. absurd (cc);
      cause = record { later = omega arith; failed = λ is. absurd (cc) };
    }

    -- then that is written, and the call stops
    pub adds_stop : (new : D) (last : Copying) → Adds d disk new next [] (Ok last)
        → Adds d disk new copy (entry ∷ []) (Err stop)
    adds_stop new last adds =
        let both = adds_then d disk disk new copy next [] [] (Ok last) adds_nothing adds in
        record {
          written = λ told first cs had. tt;
          moments = λ told first cs had.
              weaker d first new (IsFront (cs ++ [])) (IsFront (cs ++ entry ∷ []))
              (λ c front. subst (λ (l : List Content). IsFront l c)
              (append_assoc cs [] (entry ∷ []))
              (front_more (cs ++ []) (entry ∷ []) c front))
              (both.moments told first cs had);
          full = λ told first cs had would most full.
              let f = staged.full would most (other_stop stop _ full) in (
                f.1,
                record {
                  front = cs;
                  entry = entry;
                  rest = [];
                  whole = refl;
                  would_end = f.0
                      ∙ omega (
                        arith,
                        grown d disk copy.journal had.bodies had.more had.staged,
                        ap end_of had.split,
                        ap end_of (map-append content_bytes cs (entry ∷ [])),
                        end_of-push (map content_bytes cs) bytes,
                      );
                  past = f.2;
                },
              );
          limit = tt;
          not_journal = λ not. staged.no_journal (other_stop stop _ not);
          cause = record {
            later = adds.cause.later;
            failed = λ failed. absurd (staged.no_disk (other_stop stop _ failed));
          };
        }

    -- or it can't be written
    pub adds_less : (new : D) (fault : Stop) (r : Result Copying Stop) → r ≡ Err fault
        → Adds d disk new next [] (Err fault) → Adds d disk new copy (entry ∷ []) r
    adds_less new fault r is adds =
        subst (λ (x : Result Copying Stop). Adds d disk new copy (entry ∷ []) x) (sym is)
        (adds_more d disk new copy [] (entry ∷ []) (Err fault) fault refl
        (adds_then d disk disk new copy next [] [] (Err fault) adds_nothing adds))

-- ---- what is staged is written

-- records whose bytes begin with some
split_at : (cs : List Content) (xs ys : List (List ℕ)) → map content_bytes cs ≡ xs ++ ys
    → (front : List Content) × (rest : List Content) × (cs ≡ front ++ rest)
    × (map content_bytes front ≡ xs)
split_at cs [] ys is = ([], cs, refl, refl)
split_at [] (x ∷ xs) ys is = absurd (cc)
split_at (c ∷ cs) (x ∷ xs) ys is =
    let first : content_bytes c ≡ x = cc in
    let more = split_at cs xs ys cc in (
      c ∷ more.0,
      more.1,
      ap (λ (l : List Content). c ∷ l) more.2,
      ap (λ (l : List (List ℕ)). content_bytes c ∷ l) more.3
          ∙ ap (λ (b : List ℕ). b ∷ xs) first,
    )

module _ {D : Type 0} (d : Ghosts D) (first old new : D) (copy : Copying) (cs : List Content)
    (had : HasWritten d first old copy cs)
    (grows : GrowsAtOnce d old new had.bodies had.more) (keeps : KeepsHeader d old new) where
  abbrev bodies : List (List ℕ)
  bodies = had.bodies

  short : end_of bodies < 2 ^ 32
  short = omega (arith, had.staged.ends, copy.journal.short)

  -- an image has all, or those that were there before
  as_front : (c : List ℕ) → StandsForAllOrNone bodies had.more c × BeginsWith second_header c
      → IsFront cs c
  as_front c (s, begins) = elim s.all_or_none [
    | inl none ↦
        let parts = split_at cs bodies had.more had.split in
        let same : bodies ++ s.added ≡ map content_bytes parts.0 =
        ap (λ (l : List (List ℕ)). bodies ++ l) none ∙ append-nil bodies ∙ sym parts.3 in
        inr (
          parts.0,
          parts.1,
          parts.2,
          (all_parts IsRead parts.0 parts.1 (subst (AllByRecursion IsRead) parts.2 had.read)).0,
          subst (StandsFor c) same s.stands,
          subst (λ (l : List (List ℕ)). end_of l < 2 ^ 32) same s.short,
          begins,
        )
    | inr all ↦
        let same : bodies ++ s.added ≡ map content_bytes cs =
        ap (λ (l : List (List ℕ)). bodies ++ l) all ∙ sym had.split in
        inr (
          cs,
          [],
          sym (append-nil cs),
          had.read,
          subst (StandsFor c) same s.stands,
          subst (λ (l : List (List ℕ)). end_of l < 2 ^ 32) same s.short,
          begins,
        )
  ]

  keeps_second : LeavesOnly d old new (BeginsWith second_header)
  keeps_second = keeps second_header second_header_is had.second

  pub committed_moments : LeavesOnly d first new (IsFront cs)
  committed_moments =
      joined d first old new (IsFront cs)
      (λ c. StandsForAllOrNone bodies had.more c × BeginsWith second_header c) (IsFront cs)
      had.moments (both d old new _ _ grows keeps_second) (λ c is. is) as_front

  -- they all were
  pub committed : (next : Copying) → next.records ≡ copy.records
      → IsReady d new next.journal (bodies ++ had.more)
      → ((t : ℕ) (c : List ℕ) → t ≤ d.moment new → d.image new c → d.image_since new t c)
      → d.image new (d.content new) → HasWritten d first new next cs
  committed next same ready counts reads = record {
    bodies = bodies ++ had.more;
    more = [];
    split = had.split ∙ sym (append-nil (bodies ++ had.more));
    staged = ready;
    second =
        leaves_now d old new (BeginsWith second_header) keeps_second counts (d.content new) reads;
    read = had.read;
    counted = same ∙ had.counted;
    moments = committed_moments;
  }
