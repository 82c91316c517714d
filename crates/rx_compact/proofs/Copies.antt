-- A copy that is written into an empty file, and what it is where it is finished or stopped.
use Rattle.std.proofs.Common.{◌≡◌, ◌≢◌, ◌∙◌, ◌≤◌, ◌<◌, ◌^◌, ◌⊎◌, inl, inr, ap, sym, subst, refl, ℕ, List, [], ◌∷◌, ◌++◌, append_assoc, append-nil, map, length, length-append, Result, Ok, Err, IsErrOf, arith}
use Rattle.std.proofs.lemmas.Bool.{cases_lt}
use Rattle.std.specs.List.{AllByRecursion, flat_map}
use Rattle.rx_value.proofs.Lists.{map_none}
use Rattle.rx_value.proofs.Outcomes.{not_none}
use Rattle.rx_disk.specs.declared.disk.Disk.{Ghosts}
use Rattle.rx_disk.specs.Moments.{LeavesOnly}
use Rattle.rx_disk.proofs.Moments.{weaker}
use Rattle.rx_frame.specs.File.{IsSecond, IsWhole, StandsFor, end_of, shortest}
use Rattle.rx_frame.proofs.Records.{end_within, no_records, stands_for_one}
use Rattle.rx_journal.specs.Ready.{IsReady}
use Rattle.rx_outside.proofs.Counts.{rises_later}
use Rattle.rx_outside.specs.declared.stop.Stop.{Stop}
use Rattle.rx_outside.specs.declared.stop.Stop.TheVariants.{Disk, Full, NotJournal}
use Rattle.rx_record.specs.Content.{Content, content_bytes, end}
use Rattle.rx_store.proofs.Crashes.{other_stop}
use Rattle.rx_store.proofs.Versions.{plays_told}
use Rattle.rx_store.specs.Holds.{IsIllegalFile, IsLegalFile}
use Rattle.rx_store.specs.Safe.{HasDiskCause}
use Rattle.rx_store.specs.Versions.{file_version, replay_in, replay_of}
use Rattle.rx_world.specs.Copy.{most_copied_epoch}
use Rattle.rx_world.specs.Made.{IsMadeWorld}
use Rattle.rx_world.specs.Sound.{IsSoundWorld}
use Rattle.rx_world.specs.World.{World}
use Rattle.rx_compact.specs.Laws.{AreTokened, Say}
use Rattle.rx_compact.specs.Plan.{collection_record, known_records, part_records, plan, replication_record}
use Rattle.rx_compact.specs.Writing.{Adds, HasWritten, IsCopied, IsFront, IsGoing, IsPast, IsRead, IsSafeCopy, WritesCopy}
use Rattle.rx_compact.specs.declared.copying.Copied.{Copied}
use Rattle.rx_compact.specs.declared.writing.Copying.{Copying}
use Rattle.rx_compact.proofs.Adding.{front_more, past_more}
use Rattle.rx_compact.proofs.Whole.{copy_makes_world, front_makes_none}

-- ---- fronts of the plan

-- records are the first of these
abbrev pub Begin : List Content → List Content → Type 0
Begin cs all = (rest : List Content) × (all ≡ cs ++ rest)

begin_less : (cs more all : List Content) → Begin (cs ++ more) all → Begin cs all
begin_less cs more all first = (more ++ first.0, first.1 ∙ append_assoc cs more first.0)

module _ (w : World) where
  abbrev collections_in : List Content
  collections_in = map (λ e. collection_record e.1) w.collections

  abbrev replications_in : List Content
  replications_in = map (λ e. replication_record e.1) w.replications

  abbrev documents_in : List Content
  documents_in = flat_map (λ e. part_records e.1) w.collections

  abbrev known_in : List Content
  known_in = flat_map (λ e. known_records e.1) w.replications

  abbrev pub before_end : List Content
  before_end = collections_in ++ replications_in ++ documents_in ++ known_in

  begin_all : Begin (plan w) (plan w)
  begin_all = ([], sym (append-nil (plan w)))

  pub begin_end : (n : ℕ) → n ≡ w.epoch → Begin (before_end ++ end n ∷ []) (plan w)
  begin_end n is = subst (λ (m : ℕ). Begin (before_end ++ end m ∷ []) (plan w)) (sym is) begin_all

  pub begin_again : Begin (plan w ++ []) (plan w)
  begin_again = ([], sym (append-nil (plan w ++ []) ∙ append-nil (plan w)))

  pub begin_known : Begin before_end (plan w)
  begin_known = begin_less before_end (end w.epoch ∷ []) (plan w) begin_all

  pub begin_documents : Begin (collections_in ++ replications_in ++ documents_in) (plan w)
  begin_documents =
      begin_less (collections_in ++ replications_in ++ documents_in) known_in (plan w) begin_known

  pub begin_replications : Begin (collections_in ++ replications_in) (plan w)
  begin_replications =
      begin_less (collections_in ++ replications_in) documents_in (plan w) begin_documents

  pub begin_collections : Begin collections_in (plan w)
  begin_collections = begin_less collections_in replications_in (plan w) begin_replications

-- ---- files

-- records that are read back are what their bytes say
says : (cs : List Content) → AllByRecursion IsRead cs → Say (map content_bytes cs) cs
says [] all = refl
says (c ∷ cs) all = λ i. all.0 i ∷ says cs all.1 i

-- what bodies make in a file of the second version
plays_second : (c : List ℕ) (bodies : List (List ℕ)) → IsSecond c
    → replay_in 2 bodies ≡ replay_of c bodies
plays_second c bodies second =
    plays_told c 2 bodies
    (record { second = λ is. refl; first = λ no. absurd (no second) })

-- a front that leaves something out is no journal
illegal_front : (w : World) (c : List ℕ) (front rest : List Content) → plan w ≡ front ++ rest
    → rest ≢ [] → AllByRecursion IsRead front → StandsFor c (map content_bytes front) → IsSecond c
    → IsIllegalFile c
illegal_front w c front rest whole some read stands second bodies v lawful =
    let same = stands_for_one c (map content_bytes front) bodies stands lawful.stands in
    not_none
    (sym (front_makes_none w front rest whole some (map content_bytes front) (says front read))
    ∙ ap (replay_in 2) same ∙ plays_second c bodies second ∙ lawful.plays)

-- a plan has a record
some_plan : (w : World) → plan w ≢ []
some_plan w none =
    omega (arith, ap length none, length-append (before_end w) (end w.epoch ∷ []))

-- a front of no records is safe for each world
safe_none : (w : World) (c : List ℕ) → IsFront [] c → IsSafeCopy w c
safe_none w c (inl short) = inl short
safe_none w c (inr ([], rest, whole, read, stands, short, second)) =
    elim (cases_lt shortest (length c)) [
      | inl long ↦ inr (inl (illegal_front w c [] (plan w) refl (some_plan w) read stands
          (long, second)))
      | inr brief ↦ inl brief
    ]
safe_none w c (inr (r ∷ front, rest, whole, read, stands, short, second)) = absurd (cc)

module _ (w : World) (made : IsMadeWorld w) (sound : IsSoundWorld w) (tokened : AreTokened w)
    (low : w.epoch ≤ most_copied_epoch) where
  abbrev bodies : List (List ℕ)
  bodies = map content_bytes (plan w)

  -- all of it is a legal file
  legal_copy : (c : List ℕ) → StandsFor c bodies → end_of bodies < 2 ^ 32 → IsSecond c
      → AllByRecursion IsRead (plan w) → IsLegalFile c bodies w
  legal_copy c stands short second read = record {
    stands = stands;
    short = short;
    plays = sym (plays_second c bodies second)
        ∙ copy_makes_world w made sound tokened low bodies (says (plan w) read);
    sound = sound;
  }

  decided : (c : List ℕ) (front rest : List Content) → plan w ≡ front ++ rest
      → AllByRecursion IsRead front → StandsFor c (map content_bytes front)
      → end_of (map content_bytes front) < 2 ^ 32 → IsSecond c
      → IsIllegalFile c ⊎ ((bs : List (List ℕ)) × IsLegalFile c bs w)
  decided c front [] whole read stands short second =
      let same : front ≡ plan w = sym (whole ∙ append-nil front) in
      inr (
        bodies,
        legal_copy c (subst (λ (cs : List Content). StandsFor c (map content_bytes cs)) same stands)
            (subst (λ (cs : List Content). end_of (map content_bytes cs) < 2 ^ 32) same short)
            second
            (subst (AllByRecursion IsRead) same read),
      )
  decided c front (r ∷ rest) whole read stands short second =
      inl (illegal_front w c front (r ∷ rest) whole (λ none. absurd (cc)) read stands second)

  -- what a crash leaves is safe
  safe_front : (c : List ℕ) → IsFront (plan w) c → IsSafeCopy w c
  safe_front c (inl short) = inl short
  safe_front c (inr (front, rest, whole, read, stands, short, second)) =
      elim (cases_lt shortest (length c)) [
        | inl long ↦ inr (decided c front rest whole read stands short (long, second))
        | inr brief ↦ inl brief
      ]

  some_bodies : bodies ≡ [] → ⊥
  some_bodies none = some_plan w (map_none content_bytes (plan w) none)

  long_copy : (c : List ℕ) → IsWhole c bodies → shortest < length c
  long_copy c whole = elim (cases_lt shortest (length c)) [
    | inl long ↦ long
    | inr brief ↦ absurd (some_bodies (no_records bodies
        (omega (arith, brief, end_within c bodies whole))))
  ]

  -- a finished copy is one
  finished : {D : Type 0} (d : Ghosts D) (first disk : D) (next : Copying) (copied : Copied)
      → IsReady d disk next.journal bodies → HasWritten d first disk next (plan w ++ [])
      → copied.records ≡ next.records → copied.end ≡ next.journal.end → IsCopied d disk w copied
  finished d first disk next copied ready had counts ends =
      let whole : plan w ++ [] ≡ plan w = append-nil (plan w) in
      let content = d.content disk in
      record {
        content = legal_copy content (inr ready.whole)
            (omega (arith, ready.ends, next.journal.short))
            (long_copy content ready.whole, had.second)
            (subst (AllByRecursion IsRead) whole had.read);
        images = λ c now. record {
          stands = subst (λ (l : List ℕ). StandsFor l bodies) (sym (ready.durable c now))
              (inr ready.whole);
          version = ap file_version (ready.durable c now);
        };
        records = counts ∙ had.counted ∙ ap length whole;
        end = ends ∙ ready.ends;
      }

-- ---- a copy on its way

-- from an empty disk it has come so far
pub record Comes {D : Type 0} (d : Ghosts D) (first now : D) (copy : Copying) (limit : ℕ)
    (cs : List Content) : Type 0 where
  pub written : d.tells → HasWritten d first now copy cs
  pub within : copy.journal.limit ≡ limit
  pub later : d.faults first ≤ d.faults now

module _ {D : Type 0} {d : Ghosts D} {first : D} {limit : ℕ} where
  -- it was begun
  pub comes_first : {now : D} {copy : Copying} → (d.tells → HasWritten d first now copy [])
      → copy.journal.limit ≡ limit → d.faults first ≤ d.faults now
      → Comes d first now copy limit []
  comes_first written within later = record { written = written; within = within; later = later }

  -- it may go on
  pub comes_going : {now : D} {copy : Copying} {cs : List Content} → Comes d first now copy limit cs
      → IsGoing d now copy
  comes_going {cs = cs} so told = (first, cs, so.written told)

  -- some more came
  pub comes_more : {mid new : D} {copy next : Copying} {cs xs : List Content}
      → Comes d first mid copy limit cs → Adds d mid new copy xs (Ok next)
      → Comes d first new next limit (cs ++ xs)
  comes_more {cs = cs} so more = record {
    written = λ told. more.written told first cs (so.written told);
    within = more.limit ∙ so.within;
    later = omega (arith, so.later, more.cause.later);
  }

  -- its end came
  pub comes_end : (w : World) (n : ℕ) → n ≡ w.epoch → {now : D} {copy : Copying}
      → Comes d first now copy limit (before_end w ++ end n ∷ [])
      → Comes d first now copy limit (plan w)
  comes_end w n is {now} {copy} so =
      subst (λ (m : ℕ). Comes d first now copy limit (before_end w ++ end m ∷ [])) is so

  -- the first call stopped, as it does by the disk alone
  pub never_begun : (w : World) {new : D} {stop : Stop}
      → (d.tells → LeavesOnly d first new (IsFront []))
      → ((other : Stop) → IsErrOf {T = Copying} (Err stop) other → other ≡ Disk)
      → HasDiskCause {A = Copying} (d.faults first) (d.faults new) (Err stop)
      → (result : Result Copied Stop) → result ≡ Err stop
      → WritesCopy d first new w limit result
  never_begun w {new} {stop} moments only cause result is =
      subst (λ (x : Result Copied Stop). WritesCopy d first new w limit x) (sym is) (record {
        copied = λ told sound tokened low. tt;
        moments = λ told sound tokened low.
            weaker d first new (IsFront []) (IsSafeCopy w) (safe_none w) (moments told);
        full = λ told would most full.
            let other = only (Full would most) (other_stop stop (Full would most) full) in
            absurd (cc);
        not_journal = λ not.
            let other = only NotJournal (other_stop stop NotJournal not) in
            absurd (cc);
        cause = record {
          later = cause.later;
          failed = λ failed. cause.failed (other_stop stop Disk failed);
        };
      })

  module _ (w : World) (made : IsMadeWorld w) where
    -- or a call stopped
    pub comes_stop : {mid new : D} {copy : Copying} {cs xs : List Content}
        {r : Result Copying Stop} {stop : Stop} → Comes d first mid copy limit cs
        → r ≡ Err stop → Adds d mid new copy xs r → Begin (cs ++ xs) (plan w)
        → (result : Result Copied Stop) → result ≡ Err stop
        → WritesCopy d first new w limit result
    comes_stop {mid} {new} {copy} {cs} {xs} {r} {stop} so stops adds (rest, whole) result is =
        subst (λ (x : Result Copied Stop). WritesCopy d first new w limit x) (sym is) (
        let had : Adds d mid new copy xs (Err stop) =
        subst (λ (x : Result Copying Stop). Adds d mid new copy xs x) stops adds in
        record {
          copied = λ told sound tokened low. tt;
          moments = λ told sound tokened low.
              weaker d first new (IsFront (cs ++ xs)) (IsSafeCopy w)
              (λ c front. safe_front w made sound tokened low c
              (subst (λ (l : List Content). IsFront l c) (sym whole)
              (front_more (cs ++ xs) rest c front)))
              (had.moments told first cs (so.written told));
          full = λ told would most full.
              let past = had.full told first cs (so.written told) would most
              (other_stop stop (Full would most) full) in (
                past.0 ∙ so.within,
                subst (λ (l : List Content). IsPast l would most) (sym whole)
                    (past_more (cs ++ xs) rest would most past.1),
              );
          not_journal = λ not. had.not_journal (other_stop stop NotJournal not);
          cause = record {
            later = omega (arith, so.later, had.cause.later);
            failed = λ failed. rises_later (d.faults first) (d.faults mid) (d.faults new) so.later
                (had.cause.failed (other_stop stop Disk failed));
          };
        }
        )

    -- or all was written
    pub comes_whole : {mid new : D} {copy next : Copying} → Comes d first mid copy limit (plan w)
        → Adds d mid new copy [] (Ok next)
        → (d.tells → IsReady d new next.journal (map content_bytes (plan w)))
        → (copied : Copied) → copied.records ≡ next.records → copied.end ≡ next.journal.end
        → WritesCopy d first new w limit (Ok copied)
    comes_whole {new = new} {next = next} so adds ready copied counts ends = record {
      copied = λ told sound tokened low.
          finished w made sound tokened low d first new next copied (ready told)
          (adds.written told first (plan w) (so.written told)) counts ends;
      moments = λ told sound tokened low.
          weaker d first new (IsFront (plan w ++ [])) (IsSafeCopy w)
          (λ c front. safe_front w made sound tokened low c
          (subst (λ (l : List Content). IsFront l c) (append-nil (plan w)) front))
          (adds.moments told first (plan w) (so.written told));
      full = λ told would most is. absurd (cc);
      not_journal = λ is. absurd (cc);
      cause = record {
        later = omega (arith, so.later, adds.cause.later);
        failed = λ is. absurd (cc);
      };
    }
