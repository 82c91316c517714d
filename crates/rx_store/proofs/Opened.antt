-- Opening a journal that is a legal file.
use Rattle.std.proofs.Common.{◌≡◌, ◌≤◌, ◌<◌, inl, inr, ℕ, true, false, true≢false, List, [], length, Option, Some, None, is_some, Result, Ok, Err, IsErrOf, refl, sym, ◌∙◌, ap, subst, arith, append-nil}
use Rattle.std.proofs.Math.Dec.{leb}
use Rattle.std.proofs.lemmas.Bool.{cases_lt, leb-true, leb-false}
use Rattle.rx_disk.specs.declared.disk.Disk.{Ghosts}
use Rattle.rx_disk.specs.Moments.{LeavesOnly}
use Rattle.rx_disk.proofs.Moments.{weaker, joined, leaves_now}
use Rattle.rx_frame.specs.File.{header, BeginsWith, StandsFor, IsWhole, shortest}
use Rattle.rx_frame.proofs.Records.{stands_for_one}
use Rattle.rx_journal.specs.Opening.{IsBegun, IsJournal, IsNoWorse}
use Rattle.rx_journal.specs.Reading.{IsUntouched}
use Rattle.rx_journal.specs.Ready.{IsReady}
use Rattle.rx_journal.specs.Windows.{Begin, HasVersion, version_of}
use Rattle.rx_journal.specs.declared.journal.Journal.{Journal}
use Rattle.rx_journal.specs.declared.open.OpenFault.{OpenFault}
use Rattle.rx_journal.specs.declared.open.OpenFault.TheVariants as opening
use Rattle.rx_journal.specs.declared.windows.Windows.{Windows}
use Rattle.rx_outside.specs.declared.stop.Stop.{Stop}
use Rattle.rx_outside.specs.declared.stop.Stop.TheVariants.{NotJournal, Full}
use Rattle.rx_world.specs.Sound.{IsSoundWorld}
use Rattle.rx_world.specs.World.{World, empty}
use Rattle.rx_world.proofs.Replays.{replay_from-nothing}
use Rattle.rx_world.proofs.Sounds.{sound_empty}
use Rattle.rx_store.specs.Holds.{Holds, GrowsLegally, ImagesStandFor, IsIllegalFile, IsLegalFile, StandsAlike}
use Rattle.rx_store.specs.Safe.{IsCrashSafe}
use Rattle.rx_store.specs.Stops.{of_open}
use Rattle.rx_store.specs.Versions.{file_version, replay_in, replay_of}
use Rattle.rx_store.proofs.Crashes.{other_stop}
use Rattle.rx_store.proofs.Growing.{none_yet}
use Rattle.rx_store.proofs.Versions.{plays_told, version_begun, version_short}

-- one world
pub some_is : (a b : World) → Some a ≡ Some b → a ≡ b
some_is a b e = ap (or_else a) e
  where
    or_else : World → Option World → World
    or_else x None = x
    or_else x (Some y) = y

pub some_is_not_none : (o : Option World) (w : World) → o ≡ Some w → o ≡ None → ⊥
some_is_not_none o w is none = true≢false (ap is_some (sym is ∙ none))

-- a journal was opened, its records were read to their end, and they make this world
module _ {D : Type 0} (d : Ghosts D) (old mid new : D) (windows : Windows)
    (begin : Begin d old mid windows) (told : HasVersion (d.content old) (version_of windows))
    (same : d.content new ≡ d.content mid) (journal : Journal) (lent : List (List ℕ)) (v : World)
    (ready : IsReady d new journal lent)
    (plays : replay_in (version_of windows) lent ≡ Some v) where
  lent_stand : StandsFor (d.content old) lent
  lent_stand = begin.stood lent (subst (λ (l : List ℕ). IsWhole l lent) same ready.whole)

  lent_play : replay_of (d.content old) lent ≡ Some v
  lent_play = sym (plays_told (d.content old) (version_of windows) lent told) ∙ plays

  -- a file that was too short for records has the first version's header now
  short_begins : length (d.content old) ≤ shortest → BeginsWith header (d.content new)
  short_begins short =
      subst (λ (l : List ℕ). BeginsWith header l) (sym same) (begin.first short)

  long_same : shortest < length (d.content old) → d.content new ≡ d.content old
  long_same long = same ∙ begin.long long

  same_version : file_version (d.content new) ≡ file_version (d.content old)
  same_version = elim (cases_lt shortest (length (d.content old))) [
    | inl long ↦ ap file_version (long_same long)
    | inr short ↦ version_begun (d.content new) (short_begins short)
        ∙ sym (version_short (d.content old) short)
  ]

  is_begun : IsBegun (d.content new) lent
  is_begun = (
    ready.whole,
    λ short. elim (cases_lt shortest (length (d.content old))) [
      | inl long ↦ absurd (omega (arith, long, short, ap length (long_same long)))
      | inr brief ↦ short_begins brief
    ],
  )

  pub is_legal : IsSoundWorld v → IsLegalFile (d.content old) lent v
  is_legal sound = record {
    stands = lent_stand;
    short = omega (arith, ready.ends, journal.short);
    plays = lent_play;
    sound = sound;
  }

  -- where the file was a legal one of these bodies, they are those
  module _ (bodies : List (List ℕ)) (w : World)
      (lawful : IsLegalFile (d.content old) bodies w) where
    same_bodies : lent ≡ bodies
    same_bodies =
        stands_for_one (d.content old) lent bodies lent_stand lawful.stands

    pub holds_these : Holds d new journal bodies w
    holds_these = record {
      ready = subst (λ (bs : List (List ℕ)). IsReady d new journal bs) same_bodies ready;
      begun = subst (λ (bs : List (List ℕ)). IsBegun (d.content new) bs) same_bodies is_begun;
      played = ap (λ (n : ℕ). replay_in n bodies) same_version ∙ lawful.plays;
      sound = lawful.sound;
    }

    pub same_world : v ≡ w
    same_world =
        some_is v w (sym lent_play ∙ ap (replay_of (d.content old)) same_bodies ∙ lawful.plays)

    -- so the world isn't refused
    pub is_sound : IsSoundWorld v
    is_sound = subst IsSoundWorld (sym same_world) lawful.sound

-- it was opened, and then read
module _ {D : Type 0} (d : Ghosts D) (old mid new : D)
    (run : LeavesOnly d old mid (IsNoWorse d old))
    (read : IsUntouched d mid new)
    (counts : (t : ℕ) (c : List ℕ) → t ≤ d.moment mid → d.image mid c → d.image_since mid t c) where
  pub read_no_worse : LeavesOnly d old new (IsNoWorse d old)
  read_no_worse =
      joined d old mid new (IsNoWorse d old) (d.image mid) (IsNoWorse d old) run read.moments
      (λ c is. is)
      (leaves_now d old mid (IsNoWorse d old) run counts)

-- ---- a legal file

module _ {D : Type 0} (d : Ghosts D) (old mid : D) (bodies : List (List ℕ)) (w : World)
    (lawful : IsLegalFile (d.content old) bodies w)
    (run : LeavesOnly d old mid (IsNoWorse d old)) where
  still : ImagesStandFor d old bodies → (c : List ℕ) → IsNoWorse d old c
      → StandsAlike (d.content old) bodies c
  still alike c (inl before) = alike c before
  still alike c (inr brief) = record {
    stands = inl (
      brief.1,
      stands_for_one (d.content old) bodies [] lawful.stands (inl (brief.0, refl)),
    );
    version = version_short c brief.1 ∙ sym (version_short (d.content old) brief.0);
  }

  -- nothing came
  pub no_more : ImagesStandFor d old bodies → GrowsLegally d old mid bodies []
  no_more alike =
      weaker d old mid _ _ (λ c left. none_yet bodies [] w c lawful (still alike c left)) run

  -- it was opened
  pub opened_safely : {A : Type 0} (limit : ℕ) (P : A → List (List ℕ) → Type 0) (x : A) → P x bodies
      → IsCrashSafe d old mid bodies [] limit P (Ok x)
  opened_safely limit P x at = record {
    moments = no_more;
    at = subst (λ (bs : List (List ℕ)). P x bs) (sym (append-nil bodies)) at;
    fits = inl refl;
    full = λ would most is. absurd (cc);
    not_journal = λ is. absurd (cc);
  }

  -- it wasn't opened, and that was no refusal
  pub stopped_safely : {T A : Type 0} (limit : ℕ) (P : A → List (List ℕ) → Type 0) (stop : Stop)
      (r : Result A Stop) → r ≡ Err stop
      → ((would most : ℕ) → IsErrOf {T = T} (Err stop) (Full would most) → ⊥)
      → (IsErrOf {T = T} (Err stop) NotJournal → ⊥)
      → IsCrashSafe d old mid bodies [] limit P r
  stopped_safely {T} {A} limit P stop r is no_full no_refusal =
      let moved : IsCrashSafe d old mid bodies [] limit P (Err stop) = record {
        moments = no_more;
        at = tt;
        fits = tt;
        full = λ would most is.
            absurd (no_full would most (other_stop {A = A} {B = T} stop (Full would most) is));
        not_journal = λ is. no_refusal (other_stop {A = A} {B = T} stop NotJournal is);
      } in
      subst (λ (r : Result A Stop). IsCrashSafe d old mid bodies [] limit P r) (sym is) moved

  journal_fault : {T : Type 0} (fault : OpenFault)
      → (IsErrOf {T = T} (Err fault) opening.NotJournal → IsJournal (d.content old) → ⊥)
      → IsErrOf {T = T} (Err (of_open fault)) NotJournal → ⊥
  journal_fault opening.NotJournal refused is = refused refl (bodies, lawful.stands, lawful.short)
  journal_fault opening.Memory refused is = absurd (cc)
  journal_fault opening.Disk refused is = absurd (cc)

  journal_not_full : {T : Type 0} (fault : OpenFault) (would most : ℕ)
      → IsErrOf {T = T} (Err (of_open fault)) (Full would most) → ⊥
  journal_not_full opening.NotJournal would most is = cc
  journal_not_full opening.Memory would most is = cc
  journal_not_full opening.Disk would most is = cc

  -- the journal wasn't opened
  pub not_opened : {T A : Type 0} (limit : ℕ) (P : A → List (List ℕ) → Type 0) (fault : OpenFault)
      (stop : Stop) → stop ≡ of_open fault
      → (IsErrOf {T = T} (Err fault) opening.NotJournal → IsJournal (d.content old) → ⊥)
      → IsCrashSafe d old mid bodies [] limit P (Err stop)
  not_opened {T} {A} limit P fault stop is refused =
      stopped_safely {T = T} limit P (of_open fault) (Err stop) (ap (λ (s : Stop). Err s) is)
      (journal_not_full fault) (journal_fault fault refused)

-- ---- a file that isn't legal

-- it is longer than one without records
pub illegal_long : (file : List ℕ) → IsIllegalFile file → shortest < length file
illegal_long file illegal =
    elim (leb (length file) shortest) as
    (λ b. leb (length file) shortest ≡ b → shortest < length file) [
      | true ↦ (λ is. absurd (illegal [] empty (record {
        stands = inl (leb-true (length file) shortest is, refl);
        short = omega arith;
        plays = ap (λ (n : ℕ). replay_in n [])
            (version_short file (leb-true (length file) shortest is))
            ∙ replay_from-nothing (Some empty);
        sound = sound_empty;
      })))
      | false ↦ (λ is. leb-false (length file) shortest is)
    ] refl

module _ {D : Type 0} (d : Ghosts D) (old mid : D) (long : shortest < length (d.content old)) where
  not_brief : (c : List ℕ) → IsNoWorse d old c → d.image old c
  not_brief c (inl before) = before
  not_brief c (inr brief) = absurd (omega (arith, long, brief.0))

  -- nothing was done to it
  pub untouched : LeavesOnly d old mid (IsNoWorse d old) → d.content mid ≡ d.content old
      → ((t : ℕ) (c : List ℕ) → t ≤ d.moment mid → d.image mid c → d.image_since mid t c)
      → IsUntouched d old mid
  untouched run same counts = record {
    same = same;
    crash = λ c now. not_brief c (run.each c (counts (d.moment old) c run.later now));
    moments = weaker d old mid _ _ not_brief run;
  }

  -- whatever the journal's fault was
  pub untouched_by : {T : Type 0} (fault : OpenFault)
      → (IsErrOf {T = T} (Err fault) opening.NotJournal → IsUntouched d old mid)
      → (IsErrOf {T = T} (Err fault) opening.Memory → IsUntouched d old mid)
      → (IsErrOf {T = T} (Err fault) opening.Disk → shortest < length (d.content old)
      → IsUntouched d old mid)
      → IsUntouched d old mid
  untouched_by opening.NotJournal refused ran_out failed = refused refl
  untouched_by opening.Memory refused ran_out failed = ran_out refl
  untouched_by opening.Disk refused ran_out failed = failed refl long
