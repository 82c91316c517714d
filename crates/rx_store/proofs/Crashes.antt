-- Crash-safe calls, one after another, and their stops.
use Rattle.std.proofs.Common.{◌≡◌, ◌⊎◌, inl, inr, ℕ, ◌≤◌, List, [], ◌∷◌, ◌++◌, Result, Ok, Err, IsErrOf, refl, sym, ◌∙◌, ap, subst, append_assoc, append-nil}
use Rattle.rx_value.proofs.Outcomes.{if_ok}
use Rattle.rx_disk.specs.declared.disk.Disk.{Ghosts}
use Rattle.rx_frame.specs.File.{StandsFor, end_of}
use Rattle.rx_outside.specs.declared.stop.Stop.{Stop}
use Rattle.rx_outside.specs.declared.stop.Stop.TheVariants.{NotJournal, Full, Memory}
use Rattle.rx_store.specs.Holds.{GrowsLegally, ImagesStandFor}
use Rattle.rx_store.specs.Safe.{IsCrashSafe, IsFull}
use Rattle.rx_store.proofs.Growing.{grows_on, grows_longer}

-- ---- what was answered

-- what might have been answered otherwise says nothing of a stop
pub other_stop : {A B : Type 0} (stop cause : Stop) → IsErrOf {T = A} (Err stop) cause
    → IsErrOf {T = B} (Err stop) cause
other_stop {A} stop cause is = ap (λ (s : Stop). Err s) (ap stop_or is)
  where
    stop_or : Result A Stop → Stop
    stop_or (Ok x) = stop
    stop_or (Err s) = s

-- ---- numbers of bodies

-- all of the first, and of those behind them
fits_both : (bodies xs ys : List (List ℕ)) (limit : ℕ)
    → (xs ≡ []) ⊎ (end_of (bodies ++ xs) ≤ limit)
    → (ys ≡ []) ⊎ (end_of ((bodies ++ xs) ++ ys) ≤ limit)
    → ((xs ++ ys) ≡ []) ⊎ (end_of (bodies ++ (xs ++ ys)) ≤ limit)
fits_both bodies xs ys limit first (inr fit) =
    inr (subst (λ (bs : List (List ℕ)). end_of bs ≤ limit) (append_assoc bodies xs ys) fit)
fits_both bodies xs ys limit (inl none) (inl none') =
    inl (ap (λ (l : List (List ℕ)). l ++ ys) none ∙ none')
fits_both bodies xs ys limit (inr fit) (inl none') =
    let all : xs ≡ xs ++ ys = sym (append-nil xs)
    ∙ sym (ap (λ (l : List (List ℕ)). xs ++ l) none') in
    inr (subst (λ (l : List (List ℕ)). end_of (bodies ++ l) ≤ limit) all fit)

module _ {D : Type 0} (d : Ghosts D) where
  -- ---- a record that is too much

  -- behind others
  pub full_behind : (disk : D) (bodies xs ys : List (List ℕ)) (would limit : ℕ)
      → IsFull d disk (bodies ++ xs) ys would limit → IsFull d disk bodies (xs ++ ys) would limit
  full_behind disk bodies xs ys would limit full =
      let all : (bodies ++ xs) ++ full.before ≡ bodies ++ (xs ++ full.before) =
      append_assoc bodies xs full.before in
      record {
        before = xs ++ full.before;
        body = full.body;
        behind = full.behind;
        whole = ap (λ l. xs ++ l) full.whole
            ∙ sym (append_assoc xs full.before (full.body ∷ full.behind));
        would_end = full.would_end ∙ ap (λ (bs : List (List ℕ)). end_of (bs ++ full.body ∷ [])) all;
        past = full.past;
        content = subst (λ (bs : List (List ℕ)). StandsFor (d.content disk) bs) all full.content;
        images = subst (λ (bs : List (List ℕ)). ImagesStandFor d disk bs) all full.images;
      }

  -- before others
  pub full_longer : (disk : D) (bodies xs ys : List (List ℕ)) (would limit : ℕ)
      → IsFull d disk bodies xs would limit → IsFull d disk bodies (xs ++ ys) would limit
  full_longer disk bodies xs ys would limit full = record {
    before = full.before;
    body = full.body;
    behind = full.behind ++ ys;
    whole = ap (λ (l : List (List ℕ)). l ++ ys) full.whole
        ∙ append_assoc full.before (full.body ∷ full.behind) ys;
    would_end = full.would_end;
    past = full.past;
    content = full.content;
    images = full.images;
  }

  -- ---- stops

  -- a stop is the same, whatever else might have been answered
  pub same_stop : {A B : Type 0} (old new : D) (bodies more : List (List ℕ)) (limit : ℕ)
      (P : A → List (List ℕ) → Type 0) (Q : B → List (List ℕ) → Type 0) (stop : Stop)
      (r : Result B Stop)
      → r ≡ Err stop → IsCrashSafe d old new bodies more limit P (Err stop)
      → IsCrashSafe d old new bodies more limit Q r
  same_stop {A} {B} old new bodies more limit P Q stop r is safe =
      let moved : IsCrashSafe d old new bodies more limit Q (Err stop) = record {
        moments = safe.moments;
        at = tt;
        fits = tt;
        full = λ would most is.
            safe.full would most (other_stop {A = B} {B = A} stop (Full would most) is);
        not_journal = λ is. safe.not_journal (other_stop {A = B} {B = A} stop NotJournal is);
      } in
      subst (λ (r : Result B Stop). IsCrashSafe d old new bodies more limit Q r) (sym is) moved

  -- and so is that of a call which was to add more after it
  pub sooner : {A B : Type 0} (old new : D) (bodies xs ys : List (List ℕ)) (limit : ℕ)
      (P : A → List (List ℕ) → Type 0) (Q : B → List (List ℕ) → Type 0) (stop : Stop)
      (r : Result B Stop)
      → r ≡ Err stop → IsCrashSafe d old new bodies xs limit P (Err stop)
      → IsCrashSafe d old new bodies (xs ++ ys) limit Q r
  sooner {A} old new bodies xs ys limit P Q stop r is safe =
      same_stop old new bodies (xs ++ ys) limit P Q stop r is (record {
        moments = λ alike. grows_longer d old new bodies xs ys (safe.moments alike);
        at = tt;
        fits = tt;
        full = λ would most is.
            let full = safe.full would most is in
            (full.0, full_longer new bodies xs ys would most full.1);
        not_journal = safe.not_journal;
      })

  -- memory ran out, wherever that was
  pub ran_out : {A : Type 0} (old new : D) (bodies more : List (List ℕ)) (limit : ℕ)
      (P : A → List (List ℕ) → Type 0) (r : Result A Stop) → r ≡ Err Memory
      → (ImagesStandFor d old bodies → GrowsLegally d old new bodies more)
      → IsCrashSafe d old new bodies more limit P r
  ran_out {A} old new bodies more limit P r is moments =
      let moved : IsCrashSafe d old new bodies more limit P (Err Memory) = record {
        moments = moments;
        at = tt;
        fits = tt;
        full = λ would most is. absurd (cc);
        not_journal = λ is. absurd (cc);
      } in
      subst (λ (r : Result A Stop). IsCrashSafe d old new bodies more limit P r) (sym is) moved

  -- ---- answers

  -- what was answered is answered as another thing
  pub answered : {A B : Type 0} (old new : D) (bodies more : List (List ℕ)) (limit : ℕ)
      (P : A → List (List ℕ) → Type 0) (Q : B → List (List ℕ) → Type 0) (x : A) (y : B)
      → IsCrashSafe d old new bodies more limit P (Ok x)
      → (P x (bodies ++ more) → Q y (bodies ++ more))
      → IsCrashSafe d old new bodies more limit Q (Ok y)
  answered old new bodies more limit P Q x y safe at = record {
    moments = safe.moments;
    at = at safe.at;
    fits = safe.fits;
    full = λ would most is. absurd (cc);
    not_journal = λ is. absurd (cc);
  }

  -- nothing was to come, and nothing was done
  pub idle : {A : Type 0} (disk : D) (bodies : List (List ℕ)) (limit : ℕ)
      (P : A → List (List ℕ) → Type 0) (x : A)
      → (ImagesStandFor d disk bodies → GrowsLegally d disk disk bodies []) → P x bodies
      → IsCrashSafe d disk disk bodies [] limit P (Ok x)
  idle disk bodies limit P x moments at = record {
    moments = moments;
    at = subst (λ (bs : List (List ℕ)). P x bs) (sym (append-nil bodies)) at;
    fits = inl refl;
    full = λ would most is. absurd (cc);
    not_journal = λ is. absurd (cc);
  }

  -- ---- one call after another
  pub then : {A B : Type 0} (old mid new : D) (bodies xs ys : List (List ℕ)) (limit : ℕ)
      (P : A → List (List ℕ) → Type 0) (Q : B → List (List ℕ) → Type 0) (x : A) (r : Result B Stop)
      → IsCrashSafe d old mid bodies xs limit P (Ok x) → ImagesStandFor d mid (bodies ++ xs)
      → IsCrashSafe d mid new (bodies ++ xs) ys limit Q r
      → IsCrashSafe d old new bodies (xs ++ ys) limit Q r
  then old mid new bodies xs ys limit P Q x r first alike next = record {
    moments =
        λ before. grows_on d old mid new bodies xs ys (first.moments before) (next.moments alike);
    at = if_ok r _ _ next.at
        (λ y at. subst (λ (bs : List (List ℕ)). Q y bs) (append_assoc bodies xs ys) at);
    fits = if_ok r _ _ next.fits (λ y fits. fits_both bodies xs ys limit first.fits fits);
    full = λ would most is.
        let full = next.full would most is in
        (full.0, full_behind new bodies xs ys would most full.1);
    not_journal = next.not_journal;
  }
