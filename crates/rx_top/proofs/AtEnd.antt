-- What a journal has at the end of a play: the records of all lines, or those before the one that
-- has no room.
use Rattle.std.proofs.Common.{◌≡◌, ◌∙◌, ◌≤◌, ◌⊎◌, inl, inr, ℕ, ◌+◌, List, [], ◌∷◌, ◌++◌, Some, Err, refl, sym, ap, subst, arith, append_assoc, append-nil, length}
use Rattle.rx_disk.specs.declared.disk.Disk.{Ghosts}
use Rattle.rx_engine.specs.Opening.{Host, epoch_body, opened}
use Rattle.rx_engine.specs.Standing.{Standing}
use Rattle.rx_frame.specs.File.{end_of}
use Rattle.rx_frame.proofs.Records.{end_of-append}
use Rattle.rx_outside.specs.declared.stop.Stop.TheVariants.{Full}
use Rattle.rx_store.specs.Holds.{IsLegalFile, StandsLegally}
use Rattle.rx_store.specs.Safe.{IsFull}
use Rattle.rx_sync.specs.Remote.{Heard}
use Rattle.rx_world.specs.World.{World}
use Rattle.rx_top.specs.Chunks.{Grouping, all_of, in_groups, singly}
use Rattle.rx_top.specs.Run.{IsDue, KeepsRun, due_after, due_at, due_then, run_bodies}
use Rattle.rx_top.specs.Script.{line_effect}
use Rattle.rx_top.specs.Story.{chunks, next_chunk, state_after}
use Rattle.rx_top.specs.declared.early_end.EarlyEnd.TheVariants.{Work}
use Rattle.rx_top.proofs.Chunks.{all_of-append}
use Rattle.rx_top.proofs.Stopping.{none_before, none_in}
use Rattle.rx_top.proofs.Story.{chunks-append}

-- ---- all records

pub legal_now : (bodies : List (List ℕ)) (c : List ℕ) → StandsLegally bodies [] c
    → (after : World) × IsLegalFile c bodies after
legal_now bodies c s =
    let same : bodies ++ s.front ≡ bodies =
    ap (λ v. bodies ++ v) (none_before s.front s.rest s.whole) ∙ append-nil bodies in (
      s.world,
      subst (λ (bs : List (List ℕ)). IsLegalFile c bs s.world) same
          (record { stands = s.stands; short = s.short; plays = s.legal; sound = s.sound }),
    )

-- ---- a record without room

-- where a record was full the chunk of the next line was due, however lines are committed
due_full : (by : Grouping) (would most n : ℕ) (rest : List (List ℕ)) (s : Standing)
    → due_then by (Some (Full would most)) n rest s ≡ next_chunk line_effect n rest s
due_full singly would most n rest s = refl
due_full in_groups would most n rest s = refl

module _
    (host : Host) (heard : List Heard) {D : Type 0} (d : Ghosts D) (old new : D)
    (bodies : List (List ℕ)) (w : World)
    (limit : ℕ)
  where
    -- a record that is due next would end past the limit
    abbrev Past : List (List ℕ) → List (List ℕ) → ℕ → Type 0
    Past done rest would =
        ((done ≡ []) × IsFull d new bodies (epoch_body w ∷ []) would limit)
        ⊎ IsFull d new (bodies ++ run_bodies host heard w done)
        (due_after host heard w done rest) would limit

    pub past : (by : Grouping) (would most : ℕ) (done rest : List (List ℕ))
        → KeepsRun by host heard d old new bodies w limit (Err (Work (Full would most))) done rest
        → (most ≡ limit) × Past done rest would
    past by would most done rest (inl un) =
        let full = un.2.full would most refl in
        let epoch = epoch_body w ∷ [] in (
          full.0,
          inl (
            un.1,
            subst (λ (bs : List (List ℕ)). IsFull d new bs epoch would limit) (append-nil bodies)
                (subst (λ (n : ℕ). IsFull d new (bodies ++ []) epoch would n) full.0 full.1),
          ),
        )
    past by would most done rest (inr keeps) =
        let full = keeps.full would most refl in
        let before = bodies ++ run_bodies host heard w done in
        let is = due_full by would most (length done + 1) rest
        (state_after line_effect 1 done (opened host heard w)) in (
          full.0,
          inr (subst (λ (bs : List (List ℕ)). IsFull d new before bs would limit) is
              (subst (λ (n : ℕ). IsFull d new before
              (due_at by host heard w (Some (Full would most)) done rest) would n) full.0 full.1)),
        )

-- ---- records that all fit

-- a record among those that fit ends within the limit
pub among : (xs before : List (List ℕ)) (body : List ℕ) (behind due more all : List (List ℕ))
    → due ≡ before ++ body ∷ behind → all ≡ xs ++ (due ++ more)
    → end_of (xs ++ before ++ body ∷ []) ≤ end_of all
among xs before body behind due more all is whole =
    let front = xs ++ before ++ body ∷ [] in
    let same : all ≡ front ++ (behind ++ more) =
    whole ∙ ap (λ (l : List (List ℕ)). xs ++ (l ++ more)) is
    ∙ ap (λ (l : List (List ℕ)). xs ++ l) (append_assoc before (body ∷ behind) more)
    ∙ sym (append_assoc xs before (body ∷ (behind ++ more)))
    ∙ sym (append_assoc (xs ++ before) (body ∷ []) (behind ++ more)) in
    omega (arith, ap end_of same, end_of-append front (behind ++ more))

module _ (host : Host) (heard : List Heard) (bodies : List (List ℕ)) (w : World) where
  -- the records of all lines are those of the lines done, those of the next one, and more
  parts : (done : List (List ℕ)) (l : List ℕ) (ls : List (List ℕ))
      → bodies ++ run_bodies host heard w (done ++ l ∷ ls)
      ≡ (bodies ++ run_bodies host heard w done)
      ++ (due_after host heard w done (l ∷ ls)
      ++ all_of (chunks line_effect (length done + 1 + 1) ls
      (line_effect (length done + 1) l
      (state_after line_effect 1 done (opened host heard w))).next))
  parts done l ls =
      let s = opened host heard w in
      let first = (epoch_body w ∷ []) ∷ chunks line_effect 1 done s in
      let rest =
      chunks line_effect (length done + 1) (l ∷ ls) (state_after line_effect 1 done s) in
      ap (λ (cs : List (List (List ℕ))). bodies ++ all_of ((epoch_body w ∷ []) ∷ cs))
      (chunks-append line_effect 1 done (l ∷ ls) s (length done + 1) (omega arith))
      ∙ ap (λ (l : List (List ℕ)). bodies ++ l) (all_of-append first rest)
      ∙ sym (append_assoc bodies (all_of first) (all_of rest))

  -- where all records fit none is due that doesn't
  pub all_fit : {D : Type 0} (d : Ghosts D) (new : D) (input done rest : List (List ℕ))
      (would limit : ℕ) → IsDue host heard d new bodies w input done rest would limit
      → end_of (bodies ++ run_bodies host heard w input) ≤ limit → ⊥
  all_fit d new input done rest would limit due fits = elim due.past [
    | inl un ↦
        let past = un.1.past in
        let low = among bodies un.1.before un.1.body un.1.behind (epoch_body w ∷ [])
        (all_of (chunks line_effect 1 input (opened host heard w)))
        (bodies ++ run_bodies host heard w input) un.1.whole refl in
        omega (arith, past, low, fits, un.1.would_end)
    | inr full ↦ by_rest rest due.whole full
  ]
    where
      by_rest : (rest : List (List ℕ)) → input ≡ done ++ rest
          → IsFull d new (bodies ++ run_bodies host heard w done)
          (due_after host heard w done rest) would limit → ⊥
      by_rest [] whole full = none_in full.before full.behind full.body full.whole
      by_rest (l ∷ ls) whole full =
          let past = full.past in
          let all = bodies ++ run_bodies host heard w input in
          let low = among (bodies ++ run_bodies host heard w done) full.before full.body
          full.behind (due_after host heard w done (l ∷ ls)) _ all full.whole
          (ap (λ (v : List (List ℕ)). bodies ++ run_bodies host heard w v) whole
          ∙ parts done l ls) in
          omega (arith, past, low, fits, full.would_end)
