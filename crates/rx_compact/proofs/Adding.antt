-- Records that are added to a copy, one call after another.
use Rattle.std.proofs.Common.{◌≡◌, ◌∙◌, inl, inr, ap, sym, subst, refl, ℕ, List, [], ◌∷◌, ◌++◌, append_assoc, append-nil, Result, Ok, Err, IfOk, arith}
use Rattle.rx_value.proofs.Outcomes.{if_ok}
use Rattle.rx_disk.specs.declared.disk.Disk.{Ghosts}
use Rattle.rx_disk.specs.Moments.{LeavesOnly}
use Rattle.rx_disk.proofs.Moments.{weaker}
use Rattle.rx_outside.proofs.Counts.{rises_later}
use Rattle.rx_outside.specs.declared.stop.Stop.{Stop}
use Rattle.rx_outside.specs.declared.stop.Stop.TheVariants.{Memory}
use Rattle.rx_record.specs.Content.{Content}
use Rattle.rx_compact.specs.Writing.{Adds, HasWritten, IsFront, IsPast}
use Rattle.rx_compact.specs.declared.writing.Copying.{Copying}

-- a front of some is one of more
pub front_more : (cs more : List Content) (c : List ℕ) → IsFront cs c → IsFront (cs ++ more) c
front_more cs more c (inl short) = inl short
front_more cs more c (inr (front, rest, whole, read, stands, short, second)) =
    inr (
      front,
      rest ++ more,
      ap (λ (l : List Content). l ++ more) whole ∙ append_assoc front rest more,
      read,
      stands,
      short,
      second,
    )

-- so is one that is past the limit
pub past_more : (cs more : List Content) (would limit : ℕ) → IsPast cs would limit
    → IsPast (cs ++ more) would limit
past_more cs more would limit past = record {
  front = past.front;
  entry = past.entry;
  rest = past.rest ++ more;
  whole = ap (λ (l : List Content). l ++ more) past.whole
      ∙ append_assoc past.front (past.entry ∷ past.rest) more;
  would_end = past.would_end;
  past = past.past;
}

module _ {D : Type 0} (d : Ghosts D) where
  -- nothing was added yet
  pub adds_none : (old : D) (copy : Copying) → Adds d old old copy [] (Ok copy)
  adds_none old copy = record {
    written = λ told first cs had.
        subst (λ (l : List Content). HasWritten d first old copy l) (sym (append-nil cs)) had;
    moments = λ told first cs had.
        subst (λ (l : List Content). LeavesOnly d first old (IsFront l)) (sym (append-nil cs))
        had.moments;
    full = λ told first cs had would most is. absurd (cc);
    limit = refl;
    not_journal = λ is. absurd (cc);
    cause = record { later = omega arith; failed = λ is. absurd (cc) };
  }

  -- some were added, and then more
  pub adds_then : (old mid new : D) (copy next : Copying) (xs ys : List Content)
      (r : Result Copying Stop) → Adds d old mid copy xs (Ok next) → Adds d mid new next ys r
      → Adds d old new copy (xs ++ ys) r
  adds_then old mid new copy next xs ys r first then = record {
    written = λ told start cs had.
        subst (λ (l : List Content). IfOk r (λ done. HasWritten d start new done l))
        (append_assoc cs xs ys)
        (then.written told start (cs ++ xs) (first.written told start cs had));
    moments = λ told start cs had.
        subst (λ (l : List Content). LeavesOnly d start new (IsFront l)) (append_assoc cs xs ys)
        (then.moments told start (cs ++ xs) (first.written told start cs had));
    full = λ told start cs had would most is.
        let past = then.full told start (cs ++ xs)
        (first.written told start cs had) would most is in (
          past.0 ∙ first.limit,
          subst (λ (l : List Content). IsPast l would most) (append_assoc cs xs ys) past.1,
        );
    limit = if_ok r (λ done. done.journal.limit ≡ next.journal.limit)
        (λ done. done.journal.limit ≡ copy.journal.limit) then.limit (λ done is. is ∙ first.limit);
    not_journal = then.not_journal;
    cause = record {
      later = omega (arith, first.cause.later, then.cause.later);
      failed = λ is. rises_later (d.faults old) (d.faults mid) (d.faults new) first.cause.later
          (then.cause.failed is);
    };
  }

  -- memory ran out before more was done
  pub adds_memory : (old mid : D) (copy next : Copying) (xs ys : List Content)
      (r : Result Copying Stop) → r ≡ Err Memory → Adds d old mid copy xs (Ok next)
      → Adds d old mid copy (xs ++ ys) r
  adds_memory old mid copy next xs ys r is first =
      subst (λ (x : Result Copying Stop). Adds d old mid copy (xs ++ ys) x) (sym is) (record {
        written = λ told start cs had. tt;
        moments = λ told start cs had.
            weaker d start mid (IsFront (cs ++ xs)) (IsFront (cs ++ (xs ++ ys)))
            (λ c front. subst (λ (l : List Content). IsFront l c) (append_assoc cs xs ys)
            (front_more (cs ++ xs) ys c front))
            (first.moments told start cs had);
        full = λ told start cs had would most is. absurd (cc);
        limit = tt;
        not_journal = λ is. absurd (cc);
        cause = record { later = first.cause.later; failed = λ is. absurd (cc) };
      })

  -- a call stopped, so what would come next isn't added either
  pub adds_more : (old new : D) (copy : Copying) (xs ys : List Content) (r : Result Copying Stop)
      (stop : Stop) → r ≡ Err stop → Adds d old new copy xs r → Adds d old new copy (xs ++ ys) r
  adds_more old new copy xs ys r stop is adds =
      subst (λ (x : Result Copying Stop). Adds d old new copy (xs ++ ys) x) (sym is)
      (let had : Adds d old new copy xs (Err stop) =
      subst (λ (x : Result Copying Stop). Adds d old new copy xs x) is adds in
      record {
        written = λ told start cs before. tt;
        moments = λ told start cs before.
            weaker d start new (IsFront (cs ++ xs)) (IsFront (cs ++ (xs ++ ys)))
            (λ c front. subst (λ (l : List Content). IsFront l c) (append_assoc cs xs ys)
            (front_more (cs ++ xs) ys c front))
            (had.moments told start cs before);
        full = λ told start cs before would most full.
            let past = had.full told start cs before would most full in (
              past.0,
              subst (λ (l : List Content). IsPast l would most) (append_assoc cs xs ys)
                  (past_more (cs ++ xs) ys would most past.1),
            );
        limit = tt;
        not_journal = had.not_journal;
        cause = record { later = had.cause.later; failed = had.cause.failed };
      })

  -- and hands on why
  pub adds_stopped : (old new : D) (copy : Copying) (xs ys : List Content)
      (r : Result Copying Stop) (stop : Stop) → r ≡ Err stop → Adds d old new copy xs (Err stop)
      → Adds d old new copy (xs ++ ys) r
  adds_stopped old new copy xs ys r stop is adds =
      subst (λ (x : Result Copying Stop). Adds d old new copy (xs ++ ys) x) (sym is)
      (adds_more old new copy xs ys (Err stop) stop refl adds)
