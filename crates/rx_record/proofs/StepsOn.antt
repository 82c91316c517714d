-- Steps that are read one after another.
use Rattle.std.proofs.Common.{◌≡◌, ℕ, zero, suc, ◌-◌, ◌<◌, List, [], ◌∷◌, ◌++◌, Option, Some, None, true, Ok, Err, refl, ap, subst, sym, ◌∙◌, arith, append_assoc}
use Rattle.rx_migrate.specs.declared.step.Step.{Step}
use Rattle.rx_record.specs.Reading.{Reading, ◌▸◌, rest_after, is_read}
use Rattle.rx_record.specs.Steps.{step_bytes, step_of, no_name, any_step_of, steps_from}
use Rattle.rx_record.proofs.Lists.{after_step, next_read}

-- no step goes by the one before
any_last : (n : ℕ) (last other : Option (Unit {0})) (bs : List ℕ)
    → steps_from n last bs ≡ steps_from n other bs
any_last zero last other bs = refl
any_last (suc n) last other bs = refl

-- past one step
pub rest_on : (n : ℕ) (bs : List ℕ) (s : Step) (more : List ℕ) → 0 < n → step_of bs ≡ Ok (s, more)
    → rest_after (steps_from n None bs) ≡ rest_after (steps_from (n - 1) None more)
rest_on n bs s more some h =
    after_step step_bytes no_name any_step_of n None bs s more some h
    ∙ ap rest_after (any_last (n - 1) (Some tt) None more)

-- steps before those that are read
abbrev pub with_front : List Step → Reading (List Step) → Reading (List Step)
with_front ss m = m ▸ λ xs rest. Ok (ss ++ xs, rest)

pub front_none : (m : Reading (List Step)) → with_front [] m ≡ m
front_none (Ok p) = refl
front_none (Err left) = refl

moved : (ss : List Step) (s : Step) (m : Reading (List Step))
    → with_front ss (m ▸ λ xs rest. Ok (s ∷ xs, rest)) ≡ with_front (ss ++ s ∷ []) m
moved ss s (Ok p) = ap (λ xs. Ok (xs, p.1)) (sym (append_assoc ss (s ∷ []) p.0))
moved ss s (Err left) = refl

-- a step is read behind those before
pub front_on : (n : ℕ) (ss : List Step) (bs : List ℕ) (s : Step) (more : List ℕ) → 0 < n
    → step_of bs ≡ Ok (s, more)
    → with_front ss (steps_from n None bs)
    ≡ with_front (ss ++ s ∷ []) (steps_from (n - 1) None more)
front_on zero ss bs s more some h = absurd (omega arith)
front_on (suc n) ss bs s more some h =
    let less : suc n - 1 ≡ n = omega arith in
    rw (h, less) (moved ss s (steps_from n (Some tt) more)
    ∙ ap (with_front (ss ++ s ∷ [])) (any_last n (Some tt) None more))

-- what was read of all is read behind the first
pub read_on : (n : ℕ) (bs : List ℕ) (s : Step) (more : List ℕ) → 0 < n → step_of bs ≡ Ok (s, more)
    → is_read (steps_from n None bs) ≡ true → is_read (steps_from (n - 1) None more) ≡ true
read_on n bs s more some h all =
    subst (λ m. is_read m ≡ true) (any_last (n - 1) (Some tt) None more)
    (next_read step_bytes no_name any_step_of n None bs s more tt some h refl all).0
