-- Fronts beside their queries.
use Rattle.std.proofs.Common.{◌≡◌, ℕ, zero, suc, ◌<◌, List, [], ◌∷◌, ◌++◌, length, take, get_or, sym, subst, arith}
use Rattle.std.proofs.Math.ListN.{set}
use Rattle.rx_document.specs.declared.change.Change.{Change}
use Rattle.rx_collection.specs.Held.{Held}
use Rattle.rx_observe.specs.Following.{Becomes}
use Rattle.rx_observe.specs.Front.{no_front, IsFront, AreFronts}
use Rattle.rx_observe.specs.Observing.{Queries, AllRight, each, and_query}
use Rattle.rx_observe.specs.Watched.{Watched}
use Rattle.rx_observe.specs.declared.front.Front.{Front}
use Rattle.rx_observe.proofs.Fronts.{nothing_kept}

module _ (c : Held) where
  -- none are kept
  pub no_fronts : (qs : Queries) → AreFronts c qs []
  no_fronts [] = tt
  no_fronts (q ∷ qs) = tt

  -- fewer are kept
  pub fewer : (n : ℕ) (qs : Queries) (fs : List Front) → AreFronts c qs fs
      → AreFronts c qs (take n fs)
  fewer zero qs fs h = no_fronts qs
  fewer (suc n) [] fs h = tt
  fewer (suc n) (q ∷ qs) [] h = tt
  fewer (suc n) (q ∷ qs) (f ∷ fs) h = (h.0, fewer n qs fs h.1)

  -- one more without rows
  pub one_empty : (qs : Queries) (fs : List Front) → AreFronts c qs fs
      → AreFronts c qs (fs ++ no_front ∷ [])
  one_empty [] fs h = tt
  one_empty (q ∷ qs) [] h = (nothing_kept q.1.query c.documents, no_fronts qs)
  one_empty (q ∷ qs) (f ∷ fs) h = (h.0, one_empty qs fs h.1)

  -- one past the queries
  pub one_past : (qs : Queries) (fs : List Front) (f : Front) → length fs ≡ length qs
      → AreFronts c qs fs → AreFronts c qs (fs ++ f ∷ [])
  one_past [] fs f n h = tt
  one_past (q ∷ qs) [] f n h = absurd (omega arith)
  one_past (q ∷ qs) (g ∷ fs) f n h = (h.0, one_past qs fs f (omega arith) h.1)

  -- a query more, with its front
  pub one_more : (qs : Queries) (fs : List Front) (name : List ℕ) (w : Watched) (f : Front)
      → length fs ≡ length qs → IsFront w.query c.documents f → AreFronts c qs fs
      → AreFronts c (and_query qs name w) (fs ++ f ∷ [])
  one_more [] [] name w f n front h = (front, tt)
  one_more [] (g ∷ fs) name w f n front h = absurd (omega arith)
  one_more (q ∷ qs) [] name w f n front h = absurd (omega arith)
  one_more (q ∷ qs) (g ∷ fs) name w f n front h =
      (h.0, one_more qs fs name w f (omega arith) front h.1)

  -- what is done to each query, and not to what it asks for
  pub each_beside : (g : Watched → Watched) → ((w : Watched) → (g w).query ≡ w.query)
      → (qs : Queries) (fs : List Front) → AreFronts c qs fs → AreFronts c (each g qs) fs
  each_beside g same [] fs h = tt
  each_beside g same (q ∷ qs) [] h = tt
  each_beside g same (q ∷ qs) (f ∷ fs) h = (
    subst (λ asked. IsFront asked c.documents f) (sym (same q.1)) h.0,
    each_beside g same qs fs h.1,
  )

-- ---- the first i have followed a change

-- those over the new collection, and the others over the old one
abbrev pub Until : Held → Held → ℕ → Queries → List Front → Type 0
Until new old zero qs fs = AreFronts old qs fs
Until new old (suc i) [] fs = Unit {0}
Until new old (suc i) (q ∷ qs) [] = Unit {0}
Until new old (suc i) (q ∷ qs) (f ∷ fs) = IsFront q.1.query new.documents f × Until new old i qs fs

module _ (new old : Held) where
  -- the next one is as it was
  pub until_at : (i : ℕ) (qs : Queries) (fs : List Front) (q : List ℕ × Watched) (f : Front)
      → i < length qs → i < length fs → Until new old i qs fs
      → IsFront (get_or qs i q).1.query old.documents (get_or fs i f)
  until_at i [] fs q f h k u = absurd (omega arith)
  until_at i (p ∷ qs) [] q f h k u = absurd (omega arith)
  until_at zero (p ∷ qs) (g ∷ fs) q f h k u = u.0
  until_at (suc i) (p ∷ qs) (g ∷ fs) q f h k u =
      until_at i qs fs q f (omega arith) (omega arith) u.1

  -- once it has followed there is one more
  pub until_step : (i : ℕ) (qs : Queries) (fs : List Front) (q : List ℕ × Watched) (f : Front)
      → i < length qs → i < length fs → Until new old i qs fs
      → IsFront (get_or qs i q).1.query new.documents f → Until new old (suc i) qs (set fs i f)
  until_step i [] fs q f h k u front = absurd (omega arith)
  until_step i (p ∷ qs) [] q f h k u front = absurd (omega arith)
  until_step zero (p ∷ qs) (g ∷ fs) q f h k u front = (front, u.1)
  until_step (suc i) (p ∷ qs) (g ∷ fs) q f h k u front =
      (u.0, until_step i qs fs q f (omega arith) (omega arith) u.1 front)

  -- at the end all have
  pub until_end : (qs : Queries) (fs : List Front) → Until new old (length qs) qs fs
      → AreFronts new qs fs
  until_end [] fs u = tt
  until_end (q ∷ qs) [] u = tt
  until_end (q ∷ qs) (f ∷ fs) u = (u.0, until_end qs fs u.1)

-- what a loop over the queries keeps of their fronts
pub record Following (c : Change) (i : ℕ) (qs : Queries) (fs : List Front) (new : Held) : Type 0
  where
    pub old : Held
    pub becomes : Becomes c old new
    pub right : AllRight old qs
    pub fronts : Until new old i qs fs
    pub aligned : length fs ≡ length qs
