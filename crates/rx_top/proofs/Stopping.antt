-- The stop line after what was told.
use Rattle.std.proofs.Common.{◌≡◌, ◌∙◌, refl, ap, subst, ℕ, ◌≤◌, List, [], ◌∷◌, ◌++◌, ◌⊎◌, inl, inr, arith, sym, append_assoc, append-nil, Result, Ok, Err, OnOk, OnErr}
use Rattle.rx_outside.proofs.Counts.{rises_later}
use Rattle.std.proofs.lemmas.Bool.Decides.{leb_tells}
use Rattle.rx_outside.specs.Failed.{Rises}
use Rattle.rx_outside.specs.Sink.{WritesFront}
use Rattle.rx_top.specs.Stops.{Appends, EndsWith, Stops}

stopped : (f0 f1 f2 : ℕ) (mid mid' new line : List ℕ) → f0 ≤ f1 → mid ≡ mid'
    → (new ≡ mid ++ line) ⊎ (WritesFront mid new line × Rises f1 f2)
    → (new ≡ mid' ++ line) ⊎ (WritesFront mid' new line × Rises f0 f2)
stopped f0 f1 f2 mid mid' new line h e (inl whole) = inl (whole ∙ ap (λ v. v ++ line) e)
stopped f0 f1 f2 mid mid' new line h e (inr front) =
    let P : List ℕ → Type 0 = λ v. WritesFront v new line in
    inr (subst P e front.0, rises_later f0 f1 f2 h front.1)

-- the sink had what was told, and then the line or a front of it
pub stops_told : (tells : Type 0) (f0 f1 f2 : ℕ) (old mid new told line : List ℕ) → f0 ≤ f1
    → (tells → mid ≡ old ++ told) → EndsWith tells f1 f2 mid new line
    → Stops tells f0 f2 old new told line
stops_told tells f0 f1 f2 old mid new told line h e wrote =
    λ t. stopped f0 f1 f2 mid (old ++ told) new line h (e t) (wrote t)

-- a count that rose stays risen
pub rises_still : (f0 f1 f2 : ℕ) → f0 ≤ f1 → f1 ≤ f2 → Rises f0 f1 → Rises f0 f2
rises_still f0 f1 f2 low on (inl less) = inl (omega (arith, less, on))
rises_still f0 f1 f2 low on (inr last) = elim (leb_tells f2 f1) [
  | inl w ↦ inr (let same : f2 ≡ f1 = omega (arith, on, w.1) in same ∙ last)
  | inr w ↦ inl (omega (arith, low, w.1))
]

-- the faults are counted from an earlier time on
pub ends_later : (tells : Type 0) (f0 f1 f2 : ℕ) (old new line : List ℕ) → f0 ≤ f1
    → EndsWith tells f1 f2 old new line → EndsWith tells f0 f2 old new line
ends_later tells f0 f1 f2 old new line h ends =
    λ t. stopped f0 f1 f2 old old new line h refl (ends t)

-- ---- bytes that joined

pub none_joined : (old : List ℕ) → Appends old old
none_joined old = ([], sym (append-nil old))

pub joined_on : (old : List ℕ) {mid new : List ℕ} → Appends old mid → Appends mid new
    → Appends old new
joined_on old a b =
    (a.0 ++ b.0, b.1 ∙ ap (λ v. v ++ b.0) a.1 ∙ append_assoc old a.0 b.0)

-- ---- the last line

-- a call that writes the line, or the front of it that the sink takes
pub ended_with : {T E : Type 0} (tells : Type 0) (f0 f1 : ℕ) (old new line : List ℕ)
    (r : Result T E) → (tells → OnOk r (new ≡ old ++ line))
    → (tells → OnErr r (WritesFront old new line)) → OnErr r (Rises f0 f1)
    → EndsWith tells f0 f1 old new line
ended_with tells f0 f1 old new line (Ok x) ok err failed = λ t. inl (ok t)
ended_with tells f0 f1 old new line (Err x) ok err failed = λ t. inr (err t, failed)

-- a front of the first part
pub front_short : (old new a b : List ℕ) → WritesFront old new a → WritesFront old new (a ++ b)
front_short old new a b f =
    (f.0, f.1 ++ b, ap (λ v. v ++ b) f.2 ∙ append_assoc f.0 f.1 b, f.3)

-- the first part, and a front of the second
pub front_more : (old mid new a b : List ℕ) → mid ≡ old ++ a → WritesFront mid new b
    → WritesFront old new (a ++ b)
front_more old mid new a b e f = (
  a ++ f.0,
  f.1,
  ap (λ v. a ++ v) f.2 ∙ sym (append_assoc a f.0 f.1),
  f.3 ∙ ap (λ v. v ++ f.0) e ∙ append_assoc old a f.0,
)

-- three parts
pub three : (old one two new a b c : List ℕ) → one ≡ old ++ a → two ≡ one ++ b → new ≡ two ++ c
    → new ≡ old ++ (a ++ (b ++ c))
three old one two new a b c e f h =
    h ∙ ap (λ v. v ++ c) (f ∙ ap (λ v. v ++ b) e) ∙ append_assoc (old ++ a) b c
    ∙ append_assoc old a (b ++ c)

pub none_in : {A : Type 0} (xs ys : List A) (y : A) → [] ≡ xs ++ y ∷ ys → ⊥
none_in [] ys y h = cc
none_in (x ∷ xs) ys y h = cc

pub none_before : {A : Type 0} (xs ys : List A) → [] ≡ xs ++ ys → xs ≡ []
none_before [] ys h = refl
none_before (x ∷ xs) ys h = cc

-- where no last line is due none is there
pub no_line : (f0 f2 : ℕ) (a b : List ℕ) → (b ≡ a ++ []) ⊎ (WritesFront a b [] × Rises f0 f2)
    → b ≡ a
no_line f0 f2 a b (inl e) = e ∙ append-nil a
no_line f0 f2 a b (inr f) =
    f.0.3 ∙ ap (λ v. a ++ v) (none_before f.0.0 f.0.1 f.0.2) ∙ append-nil a
