-- How a line comes.
use Rattle.std.proofs.Common.{◌≡◌, ◌∙◌, refl, sym, ap, ℕ, ◌+◌, true, false, List, [], ◌∷◌, ◌++◌, length, arith, append_assoc, append-nil, length-append, ◌<◌, zero, suc, take, Err, IsErrOf, Bool, ◌==◌, inl, inr}
use Rattle.std.proofs.lemmas.Bool.Decides.{eqb_tells}
use Rattle.rx_top.specs.declared.reader.Next.{Next}
use Rattle.rx_top.specs.declared.early_end.ReadFault.{ReadFault}
use Rattle.rx_top.specs.declared.early_end.ReadFault.TheVariants as fault
use Rattle.rx_script.specs.Line.{max_line_bytes}
use Rattle.rx_top.specs.Reader.{Reading, Advances, Comes, TakesKept, StopsBy, Took, kept_front, rest_of}
use Rattle.rx_top.specs.declared.reader.Next.TheVariants.{Line, Last}
use Rattle.rx_serve.proofs.Feeds.{within-append}
use Rattle.rx_top.proofs.Ends.{kept_kept}

-- the line's end is there
pub comes_line : (old new : Reading) (s left : List ℕ) → Comes old.line s (old.unread ++ left)
    → Advances true old new
    → TakesKept Line new.line s (new.unread ++ left)
comes_line old new s left come adv = (
  come.0 ++ adv.0,
  adv.3 ∙ ap (λ v. kept_front (v ++ adv.0)) come.3 ∙ kept_kept come.0 adv.0,
  (
    come.1 ∙ ap (λ v. come.0 ++ (v ++ left)) adv.1
        ∙ ap (λ v. come.0 ++ v) (append_assoc adv.0 (10 ∷ new.unread) left)
        ∙ sym (append_assoc come.0 adv.0 (10 ∷ (new.unread ++ left))),
    within-append come.0 adv.0 come.2 adv.2,
  ),
)

-- all that was read is of the line
pub comes_all : (old new : Reading) (s left : List ℕ) → Comes old.line s (old.unread ++ left)
    → Advances false old new
    → Comes new.line s left
comes_all old new s left come adv = (
  come.0 ++ old.unread,
  come.1 ∙ sym (append_assoc come.0 old.unread left),
  within-append come.0 old.unread come.2 adv.1,
  adv.2 ∙ ap (λ v. kept_front (v ++ old.unread)) come.3 ∙ kept_kept come.0 old.unread,
)

-- a piece more was read
pub comes_on : (line line' s left left' : List ℕ) → line' ≡ line → left ≡ left' → Comes line s left
    → Comes line' s left'
comes_on line line' s left left' e f come =
    (come.0, come.1 ∙ ap (λ v. come.0 ++ v) f, come.2, e ∙ come.3)

empty_take : (n : ℕ) (xs : List ℕ) → 0 < n → [] ≡ take n xs → xs ≡ []
empty_take zero xs more h = absurd (omega (arith, more))
empty_take (suc n) [] more h = refl
empty_take (suc n) (x ∷ xs) more h = cc

empty_line : (front : List ℕ) → [] ≡ kept_front front → front ≡ []
empty_line front h = empty_take (max_line_bytes + 1) front (omega arith) h

-- nothing is left, and nothing came
pub comes_end : (line s left : List ℕ) → Comes line s left → line ≡ [] → left ≡ [] → s ≡ []
comes_end line s left come e f =
    come.1 ∙ ap (λ v. v ++ left) (empty_line come.0 (sym e ∙ come.3)) ∙ f

-- nothing is left, and something came
pub comes_last : (line s left new : List ℕ) → Comes line s left → (line ≡ [] → ⊥) → left ≡ []
    → new ≡ []
    → TakesKept Last line s new
comes_last line s left new come held f none = (
  come.0,
  come.3,
  (
    come.1 ∙ ap (λ v. come.0 ++ v) f
        ∙ append-nil come.0,
    come.2,
    λ e. held (come.3 ∙ ap kept_front e),
    none,
  ),
)

-- none ended in it, whatever the reading stopped by
pub stops_by : (line s left left' : List ℕ) → Comes line s left → (why : ReadFault)
    → ((why ≡ fault.TooLong → ⊥) → left' ≡ left)
    → (why ≡ fault.TooLong → (b : ℕ) × (left ≡ b ∷ left')) → StopsBy why s left'
stops_by line s left left' come fault.Failed keeps long =
    (come.0, come.1 ∙ ap (λ v. come.0 ++ v) (sym (keeps (λ e. cc))), come.2)
stops_by line s left left' come fault.TooLong keeps long =
    let byte = long refl in
    (byte.0, (come.0, come.1 ∙ ap (λ v. come.0 ++ v) byte.1, come.2))
stops_by line s left left' come fault.Memory keeps long = (
  [],
  omega arith,
  (come.0, come.1 ∙ ap (λ v. come.0 ++ v) (sym (keeps (λ e. cc))), come.2),
)

pub fault_of : (a b : ReadFault) → IsErrOf {T = Bool} (Err a) b → a ≡ b
fault_of a b is = cc

-- bytes more were given
pub took_more : (given g g' : ℕ) (l0 l1 l2 u : List ℕ) → Took given l0 l1 (λ n. n ≡ g)
    → l1 ≡ u ++ l2 → g' ≡ g + length u
    → Took given l0 l2 (λ n. n ≡ g')
took_more given g g' l0 l1 l2 u t e count = (
  t.0 ++ u,
  t.1 ∙ ap (λ v. t.0 ++ v) e ∙ sym (append_assoc t.0 u l2),
  omega (arith, t.2, count, length-append t.0 u),
)

pub took_long : (given g m : ℕ) (l0 l1 l2 : List ℕ) → Took given l0 l1 (λ n. n ≡ g) → g ≡ m
    → (b : ℕ) × (l1 ≡ b ∷ l2)
    → Took given l0 l2 (λ n. n ≡ m + 1)
took_long given g m l0 l1 l2 t full long =
    took_more given g (m + 1) l0 l1 l2 (long.0 ∷ []) t long.1 (omega (arith, full))

-- an error is the same whatever would have been answered
pub same_err : (stop e : ReadFault) → IsErrOf {T = Next} (Err stop) e
    → IsErrOf {T = Bool} (Err stop) e
same_err stop e h = let same : stop ≡ e = cc in ap Err same

some : (b : ℕ) (bs : List ℕ) → (length (b ∷ bs) == 0) ≡ false
some b bs = elim (eqb_tells (length (b ∷ bs)) 0)
    [ inl w ↦ absurd (omega (arith, w.1)) | inr w ↦ w.0 ]

-- nothing is left
pub comes_rest : (line s left new : List ℕ) → Comes line s left → left ≡ [] → new ≡ []
    → TakesKept (rest_of line) line s new
comes_rest [] s left new come none after = ([], refl, (comes_end [] s left come refl none, after))
comes_rest (b ∷ bs) s left new come none after =
    rw (some b bs) (comes_last (b ∷ bs) s left new come (λ e. cc) none after)
