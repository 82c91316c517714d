-- How a line comes.
use Rattle.std.proofs.Common.{◌≡◌, ◌∙◌, sym, ap, ℕ, ◌≤◌, List, [], ◌∷◌, ◌++◌, length, arith, append_assoc, append-nil, length-append, Option, Some, None, subst}
use Rattle.rx_wire.specs.Limits.{longest_line}
use Rattle.rx_serve.specs.Calling.{IsNoLine, IsTooLong}
use Rattle.rx_serve.specs.Incoming.{Received, Advances, Comes, IsNext}
use Rattle.rx_serve.specs.Lines.{is_within}
use Rattle.rx_serve.specs.declared.incoming.Next.{Next}
use Rattle.rx_serve.specs.declared.incoming.Next.TheVariants.{Line, TooLong, End}
use Rattle.rx_serve.proofs.Feeds.{within-append, within_byte}

-- the line's end is there
pub comes_line : (old new : Received) (s left : List ℕ) → Comes old.line s (old.unread ++ left)
    → Advances (Some Line) old new → IsNext Line new.line s (new.unread ++ left)
comes_line old new s left come adv = (
  come.front ∙ ap (λ v. old.line ++ (v ++ left)) adv.1
      ∙ ap (λ v. old.line ++ v) (append_assoc adv.0 (10 ∷ new.unread) left)
      ∙ sym (append_assoc old.line adv.0 (10 ∷ (new.unread ++ left)))
      ∙ ap (λ v. v ++ 10 ∷ (new.unread ++ left)) (sym adv.3),
  ap is_within adv.3 ∙ within-append old.line adv.0 come.within adv.2,
)

-- it is too long
pub comes_long : (old new : Received) (s left line after : List ℕ)
    → Comes old.line s (old.unread ++ left)
    → Advances (Some TooLong) old new → IsNext TooLong line s after
comes_long old new s left line after come adv = (
  old.line ++ adv.0,
  adv.1 ++ left,
  come.front ∙ ap (λ v. old.line ++ (v ++ left)) adv.2
      ∙ ap (λ v. old.line ++ v) (append_assoc adv.0 adv.1 left)
      ∙ sym (append_assoc old.line adv.0 (adv.1 ++ left)),
  within-append old.line adv.0 come.within adv.3,
  omega (arith, length-append old.line adv.0, adv.4),
)

-- all that was received is of the line
pub comes_all : (old new : Received) (s left : List ℕ) → Comes old.line s (old.unread ++ left)
    → Advances None old new → Comes new.line s left
comes_all old new s left come adv = record {
  front = come.front ∙ sym (append_assoc old.line old.unread left)
      ∙ ap (λ v. v ++ left) (sym adv.2);
  within = ap is_within adv.2 ∙ within-append old.line old.unread come.within adv.1;
}

-- a piece more was received
pub comes_on : (line line' s left left' : List ℕ) → line' ≡ line → left ≡ left' → Comes line s left
    → Comes line' s left'
comes_on line line' s left left' e f come = record {
  front = come.front ∙ ap (λ v. line ++ v) f ∙ ap (λ v. v ++ left') (sym e);
  within = ap is_within e ∙ come.within;
}

whole : (line s left : List ℕ) → Comes line s left → left ≡ [] → s ≡ line
whole line s left come none = come.front ∙ ap (λ v. line ++ v) none ∙ append-nil line

-- nothing is left
pub comes_end : (line s left line' after : List ℕ) → Comes line s left → left ≡ []
    → length line ≤ longest_line → IsNext End line' s after
comes_end line s left line' after come none short =
    let is = whole line s left come none in
    (ap is_within is ∙ come.within, omega (arith, ap length is, short))

-- a byte more
pub comes_byte : (line s left more : List ℕ) (b : ℕ) → Comes line s left → left ≡ b ∷ more
    → (b ≡ 10 → ⊥) → Comes (line ++ b ∷ []) s more
comes_byte line s left more b come is other = record {
  front = come.front ∙ ap (λ v. line ++ v) is ∙ sym (append_assoc line (b ∷ []) more);
  within = within-append line (b ∷ []) come.within (within_byte b other);
}

-- the end before it
pub no_line : (line s left more : List ℕ) → Comes line s left → left ≡ [] → more ≡ []
    → length line ≤ longest_line → IsNoLine s more
no_line line s left more come none after short =
    let is = whole line s left come none in
    record {
      within = ap is_within is ∙ come.within;
      short = omega (arith, ap length is, short);
      none = after;
    }

-- a byte too much
pub too_long : (line s left more : List ℕ) (b : ℕ) → Comes line s left → left ≡ b ∷ more
    → (b ≡ 10 → ⊥) → length line ≡ longest_line → IsTooLong s more
too_long line s left more b come is other full =
    let on = comes_byte line s left more b come is other in
    record {
      given = line ++ b ∷ [];
      front = on.front;
      within = on.within;
      long = omega (arith, length-append line (b ∷ []), full);
    }

next_of : (found : Next) (old new : Received) (s left : List ℕ)
    → Comes old.line s (old.unread ++ left)
    → Advances (Some found) old new → IsNext found new.line s (new.unread ++ left)
next_of Line old new s left come adv = comes_line old new s left come adv
next_of TooLong old new s left come adv =
    comes_long old new s left new.line (new.unread ++ left) come adv
next_of End old new s left come adv = absurd adv

-- what there is
pub comes_next : (found : Next) (o : Option Next) → o ≡ Some found → (old new : Received)
    (s left : List ℕ)
    → Comes old.line s (old.unread ++ left) → Advances o old new
    → IsNext found new.line s (new.unread ++ left)
comes_next found o is old new s left come adv =
    let P : Option Next → Type 0 = λ v. Advances v old new in
    next_of found old new s left come (subst P is adv)
