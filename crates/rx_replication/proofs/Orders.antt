-- The order of places against checkpoints, and what the test of states tells.
use Rattle.std.proofs.Common.{◌≡◌, ℕ, ◌<◌, ◌≤◌, Bool, true, false, not, Option, Some, None, refl, sym, ap, ◌∙◌, arith, true≢false, Ordering, Less, Equal, Greater, nat_cmp, is_lt}
use Rattle.std.proofs.lemmas.Cmp.{ranked, tied_itself}
use Rattle.std.specs.Ordering.{ordering_then, ordering_reverse}
use Rattle.rx_value.specs.Equal.{state_eq}
use Rattle.rx_value.specs.Equality.{state_eq-Decides}
use Rattle.rx_value.specs.Order.{text_cmp}
use Rattle.rx_value.specs.declared.state.State.{State}
use Rattle.rx_document.specs.Place.{place_cmp, place_total}
use Rattle.rx_document.specs.declared.place.Place.{Place}
use Rattle.rx_replication.specs.Known.{is_state}
use Rattle.rx_replication.specs.Write.{is_up_to}

-- ---- states

pub same_state : (s t : State) → state_eq s t ≡ true → s ≡ t
same_state s t = (state_eq-Decides s t).0

pub state_itself : (s : State) → state_eq s s ≡ true
state_itself s = (state_eq-Decides s s).1 refl

pub is_state-some : (o : Option State) (s : State) → is_state o s ≡ true → o ≡ Some s
is_state-some None s e = absurd (true≢false (sym e))
is_state-some (Some t) s e = ap Some (same_state t s e)

pub is_state-itself : (o : Option State) (s : State) → o ≡ Some s → is_state o s ≡ true
is_state-itself o s e = ap (λ (o : Option State). is_state o s) e ∙ state_itself s

-- ---- places

later : (a b : ℕ) (r s : Ordering) → r ≡ nat_cmp a b → b < a → is_lt (ordering_then r s) ≡ false
later a b Less s e h = let f : a < b = ranked a b Less e in absurd (omega arith)
later a b Equal s e h = let f : a ≡ b = ranked a b Equal e in absurd (omega arith)
later a b Greater s e h = refl

earlier : (a b : ℕ) (r s : Ordering) → r ≡ nat_cmp a b → a < b → is_lt (ordering_then r s) ≡ true
earlier a b Less s e h = refl
earlier a b Equal s e h = let f : a ≡ b = ranked a b Equal e in absurd (omega arith)
earlier a b Greater s e h = let f : b < a = ranked a b Greater e in absurd (omega arith)

-- what was written earlier stands below
pub up_to_later : (p q : Place) → p.lwt < q.lwt → is_up_to p (Some q) ≡ true
up_to_later p q h =
    ap not (later q.lwt p.lwt (nat_cmp q.lwt p.lwt) (text_cmp q.id p.id) refl h)

-- and what was written later above
pub up_to_earlier : (p q : Place) → q.lwt < p.lwt → is_up_to p (Some q) ≡ false
up_to_earlier p q h =
    ap not (earlier q.lwt p.lwt (nat_cmp q.lwt p.lwt) (text_cmp q.id p.id) refl h)

pub up_to_itself : (p : Place) → is_up_to p (Some p) ≡ true
up_to_itself p = ap (λ r. not (is_lt r)) (tied_itself place_total p)

no_later : (p q : Place) (b : Bool) → (q.lwt < p.lwt → b ≡ false) → b ≡ true → p.lwt ≤ q.lwt
no_later p q b f e = grind arith

pub up_to-lwt : (p q : Place) → is_up_to p (Some q) ≡ true → p.lwt ≤ q.lwt
up_to-lwt p q e = no_later p q (is_up_to p (Some q)) (up_to_earlier p q) e

-- a place above another is none up to it
pub above-up_to : (p q : Place) → place_cmp p q ≡ Less → is_up_to q (Some p) ≡ false
above-up_to p q e = ap (λ r. not (is_lt r)) e

is_less : (r : Ordering) → not (is_lt r) ≡ false → r ≡ Less
is_less Less e = refl
is_less Equal e = absurd (true≢false e)
is_less Greater e = absurd (true≢false e)

pub up_to-above : (p q : Place) → is_up_to q (Some p) ≡ false → place_cmp p q ≡ Less
up_to-above p q e = is_less (place_cmp p q) e

-- of two places one is up to the other
pub up_to_other : (p q : Place) → is_up_to p (Some q) ≡ false → is_up_to q (Some p) ≡ true
up_to_other p q e =
    ap (λ r. not (is_lt r)) (place_total.antisymm p q ∙ ap ordering_reverse (up_to-above q p e))

-- what is above a higher place is above a lower one
pub above_lower : (p : Option Place) (q r : Place) → is_up_to q p ≡ false → place_cmp q r ≡ Less
    → is_up_to r p ≡ false
above_lower None q r e h = refl
above_lower (Some p) q r e h = above-up_to p r (place_total.trans p q r (up_to-above p q e) h)

pub not_below_itself : (p : Place) → place_cmp p p ≡ Less → ⊥
not_below_itself p e = true≢false (ap is_lt (sym e ∙ tied_itself place_total p))
