-- The lines of a stream, one after another.
use Rattle.std.proofs.Common.{◌≡◌, ℕ, ◌<◌, ◌≤◌, zero, suc, leb, Bool, true, false, not, cond, ◌&&◌, ◌==◌, List, [], ◌∷◌, ◌++◌, take, length, Err, refl, sym, ap, ◌∙◌, arith, inl, inr, length-append, append-nil}
use Rattle.std.proofs.lemmas.Bool.Decides.{leb_tells}
use Rattle.rx_collection.specs.Held.{Held}
use Rattle.rx_schema.specs.declared.shape.Shape.{Shape}
use Rattle.rx_wire.specs.Fault.{fault_text}
use Rattle.rx_wire.specs.Limits.{longest_line}
use Rattle.rx_wire.specs.Spelling.{request_of}
use Rattle.rx_wire.specs.declared.fault.WireFault.TheVariants.{TooLong}
use Rattle.rx_serve.specs.Lines.{is_within, Cut, cut, byte_before, lines, long_rest}
use Rattle.rx_serve.specs.Served.{as_line, ends_here, line_then, served_lines, served_first}
use Rattle.rx_serve.specs.declared.ended.Why.TheVariants as why

-- with a line at the front
abbrev line_before : List ℕ → Cut → Cut
line_before l c = record { whole = l ∷ c.whole; rest = c.rest }

cut_step : (b : ℕ) (l rest : List ℕ) (e : Bool) → (not e && is_within l) ≡ true
    → (is_within l ≡ true → cut (l ++ 10 ∷ rest) ≡ line_before l (cut rest))
    → cond e
    (record { whole = [] ∷ (cut (l ++ 10 ∷ rest)).whole; rest = (cut (l ++ 10 ∷ rest)).rest })
    (byte_before b (cut (l ++ 10 ∷ rest)).whole (cut (l ++ 10 ∷ rest)).rest)
    ≡ line_before (b ∷ l) (cut rest)
cut_step b l rest true h g = cc
cut_step b l rest false h g = ap (λ (c : Cut). byte_before b c.whole c.rest) (g h)

cut_line : (l rest : List ℕ) → is_within l ≡ true → cut (l ++ 10 ∷ rest) ≡ line_before l (cut rest)
cut_line [] rest h = refl
cut_line (b ∷ l) rest h = cut_step b l rest (b == 10) h (cut_line l rest)

lines_line : (l rest : List ℕ) → is_within l ≡ true → lines (l ++ 10 ∷ rest) ≡ l ∷ lines rest
lines_line l rest h = ap (λ (c : Cut). c.whole ++ long_rest c.rest) (cut_line l rest h)

-- with bytes of which no line ends at the front
abbrev front_before : List ℕ → List (List ℕ) → List ℕ → Cut
front_before front [] rest = record { whole = []; rest = front ++ rest }
front_before front (l ∷ ls) rest = record { whole = (front ++ l) ∷ ls; rest = rest }

none_before : (ls : List (List ℕ)) (rest : List ℕ)
    → front_before [] ls rest ≡ record { whole = ls; rest = rest }
none_before [] rest = refl
none_before (l ∷ ls) rest = refl

one_before : (b : ℕ) (front : List ℕ) (ls : List (List ℕ)) (rest : List ℕ)
    → byte_before b (front_before front ls rest).whole (front_before front ls rest).rest
    ≡ front_before (b ∷ front) ls rest
one_before b front [] rest = refl
one_before b front (l ∷ ls) rest = refl

front_step : (b : ℕ) (front rest : List ℕ) (e : Bool) → (not e && is_within front) ≡ true
    → (is_within front ≡ true
    → cut (front ++ rest) ≡ front_before front (cut rest).whole (cut rest).rest)
    → cond e
    (record { whole = [] ∷ (cut (front ++ rest)).whole; rest = (cut (front ++ rest)).rest })
    (byte_before b (cut (front ++ rest)).whole (cut (front ++ rest)).rest)
    ≡ front_before (b ∷ front) (cut rest).whole (cut rest).rest
front_step b front rest true h g = cc
front_step b front rest false h g =
    ap (λ (c : Cut). byte_before b c.whole c.rest) (g h)
    ∙ one_before b front (cut rest).whole (cut rest).rest

cut_front : (front rest : List ℕ) → is_within front ≡ true
    → cut (front ++ rest) ≡ front_before front (cut rest).whole (cut rest).rest
cut_front [] rest h = sym (none_before (cut rest).whole (cut rest).rest)
cut_front (b ∷ front) rest h = front_step b front rest (b == 10) h (cut_front front rest)

is_long : (n : ℕ) → longest_line < n → leb 268435457 n ≡ true
is_long n h = elim (leb_tells 268435457 n) [ inl w ↦ w.0 | inr w ↦ absurd (omega (arith, h, w.1)) ]

is_short : (n : ℕ) → n ≤ longest_line → leb 268435457 n ≡ false
is_short n h = elim (leb_tells 268435457 n) [ inl w ↦ absurd (omega (arith, h, w.1)) | inr w ↦ w.0 ]

-- what begins with so many bytes begins with a line that is too long
abbrev BeginsLong : List (List ℕ) → Type 0
BeginsLong ls = (l : List ℕ) × (rest : List (List ℕ)) × (ls ≡ l ∷ rest) × (longest_line < length l)

still_long : (xs ys : List ℕ) → longest_line < length xs → longest_line < length (xs ++ ys)
still_long xs ys h = omega (arith, h, length-append xs ys)

long_before : (front : List ℕ) (ls : List (List ℕ)) (rest : List ℕ) → longest_line < length front
    → BeginsLong ((front_before front ls rest).whole ++ long_rest (front_before front ls rest).rest)
long_before front [] rest h = (
  front ++ rest,
  [],
  rw (is_long (length (front ++ rest)) (still_long front rest h)) refl,
  still_long front rest h,
)
long_before front (l ∷ ls) rest h =
    (front ++ l, ls ++ long_rest rest, refl, still_long front l h)

lines_long : (front rest : List ℕ) → is_within front ≡ true → longest_line < length front
    → BeginsLong (lines (front ++ rest))
lines_long front rest h long =
    let begins = long_before front (cut rest).whole (cut rest).rest long in (
      begins.0,
      begins.1,
      ap (λ (c : Cut). c.whole ++ long_rest c.rest) (cut_front front rest h) ∙ begins.2,
      begins.3,
    )

lines_end : (bs : List ℕ) → is_within bs ≡ true → length bs ≤ longest_line → lines bs ≡ []
lines_end bs h short =
    ap (λ v. lines v) (sym (append-nil bs))
    ∙ ap (λ (c : Cut). c.whole ++ long_rest c.rest) (cut_front bs [] h)
    ∙ ap (λ v. long_rest v) (append-nil bs) ∙ rw (is_short (length bs) short) refl

not_within : (n : ℕ) → longest_line < n → leb n 268435456 ≡ false
not_within n h =
    elim (leb_tells n 268435456) [ inl w ↦ absurd (omega (arith, h, w.1)) | inr w ↦ w.0 ]

too_long : (s : Shape) (l : List ℕ) → longest_line < length l → request_of s l ≡ Err TooLong
too_long s l h = rw (not_within (length l) h) refl

-- one line more is served
pub served_line : (k : ℕ) (c : Held) (moments l rest : List ℕ) → is_within l ≡ true
    → served_first (suc k) c moments (l ++ 10 ∷ rest)
    ≡ line_then c moments (request_of c.schema l) (λ after later. served_first k after later rest)
served_line k c moments l rest h =
    ap (λ ls. served_lines c moments (take (suc k) ls)) (lines_line l rest h)

-- no line is left
pub served_end : (k : ℕ) (c : Held) (moments bs : List ℕ) → is_within bs ≡ true
    → length bs ≤ longest_line → served_first k c moments bs ≡ ends_here c why.Peer []
served_end zero c moments bs h short = refl
served_end (suc k) c moments bs h short =
    ap (λ ls. served_lines c moments (take (suc k) ls)) (lines_end bs h short)

-- a line that is too long is refused
pub served_long : (k : ℕ) (c : Held) (moments front rest : List ℕ) → is_within front ≡ true
    → longest_line < length front
    → served_first (suc k) c moments (front ++ rest)
    ≡ ends_here c why.Request (as_line (fault_text TooLong))
served_long k c moments front rest h long =
    let begins = lines_long front rest h long in
    ap (λ ls. served_lines c moments (take (suc k) ls)) begins.2
    ∙ ap
    (λ r. line_then c moments r (λ after later. served_lines after later (take k begins.1)))
    (too_long c.schema begins.0 begins.3)

-- ---- streams behind one another

-- a line alone
pub cut_one : (l : List ℕ) → is_within l ≡ true
    → cut (as_line l) ≡ record { whole = l ∷ []; rest = [] }
cut_one l h = cut_line l [] h

-- what has no line
pub cut_part : (p : List ℕ) → is_within p ≡ true → cut p ≡ record { whole = []; rest = p }
cut_part p h =
    ap cut (sym (append-nil p)) ∙ cut_front p [] h
    ∙ ap (λ r. record { whole = []; rest = r }) (append-nil p)

joined_by : (b : ℕ) (e : Bool) (ws : List (List ℕ)) (r : List ℕ) (all y : Cut)
    → (cond e (record { whole = [] ∷ ws; rest = r }) (byte_before b ws r)).rest ≡ []
    → (r ≡ [] → all ≡ record { whole = ws ++ y.whole; rest = y.rest })
    → cond e (record { whole = [] ∷ all.whole; rest = all.rest }) (byte_before b all.whole all.rest)
    ≡ record {
      whole = (cond e (record { whole = [] ∷ ws; rest = r }) (byte_before b ws r)).whole ++ y.whole;
      rest = y.rest;
    }
joined_by b true ws r all y none same =
    ap (λ (c : Cut). record { whole = [] ∷ c.whole; rest = c.rest }) (same none)
joined_by b false [] r all y none same = absurd (cc)
joined_by b false (w ∷ ws) r all y none same =
    ap (λ (c : Cut). byte_before b c.whole c.rest) (same none)

-- whole lines, and what is behind them
pub cut_joined : (xs ys : List ℕ) → (cut xs).rest ≡ []
    → cut (xs ++ ys)
    ≡ record { whole = (cut xs).whole ++ (cut ys).whole; rest = (cut ys).rest }
cut_joined [] ys none = refl
cut_joined (b ∷ xs) ys none =
    joined_by b (b == 10) (cut xs).whole (cut xs).rest (cut (xs ++ ys)) (cut ys) none
    (cut_joined xs ys)
