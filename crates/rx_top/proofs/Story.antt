-- The story of a run, line after line.
use Rattle.rx_serve.specs.Lines.{Cut, byte_before, cut, is_within}
use Rattle.std.proofs.Common.{◌≡◌, ◌∙◌, refl, sym, ap, subst, ℕ, ◌+◌, ◌≤◌, suc, Bool, true, false, not, cond, ◌&&◌, ◌||◌, ◌==◌, List, [], ◌∷◌, ◌++◌, length, arith, append_assoc, append-nil, length-append}
use Rattle.std.proofs.Math.Bool.{or_assoc, or-false}
use Rattle.rx_top.specs.Lines.{last_line, lines}
use Rattle.rx_top.specs.Story.{EachLine, Step, any_refused, chunks, replies, state_after}

-- the lines of `done` were played from a state on, and `rest` is to come
pub record SoFar
    {S : Type 0}
    (step : Step S)
    (done input rest : List ℕ)
    (n : ℕ)
    (refused : Bool)
    (s0 s : S) : Type 0 where
  pub whole : (cut done).rest ≡ []
  pub split : input ≡ done ++ rest
  pub number : n ≡ length (cut done).whole
  pub refusals : refused ≡ any_refused step 1 (cut done).whole s0
  pub state : s ≡ state_after step 1 (cut done).whole s0

-- ---- cutting

cut_line_step : (b : ℕ) (l rest : List ℕ) (e : Bool) → (not e && is_within l) ≡ true
    → (is_within l ≡ true → cut (l ++ 10 ∷ rest)
    ≡ record { whole = l ∷ (cut rest).whole; rest = (cut rest).rest })
    → cond e (record {
      whole = [] ∷ (cut (l ++ 10 ∷ rest)).whole;
      rest = (cut (l
          ++ 10 ∷ rest)).rest;
    })
    (byte_before b (cut (l ++ 10 ∷ rest)).whole (cut (l ++ 10 ∷ rest)).rest)
    ≡ record { whole = (b ∷ l) ∷ (cut rest).whole; rest = (cut rest).rest }
cut_line_step b l rest true h g = cc
cut_line_step b l rest false h g = ap (λ (c : Cut). byte_before b c.whole c.rest) (g h)

-- a line, and then more
pub cut-line : (l rest : List ℕ) → is_within l ≡ true
    → cut (l ++ 10 ∷ rest) ≡ record { whole = l ∷ (cut rest).whole; rest = (cut rest).rest }
cut-line [] rest h = refl
cut-line (b ∷ l) rest h = cut_line_step b l rest (b == 10) h (cut-line l rest)

cut_within_step : (b : ℕ) (bs : List ℕ) (e : Bool) → (not e && is_within bs) ≡ true
    → (is_within bs ≡ true → cut bs ≡ record { whole = []; rest = bs })
    → cond e (record { whole = [] ∷ (cut bs).whole; rest = (cut bs).rest })
    (byte_before b (cut bs).whole (cut bs).rest)
    ≡ record { whole = []; rest = b ∷ bs }
cut_within_step b bs true h g = cc
cut_within_step b bs false h g = ap (λ (c : Cut). byte_before b c.whole c.rest) (g h)

-- less than a line
pub cut-within : (bs : List ℕ) → is_within bs ≡ true → cut bs ≡ record { whole = []; rest = bs }
cut-within [] h = refl
cut-within (b ∷ bs) h = cut_within_step b bs (b == 10) h (cut-within bs)

-- what follows whole lines is cut by itself
abbrev pub joined : Cut → Cut → Cut
joined c d = record { whole = c.whole ++ d.whole; rest = d.rest }

before_step : (b : ℕ) (ls : List (List ℕ)) (rest : List ℕ) (d e : Cut)
    → (byte_before b ls rest).rest ≡ []
    → (rest ≡ [] → e ≡ joined (record { whole = ls; rest = rest }) d)
    → byte_before b e.whole e.rest ≡ joined (byte_before b ls rest) d
before_step b [] rest d e h g = cc
before_step b (l ∷ ls) rest d e h g = ap (λ (c : Cut). byte_before b c.whole c.rest) (g h)

append_step : (b : ℕ) (bs x : List ℕ) (e : Bool)
    → (cond e (record { whole = [] ∷ (cut bs).whole; rest = (cut bs).rest })
    (byte_before b (cut bs).whole (cut bs).rest)).rest ≡ []
    → ((cut bs).rest ≡ [] → cut (bs ++ x) ≡ joined (cut bs) (cut x))
    → cond e (record {
      whole = [] ∷ (cut (bs ++ x)).whole;
      rest = (cut (bs
          ++ x)).rest;
    }) (byte_before b (cut (bs ++ x)).whole (cut (bs ++ x)).rest)
    ≡ joined (cond e (record { whole = [] ∷ (cut bs).whole; rest = (cut bs).rest })
    (byte_before b (cut bs).whole (cut bs).rest)) (cut x)
append_step b bs x true h g = ap (λ (c : Cut). record { whole = [] ∷ c.whole; rest = c.rest }) (g h)
append_step b bs x false h g = before_step b (cut bs).whole (cut bs).rest (cut x) (cut (bs
    ++ x)) h g

pub cut-append : (c x : List ℕ) → (cut c).rest ≡ [] → cut (c ++ x) ≡ joined (cut c) (cut x)
cut-append [] x h = refl
cut-append (b ∷ bs) x h = append_step b bs x (b == 10) h (cut-append bs x)

-- ---- lists of lines

module _ {S : Type 0} (step : Step S) where
  pub replies-append : (n : ℕ) (ls ms : List (List ℕ)) (s : S)
      → replies step n (ls ++ ms) s
      ≡ replies step n ls s ++ replies step (n + length ls) ms (state_after step n ls s)
  replies-append n [] ms s = let e : n ≡ n + 0 = omega arith in ap (λ m. replies step m ms s) e
  replies-append n (l ∷ ls) ms s =
      let e : (n + 1) + length ls ≡ n + suc (length ls) = omega arith in
      let now = step n l s in
      let after = state_after step (n + 1) ls now.next in
      ap (λ v. now.reply ++ v) (replies-append (n + 1) ls ms now.next
      ∙ ap (λ m. replies step (n + 1) ls now.next ++ replies step m ms after) e)
      ∙ sym (append_assoc now.reply (replies step (n + 1) ls now.next)
      (replies step (n + suc (length ls)) ms after))

  pub replies-push : (n : ℕ) (ls : List (List ℕ)) (l : List ℕ) (s : S) (k : ℕ)
      → k ≡ n + length ls
      → replies step n (ls ++ l ∷ []) s
      ≡ replies step n ls s ++ (step k l (state_after step n ls s)).reply
  replies-push n ls l s k is =
      let after = state_after step n ls s in
      replies-append n ls (l ∷ []) s
      ∙ ap (λ v. replies step n ls s ++ v) (append-nil (step (n + length ls) l after).reply)
      ∙ ap (λ m. replies step n ls s ++ (step m l after).reply) (sym is)

  -- lines more

  pub chunks-append : (n : ℕ) (ls ms : List (List ℕ)) (s : S) (k : ℕ) → k ≡ n + length ls
      → chunks step n (ls ++ ms) s
      ≡ chunks step n ls s ++ chunks step k ms (state_after step n ls s)
  chunks-append n [] ms s k is =
      let e : n ≡ k = omega (arith, is) in ap (λ m. chunks step m ms s) e
  chunks-append n (y ∷ ys) ms s k is =
      let now = step n y s in
      ap (λ (v : List (List (List ℕ))). now.bodies ∷ v)
      (chunks-append (n + 1) ys ms now.next k (omega (arith, is)))

  pub state_after-append : (n : ℕ) (ls ms : List (List ℕ)) (s : S) (k : ℕ) → k ≡ n + length ls
      → state_after step n (ls ++ ms) s ≡ state_after step k ms (state_after step n ls s)
  state_after-append n [] ms s k is =
      let e : n ≡ k = omega (arith, is) in ap (λ m. state_after step m ms s) e
  state_after-append n (y ∷ ys) ms s k is =
      state_after-append (n + 1) ys ms (step n y s).next k (omega (arith, is))

  pub refused-append : (n : ℕ) (ls ms : List (List ℕ)) (s : S) (k : ℕ) → k ≡ n + length ls
      → any_refused step n (ls ++ ms) s
      ≡ (any_refused step n ls s || any_refused step k ms (state_after step n ls s))
  refused-append n [] ms s k is =
      let e : n ≡ k = omega (arith, is) in ap (λ m. any_refused step m ms s) e
  refused-append n (y ∷ ys) ms s k is =
      let now = step n y s in
      ap (λ v. now.refused || v) (refused-append (n + 1) ys ms now.next k (omega (arith, is)))
      ∙ sym (or_assoc now.refused (any_refused step (n + 1) ys now.next) _)

  pub each-append : (P : ℕ → List ℕ → S → S → Type 0) (n : ℕ) (ls ms : List (List ℕ)) (s : S)
      (k : ℕ) → k ≡ n + length ls → EachLine step P n ls s
      → EachLine step P k ms (state_after step n ls s) → EachLine step P n (ls ++ ms) s
  each-append P n [] ms s k is each these =
      let e : k ≡ n = omega (arith, is) in subst (λ m. EachLine step P m ms s) e these
  each-append P n (y ∷ ys) ms s k is each these =
      (each.0, each-append P (n + 1) ys ms (step n y s).next k (omega (arith, is)) each.1 these)

  -- a line more

  pub chunks-push : (n : ℕ) (ls : List (List ℕ)) (l : List ℕ) (s : S) (k : ℕ)
      → k ≡ n + length ls
      → chunks step n (ls ++ l ∷ []) s
      ≡ chunks step n ls s ++ (step k l (state_after step n ls s)).bodies ∷ []
  chunks-push n ls l s k is = chunks-append n ls (l ∷ []) s k is

  pub state_after-push : (n : ℕ) (ls : List (List ℕ)) (l : List ℕ) (s : S) (k : ℕ)
      → k ≡ n + length ls
      → state_after step n (ls ++ l ∷ []) s ≡ (step k l (state_after step n ls s)).next
  state_after-push n ls l s k is = state_after-append n ls (l ∷ []) s k is

  pub refused-push : (n : ℕ) (ls : List (List ℕ)) (l : List ℕ) (s : S) (k : ℕ)
      → k ≡ n + length ls
      → any_refused step n (ls ++ l ∷ []) s
      ≡ (any_refused step n ls s || (step k l (state_after step n ls s)).refused)
  refused-push n ls l s k is =
      refused-append n ls (l ∷ []) s k is
      ∙ ap (λ v. any_refused step n ls s || v)
      (or-false (step k l (state_after step n ls s)).refused)

  pub each-push : (P : ℕ → List ℕ → S → S → Type 0) (n : ℕ) (ls : List (List ℕ)) (l : List ℕ)
      (s : S) (k : ℕ) → k ≡ n + length ls → EachLine step P n ls s
      → P k l (state_after step n ls s) (step k l (state_after step n ls s)).next
      → EachLine step P n (ls ++ l ∷ []) s
  each-push P n ls l s k is each this = each-append P n ls (l ∷ []) s k is each (this, tt)

  -- a line more, after n lines
  pub refused_more : (ls : List (List ℕ)) (l : List ℕ) (n : ℕ) (r : Bool) (s0 s : S)
      → n ≡ length ls → r ≡ any_refused step 1 ls s0 → s ≡ state_after step 1 ls s0
      → (r || (step (n + 1) l s).refused) ≡ any_refused step 1 (ls ++ l ∷ []) s0
  refused_more ls l n r s0 s count is after =
      ap (λ v. v || (step (n + 1) l s).refused) is
      ∙ ap (λ (x : S). any_refused step 1 ls s0 || (step (n + 1) l x).refused) after
      ∙ sym (refused-push 1 ls l s0 (n + 1) (omega (arith, count)))

-- ---- the story goes on

pub line_cut : (done l : List ℕ) → (cut done).rest ≡ [] → is_within l ≡ true
    → cut (done ++ (l ++ 10 ∷ [])) ≡ record { whole = (cut done).whole ++ l ∷ []; rest = [] }
line_cut done l h within = cut-append done (l ++ 10 ∷ []) h
    ∙ ap (joined (cut done)) (cut-line l [] within)

-- the lines with one more
pub lines_more : (done l : List ℕ) → (cut done).rest ≡ [] → is_within l ≡ true
    → (cut (done ++ (l ++ 10 ∷ []))).whole ≡ (cut done).whole ++ l ∷ []
lines_more done l h within = ap (λ (x : Cut). x.whole) (line_cut done l h within)

module _ {S : Type 0} (step : Step S) where
  pub none_yet : (input : List ℕ) (s : S) → SoFar step [] input input 0 false s s
  none_yet input s = record {
    whole = refl;
    split = refl;
    number = refl;
    refusals = refl;
    state = refl;
  }

  -- a line was played
  pub line_more : (done input rest rest' l : List ℕ) (n : ℕ) (r : Bool) (s0 s : S)
      → SoFar step done input rest n r s0 s
      → rest ≡ l ++ 10 ∷ rest' → is_within l ≡ true
      → SoFar step (done ++ (l ++ 10 ∷ [])) input rest' (n + 1)
      (r || (step (n + 1) l s).refused) s0 (step (n + 1) l s).next
  line_more done input rest rest' l n r s0 s so e within =
      let c = line_cut done l so.whole within in
      let ls = (cut done).whole in
      record {
        whole = ap (λ (x : Cut). x.rest) c;
        split = so.split ∙ ap (λ v. done ++ v) (e ∙ sym (append_assoc l (10 ∷ []) rest'))
            ∙ sym (append_assoc done (l ++ 10 ∷ []) rest');
        number = rw c (omega (arith, so.number, length-append ls (l ∷ [])));
        refusals = refused_more step ls l n r s0 s so.number so.refusals so.state
            ∙ ap (λ (x : Cut). any_refused step 1 x.whole s0) (sym c);
        state = ap (λ (x : S). (step (n + 1) l x).next) so.state
            ∙ sym (state_after-push step 1 ls l s0 (n + 1) (omega (arith, so.number)))
            ∙ ap (λ (x : Cut). state_after step 1 x.whole s0) (sym c);
      }

-- ---- what is to come

pub rest_lines : {S : Type 0} (step : Step S) (done input rest : List ℕ) (n : ℕ) (r : Bool)
    (s0 s : S) → SoFar step done input rest n r s0 s
    → lines input ≡ (cut done).whole ++ lines rest
rest_lines step done input rest n r s0 s so =
    ap lines so.split
    ∙ ap (λ (x : Cut). x.whole ++ last_line x.rest) (cut-append done rest so.whole)
    ∙ append_assoc (cut done).whole (cut rest).whole (last_line (cut rest).rest)

-- behind whole lines
pub lines_on : (bytes mid rest : List ℕ) → rest ≡ bytes ++ mid → (cut bytes).rest ≡ []
    → lines rest ≡ (cut bytes).whole ++ lines mid
lines_on bytes mid rest split whole =
    ap lines split
    ∙ ap (λ (x : Cut). x.whole ++ last_line x.rest) (cut-append bytes mid whole)
    ∙ append_assoc (cut bytes).whole (cut mid).whole (last_line (cut mid).rest)

pub lines_next : (l rest : List ℕ) → is_within l ≡ true → lines (l ++ 10 ∷ rest) ≡ l ∷ lines rest
lines_next l rest within =
    ap (λ (x : Cut). x.whole ++ last_line x.rest) (cut-line l rest within)

last_line-some : (l : List ℕ) → (l ≡ [] → ⊥) → last_line l ≡ l ∷ []
last_line-some [] some = absurd (some refl)
last_line-some (b ∷ bs) some = refl

-- the last line has no end
pub lines_last : (l : List ℕ) → is_within l ≡ true → (l ≡ [] → ⊥) → lines l ≡ l ∷ []
lines_last l within some =
    ap (λ (x : Cut). x.whole ++ last_line x.rest) (cut-within l within)
    ∙ last_line-some l some

last_line-few : (l : List ℕ) → length (last_line l) ≤ 1
last_line-few [] = omega arith
last_line-few (b ∷ bs) = omega arith

-- there is one line in what has no end, at most
pub within_line : (bs : List ℕ) → is_within bs ≡ true → length (lines bs) ≤ 1
within_line bs within =
    let is : lines bs ≡ last_line bs =
    ap (λ (x : Cut). x.whole ++ last_line x.rest) (cut-within bs within) in
    omega (arith, last_line-few bs, ap length is)

-- a line that has begun is not whole
pub begun : (done front : List ℕ) → (cut done).rest ≡ [] → is_within front ≡ true
    → (cut (done ++ front)).whole ≡ (cut done).whole
begun done front h within =
    ap (λ (x : Cut). x.whole) (cut-append done front h
    ∙ ap (joined (cut done)) (cut-within front within))
    ∙ append-nil (cut done).whole
