-- Words that aren't all fair give nothing.
use Rattle.std.proofs.Common.{◌≡◌, ◌∙◌, refl, sym, ap, List, [], ◌∷◌, ◌++◌, ◌&&◌, Bool, true, false, true≢false, Option, None}
use Rattle.std.specs.Prelude.{take, drop, if◌then◌else◌}
use Rattle.std.specs.List.{list_all}
use Rattle.std.specs.Str.{bytes_eq}
use Rattle.std.proofs.lemmas.List.{take-append-drop}
use Rattle.std.proofs.lemmas.Slice.Eq.{bytes_eq-Decides}
use Rattle.std.proofs.lemmas.Bool.{or_parts}
use Rattle.clap.specs.Walk.{Text}
use Rattle.rx_words.specs.Given.{Given, given, is_joined, is_value, option, with_next, with_word}
use Rattle.rx_words.specs.Parsed.{is_fair, is_long}
use Rattle.rx_words.proofs.Parts.{given_other, given_word}

falls : (a b : Bool) → (a && b) ≡ false → a ≡ true → b ≡ false
falls true b e is = e
falls false b e is = absurd (true≢false (sym is))

no_option : (w : Text) → is_long w ≡ false → bytes_eq w option ≡ false
no_option w short = go (bytes_eq w option) refl
  where
    go : (t : Bool) → bytes_eq w option ≡ t → bytes_eq w option ≡ false
    go false e = e
    go true e = absurd (true≢false (sym (ap is_long ((bytes_eq-Decides w option).0 e)) ∙ short))

no_joined : (w : Text) → is_long w ≡ false → is_joined w ≡ false
no_joined w short = go (is_joined w) refl
  where
    go : (t : Bool) → is_joined w ≡ t → is_joined w ≡ false
    go false e = e
    go true e =
        let front : take 14 w ≡ option ++ 61
        ∷ [] = (bytes_eq-Decides (take 14 w) (option ++ 61 ∷ [])).0 e in
        let is : (option ++ 61 ∷ []) ++ drop 14 w ≡ w = ap (λ (x : Text). x ++ drop 14 w)
        (sym front)
        ∙ take-append-drop 14 w in
        absurd (true≢false (ap is_long is ∙ short))

either_none : (t : Bool) (a b : Option Given) → a ≡ None → b ≡ None → (if t then a else b) ≡ None
either_none true a b e f = e
either_none false a b e f = f

next_none : (w : Text) → with_next w None ≡ None
next_none w = either_none (is_value w) None None refl refl

word_none : (w : Text) → with_word w None ≡ None
word_none w =
    either_none (is_value w) None (if is_joined w then None else None) refl
    (either_none (is_joined w) None None refl refl)

no_next : (w : Text) (o : Option Given) → is_value w ≡ false → with_next w o ≡ None
no_next w o e = rw e refl

unfair_word : (w : Text) (rest : List Text) → is_fair w ≡ false → given (w ∷ rest) ≡ None
unfair_word w rest e =
    let short = or_parts (is_value w) (is_long w) e in
    given_other w rest (no_option w short.1) short.0 (no_joined w short.1)

-- after the option alone
unfair_next : (w next : Text) (rest : List Text) → bytes_eq w option ≡ true
    → list_all is_fair (next ∷ rest) ≡ false
    → (list_all is_fair rest ≡ false → given rest ≡ None) → given (w ∷ next ∷ rest) ≡ None
unfair_next w next rest is e later = rw is (go (is_fair next) refl)
  where
    go : (t : Bool) → is_fair next ≡ t → with_next next (given rest) ≡ None
    go false k = no_next next (given rest) (or_parts (is_value next) (is_long next) k).0
    go true k = ap (with_next next) (later (falls (is_fair next) _ e k)) ∙ next_none next

-- more of them, where what follows gives nothing
unfair_more : (w next : Text) (rest : List Text) → list_all is_fair (w ∷ next ∷ rest) ≡ false
    → (list_all is_fair (next ∷ rest) ≡ false → given (next ∷ rest) ≡ None)
    → (list_all is_fair rest ≡ false → given rest ≡ None) → given (w ∷ next ∷ rest) ≡ None
unfair_more w next rest e soon later = go (is_fair w) (bytes_eq w option) refl refl
  where
    go : (a b : Bool) → is_fair w ≡ a → bytes_eq w option ≡ b → given (w ∷ next ∷ rest) ≡ None
    go false b k is = unfair_word w (next ∷ rest) k
    go true true k is = unfair_next w next rest is (falls (is_fair w) _ e k) later
    go true false k is =
        given_word w (next ∷ rest) is ∙ ap (with_word w) (soon (falls (is_fair w) _ e k))
        ∙ word_none w

alone_false : (t : Bool) → (t && true) ≡ false → t ≡ false
alone_false true e = e
alone_false false e = refl

pub unfair : (words : List Text) → list_all is_fair words ≡ false → given words ≡ None
unfair [] e = absurd (true≢false e)
unfair (w ∷ []) e = unfair_word w [] (alone_false (is_fair w) e)
unfair (w ∷ next ∷ rest) e = unfair_more w next rest e (unfair (next ∷ rest)) (unfair rest)
