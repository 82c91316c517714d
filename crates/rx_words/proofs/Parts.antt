-- What a parse holds is what the words give.
use Rattle.std.proofs.Common.{◌≡◌, ◌∙◌, refl, sym, ap, subst, ℕ, List, [], ◌∷◌, ◌++◌, ◌==◌, Bool, true, false, true≢false, Option, None, Some, option_map, append_assoc}
use Rattle.std.specs.Prelude.{option_and_then, unwrap_or, if◌then◌else◌}
use Rattle.std.specs.List.{list_all}
use Rattle.std.specs.Str.{bytes_eq}
use Rattle.std.proofs.lemmas.List.{append-nil}
use Rattle.clap.specs.Matches.{found_of}
use Rattle.clap.specs.Walk.{Text, all_of, first_of, rows_of}
use Rattle.clap.proofs.WalkLemmas.{both, first_value-rows, raw_values-rows}
use Rattle.clap.specs.declared.parser.matches.ArgMatches.{ArgMatches}
use Rattle.rx_words.specs.Given.{Given, given, is_joined, is_value, option, with_limit, with_value, with_word}
use Rattle.rx_words.specs.Parsed.{given_in, is_fair, limit_id, values_id}
use Rattle.rx_words.proofs.Layouts.{At, Layout, clear, l, lv, none, rows, settled_at, v, value, vl, wants, with_its_limit, with_one_more}
use Rattle.rx_words.proofs.Layouts.{given as got}
use Rattle.rx_words.proofs.Runs.{next_other, next_value, run}
use Rattle.rx_words.proofs.Turns.{after_joined, after_option, after_value}
use Rattle.rx_words.proofs.WordKinds.{Kind, alone, joined, kind_of, not_alone, not_joined, other}
use Rattle.rx_words.proofs.WordKinds.{value as as_value}

abbrev pub parts : Layout → Given
parts none = record { values = []; limit = None }
parts (v vs) = record { values = vs; limit = None }
parts (l t) = record { values = []; limit = Some t }
parts (vl vs t) = record { values = vs; limit = Some t }
parts (lv t vs) = record { values = vs; limit = Some t }

abbrev one_of : Option Text → Option Text → Option (Option Text)
one_of None b = Some b
one_of (Some t) None = Some (Some t)
one_of (Some t) (Some u) = None

-- what is given first, and then
abbrev merged : Given → Option Given → Option Given
merged p None = None
merged p (Some g) =
    option_map (λ limit. record { values = p.values ++ g.values; limit = limit })
    (one_of p.limit g.limit)

-- ---- one thing more

more_values : (x : Layout) (w : Text) (o : Option Given)
    → merged (parts x) (with_value w o) ≡ merged (parts (with_one_more x w)) o
more_values x w None = refl
more_values none w (Some g) = refl
more_values (v vs) w (Some g) =
    ap (λ (ws : List Text). Some (record { values = ws; limit = g.limit }))
    (sym (append_assoc vs (w ∷ []) g.values))
more_values (l t) w (Some g) = refl
more_values (vl vs t) w (Some g) =
    ap (λ (ws : List Text). option_map
    (λ (limit : Option Text). record { values = ws; limit = limit }) (one_of (Some t) g.limit))
    (sym (append_assoc vs (w ∷ []) g.values))
more_values (lv t vs) w (Some g) =
    ap (λ (ws : List Text). option_map
    (λ (limit : Option Text). record { values = ws; limit = limit }) (one_of (Some t) g.limit))
    (sym (append_assoc vs (w ∷ []) g.values))

limited : (x : Layout) (t : Text) (values : List Text) (limit : Option Text)
    → merged (parts x) (with_limit t (Some (record { values = values; limit = limit })))
    ≡ option_and_then (λ y. merged (parts y) (Some (record { values = values; limit = limit })))
    (with_its_limit x t)
limited none t values None = refl
limited none t values (Some u) = refl
limited (v vs) t values None = refl
limited (v vs) t values (Some u) = refl
limited (l r) t values None = refl
limited (l r) t values (Some u) = refl
limited (vl vs r) t values None = refl
limited (vl vs r) t values (Some u) = refl
limited (lv r vs) t values None = refl
limited (lv r vs) t values (Some u) = refl

no_more : (o : Option Layout) → option_and_then (λ y. merged (parts y) None) o ≡ None
no_more None = refl
no_more (Some y) = refl

a_limit : (x : Layout) (t : Text) (o : Option Given)
    → merged (parts x) (with_limit t o) ≡ option_and_then (λ y. merged (parts y) o)
    (with_its_limit x t)
a_limit x t None = sym (no_more (with_its_limit x t))
a_limit x t (Some g) = limited x t g.values g.limit

nothing_more : (x : Layout) → merged (parts x) (given []) ≡ Some (parts x)
nothing_more none = refl
nothing_more (v vs) =
    ap (λ (ws : List Text). Some (record { values = ws; limit = None })) (append-nil vs)
nothing_more (l t) = refl
nothing_more (vl vs t) =
    ap (λ (ws : List Text). Some (record { values = ws; limit = Some t })) (append-nil vs)
nothing_more (lv t vs) =
    ap (λ (ws : List Text). Some (record { values = ws; limit = Some t })) (append-nil vs)

-- ---- the words

pub given_word : (w : Text) (rest : List Text) → bytes_eq w option ≡ false
    → given (w ∷ rest) ≡ with_word w (given rest)
given_word w [] e = rw e refl
given_word w (next ∷ rest) e = rw e refl

value_is_no_option : (w : Text) → is_value w ≡ true → bytes_eq w option ≡ false
value_is_no_option [] h = absurd (true≢false (sym h))
value_is_no_option (b ∷ bs) h = go (b == 45) refl
  where
    go : (t : Bool) → (b == 45) ≡ t → bytes_eq (b ∷ bs) option ≡ false
    go true e = absurd (true≢false (sym h ∙ rw e refl))
    go false e = rw e refl

as_value_word : (w : Text) (o : Option Given) → is_value w ≡ true → with_word w o ≡ with_value w o
as_value_word w o h = rw h refl

given_value : (w : Text) (rest : List Text) → is_value w ≡ true
    → given (w ∷ rest) ≡ with_value w (given rest)
given_value w rest h = given_word w rest (value_is_no_option w h) ∙ as_value_word w (given rest) h

given_next : (w : Text) (rest : List Text) → is_value w ≡ true
    → given (option ∷ w ∷ rest) ≡ with_limit w (given rest)
given_next w rest h = ap (λ (t : Bool). if t then with_limit w (given rest) else None) h

abbrev before : At → Layout
before (clear x) = x
before (value x w) = x
before (wants x) = x
before (got x t) = x

-- the words that are pending
abbrev pending : At → List Text → List Text
pending (clear x) words = words
pending (value x w) words = w ∷ words
pending (wants x) words = option ∷ words
pending (got x t) words = option ∷ t ∷ words

abbrev IsSane : At → Type 0
IsSane (clear x) = Unit {0}
IsSane (value x w) = is_value w ≡ true
IsSane (wants x) = Unit {0}
IsSane (got x t) = is_value t ≡ true

abbrev IsRested : At → Type 0
IsRested (wants x) = ⊥
IsRested _ = Unit {0}

abbrev all_given : At → List Text → Option Given
all_given at words = merged (parts (before at)) (given (pending at words))

abbrev given_after : Option Layout → List Text → Option Given
given_after o words = option_and_then (λ y. merged (parts y) (given words)) o

rested : (at : At) (words : List Text) → IsSane at → IsRested at
    → all_given at words ≡ given_after (settled_at at) words
rested (clear x) words sane is = refl
rested (value x w) words sane is =
    ap (merged (parts x)) (given_value w words sane) ∙ more_values x w (given words)
rested (wants x) words sane is = absurd is
rested (got x t) words sane is =
    ap (merged (parts x)) (given_next t words sane) ∙ a_limit x t (given words)

-- the end
at_end : (o : Option Layout) → option_map parts o ≡ given_after o []
at_end None = refl
at_end (Some x) = sym (nothing_more x)

-- ---- a word more

abbrev Says : At → List Text → Option Layout → Type 0
Says at words o = option_map parts o ≡ all_given at words

-- what is said of the places after a word
abbrev Next : List Text → Type 0
Next rest = (to : At) → IsSane to → Says to rest (run to rest)

through : (o : Option Layout) (f : Layout → At) (rest : List Text) (words : List Text)
    → ((y : Layout) → option_map parts (run (f y) rest) ≡ merged (parts y) (given words))
    → option_map parts (option_and_then (λ to. run to rest) (option_map f o)) ≡ given_after o words
through None f rest words h = refl
through (Some y) f rest words h = h y

after_a_value : (at : At) (w : Text) (rest : List Text) → IsSane at → is_value w ≡ true → Next rest
    → option_map parts (option_and_then (λ to. run to rest) (after_value at w)) ≡ all_given at
    (w ∷ rest)
after_a_value (clear x) w rest sane h next = next (value x w) h
after_a_value (value x u) w rest sane h next =
    next (value (with_one_more x u) w) h ∙ sym (rested (value x u) (w ∷ rest) sane tt)
after_a_value (wants x) w rest sane h next = next (got x w) h
after_a_value (got x t) w rest sane h next =
    through (with_its_limit x t) (λ y. value y w) rest (w ∷ rest) (λ y. next (value y w) h)
    ∙ sym (rested (got x t) (w ∷ rest) sane tt)

after_the_option : (at : At) (rest : List Text) → IsSane at → Next rest
    → option_map parts (option_and_then (λ to. run to rest) (after_option at)) ≡ all_given at
    (option ∷ rest)
after_the_option (clear x) rest sane next = next (wants x) tt
after_the_option (value x w) rest sane next =
    next (wants (with_one_more x w)) tt ∙ sym (rested (value x w) (option ∷ rest) sane tt)
after_the_option (wants x) rest sane next = refl
after_the_option (got x t) rest sane next =
    through (with_its_limit x t) wants rest (option ∷ rest) (λ y. next (wants y) tt)
    ∙ sym (rested (got x t) (option ∷ rest) sane tt)

given_joined : (t : Text) (rest : List Text)
    → given ((option ++ 61 ∷ t) ∷ rest) ≡ with_limit t (given rest)
given_joined t rest = given_word (option ++ 61 ∷ t) rest refl

-- the option with its limit, where nothing is pending
joined_to : (x : Layout) (t : Text) (rest : List Text) → Next rest
    → option_map parts (option_and_then (λ to. run to rest) (option_map clear (with_its_limit x t)))
    ≡ merged (parts x) (given ((option ++ 61 ∷ t) ∷ rest))
joined_to x t rest next =
    through (with_its_limit x t) clear rest rest (λ y. next (clear y) tt)
    ∙ sym (a_limit x t (given rest)) ∙ sym (ap (merged (parts x)) (given_joined t rest))

joined_after : (o : Option Layout) (t : Text) (rest : List Text) → Next rest
    → option_map parts
    (option_and_then (λ to. run to rest)
    (option_and_then (λ x. option_map clear (with_its_limit x t)) o))
    ≡ given_after o ((option ++ 61 ∷ t) ∷ rest)
joined_after None t rest next = refl
joined_after (Some x) t rest next = joined_to x t rest next

after_a_joined : (at : At) (t : Text) (rest : List Text) → IsSane at → Next rest
    → option_map parts (option_and_then (λ to. run to rest) (after_joined at t)) ≡ all_given at
    ((option ++ 61 ∷ t) ∷ rest)
after_a_joined (clear x) t rest sane next = joined_to x t rest next
after_a_joined (value x w) t rest sane next =
    joined_to (with_one_more x w) t rest next
    ∙ sym (rested (value x w) ((option ++ 61 ∷ t) ∷ rest) sane tt)
after_a_joined (wants x) t rest sane next = refl
after_a_joined (got x u) t rest sane next =
    joined_after (with_its_limit x u) t rest next
    ∙ sym (rested (got x u) ((option ++ 61 ∷ t) ∷ rest) sane tt)

pub given_other : (w : Text) (rest : List Text) → bytes_eq w option ≡ false → is_value w ≡ false
    → is_joined w ≡ false → given (w ∷ rest) ≡ None
given_other w rest e h k = given_word w rest e ∙ rw (h, k) refl

refused_after : (o : Option Layout) (w : Text) (rest : List Text) → given (w ∷ rest) ≡ None
    → given_after o (w ∷ rest) ≡ None
refused_after None w rest e = refl
refused_after (Some x) w rest e = ap (merged (parts x)) e

after_another : (at : At) (c : ℕ) (cs : Text) (rest : List Text) → IsSane at
    → given ((45 ∷ 45 ∷ c ∷ cs) ∷ rest) ≡ None
    → None ≡ all_given at ((45 ∷ 45 ∷ c ∷ cs) ∷ rest)
after_another (clear x) c cs rest sane e = sym (ap (merged (parts x)) e)
after_another (value x w) c cs rest sane e =
    sym (rested (value x w) ((45 ∷ 45 ∷ c ∷ cs) ∷ rest) sane tt ∙ refused_after
    (Some (with_one_more x w)) (45 ∷ 45 ∷ c ∷ cs) rest e)
after_another (wants x) c cs rest sane e = refl
after_another (got x t) c cs rest sane e =
    sym (rested (got x t) ((45 ∷ 45 ∷ c ∷ cs) ∷ rest) sane tt ∙ refused_after (with_its_limit x t)
    (45 ∷ 45 ∷ c ∷ cs) rest e)

is_a_value : (b : ℕ) (bs : Text) → (b == 45) ≡ false → is_value (b ∷ bs) ≡ true
is_a_value b bs e = rw e refl

says : (at : At) (w : Text) (rest : List Text) → IsSane at → Kind w → Next rest
    → Says at (w ∷ rest) (run at (w ∷ rest))
says at w rest sane (as_value b bs is e) next =
    subst (λ (u : Text). Says at (u ∷ rest) (run at (u ∷ rest))) (sym is)
    (ap (λ (o : Option At). option_map parts (option_and_then (λ to. run to rest) o))
    (next_value at b bs e)
    ∙ after_a_value at (b ∷ bs) rest sane (is_a_value b bs e) next)
says at w rest sane (alone is) next =
    subst (λ (u : Text). Says at (u ∷ rest) (run at (u ∷ rest))) (sym is)
    (after_the_option at rest sane next)
says at w rest sane (joined t is) next =
    subst (λ (u : Text). Says at (u ∷ rest) (run at (u ∷ rest))) (sym is)
    (after_a_joined at t rest sane next)
says at w rest sane (other c cs is e) next =
    let alone = not_alone c cs e in
    let apart = not_joined c cs e in
    subst (λ (u : Text). Says at (u ∷ rest) (run at (u ∷ rest))) (sym is)
    (ap (λ (o : Option At). option_map parts (option_and_then (λ to. run to rest) o))
    (next_other at c cs alone apart)
    ∙ after_another at c cs rest sane (given_other (45 ∷ 45 ∷ c ∷ cs) rest alone refl apart))

ended : (at : At) → IsSane at → Says at [] (settled_at at)
ended (clear x) sane = sym (nothing_more x)
ended (value x w) sane =
    sym (nothing_more (with_one_more x w)) ∙ sym (rested (value x w) [] sane tt)
ended (wants x) sane = refl
ended (got x t) sane = at_end (with_its_limit x t) ∙ sym (rested (got x t) [] sane tt)

runs : (at : At) (words : List Text) → IsSane at → list_all is_fair words ≡ true
    → Says at words (run at words)
runs at [] sane h = ended at sane
runs at (w ∷ rest) sane h =
    let fair = both (is_fair w) _ h in
    says at w rest sane (kind_of w fair.0) (λ to so. runs to rest so fair.1)

whole : (o : Option Given) → merged (parts none) o ≡ o
whole None = refl
whole (Some g) = refl

pub run_gives : (words : List Text) → list_all is_fair words ≡ true
    → option_map parts (run (clear none) words) ≡ given words
run_gives words h = runs (clear none) words tt h ∙ whole (given words)

-- ---- what the matches give

values_of : (x : Layout) → unwrap_or (all_of values_id (rows x)) [] ≡ (parts x).values
values_of none = refl
values_of (v vs) = refl
values_of (l t) = refl
values_of (vl vs t) = refl
values_of (lv t vs) = refl

limit_of : (x : Layout) → first_of limit_id (rows x) ≡ (parts x).limit
limit_of none = refl
limit_of (v vs) = refl
limit_of (l t) = refl
limit_of (vl vs t) = refl
limit_of (lv t vs) = refl

pub matches_give : (m : ArgMatches) (x : Layout) → rows_of (found_of m) ≡ rows x
    → given_in m ≡ parts x
matches_give m x is =
    let values = raw_values-rows (found_of m) values_id ∙ ap (all_of values_id) is in
    let limit = first_value-rows (found_of m) limit_id ∙ ap (first_of limit_id) is ∙ limit_of x in
    let all = ap (λ (o : Option (List Text)). unwrap_or o []) values ∙ values_of x in
    λ i. record { values = all i; limit = limit i }
