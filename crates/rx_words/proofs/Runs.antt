-- What a parse of fair words comes to, by a machine of its own.
use Rattle.std.proofs.Common.{◌≡◌, ◌∙◌, refl, sym, ap, subst, ℕ, ◌==◌, List, [], ◌∷◌, Bool, true, false, true≢false, Option, None, Some, is_some, arith}
use Rattle.std.proofs.lemmas.Bool.Decides.{nat_tests}
use Rattle.std.specs.Prelude.{drop, fold, if◌then◌else◌, option_and_then}
use Rattle.std.specs.List.{list_all}
use Rattle.std.specs.Str.{bytes_eq}
use Rattle.clap.specs.Faults.{check_fault, defaults_fault, entered_fault, fault_of, settle_fault, turn_fault, walk_fault}
use Rattle.clap.specs.Kinds.{Kinds, or_else}
use Rattle.clap.specs.Simple.{built, entered, matches_of}
use Rattle.clap.specs.Walk.{Held, Row, Text, Walk, finished, is_empty, settled, walked, with_default}
use Rattle.clap.proofs.WalkLemmas.{both}
use Rattle.rx_words.specs.Given.{is_joined, is_value, option}
use Rattle.rx_words.specs.Parsed.{is_fair, parser}
use Rattle.rx_words.proofs.Layouts.{At, Layout, SettlesTo, clear, held_at, l, lv, none, rows, settled_at, settles, top, v, vl, walk_at}
use Rattle.rx_words.proofs.Layouts.{rules as both_rules}
use Rattle.rx_words.proofs.Turns.{Meets, after_joined, after_option, after_value, joined_turn, option_turn, other_turn, value_turn}
use Rattle.rx_words.proofs.WordKinds.{Kind, alone, joined, kind_of, not_alone, not_joined, other, value}

abbrev pub next_by : At → Text → Bool → Bool → Bool → Option At
next_by at word is_option is_value is_joined =
    if is_option then after_option at
    else if is_value then after_value at word
    else if is_joined then after_joined at (drop 14 word) else None

abbrev pub next_at : At → Text → Option At
next_at at word = next_by at word (bytes_eq word option) (is_value word) (is_joined word)

-- what is held after the words, if they pass
abbrev pub run : At → List Text → Option Layout
run at [] = settled_at at
run at (word ∷ rest) = option_and_then (λ to. run to rest) (next_at at word)

-- ---- a word

no_option : (b : ℕ) (bs : Text) → (b == 45) ≡ false → bytes_eq (b ∷ bs) option ≡ false
no_option b bs e = rw e refl

a_value : (b : ℕ) (bs : Text) → (b == 45) ≡ false → is_value (b ∷ bs) ≡ true
a_value b bs e = rw e refl

pub next_value : (at : At) (b : ℕ) (bs : Text) → (b == 45) ≡ false
    → next_at at (b ∷ bs) ≡ after_value at (b ∷ bs)
next_value at b bs e =
    λ i. next_by at (b ∷ bs) (no_option b bs e i) (a_value b bs e i) (is_joined (b ∷ bs))

pub next_other : (at : At) (c : ℕ) (cs : Text) → bytes_eq (45 ∷ 45 ∷ c ∷ cs) option ≡ false
    → is_joined (45 ∷ 45 ∷ c ∷ cs) ≡ false → next_at at (45 ∷ 45 ∷ c ∷ cs) ≡ None
next_other at c cs e k = λ i. next_by at (45 ∷ 45 ∷ c ∷ cs) (e i) false (k i)

meets_kind : (at : At) (word : Text) → Kind word → Meets at word (next_at at word)
meets_kind at word (value b bs is e) =
    subst (λ (w : Text). Meets at w (next_at at w)) (sym is)
    (subst (λ (o : Option At). Meets at (b ∷ bs) o) (sym (next_value at b bs e))
    (value_turn at b bs e))
meets_kind at word (alone is) =
    subst (λ (w : Text). Meets at w (next_at at w)) (sym is) (option_turn at)
meets_kind at word (joined t is) =
    subst (λ (w : Text). Meets at w (next_at at w)) (sym is) (joined_turn at t)
meets_kind at word (other c cs is e) =
    subst (λ (w : Text). Meets at w (next_at at w)) (sym is)
    (subst (λ (o : Option At). Meets at (45 ∷ 45 ∷ c ∷ cs) o)
    (sym (next_other at c cs (not_alone c cs e) (not_joined c cs e))) (other_turn at c cs e))

-- ---- the words

abbrev end_of : Walk → List Text → Walk
end_of w words = fold (walked both_rules []) w words

abbrev fault_at : Walk → List Text → Kinds
fault_at w words = settle_fault both_rules false (end_of w words).held

pub record Passes (w : Walk) (words : List Text) (x : Layout) : Type 0 where
  pub walks : walk_fault top [] w words ≡ []
  pub settles : fault_at w words ≡ []
  pub holds : settled both_rules (end_of w words).held ≡ held_at (clear x)
  pub goes_on : (end_of w words).stopped ≡ None

abbrev pub Parses : Walk → List Text → Option Layout → Type 0
Parses w words None = is_empty (or_else (walk_fault top [] w words) (fault_at w words)) ≡ false
Parses w words (Some x) = Passes w words x

ends : (at : At) (o : Option Layout) → SettlesTo at o → Parses (walk_at at) [] o
unfolding walk_fault
ends at None h = h
ends at (Some x) h = record { walks = refl; settles = h.0; holds = h.1; goes_on = refl }

filled : {X : Type 0} (x : X) (xs : List X) → is_empty (x ∷ xs) ≡ false
filled x xs = grind (arith, nat_tests)

first_fails : (a b c : Kinds) → is_empty a ≡ false → is_empty (or_else (or_else a b) c) ≡ false
first_fails [] b c h = absurd (true≢false h)
first_fails (k ∷ ks) b c h = filled k _

refused : (w : Walk) (word : Text) (rest : List Text) → is_empty (turn_fault top [] w word) ≡ false
    → Parses w (word ∷ rest) None
unfolding walk_fault
refused w word rest h = first_fails (turn_fault top [] w word) _ _ h

passed : (w : Walk) (word : Text) (rest : List Text) (o : Option Layout)
    → turn_fault top [] w word ≡ [] → Parses (walked both_rules [] w word) rest o
    → Parses w (word ∷ rest) o
unfolding walk_fault
passed w word rest None e h =
    subst (λ (k : Kinds). is_empty
    (or_else (or_else k (walk_fault top [] (walked both_rules [] w word) rest))
    (fault_at w (word ∷ rest))) ≡ false) (sym e) h
passed w word rest (Some x) e h = record {
  walks =
      ap (λ (k : Kinds). or_else k (walk_fault top [] (walked both_rules [] w word) rest)) e
      ∙ h.walks;
  settles = h.settles;
  holds = h.holds;
  goes_on = h.goes_on;
}

step : (at : At) (word : Text) (rest : List Text) (o : Option At) → Meets at word o
    → ((to : At) → Parses (walk_at to) rest (run to rest))
    → Parses (walk_at at) (word ∷ rest) (option_and_then (λ to. run to rest) o)
step at word rest None m next = refused (walk_at at) word rest m
step at word rest (Some to) m next =
    passed (walk_at at) word rest (run to rest) m.0
    (subst (λ (w : Walk). Parses w rest (run to rest)) (sym m.1) (next to))

pub parses : (at : At) (words : List Text) → list_all is_fair words ≡ true
    → Parses (walk_at at) words (run at words)
parses at [] h = ends at (settled_at at) (settles at)
parses at (word ∷ rest) h =
    let fair = both (is_fair word) _ h in
    step at word rest (next_at at word) (meets_kind at word (kind_of word fair.0))
    (λ to. parses to rest fair.1)

-- ---- the whole

later_fails : (a b c d : Kinds) → is_empty (or_else a c) ≡ false
    → is_empty (or_else a (or_else b (or_else c d))) ≡ false
later_fails (k ∷ ks) b c d h = filled k _
later_fails [] (k ∷ ks) c d h = filled k _
later_fails [] [] (k ∷ ks) d h = filled k _
later_fails [] [] [] d h = absurd (true≢false h)

defaults_pass : (x : Layout) → defaults_fault (rows x) both_rules ≡ []
unfolding defaults_fault
defaults_pass none = refl
defaults_pass (v vs) = refl
defaults_pass (l t) = refl
defaults_pass (vl vs t) = refl
defaults_pass (lv t vs) = refl

stays : (x : Layout) → fold with_default (rows x) both_rules ≡ rows x
stays none = refl
stays (v vs) = refl
stays (l t) = refl
stays (vl vs t) = refl
stays (lv t vs) = refl

checks : (x : Layout) → check_fault top (rows x) false ≡ []
checks none = refl
checks (v vs) = refl
checks (l t) = refl
checks (vl vs t) = refl
checks (lv t vs) = refl

finished_as : (h : Held) (x : Layout) → settled both_rules h ≡ held_at (clear x)
    → finished both_rules h ≡ rows x
finished_as h x is = ap (λ (k : Held). fold with_default k.rows both_rules) is ∙ stays x

abbrev start : Walk
start = walk_at (clear none)

-- a parse of the command, by what its walk comes to
abbrev pub Yields : List Text → Option Layout → Type 0
Yields words None = is_empty (fault_of parser words) ≡ false
Yields words (Some x) = (fault_of parser words ≡ []) × (matches_of parser words ≡ rows x)

abbrev rest_of : Held → Bool → Kinds
rest_of h has =
    or_else (defaults_fault (settled both_rules h).rows both_rules)
    (check_fault top (finished both_rules h) has)

rest_passes : (h : Held) (x : Layout) → settled both_rules h ≡ held_at (clear x)
    → rest_of h false ≡ []
rest_passes h x is =
    ap (λ (k : Held). or_else (defaults_fault k.rows both_rules)
    (check_fault top (fold with_default k.rows both_rules) false)) is
    ∙ ap (λ (k : Kinds). or_else k (check_fault top (fold with_default (rows x) both_rules) false))
    (defaults_pass x)
    ∙ ap (λ (k : List Row). check_fault top k false) (stays x) ∙ checks x

yields : (words : List Text) (o : Option Layout) → Parses start words o → Yields words o
yields words None h =
    later_fails (walk_fault top [] start words)
    (entered_fault (built parser) (end_of start words).stopped) (fault_at start words)
    (rest_of (end_of start words).held
    (is_some (entered (built parser) (end_of start words).stopped))) h
yields words (Some x) h = (
  ap (λ (stop : Option (Text × List Text)). or_else (walk_fault top [] start words)
      (or_else (entered_fault (built parser) stop)
      (or_else (fault_at start words)
      (rest_of (end_of start words).held (is_some (entered (built parser) stop)))))) h.goes_on
      ∙ ap (λ (k : Kinds). or_else k
      (or_else (fault_at start words) (rest_of (end_of start words).held false))) h.walks
      ∙ ap (λ (k : Kinds). or_else k (rest_of (end_of start words).held false)) h.settles
      ∙ rest_passes (end_of start words).held x h.holds,
  finished_as (end_of start words).held x h.holds,
)

pub yields_run : (words : List Text) → list_all is_fair words ≡ true
    → Yields words (run (clear none) words)
yields_run words h = yields words (run (clear none) words) (parses (clear none) words h)
