-- What one word does to a parse.
use Rattle.std.proofs.Common.{◌≡◌, ◌∙◌, refl, ap, ap₂, ℕ, [], ◌∷◌, ◌++◌, ◌==◌, Bool, false, cond, Option, None, Some, option_map}
use Rattle.std.specs.Prelude.{option_and_then}
use Rattle.std.specs.List.{before_first}
use Rattle.std.specs.Str.{bytes_eq}
use Rattle.std.specs.Option.{option_map_or}
use Rattle.clap.specs.Faults.{bundle_fault, flag_word_fault, other_fault, step_fault, turn_fault, word_fault}
use Rattle.clap.specs.Kinds.{Kinds, or_else}
use Rattle.clap.specs.Lexer.{long_of, short_of}
use Rattle.clap.specs.Walk.{Held, Step, Text, Waiting, after_step, idle, is_empty, option, positional, long_or_other, plain_word, short_or_plain, subcommand_met, subcommand_or_other, trailing, walked, word_met}
use Rattle.rx_words.specs.Given.{option as option_word}
use Rattle.rx_words.specs.Parsed.{limit_id}
use Rattle.rx_words.proofs.Layouts.{At, clear, given, held_at, l, lv, none, rules, settled_at, top, v, value, vl, waiting_at, walk_at, wants, with_its_limit, with_one_more}

-- the word is refused, or takes the parse from one place to another
abbrev pub Meets : At → Text → Option At → Type 0
Meets at word None = is_empty (turn_fault top [] (walk_at at) word) ≡ false
Meets at word (Some to) =
    (turn_fault top [] (walk_at at) word ≡ []) × (walked rules [] (walk_at at) word ≡ walk_at to)

abbrev pub after_value : At → Text → Option At
after_value (clear x) word = Some (value x word)
after_value (value x w) word = Some (value (with_one_more x w) word)
after_value (wants x) word = Some (given x word)
after_value (given x t) word = option_map (λ y. value y word) (with_its_limit x t)

abbrev pub after_option : At → Option At
after_option at = option_map wants (settled_at at)

abbrev pub after_joined : At → Text → Option At
after_joined at t =
    option_and_then (λ x. option_map clear (with_its_limit x t)) (settled_at at)

-- a value is no flag
not_dashes : (b : ℕ) (bs : Text) → (b == 45) ≡ false → bytes_eq (b ∷ bs) (45 ∷ 45 ∷ []) ≡ false
not_dashes b bs e = rw e refl

not_long : (b : ℕ) (bs : Text) → (b == 45) ≡ false → long_of (b ∷ bs) ≡ None
not_long b bs e = rw e refl

not_short : (b : ℕ) (bs : Text) → (b == 45) ≡ false → short_of (b ∷ bs) ≡ None
not_short b bs e = rw e refl

no_subcommand : (waiting : Waiting) (word : Text) → subcommand_met [] waiting word ≡ None
no_subcommand idle word = refl
no_subcommand (option id) word = refl
no_subcommand positional word = refl

value_met : (waiting : Waiting) (b : ℕ) (bs : Text) (h : Held) → (b == 45) ≡ false
    → word_met rules [] false waiting 1 (b ∷ bs) h ≡ plain_word rules waiting (b ∷ bs) h
value_met waiting b bs h e =
    let word : Text = b ∷ bs in
    ap (λ (o : Option Text). subcommand_or_other rules o waiting 1 word h)
    (no_subcommand waiting word)
    ∙ ap (λ (t : Bool). cond t (h, trailing 1) (long_or_other rules waiting word (long_of word) h))
    (not_dashes b bs e)
    ∙ ap (λ (p : Option (Text × Option Text)). long_or_other rules waiting word p h)
    (not_long b bs e)
    ∙ ap (λ (p : Option Text). short_or_plain rules waiting word p h) (not_short b bs e)

value_passes : (waiting : Waiting) (b : ℕ) (bs : Text) (h : Held) → (b == 45) ≡ false
    → word_fault top [] false waiting (b ∷ bs) h ≡ []
value_passes waiting b bs h e =
    let word : Text = b ∷ bs in
    ap (λ (o : Option Text). other_fault top o word h) (no_subcommand waiting word)
    ∙ ap (λ (t : Bool). cond t [] (flag_word_fault rules false (long_of word) word h))
    (not_dashes b bs e)
    ∙ ap (λ (p : Option (Text × Option Text)). flag_word_fault rules false p word h)
    (not_long b bs e)
    ∙ ap (λ (p : Option Text). option_map_or (λ flags. bundle_fault rules false flags h) p [])
    (not_short b bs e)

-- a turn at a value, by what comes of a word that is no flag
value_at : (at : At) (b : ℕ) (bs : Text) → (b == 45) ≡ false
    → let met = plain_word rules (waiting_at at) (b ∷ bs) (held_at at) in
    (turn_fault top [] (walk_at at) (b ∷ bs) ≡ step_fault top 1 met.0 met.1)
    × (walked rules [] (walk_at at) (b ∷ bs)
    ≡ after_step rules (b ∷ bs) (walk_at at) met.0 met.1)
unfolding walked
value_at at b bs e =
    let is = value_met (waiting_at at) b bs (held_at at) e in
    let passes = value_passes (waiting_at at) b bs (held_at at) e in (
      ap₂ (λ (k : Kinds) (m : Held × Step). or_else k (step_fault top 1 m.0 m.1)) passes is,
      ap (λ (m : Held × Step). after_step rules (b ∷ bs) (walk_at at) m.0 m.1) is,
    )

pub value_turn : (at : At) (b : ℕ) (bs : Text) → (b == 45) ≡ false
    → Meets at (b ∷ bs) (after_value at (b ∷ bs))
value_turn (clear x) b bs e = value_at (clear x) b bs e
value_turn (value none w) b bs e = value_at (value none w) b bs e
value_turn (value (v vs) w) b bs e = value_at (value (v vs) w) b bs e
value_turn (value (l u) w) b bs e = value_at (value (l u) w) b bs e
value_turn (value (vl vs u) w) b bs e = value_at (value (vl vs u) w) b bs e
value_turn (value (lv u vs) w) b bs e = value_at (value (lv u vs) w) b bs e
value_turn (wants x) b bs e = value_at (wants x) b bs e
value_turn (given none t) b bs e = value_at (given none t) b bs e
value_turn (given (v vs) t) b bs e = value_at (given (v vs) t) b bs e
value_turn (given (l u) t) b bs e = ap is_empty (value_at (given (l u) t) b bs e).0
value_turn (given (vl vs u) t) b bs e = ap is_empty (value_at (given (vl vs u) t) b bs e).0
value_turn (given (lv u vs) t) b bs e = ap is_empty (value_at (given (lv u vs) t) b bs e).0

pub option_turn : (at : At) → Meets at option_word (after_option at)
unfolding walked
option_turn (clear x) = (refl, refl)
option_turn (value none w) = (refl, refl)
option_turn (value (v vs) w) = (refl, refl)
option_turn (value (l u) w) = (refl, refl)
option_turn (value (vl vs u) w) = (refl, refl)
option_turn (value (lv u vs) w) = (refl, refl)
option_turn (wants x) = refl
option_turn (given none t) = (refl, refl)
option_turn (given (v vs) t) = (refl, refl)
option_turn (given (l u) t) = refl
option_turn (given (vl vs u) t) = refl
option_turn (given (lv u vs) t) = refl

pub joined_turn : (at : At) (t : Text) → Meets at (option_word ++ 61 ∷ t) (after_joined at t)
unfolding walked
joined_turn (clear none) t = (refl, refl)
joined_turn (clear (v vs)) t = (refl, refl)
joined_turn (clear (l u)) t = refl
joined_turn (clear (vl vs u)) t = refl
joined_turn (clear (lv u vs)) t = refl
joined_turn (value none w) t = (refl, refl)
joined_turn (value (v vs) w) t = (refl, refl)
joined_turn (value (l u) w) t = refl
joined_turn (value (vl vs u) w) t = refl
joined_turn (value (lv u vs) w) t = refl
joined_turn (wants x) t = refl
joined_turn (given none u') t = refl
joined_turn (given (v vs) u') t = refl
joined_turn (given (l u) u') t = refl
joined_turn (given (vl vs u) u') t = refl
joined_turn (given (lv u vs) u') t = refl

pub other_turn : (at : At) (c : ℕ) (cs : Text)
    → bytes_eq limit_id (before_first (λ x. x == 61) (c ∷ cs)) ≡ false
    → is_empty (turn_fault top [] (walk_at at) (45 ∷ 45 ∷ c ∷ cs)) ≡ false
other_turn (clear x) c cs e = rw e refl
other_turn (value x w) c cs e = rw e refl
other_turn (wants x) c cs e = rw e refl
other_turn (given x t) c cs e = rw e refl
