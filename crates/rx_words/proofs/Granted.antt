-- The limit of a command is one that a journal may have.
use Rattle.std.proofs.Common.{◌≡◌, refl, subst, ℕ, ◌<◌, ◌≤◌, ◌^◌, Bool, true, false, ◌&&◌, cond, leb, List, [], ◌∷◌, Option, None, Some, IfSome, arith}
use Rattle.std.proofs.lemmas.Bool.{leb-true}
use Rattle.std.specs.Prelude.{codes, option_and_then}
use Rattle.std.specs.Str.{bytes_eq}
use Rattle.std.specs.Str.Parse.{digits_value}
use Rattle.std.specs.Cmp.{first_so, second_so}
use Rattle.rx_value.specs.Name.{is_name}
use Rattle.rx_words.specs.Given.{Given, given}
use Rattle.rx_words.specs.Number.{is_numeral, is_within, number_within}
use Rattle.rx_words.specs.Words.{check_of, command_by, command_of, compact_of, limit_of, run_of, serve_of, serve_with, trial_of, trial_with}
use Rattle.rx_words.specs.declared.command.Command.{Command}
use Rattle.rx_words.specs.declared.command.Command.TheVariants.{Run, Serve, Check, Trial, Compact}

abbrev pub IsGranted : ℕ → Type 0
IsGranted n = (9 ≤ n) × (n < 2 ^ 32)

abbrev pub HasLimit : Command → Type 0
HasLimit (Run path limit) = IsGranted limit
HasLimit (Serve path collection port connections limit) = IsGranted limit
HasLimit (Check path) = Unit
HasLimit (Trial path seed count limit) = IsGranted limit
HasLimit (Compact path copy limit) = IsGranted limit

choice : {A : Type 0} (P : A → Type 0) (b : Bool) (x y : Option A) → (b ≡ true → IfSome x P)
    → IfSome y P → IfSome (cond b x y) P
choice P true x y h k = h refl
choice P false x y h k = k

limit_good : (word : Option (List ℕ)) → IfSome (limit_of word) IsGranted
limit_good None = (omega arith, omega arith)
limit_good (Some word) =
    let v = digits_value 10 word in
    choice IsGranted (is_numeral word && is_within 9 4294967295 v) (Some v) None
    (λ h. let w = second_so (is_numeral word) (is_within 9 4294967295 v) h in (
      leb-true 9 v (first_so (leb 9 v) (leb v 4294967295) w),
      omega (arith, leb-true v 4294967295 (second_so (leb 9 v) (leb v 4294967295) w)),
    )) tt

run_good : (values : List (List ℕ)) (limit : Option ℕ) → IfSome limit IsGranted
    → IfSome (run_of values limit) HasLimit
run_good [] limit h = tt
run_good (path ∷ []) None h = tt
run_good (path ∷ []) (Some limit) h = h
run_good (path ∷ more ∷ values) limit h = tt

serve_good : (path collection : List ℕ) (port connections limit : Option ℕ) → IfSome limit IsGranted
    → IfSome (serve_with path collection port connections limit) HasLimit
serve_good path collection None connections limit h = tt
serve_good path collection (Some port) None limit h = tt
serve_good path collection (Some port) (Some connections) None h = tt
serve_good path collection (Some port) (Some connections) (Some limit) h =
    choice HasLimit (is_name collection) (Some (Serve path collection port connections limit)) None
    (λ _. h) tt

serves_good : (values : List (List ℕ)) (limit : Option ℕ) → IfSome limit IsGranted
    → IfSome (serve_of values limit) HasLimit
serves_good [] limit h = tt
serves_good (a ∷ []) limit h = tt
serves_good (a ∷ b ∷ []) limit h = tt
serves_good (a ∷ b ∷ c ∷ []) limit h = tt
serves_good (a ∷ b ∷ c ∷ d ∷ []) limit h =
    serve_good a b (number_within 1 65535 c) (number_within 1 1000000 d) limit h
serves_good (a ∷ b ∷ c ∷ d ∷ e ∷ more) limit h = tt

check_good : (values : List (List ℕ)) (limit : Option (List ℕ))
    → IfSome (check_of values limit) HasLimit
check_good [] limit = tt
check_good (path ∷ []) None = tt
check_good (path ∷ []) (Some limit) = tt
check_good (path ∷ more ∷ values) limit = tt

trial_good : (path : List ℕ) (seed count limit : Option ℕ) → IfSome limit IsGranted
    → IfSome (trial_with path seed count limit) HasLimit
trial_good path None count limit h = tt
trial_good path (Some seed) None limit h = tt
trial_good path (Some seed) (Some count) None h = tt
trial_good path (Some seed) (Some count) (Some limit) h = h

trials_good : (values : List (List ℕ)) (limit : Option ℕ) → IfSome limit IsGranted
    → IfSome (trial_of values limit) HasLimit
trials_good [] limit h = tt
trials_good (a ∷ []) limit h = tt
trials_good (a ∷ b ∷ []) limit h = tt
trials_good (a ∷ b ∷ c ∷ []) limit h =
    trial_good a (number_within 0 18446744073709551615 b) (number_within 0 1000000 c) limit h
trials_good (a ∷ b ∷ c ∷ d ∷ more) limit h = tt

compact_good : (values : List (List ℕ)) (limit : Option ℕ) → IfSome limit IsGranted
    → IfSome (compact_of values limit) HasLimit
compact_good [] limit h = tt
compact_good (a ∷ []) limit h = tt
compact_good (a ∷ b ∷ []) (Some limit) h = h
compact_good (a ∷ b ∷ []) None h = tt
compact_good (a ∷ b ∷ c ∷ more) limit h = tt

by_good : (name : List ℕ) (g : Given) → IfSome (command_by name g) HasLimit
by_good name g =
    let limit = limit_of g.limit in
    let good = limit_good g.limit in
    choice HasLimit (bytes_eq name (codes "run")) (run_of g.values limit) _
    (λ _. run_good g.values limit good)
    (choice HasLimit (bytes_eq name (codes "serve")) (serve_of g.values limit) _
    (λ _. serves_good g.values limit good)
    (choice HasLimit (bytes_eq name (codes "check")) (check_of g.values g.limit) _
    (λ _. check_good g.values g.limit)
    (choice HasLimit (bytes_eq name (codes "trial")) (trial_of g.values limit) _
    (λ _. trials_good g.values limit good)
    (choice HasLimit (bytes_eq name (codes "compact")) (compact_of g.values limit) None
    (λ _. compact_good g.values limit good) tt))))

given_good : (name : List ℕ) (g : Option Given)
    → IfSome (option_and_then (command_by name) g) HasLimit
given_good name None = tt
given_good name (Some g) = by_good name g

command_good : (words : List (List ℕ)) → IfSome (command_of words) HasLimit
command_good [] = tt
command_good (name ∷ words) = given_good name (given words)

-- so it is of a command
pub granted : (words : List (List ℕ)) (c : Command) → command_of words ≡ Some c → HasLimit c
granted words c is = subst (λ (o : Option Command). IfSome o HasLimit) is (command_good words)
