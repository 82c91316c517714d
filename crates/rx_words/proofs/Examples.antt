-- The definition computes on words.
use Rattle.std.proofs.Common.{◌≡◌, refl, [], ◌∷◌, None, Some}
use Rattle.std.specs.Prelude.{codes}
use Rattle.rx_words.specs.Words.{command_of}
use Rattle.rx_words.specs.declared.command.Command.TheVariants.{Run, Serve, Check, Trial, Compact}

run_alone : command_of (codes "run" ∷ codes "j" ∷ [])
    ≡ Some (Run (codes "j") 268435456)
run_alone = refl

limit_behind : command_of
    (codes "run" ∷ codes "j" ∷ codes "--max-journal" ∷ codes "4294967295" ∷ [])
    ≡ Some (Run (codes "j") 4294967295)
limit_behind = refl

limit_before : command_of (codes "run" ∷ codes "--max-journal=009" ∷ codes "j" ∷ [])
    ≡ Some (Run (codes "j") 9)
limit_before = refl

limit_between : command_of
    (codes "serve" ∷ codes "j" ∷ codes "c" ∷ codes "--max-journal" ∷ codes "100" ∷ codes "8080"
    ∷ codes "5" ∷ [])
    ≡ Some (Serve (codes "j") (codes "c") 8080 5 100)
limit_between = refl

least_numbers : command_of (codes "serve" ∷ codes "j" ∷ codes "c" ∷ codes "1" ∷ codes "1" ∷ [])
    ≡ Some (Serve (codes "j") (codes "c") 1 1 268435456)
least_numbers = refl

greatest_numbers : command_of
    (codes "serve" ∷ codes "j" ∷ codes "c" ∷ codes "65535" ∷ codes "1000000" ∷ [])
    ≡ Some (Serve (codes "j") (codes "c") 65535 1000000 268435456)
greatest_numbers = refl

check_alone : command_of (codes "check" ∷ codes "j" ∷ [])
    ≡ Some (Check (codes "j"))
check_alone = refl

trial_alone : command_of (codes "trial" ∷ codes "j" ∷ codes "0" ∷ codes "1" ∷ [])
    ≡ Some (Trial (codes "j") 0 1 268435456)
trial_alone = refl

greatest_seed : command_of
    (codes "trial" ∷ codes "j" ∷ codes "18446744073709551615" ∷ codes "1000000"
    ∷ codes "--max-journal=9" ∷ [])
    ≡ Some (Trial (codes "j") 18446744073709551615 1000000 9)
greatest_seed = refl

path_named_as_a_command : command_of (codes "run" ∷ codes "run" ∷ [])
    ≡ Some (Run (codes "run") 268435456)
path_named_as_a_command = refl

compact_alone : command_of (codes "compact" ∷ codes "j" ∷ codes "k" ∷ [])
    ≡ Some (Compact (codes "j") (codes "k") 268435456)
compact_alone = refl

-- no command

no_words : command_of [] ≡ None
no_words = refl

no_path : command_of (codes "run" ∷ []) ≡ None
no_path = refl

two_paths : command_of (codes "run" ∷ codes "j" ∷ codes "k" ∷ []) ≡ None
two_paths = refl

unknown_command : command_of (codes "play" ∷ codes "j" ∷ []) ≡ None
unknown_command = refl

empty_path : command_of (codes "run" ∷ [] ∷ []) ≡ None
empty_path = refl

dash_as_a_path : command_of (codes "run" ∷ codes "-" ∷ []) ≡ None
dash_as_a_path = refl

end_of_options : command_of (codes "run" ∷ codes "--" ∷ codes "j" ∷ []) ≡ None
end_of_options = refl

another_option : command_of (codes "run" ∷ codes "j" ∷ codes "--max-journals=9" ∷ []) ≡ None
another_option = refl

option_twice : command_of
    (codes "run" ∷ codes "j" ∷ codes "--max-journal=9" ∷ codes "--max-journal=9" ∷ []) ≡ None
option_twice = refl

option_before_the_command : command_of
    (codes "--max-journal" ∷ codes "9" ∷ codes "run" ∷ codes "j" ∷ []) ≡ None
option_before_the_command = refl

option_at_the_end : command_of (codes "run" ∷ codes "j" ∷ codes "--max-journal" ∷ []) ≡ None
option_at_the_end = refl

option_for_a_number : command_of
    (codes "run" ∷ codes "j" ∷ codes "--max-journal" ∷ codes "--max-journal=9" ∷ []) ≡ None
option_for_a_number = refl

option_with_nothing : command_of (codes "run" ∷ codes "j" ∷ codes "--max-journal=" ∷ []) ≡ None
option_with_nothing = refl

limit_with_check : command_of (codes "check" ∷ codes "j" ∷ codes "--max-journal" ∷ codes "100" ∷ [])
    ≡ None
limit_with_check = refl

limit_too_low : command_of (codes "run" ∷ codes "j" ∷ codes "--max-journal=8" ∷ []) ≡ None
limit_too_low = refl

limit_too_high : command_of (codes "run" ∷ codes "j" ∷ codes "--max-journal=4294967296" ∷ []) ≡ None
limit_too_high = refl

sign_before_a_number : command_of (codes "run" ∷ codes "j" ∷ codes "--max-journal=+9" ∷ []) ≡ None
sign_before_a_number = refl

port_zero : command_of (codes "serve" ∷ codes "j" ∷ codes "c" ∷ codes "0" ∷ codes "1" ∷ []) ≡ None
port_zero = refl

port_too_high : command_of (codes "serve" ∷ codes "j" ∷ codes "c" ∷ codes "65536" ∷ codes "1" ∷ [])
    ≡ None
port_too_high = refl

no_connections : command_of (codes "serve" ∷ codes "j" ∷ codes "c" ∷ codes "1" ∷ codes "0" ∷ [])
    ≡ None
no_connections = refl

too_many_connections : command_of
    (codes "serve" ∷ codes "j" ∷ codes "c" ∷ codes "1" ∷ codes "1000001" ∷ []) ≡ None
too_many_connections = refl

no_name : command_of (codes "serve" ∷ codes "j" ∷ codes "C" ∷ codes "1" ∷ codes "1" ∷ []) ≡ None
no_name = refl

seed_too_high : command_of
    (codes "trial" ∷ codes "j" ∷ codes "18446744073709551616" ∷ codes "1" ∷ []) ≡ None
seed_too_high = refl

too_many_lines : command_of (codes "trial" ∷ codes "j" ∷ codes "0" ∷ codes "1000001" ∷ []) ≡ None
too_many_lines = refl

no_number : command_of (codes "trial" ∷ codes "j" ∷ codes "0" ∷ codes "1e3" ∷ []) ≡ None
no_number = refl
