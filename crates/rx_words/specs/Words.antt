-- The words of a command.
use Rattle.std.specs.Prelude.{ℕ, List, [], ◌∷◌, codes, if◌then◌else◌, Option, None, Some, option_and_then}
use Rattle.std.specs.Str.{bytes_eq}
use Rattle.rx_value.specs.Name.{is_name}
use Rattle.rx_words.specs.Given.{Given, given}
use Rattle.rx_words.specs.Number.{number_within}
use Rattle.rx_words.specs.declared.command.Command.{Command}
use Rattle.rx_words.specs.declared.command.Command.TheVariants.{Run, Serve, Check, Trial, Compact}

-- the numbers that the words may give: a limit, which is of a journal's length, and the limit of a
-- command that gives none; a port; connections; a seed; and lines of a trial

abbrev pub least_limit : ℕ
least_limit = 9

abbrev pub most_limit : ℕ
most_limit = 4294967295

abbrev pub usual_limit : ℕ
usual_limit = 268435456

abbrev pub most_port : ℕ
most_port = 65535

abbrev pub most_connections : ℕ
most_connections = 1000000

abbrev pub most_seed : ℕ
most_seed = 18446744073709551615

abbrev pub most_lines : ℕ
most_lines = 1000000

abbrev pub limit_of : Option (List ℕ) → Option ℕ
limit_of None = Some usual_limit
limit_of (Some word) = number_within least_limit most_limit word

-- each command, where the values are its own, in order

abbrev pub run_of : List (List ℕ) → Option ℕ → Option Command
run_of (path ∷ []) (Some limit) = Some (Run path limit)
run_of _ _ = None

abbrev pub serve_with : List ℕ → List ℕ → Option ℕ → Option ℕ → Option ℕ → Option Command
serve_with path collection (Some port) (Some connections) (Some limit) =
    if is_name collection then Some (Serve path collection port connections limit) else None
serve_with path collection _ _ _ = None

abbrev pub serve_of : List (List ℕ) → Option ℕ → Option Command
serve_of (path ∷ collection ∷ port ∷ connections ∷ []) limit =
    serve_with path collection (number_within 1 most_port port)
    (number_within 1 most_connections connections) limit
serve_of _ limit = None

abbrev pub check_of : List (List ℕ) → Option (List ℕ) → Option Command
check_of (path ∷ []) None = Some (Check path)
check_of _ _ = None

abbrev pub trial_with : List ℕ → Option ℕ → Option ℕ → Option ℕ → Option Command
trial_with path (Some seed) (Some count) (Some limit) = Some (Trial path seed count limit)
trial_with path _ _ _ = None

abbrev pub trial_of : List (List ℕ) → Option ℕ → Option Command
trial_of (path ∷ seed ∷ count ∷ []) limit =
    trial_with path (number_within 0 most_seed seed) (number_within 0 most_lines count) limit
trial_of _ limit = None

abbrev pub compact_of : List (List ℕ) → Option ℕ → Option Command
compact_of (path ∷ copy ∷ []) (Some limit) = Some (Compact path copy limit)
compact_of _ _ = None

-- the command of a name, and what the words behind it give
abbrev pub command_by : List ℕ → Given → Option Command
command_by name g =
    if bytes_eq name (codes "run") then run_of g.values (limit_of g.limit)
    else if bytes_eq name (codes "serve") then serve_of g.values (limit_of g.limit)
    else if bytes_eq name (codes "check") then check_of g.values g.limit
    else if bytes_eq name (codes "trial") then trial_of g.values (limit_of g.limit)
    else if bytes_eq name (codes "compact") then compact_of g.values (limit_of g.limit)
    else None

-- the command that words are, or none
abbrev pub command_of : List (List ℕ) → Option Command
command_of [] = None
command_of (name ∷ words) = option_and_then (command_by name) (given words)

abbrev pub path_of : Command → List ℕ
path_of (Run path limit) = path
path_of (Serve path collection port connections limit) = path
path_of (Check path) = path
path_of (Trial path seed count limit) = path
path_of (Compact path copy limit) = path

-- the path of the journal that a command makes, if it makes one
abbrev pub copy_of : Command → Option (List ℕ)
copy_of (Run path limit) = None
copy_of (Serve path collection port connections limit) = None
copy_of (Check path) = None
copy_of (Trial path seed count limit) = None
copy_of (Compact path copy limit) = Some copy

-- the length that a command grants the journal that it writes, where it writes one
abbrev pub limit_granted : Command → Option ℕ
limit_granted (Run path limit) = Some limit
limit_granted (Serve path collection port connections limit) = Some limit
limit_granted (Check path) = None
limit_granted (Trial path seed count limit) = Some limit
limit_granted (Compact path copy limit) = Some limit
