-- What a parse says of the words.
use Rattle.std.specs.Prelude.{ℕ, List, [], ◌∷◌, codes, Bool, true, false, Some, ◌&&◌, ◌||◌, ◌==◌, unwrap_or, option_map}
use Rattle.clap.specs.Simple.{App, new_app, new_rule, on_top, with_rule}
use Rattle.clap.specs.Walk.{Rule}
use Rattle.clap.specs.Words.{first_value, found_of, matched_of, raw_values}
use Rattle.clap.specs.declared.builder.action.ArgAction.TheVariants.{Append}
use Rattle.clap.specs.declared.parser.matches.ArgMatches.{ArgMatches}
use Rattle.rx_words.specs.Given.{Given, is_value}

abbrev pub values_id : List ℕ
values_id = codes "values"

abbrev pub limit_id : List ℕ
limit_id = codes "max-journal"

-- a parser of values, as many as there are, and of one option
abbrev pub values_rule : Rule
values_rule = record (new_rule values_id) { action = Some Append }

abbrev pub limit_rule : Rule
limit_rule = record (new_rule limit_id) { long = Some limit_id }

-- without a name in front and without help
abbrev pub bare : App
bare =
    on_top (λ s. record s { no_binary_name = true; disable_help_flag = true })
    (new_app (codes "rx"))

abbrev pub parser : App
parser = with_rule (with_rule bare values_rule) limit_rule

-- `--`, and more behind it
abbrev pub is_long : List ℕ → Bool
is_long (a ∷ b ∷ c ∷ rest) = a == 45 && b == 45
is_long _ = false

-- the words that `clap` takes for what they are here
abbrev pub is_fair : List ℕ → Bool
is_fair word = is_value word || is_long word

-- what the matches give
abbrev pub given_in : ArgMatches → Given
given_in m = record {
  values = unwrap_or (option_map raw_values (matched_of (found_of m) values_id)) [];
  limit = first_value (found_of m) limit_id;
}
