-- What a parse says of the words, whether it succeeds or not.
use Rattle.std.proofs.Common.{◌≡◌, ◌∙◌, ap, sym, subst, List, Option, None, Some, option_map, true, true≢false, refl, []}
use Rattle.std.specs.List.{list_all}
use Rattle.clap.specs.Faults.{fault_of}
use Rattle.clap.specs.Kinds.{IsAmong, Kinds}
use Rattle.clap.specs.Matches.{found_of}
use Rattle.clap.specs.Simple.{matches_of}
use Rattle.clap.specs.Walk.{Text, is_empty, rows_of}
use Rattle.clap.specs.declared.error.kind.ErrorKind.{ErrorKind}
use Rattle.clap.specs.declared.parser.matches.ArgMatches.{ArgMatches}
use Rattle.rx_words.specs.Given.{given}
use Rattle.rx_words.specs.Parsed.{given_in, is_fair, parser}
use Rattle.rx_words.proofs.Layouts.{Layout, clear, none}
use Rattle.rx_words.proofs.Parts.{matches_give, parts, run_gives}
use Rattle.rx_words.proofs.Runs.{Yields, run, yields_run}

pub matched : (m : ArgMatches) (words : List Text) → list_all is_fair words ≡ true
    → fault_of parser words ≡ []
    → rows_of (found_of m) ≡ matches_of parser words → Some (given_in m) ≡ given words
matched m words fair passes rows =
    go (run (clear none) words) (yields_run words fair) ∙ run_gives words fair
  where
    go : (o : Option Layout) → Yields words o → Some (given_in m) ≡ option_map parts o
    go None h = absurd (true≢false (sym (ap (λ (k : Kinds). is_empty k) passes) ∙ h))
    go (Some x) h = ap (λ g. Some g) (matches_give m x (rows ∙ h.1))

pub refused : (k : ErrorKind) (words : List Text) → list_all is_fair words ≡ true
    → IsAmong k (fault_of parser words)
    → None ≡ given words
refused k words fair among =
    go (run (clear none) words) (yields_run words fair) ∙ run_gives words fair
  where
    go : (o : Option Layout) → Yields words o → None ≡ option_map parts o
    go None h = refl
    go (Some x) h = absurd (subst (IsAmong k) h.0 among)
