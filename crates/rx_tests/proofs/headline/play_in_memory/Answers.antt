use Rattle.std.proofs.Common.{◌≡◌, ◌∙◌, ◌∷◌, [], Some, ap, refl}
use Rattle.std.specs.Prelude.{codes}
use Rattle.rx_words.specs.Words.{command_of}
use Rattle.rx_words.specs.declared.command.Command.TheVariants.{Run}
use Rattle.rx_tests.proofs.headline.play_in_memory.Goals as goal

runs_a_journal : command_of (codes "run" ∷ codes "journal" ∷ [])
    ≡ Some (Run (codes "journal") 268435456)
runs_a_journal = refl

pub play-status-requires-clause-runs : goal.play-status-requires-clause-runs
play-status-requires-clause-runs g c =
    (codes "journal", 268435456, ap command_of c.in_ok-words.ensures ∙ runs_a_journal)
