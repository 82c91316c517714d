-- The definitions compute on small lines and stops.
use Rattle.std.proofs.Common.{◌≡◌, refl, [], ◌∷◌, Err}
use Rattle.std.specs.Prelude.{codes}
use Rattle.std.specs.Fmt.{digits}
use Rattle.rx_outside.specs.declared.stop.Stop.TheVariants.{Disk}
use Rattle.rx_top.specs.Lines.{lines}
use Rattle.rx_top.specs.Stops.{full_line, last_words}
use Rattle.rx_top.specs.declared.early_end.EarlyEnd.TheVariants.{Work}

-- a line may be empty, and the last one needs no end
in_lines : lines (codes "a\n\nb") ≡ codes "a" ∷ [] ∷ codes "b" ∷ []
in_lines = refl

full_is_told : full_line 23 22 ≡ codes "{\"limit\":22,\"stop\":\"full\",\"would\":23}\n"
unfolding digits
full_is_told = refl

disk_is_told : last_words (Err (Work Disk)) ≡ codes "{\"stop\":\"disk\"}\n"
disk_is_told = refl
