-- The line that sums a trial up.
use Rattle.std.specs.Prelude.{ℕ, List, [], ◌∷◌, ◌++◌, Option, Some, None, codes, decimal}
use Rattle.std.specs.List.{concat}
use Rattle.rx_trial.specs.declared.summary.Summary.{Summary}

-- the text, or `none`
abbrev pub or_none : Option (List ℕ) → List ℕ
or_none None = codes "none"
or_none (Some word) = word

-- its beginning, with the digests
abbrev pub digests_text : Summary → List ℕ
digests_text s = concat (codes "{\"digest_f\":\"" ∷ or_none s.digest_f
    ∷ codes "\",\"digest_m\":\"" ∷ or_none s.digest_m ∷ codes "\"" ∷ [])

-- the rest of it
abbrev pub counts_text : Summary → List ℕ
counts_text s = concat (codes ",\"emissions\":" ∷ decimal s.emissions
    ∷ codes ",\"end\":\"" ∷ or_none s.end ∷ codes "\",\"lines\":" ∷ decimal s.lines
    ∷ codes ",\"refused\":" ∷ decimal s.refused ∷ codes "}" ∷ [])

abbrev pub summary_line : Summary → List ℕ
summary_line s = digests_text s ++ counts_text s
