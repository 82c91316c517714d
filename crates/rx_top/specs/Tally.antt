-- What the lines of a script come to, and the line that sums them up.
use Rattle.std.specs.Prelude.{◌≡◌, ℕ, ◌+◌, List, [], ◌∷◌, ◌++◌, length, sum_by, count_by, Option, None, option_map, option_and_then, codes, if◌then◌else◌}
use Rattle.std.specs.List.{last_or}
use Rattle.rx_digest.specs.Digest.{digest_of}
use Rattle.rx_engine.specs.Engine.{session_of}
use Rattle.rx_engine.specs.Meaning.{Meaning, meaning}
use Rattle.rx_engine.specs.Standing.{Standing}
use Rattle.rx_engine.specs.declared.engine.Engine.{Engine}
use Rattle.rx_engine.specs.declared.output.Output.{Output}
use Rattle.rx_reply.specs.Turn.{end_word}
use Rattle.rx_trial.specs.Summary.{summary_line}
use Rattle.rx_value.specs.Named.{named}
use Rattle.rx_world.specs.World.{World}
use Rattle.rx_top.specs.Script.{line_effect}
use Rattle.rx_top.specs.Story.{state_after}
use Rattle.rx_top.specs.declared.tally.Tally.{Tally}

-- what lines mean, one after another, from number n on; none of them is blank
abbrev pub meanings : ℕ → List (List ℕ) → Standing → List Meaning
meanings n [] s = []
meanings n (l ∷ ls) s = meaning n l s ∷ meanings (n + 1) ls (meaning n l s).next

-- how many lines these are, how many emissions they have, how many are refused, and how the turn of
-- the last one ended, if it made one
abbrev pub tally_of : List Meaning → Tally
tally_of ms = record {
  lines = length ms;
  emissions = sum_by (λ m. m.emissions) ms;
  refused = count_by (λ m. m.refused) ms;
  end = option_and_then (λ m. m.ended) (last_or None ms);
}

-- the tally with the line of an output more
abbrev pub with_line : Tally → Output → Tally
with_line t o = record {
  lines = t.lines + 1;
  emissions = t.emissions + o.emissions;
  refused = t.refused + (if o.refused then 1 else 0);
  end = o.end;
}

-- the digest of a collection's states, where it is held
abbrev pub digest_in : World → List ℕ → Option (List ℕ)
digest_in w name = option_map (λ c. digest_of c.documents) (named w.collections name)

-- the line that sums a tally up, with the world as it is then
abbrev pub summary_text : Tally → World → List ℕ
summary_text t w = summary_line (record {
  digest_f = digest_in w (codes "f");
  digest_m = digest_in w (codes "m");
  emissions = t.emissions;
  end = option_map end_word t.end;
  lines = t.lines;
  refused = t.refused;
}) ++ 10 ∷ []

-- the line that sums a script up which is played as things stand
abbrev pub summary_of : List (List ℕ) → Standing → List ℕ
summary_of script s =
    summary_text (tally_of (meanings 1 script s)) (state_after line_effect 1 script s).session.world

-- a tally and an engine are those that lines come to which are played as things stand
pub record ComesTo (lines : List (List ℕ)) (s : Standing) (engine : Engine) (t : Tally) : Type 0
  where
    pub tally : t ≡ tally_of (meanings 1 lines s)
    pub world : (session_of engine).world ≡ (state_after line_effect 1 lines s).session.world
