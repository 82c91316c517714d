-- What a script over an empty journal comes to.
use Rattle.std.specs.Prelude.{◌≡◌, ℕ, List, [], false, if◌then◌else◌}
use Rattle.rx_engine.specs.Calling.{WantedCall}
use Rattle.rx_engine.specs.Lines.{calls, task}
use Rattle.rx_engine.specs.Opening.{Host, opened}
use Rattle.rx_engine.specs.Standing.{Standing}
use Rattle.rx_store.specs.Holds.{IsLegalFile}
use Rattle.rx_sync.specs.Remote.{Heard}
use Rattle.rx_top.specs.Lines.{is_blank, lines}
use Rattle.rx_top.specs.Run.{run_bodies}
use Rattle.rx_top.specs.Script.{has_refusal, line_effect, transcript}
use Rattle.rx_top.specs.Story.{EachLine}
use Rattle.rx_world.specs.World.{World, empty}

-- the line makes no turn to a master elsewhere
abbrev pub CallsNoOne : ℕ → List ℕ → Standing → Standing → Type 0
CallsNoOne n line s next =
    is_blank line ≡ false → (c : WantedCall) → task s.kinds line s.session ≡ calls c → ⊥

-- It was played to its end, by what was heard of masters elsewhere. A script that calls none hears
-- nothing.
pub record IsPlayed
    (host : Host)
    (script : List ℕ)
    (heard : List Heard)
    (status : ℕ)
    (output journal : List ℕ) : Type 0 where
  pub told : output ≡ transcript (lines script) (opened host heard empty)
  pub kept : (after : World)
      × IsLegalFile journal (run_bodies host heard empty (lines script)) after
  pub refusal : status
      ≡ (if has_refusal (lines script) (opened host heard empty) then 1 else 0)
  pub unheard : EachLine line_effect CallsNoOne 1 (lines script) (opened host heard empty)
      → heard ≡ []
