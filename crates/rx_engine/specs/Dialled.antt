-- What a dial shows of a turn to a master that is elsewhere.
use Rattle.std.specs.Prelude.{◌≡◌, ◌⊎◌, ◌<◌, ◌≤◌, ℕ, List, [], ◌∷◌, ◌++◌, length, map, true, nat_lt}
use Rattle.std.specs.List.{AllByRecursion, flat_map}
use Rattle.rx_outside.specs.Failed.{Rises}
use Rattle.rx_outside.specs.Talk.{Talk, broken_after}
use Rattle.rx_serve.specs.Course.{IsFront}
use Rattle.rx_serve.specs.Lines.{cut}
use Rattle.rx_serve.specs.Served.{as_line}
use Rattle.rx_sync.specs.Remote.{Heard, no_dial, no_wire, no_line, line}
use Rattle.rx_wire.specs.Limits.{longest_line}

-- texts as lines, one after another
abbrev pub as_lines : List (List ℕ) → List ℕ
as_lines texts = flat_map as_line texts

-- no line ends in what was given last: the master has nothing more to give, or it gave more than a
-- line may have
abbrev pub IsWithoutLine : List ℕ → List ℕ → Type 0
IsWithoutLine rest left =
    ((left ≡ []) × (length rest ≤ longest_line)) ⊎ (longest_line < length rest)

-- What was heard last and is no line, if anything was. All texts were sent, or a front of them
-- where the wire failed. Nothing was received behind the end of the last line.
abbrev pub EndsBy : List Heard → List (List ℕ) → Talk → Type 0
EndsBy [] texts t = ((cut t.given).rest ≡ []) × (t.sent ≡ as_lines texts)
EndsBy (no_wire ∷ []) texts t = (t.failed ≡ true) × IsFront t.sent (as_lines texts)
EndsBy (no_line ∷ []) texts t =
    IsWithoutLine (cut t.given).rest t.left × (t.sent ≡ as_lines texts)
EndsBy other texts t = ⊥

-- over a wire with this talk: each line that it gave was heard in turn, after the text that asked
-- for it
pub record IsHeardIn (texts : List (List ℕ)) (heard : List Heard) (t : Talk) : Type 0 where
  pub last : List Heard
  pub lines : heard ≡ map (λ l. line l) (cut t.given).whole ++ last
  pub ends : EndsBy last texts t

-- how a dial stands: the count of its calls that failed, that of its wires that failed, its talks,
-- and the ports that were dialled
pub record DialStanding : Type 0 where
  pub faults : ℕ
  pub broken : ℕ
  pub talks : List Talk
  pub asked : List ℕ

-- it was dialled once, at a port, and gave no wire; a form in memory may want memory to note that
pub record FailsToDial (port : ℕ) (old new : DialStanding) (heard : List Heard) : Type 0 where
  pub heard_so : heard ≡ no_dial ∷ []
  pub rises : Rises old.faults new.faults
  pub same_broken : new.broken ≡ old.broken
  pub same_talks : new.talks ≡ old.talks
  pub asked : (new.asked ≡ old.asked ++ port ∷ []) ⊎ (new.asked ≡ old.asked)

-- it was dialled once, at a port, and gave a wire, over which something was heard after each text;
-- the wire was handed back, and its talk is the last one where wires tell; it is heard to have
-- failed only where the count of such wires rose
pub record Dials (tells : Type 0) (port : ℕ) (old new : DialStanding) (texts : List (List ℕ))
    (heard : List Heard) : Type 0 where
  pub wire : ℕ
  pub each : length texts ≡ length heard
  pub got : AllByRecursion (λ h. h ≡ no_dial → ⊥) heard
  pub faults : old.faults ≤ new.faults
  pub broken : new.broken ≡ broken_after old.broken wire
  pub failed : (front : List Heard) → heard ≡ front ++ no_wire ∷ [] → Rises old.broken new.broken
  pub asked : tells → new.asked ≡ old.asked ++ port ∷ []
  pub talk : tells → (t : Talk) × (t.failed ≡ nat_lt 0 wire)
      × (new.talks ≡ old.talks ++ t ∷ []) × IsHeardIn texts heard t

-- It was dialled once, at a port, with these texts, and that was heard.
abbrev pub IsDialled : Type 0 → ℕ → DialStanding → DialStanding → List (List ℕ) → List Heard
    → Type 0
IsDialled tells port old new texts heard =
    FailsToDial port old new heard ⊎ Dials tells port old new texts heard
