-- What a run may begin with: a file that a run left, and an empty one.
use Rattle.std.proofs.Common.{◌≡◌, refl, sym, ◌∙◌, ap, subst, ℕ, List, [], ◌++◌, Some, inl, arith}
use Rattle.rx_disk.specs.declared.disk.Disk.{Ghosts}
use Rattle.rx_store.specs.Holds.{IsLegalFile, StandsAlike, StandsLegally}
use Rattle.rx_store.specs.Versions.{replay_in, replay_of}
use Rattle.rx_store.proofs.Versions.{version_short}
use Rattle.rx_world.specs.World.{World, empty}
use Rattle.rx_world.proofs.Replays.{replay_from-nothing}
use Rattle.rx_world.proofs.Sounds.{sound_empty}
use Rattle.rx_top.specs.Start.{GoesOn, IsSettled, IsStart, StartsEmpty}

-- a disk that holds a file, and nothing else, whose bodies make a sound world
settled_start : {E : Type 0} (e : Ghosts E) (disk : E) (file : List ℕ) (bodies : List (List ℕ))
    (w : World) → IsLegalFile file bodies w → IsSettled e disk file → IsStart e disk bodies w
settled_start e disk file bodies w legal settled = record {
  legal = subst (λ (f : List ℕ). IsLegalFile f bodies w) (sym settled.content) legal;
  alike = λ c here.
      subst (λ (f : List ℕ). StandsAlike f bodies c) (sym settled.content)
      (subst (λ (f : List ℕ). StandsAlike file bodies f) (sym (settled.only c here))
      (record { stands = legal.stands; version = refl }));
}

-- one that a run left
starts : {E : Type 0} (e : Ghosts E) (disk : E) (file : List ℕ) (bodies more : List (List ℕ))
    → StandsLegally bodies more file → IsSettled e disk file
    → (added : List (List ℕ)) × (w : World) × IsStart e disk (bodies ++ added) w
starts e disk file bodies more s settled = (
  s.front,
  s.world,
  settled_start e disk file (bodies ++ s.front) s.world
      (record { stands = s.stands; short = s.short; plays = s.legal; sound = s.sound }) settled,
)

pub goes_on : {D E : Type 0} (d : Ghosts D) (e : Ghosts E) → GoesOn d e
goes_on d e = λ old new bodies legal file left disk settled.
    starts e disk file bodies legal.more (legal.moments.each file left) settled

plays_nothing : replay_of [] [] ≡ Some empty
plays_nothing =
    ap (λ (n : ℕ). replay_in n []) (version_short [] (omega arith))
    ∙ replay_from-nothing (Some empty)

pub starts_empty : {D : Type 0} (d : Ghosts D) → StartsEmpty d
starts_empty d = λ disk settled.
    settled_start d disk [] [] empty
    (record {
      stands = inl (omega arith, refl);
      short = omega arith;
      plays = plays_nothing;
      sound = sound_empty;
    }) settled
