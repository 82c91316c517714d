-- What is seen of a file that was read to its end.
use Rattle.std.proofs.Common.{◌≡◌, ℕ, ◌+◌, List, length, Some, sym, ◌∙◌, ap, subst, arith}
use Rattle.rx_frame.specs.File.{end_of, records}
use Rattle.rx_frame.proofs.Records.{stands_for_one}
use Rattle.rx_journal.specs.Windows.{HasVersion, LendAll, WillLend, version_of}
use Rattle.rx_journal.specs.declared.windows.Windows.{Windows}
use Rattle.rx_world.specs.Sound.{IsSoundWorld}
use Rattle.rx_world.specs.World.{World}
use Rattle.rx_store.specs.Counted.{AreCounted}
use Rattle.rx_store.specs.Holds.{IsLegalFile}
use Rattle.rx_store.specs.Versions.{replay_of}
use Rattle.rx_store.proofs.Opened.{some_is}
use Rattle.rx_store.proofs.Versions.{plays_told}

module _
    (file : List ℕ) (windows : Windows) (all : LendAll file file windows)
    (told : HasVersion file (version_of windows)) (bodies : List (List ℕ))
    (will : WillLend file windows bodies) (w : World) (count size : ℕ)
    (counted : AreCounted (version_of windows) bodies w count size)
  where
    plays : replay_of file bodies ≡ Some w
    plays = sym (plays_told file (version_of windows) bodies told) ∙ counted.plays

    pub is_legal : IsSoundWorld w → IsLegalFile file bodies w
    is_legal sound = record {
      stands = (all.stood bodies will).0;
      short = (all.stood bodies will).1;
      plays = plays;
      sound = sound;
    }

    -- where it is a legal file, it is seen as that
    module _ (bs : List (List ℕ)) (v : World) (lawful : IsLegalFile file bs v) where
      same_bodies : bodies ≡ bs
      same_bodies =
          stands_for_one file bodies bs (all.stood bodies will).0 lawful.stands

      same_world : w ≡ v
      same_world = some_is w v (sym plays ∙ ap (replay_of file) same_bodies ∙ lawful.plays)

      pub is_sound : IsSoundWorld w
      is_sound = subst IsSoundWorld (sym same_world) lawful.sound

      pub is_shown : (w ≡ v) × (count ≡ length bs) × (9 + size ≡ end_of bs)
      is_shown = (
        same_world,
        counted.counted ∙ ap length same_bodies,
        omega (arith, counted.sized, ap (λ bs. length (records bs)) same_bodies),
      )
