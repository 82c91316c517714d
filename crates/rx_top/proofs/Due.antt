-- What was due where the work on a line stopped.
use Rattle.std.proofs.Common.{◌≡◌, ◌+◌, ℕ, List, ◌∷◌, Some, sym, subst}
use Rattle.rx_disk.specs.declared.disk.Disk.{Ghosts}
use Rattle.rx_engine.specs.Standing.{Standing}
use Rattle.rx_outside.specs.declared.stop.Stop.{Stop}
use Rattle.rx_outside.specs.declared.stop.Stop.TheVariants.{Disk, NotJournal, Full, Memory}
use Rattle.rx_store.specs.Holds.{GrowsLegally}
use Rattle.rx_store.specs.Safe.{IsFull}
use Rattle.rx_store.proofs.Growing.{grows_longer}
use Rattle.rx_top.specs.Chunks.{Grouping, all_of, in_groups, singly}
use Rattle.rx_top.specs.Run.{due_then}
use Rattle.rx_top.specs.Script.{line_effect}
use Rattle.rx_top.specs.Story.{Effect, chunks}

module _
    {D : Type 0} (d : Ghosts D) (d1 d2 : D) (before : List (List ℕ)) (n : ℕ) (l : List ℕ)
    (rest : List (List ℕ)) (s : Standing)
  where
    abbrev does : Effect Standing
    does = line_effect n l s

    -- a front of the next line's bodies is one of what was due
    longer : GrowsLegally d d1 d2 before does.bodies
        → GrowsLegally d d1 d2 before (all_of (chunks line_effect n (l ∷ rest) s))
    longer grows =
        grows_longer d d1 d2 before does.bodies
        (all_of (chunks line_effect (n + 1) rest does.next)) grows

    pub due_grows : (by : Grouping) (why : Stop) → GrowsLegally d d1 d2 before does.bodies
        → GrowsLegally d d1 d2 before (due_then by (Some why) n (l ∷ rest) s)
    due_grows singly why grows = grows
    due_grows in_groups (Full would most) grows = grows
    due_grows in_groups Disk grows = longer grows
    due_grows in_groups NotJournal grows = longer grows
    due_grows in_groups Memory grows = longer grows

    due_when_full : (by : Grouping) (would most : ℕ) → IsFull d d2 before does.bodies would most
        → IsFull d d2 before (due_then by (Some (Full would most)) n (l ∷ rest) s) would most
    due_when_full singly would most full = full
    due_when_full in_groups would most full = full

    -- one of them that didn't fit was due
    pub due_full : (by : Grouping) (why : Stop) (would most : ℕ) → why ≡ Full would most
        → IsFull d d2 before does.bodies would most
        → IsFull d d2 before (due_then by (Some why) n (l ∷ rest) s) would most
    due_full by why would most is full =
        subst (λ (x : Stop). IsFull d d2 before (due_then by (Some x) n (l ∷ rest) s) would most)
        (sym is) (due_when_full by would most full)
