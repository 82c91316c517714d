use Rattle.std.proofs.Common.{◌≡◌, ℕ, List}
use Rattle.rx_journal.specs.Ready.{HasStaged}
use Rattle.rx_system_tests.proofs.groups.stage_all.Given as goal

-- what is staged stands for some bodies, if it did so before
abbrev pub invariant-loop-len : goal.invariant-loop-len
invariant-loop-len l =
    (l.journal.end ≡ l.initial.journal.end)
    × ((more : List (List ℕ)) × HasStaged l.initial.journal more
    → (all : List (List ℕ)) × HasStaged l.journal all)
