use Rattle.std.proofs.Common.{◌≡◌, ◌++◌, map, option_map}
use Rattle.std.specs.List.{last_or}
use Rattle.rx_stream.proofs.event.event_with.Given as goal

-- the states so far and those of the documents to come, and the last document
abbrev pub invariant-loop-held : goal.invariant-loop-held
invariant-loop-held l =
    (l.states ++ map (λ d. d.state) l.held-iterator ≡ map (λ d. d.state) l.initial.held-iterator)
    × (last_or (option_map (λ d. d.now) l.last) l.held-iterator
    ≡ last_or (option_map (λ d. d.now) l.initial.last) l.initial.held-iterator)
    × (goal.iterator-loop-held).can_next l.held-iterator
    × (goal.iterator-loop-held).is_finite l.held-iterator
