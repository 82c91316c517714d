-- What a line that is no request is told.
use Rattle.std.specs.Prelude.{◌≡◌, ℕ, List, ◌++◌}
use Rattle.rx_outside.specs.Sink.{WritesFront}
use Rattle.rx_serve.specs.declared.ended.Ended.{Ended}
use Rattle.rx_serve.specs.declared.ended.Why.{Why}
use Rattle.rx_serve.specs.declared.ended.Why.TheVariants as why

-- the line was sent whole, or a front of it where the wire failed
abbrev pub IsToldFor : Why → List ℕ → List ℕ → List ℕ → Type 0
IsToldFor why.Request old new line = new ≡ old ++ line
IsToldFor why.Wire old new line = WritesFront old new line
IsToldFor why.Peer old new line = ⊥
IsToldFor why.Clock old new line = ⊥

abbrev pub IsRefused : Ended → List ℕ → List ℕ → List ℕ → Type 0
IsRefused ended = IsToldFor ended.why
