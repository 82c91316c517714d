use Rattle.std.proofs.Common.{◌≡◌, drop}
use Rattle.rx_collection.specs.Hints.{bytes_number}
use Rattle.rx_collection.proofs.hints.number.Given as goal

-- with the bytes to come it gives what all give
abbrev pub invariant-loop-byte : goal.invariant-loop-byte
invariant-loop-byte l = bytes_number l.number (drop l.byte-index l.bytes) ≡ bytes_number 0 l.bytes
