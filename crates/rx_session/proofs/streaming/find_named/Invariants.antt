use Rattle.std.proofs.Common.{◌≡◌, drop}
use Rattle.rx_session.specs.Session.{stream_at}
use Rattle.rx_session.proofs.streaming.find_named.Given as goal

-- the streams to come decide
abbrev pub invariant-loop-stream : goal.invariant-loop-stream
invariant-loop-stream l =
    stream_at l.name (drop l.stream-index l.streams) ≡ stream_at l.name l.streams
