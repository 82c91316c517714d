-- How long a wire waits for its peer, message by message. A message ends with a line feed.
use Rattle.std.specs.Prelude.{ℕ, ◌+◌, ◌-◌, ◌*◌, ◌/◌, ◌==◌, List, Bool, not, nat_lt, min, Option, None, Some, if◌then◌else◌}
use Rattle.std.specs.List.{list_all}
use Rattle.std.specs.Duration.{as_nanos}
use Rattle.rx_outside.specs.declared.waiting.Waiting.{Waiting}

-- the seconds that a message of so many bytes has: a minute, and one for each 64 KiB
abbrev pub message_seconds : ℕ → ℕ
message_seconds bytes = 60 + bytes / 65536

-- the nanoseconds for which the peer was waited within the message in play
abbrev pub waited : Waiting → ℕ
waited w = as_nanos w.waited

-- how many of its bytes moved
abbrev pub moved : Waiting → ℕ
moved w = w.moved

-- the nanoseconds that it has left
abbrev pub time_left : Waiting → ℕ
time_left w = message_seconds w.moved * 1000000000 - as_nanos w.waited

-- The seconds that the next call may wait: what is left, where a part of a second counts as one,
-- and no more than a minute. There is none where nothing is left.
abbrev pub call_seconds : Waiting → Option ℕ
call_seconds w =
    if nat_lt 0 (time_left w)
    then Some (min 60 ((time_left w + 999999999) / 1000000000))
    else None

-- no message ends in these bytes
abbrev pub ends_none : List ℕ → Bool
ends_none = list_all (λ b. not (b == 10))
