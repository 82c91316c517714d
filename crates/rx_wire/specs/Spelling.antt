-- The message that a line is: one line for each.
use Rattle.std.specs.Prelude.{ℕ, nat_eq, List, if◌then◌else◌, Result, Ok, Err}
use Rattle.std.specs.List.{common_prefix_len}
use Rattle.std.specs.Str.{bytes_eq}
use Rattle.rx_value.specs.Due.{◌>>◌}
use Rattle.rx_schema.specs.declared.shape.Shape.{Shape}
use Rattle.rx_wire.specs.Reading.{object_of, request_in, reply_in}
use Rattle.rx_wire.specs.Writing.{request_text, reply_text}
use Rattle.rx_wire.specs.declared.message.Reply.{Reply}
use Rattle.rx_wire.specs.declared.message.Request.{Request}
use Rattle.rx_wire.specs.declared.fault.WireFault.{WireFault}
use Rattle.rx_wire.specs.declared.fault.WireFault.TheVariants.{Spelling}

-- what was read, if the line is its text; else the first byte that differs is at fault
abbrev pub if_spelt : {X : Type 0} → List ℕ → List ℕ → X → Result X WireFault
if_spelt text line x =
    if bytes_eq text line then Ok x else Err (Spelling (common_prefix_len nat_eq text line))

-- the request that a line is, or its first fault
abbrev pub request_of : Shape → List ℕ → Result Request WireFault
request_of s line =
    object_of line >> λ d. request_in s d >> λ request.
    if_spelt (request_text s request) line request

-- the reply that a line is, or its first fault
abbrev pub reply_of : Shape → List ℕ → Result Reply WireFault
reply_of s line =
    object_of line >> λ d. reply_in s d >> λ reply.
    if_spelt (reply_text reply) line reply
