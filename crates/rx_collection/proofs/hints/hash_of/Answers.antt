use Rattle.std.proofs.Common.{◌∙◌, ◌/◌, ◌^◌, ap, ap₂}
use Rattle.std.specs.Int.Bits.{bit_xor}
use Rattle.rx_collection.specs.Hints.{bytes_number, key_hash, mixed, words_hash}
use Rattle.rx_collection.proofs.hints.hash_of.Goals as goal

pub returns : goal.returns
unfolding key_hash
returns c =
    ap (λ n. n / 2 ^ 32) (c.mixed.ensures ∙ ap mixed (ap₂ bit_xor
    (c.words_hash-front.ensures ∙ ap (words_hash _) c.as_chunks.ensures.front)
    (c.number.ensures ∙ ap (bytes_number 0) c.as_chunks.ensures.back)))
