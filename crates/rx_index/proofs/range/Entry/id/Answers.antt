use Rattle.std.proofs.Common.{◌≡◌, true, sym, subst}
use Rattle.std.proofs.lemmas.Str.{IsUtf8-from_is_utf8}
use Rattle.std.specs.Str.{is_utf8}
use Rattle.rx_index.proofs.range.Entry.id.Goals as goal

pub from_utf8_unchecked-text-requires : goal.from_utf8_unchecked-text-requires
from_utf8_unchecked-text-requires c =
    IsUtf8-from_is_utf8 c.in_ok-bytes.bytes.items
    (subst (λ t. is_utf8 t ≡ true) (sym c.in_ok-bytes.ensures.bytes) c.in_ok-bytes.ensures.text)
