use Rattle.std.proofs.lemmas.Str.{IsUtf8-had}
use Rattle.rx_value.proofs.rx_text.ShortText.as_str.Goals as goal

-- the bytes of a short text are UTF-8
pub from_utf8_unchecked-requires : goal.from_utf8_unchecked-requires
from_utf8_unchecked-requires c = IsUtf8-had _ c.self.invariant.2
