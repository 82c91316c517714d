-- The tokens of members that may be missing, and of items one after another.
use Rattle.std.proofs.Common.{◌≡◌, ◌++◌, Option, Some, None, refl}
use Rattle.json.specs.Tree.{members_tokens}
use Rattle.serde_json.specs.Data.{Members}
use Rattle.serde_json.specs.Written.{members_outline}
use Rattle.rx_document.specs.declared.place.Place.{Place}
use Rattle.rx_wire.specs.Printing.{place_tokens}
use Rattle.rx_wire.specs.Writing.{with_place}

-- a place stands before the others
pub place_before : (place : Option Place) (more : Members)
    → members_tokens (members_outline (with_place place more))
    ≡ place_tokens place ++ members_tokens (members_outline more)
place_before None more = refl
place_before (Some p) more = refl
