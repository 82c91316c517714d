-- The printed names of faults.
use Rattle.std.specs.Prelude.{ℕ, List, codes}
use Rattle.serde_json.specs.Data.{string, object, no_members, member}
use Rattle.serde_json.specs.Written.{compact_text}
use Rattle.rx_wire.specs.declared.fault.WireFault.{WireFault}
use Rattle.rx_wire.specs.declared.fault.WireFault.TheVariants.{TooLong, NotJson, NotObject, Missing, Unexpected, WrongType, Schema, Invalid, Spelling, Memory}

-- the name that is printed; want of memory isn't told to a peer
abbrev pub fault_name : WireFault → List ℕ
fault_name TooLong = codes "too_long"
fault_name NotJson = codes "not_json"
fault_name NotObject = codes "not_object"
fault_name (Missing name) = codes "missing"
fault_name (Unexpected name) = codes "unexpected"
fault_name (WrongType name) = codes "wrong_type"
fault_name Schema = codes "schema"
fault_name (Invalid row) = codes "invalid"
fault_name (Spelling at) = codes "spelling"
fault_name Memory = codes "memory"

-- the line that tells a peer of a fault, without its line feed
abbrev pub fault_text : WireFault → List ℕ
fault_text fault =
    compact_text (object (member (codes "fault") (string (fault_name fault)) no_members))
