-- Where the master of a replication is, as a line says it.
use Rattle.std.specs.Prelude.{⊤, ◌≡◌, ◌≤◌, ℕ, List, codes, Bool, true, ◌&&◌, is_some, is_none, if◌then◌else◌, Result, Ok}
use Rattle.serde_json.specs.Data.{Data}
use Rattle.serde_json.specs.Find.{get}
use Rattle.rx_value.specs.Due.{◌>>◌, or_fault}
use Rattle.rx_value.specs.Form.{whole_within}
use Rattle.rx_value.specs.Name.{is_name}
use Rattle.rx_script.specs.Member.{a_text, a_name}
use Rattle.rx_script.specs.declared.fault.LineFault.{LineFault}
use Rattle.rx_script.specs.declared.fault.LineFault.TheVariants.{WrongType}
use Rattle.rx_script.specs.declared.target.Target.{Target}
use Rattle.rx_script.specs.declared.target.Target.TheVariants.{Local, Port}

-- the greatest port
abbrev pub max_port : ℕ
max_port = 65535

-- no master is named, and a port is given
abbrev pub is_at_port : Data → Bool
is_at_port d = is_none (get (codes "master") d) && is_some (get (codes "port") d)

-- the member that says where the master is
abbrev pub target_member : Data → List ℕ
target_member d = if is_at_port d then codes "port" else codes "master"

abbrev pub a_port : List ℕ → Data → Result ℕ LineFault
a_port name d = or_fault (WrongType name) (whole_within name 1 max_port d)

-- a master, by its name or its port
abbrev pub a_target : Data → Result Target LineFault
a_target d =
    if is_at_port d then (a_port (codes "port") d >> λ port. Ok (Port port))
    else (a_text (codes "master") d >> λ master. Ok (Local master))

-- a master that is named has a name
abbrev pub a_target_name : Target → Result ⊤ LineFault
a_target_name (Local name) = a_name (codes "master") name
a_target_name (Port port) = Ok tt

-- a port that is given isn't 0
abbrev pub HasPort : Target → Type 0
HasPort (Local name) = ⊤
HasPort (Port port) = (1 ≤ port) × (port ≤ max_port)

-- a name, or a port
abbrev pub IsTarget : Target → Type 0
IsTarget (Local name) = is_name name ≡ true
IsTarget (Port port) = (1 ≤ port) × (port ≤ max_port)
