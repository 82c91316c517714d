-- Where the master of a replication is.
use Rattle.std.specs.Prelude.{ℕ, List, ◌++◌, true, false, if◌then◌else◌, Ok}
use Rattle.std.specs.Int.{w16}
use Rattle.rx_record.specs.Reading.{Reading, ◌▸◌}
use Rattle.rx_record.specs.Parts.{flag_bytes, flag_of, number_bytes, number_of, text_bytes, text_of}
use Rattle.rx_record.specs.declared.record.MasterName.{MasterName}
use Rattle.rx_record.specs.declared.record.MasterName.TheVariants.{Local, Port}

-- a flag, which is set where the master is remote; the port in two bytes, or else the name
abbrev pub master_bytes : MasterName → List ℕ
master_bytes (Local name) = flag_bytes false ++ text_bytes name
master_bytes (Port port) = flag_bytes true ++ number_bytes w16 port

abbrev pub master_of : List ℕ → Reading MasterName
master_of bs = flag_of bs ▸ λ remote more.
    if remote then (number_of w16 more ▸ λ port rest. Ok (Port port, rest))
    else (text_of more ▸ λ name rest. Ok (Local name, rest))
