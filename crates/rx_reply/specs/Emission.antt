-- The line of output that gives the rows of an observed query.
use Rattle.std.specs.Prelude.{ℕ, List, codes, map}
use Rattle.serde_json.specs.Data.{Data, string, object, no_members, member}
use Rattle.rx_value.specs.Fields.{Pairs}
use Rattle.rx_value.specs.Writing.{fields_data}
use Rattle.rx_query.specs.declared.results.Row.{Row}
use Rattle.rx_reply.specs.Writing.{list_data, output_line}

-- the fields of rows
abbrev pub rows_fields : List Row → List Pairs
rows_fields rows = map (λ r. r.fields) rows

abbrev pub emission_data : List ℕ → List Pairs → Data
emission_data name rows = object
    (member (codes "emit") (string name)
    (member (codes "rows") (list_data fields_data rows) no_members))

abbrev pub emission_line : List ℕ → List Pairs → List ℕ
emission_line name rows = output_line (emission_data name rows)
