use Rattle.std.proofs.Common.{◌≡◌, List, ℕ, ◌∙◌, ap, ap₂, string_bytes}
use Rattle.rx_value.specs.Named.{by_bytes, put_named}
use Rattle.rx_value.proofs.Named.{by_bytes-insert_entry}
use Rattle.rx_meta.specs.Side.{Side}
use Rattle.rx_world.specs.declared.replication.Replication.{Replication}
use Rattle.rx_world.proofs.replications.add.Goals as goal

pub returns : goal.returns
returns c =
    let made : Side → Replication = λ s. record {
      name = c.args.name;
      fork = c.args.fork;
      master = c.args.master;
      handler = c.args.handler;
      field = c.args.field;
      side = s;
    } in
    let es = c.args.replications.now.entries in
    let spelt : string_bytes c.in_ok-key.key ≡ c.args.name =
    c.in_ok-key.ensures.ok ∙ c.as_str.ensures in
    ap by_bytes c.in_ok-insert.ensures.entries
    ∙ by_bytes-insert_entry es c.in_ok-key.key (made c.new.result)
    ∙ ap₂ (λ (k : List ℕ) (r : Replication). put_named (by_bytes es) k r) spelt
    (ap made c.new.ensures)
