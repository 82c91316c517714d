use Rattle.std.proofs.Common.{◌∙◌, ap, sym, subst}
use Rattle.rx_value.specs.Named.{by_bytes, by_name}
use Rattle.rx_value.proofs.Named.{by_name-insert_entry, by_bytes-insert_entry}
use Rattle.rx_world.specs.Holders.{AreWhole, IsWhole}
use Rattle.rx_world.proofs.Entries.{at_inserted}
use Rattle.rx_world.proofs.names.add.Goals as goal

pub returns-clause-held : goal.returns-clause-held
returns-clause-held g c =
    ap (by_name g.H.Holder.held) c.in_ok-insert.ensures.entries
    ∙ by_name-insert_entry g.H.Holder.held c.args.holders.now.entries c.args.name c.args.holder

pub returns-clause-holders : goal.returns-clause-holders
returns-clause-holders g c =
    ap by_bytes c.in_ok-insert.ensures.entries
    ∙ by_bytes-insert_entry c.args.holders.now.entries c.args.name c.args.holder

pub returns-clause-whole : goal.returns-clause-whole
returns-clause-whole g c = λ whole.
    subst (AreWhole g.H.Holder.held g.H.Holder.is_broken) (sym c.in_ok-insert.ensures.entries)
    (at_inserted (IsWhole g.H.Holder.held g.H.Holder.is_broken) c.args.holders.now.entries
    c.args.name c.args.holder c.requires whole)
