use Rattle.std.proofs.Common.{◌∙◌, ap, option_map}
use Rattle.rx_value.proofs.Named.{lookup-by_name, map-copied}
use Rattle.rx_world.specs.Holders.{IsWhole}
use Rattle.rx_world.proofs.Entries.{at_lent}
use Rattle.rx_world.proofs.names.find.Goals as goal

pub returns-clause-found : goal.returns-clause-found
returns-clause-found g c =
    map-copied (λ h. h) c.get.result ∙ ap (option_map (λ h. h)) c.get.ensures.value
    ∙ lookup-by_name (λ h. h) c.args.holders.now.entries c.args.name.now

pub returns-clause-held : goal.returns-clause-held
returns-clause-held g c =
    map-copied g.H.Holder.held c.get.result ∙ ap (option_map g.H.Holder.held) c.get.ensures.value
    ∙ lookup-by_name g.H.Holder.held c.args.holders.now.entries c.args.name.now

pub returns-clause-whole : goal.returns-clause-whole
returns-clause-whole g c = λ whole.
    at_lent (IsWhole g.H.Holder.held g.H.Holder.is_broken) c.get.result c.args.holders.now.entries
    c.args.name.now c.get.ensures.value whole
