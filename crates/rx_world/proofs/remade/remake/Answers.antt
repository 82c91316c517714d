use Rattle.std.proofs.Common.{◌≡◌, List, String, Global, Some, ap, sym, subst, true, rules}
use Rattle.std.specs.List.{IsDistinct}
use Rattle.std.specs.Map.{keys_of}
use Rattle.std.specs.Str.{bytes_eq}
use Rattle.rx_value.specs.Named.{by_bytes, by_name}
use Rattle.rx_world.specs.Holders.{holders_of, world_in}
use Rattle.rx_world.specs.Migrating.{collections_migrate, is_in_group}
use Rattle.rx_world.specs.Schema.{schema_in}
use Rattle.rx_world.proofs.Regrouped.{group_goes, keys_held}
use Rattle.rx_world.proofs.remade.remake.Goals as goal

pub remake_all-requires-clause-distinct : goal.remake_all-requires-clause-distinct
remake_all-requires-clause-distinct g c =
    subst (λ (es : List (String Global × g.row.H.Denot)).
    IsDistinct bytes_eq (keys_of (by_bytes es)))
    (sym (ap (λ m. m.entries) c.replace-holders.ensures.value))
    (subst (IsDistinct bytes_eq)
    (keys_held g.H.Holder.held c.args.parts.now.holders.entries) c.requires.made.distinct)

pub remake_all-requires-clause-migrate : goal.remake_all-requires-clause-migrate
remake_all-requires-clause-migrate g c =
    let held = g.H.Holder.held in
    let read : schema_in c.args.text.now ≡ Some c.in-Some.schema = search rules in
    subst (λ (es : List (String Global × g.row.H.Denot)).
    collections_migrate (is_in_group
    (by_bytes c.args.parts.now.replications.entries) c.args.name.now)
    c.in-Some.schema c.args.steps.now (by_name held es) ≡ true)
    (sym (ap (λ m. m.entries) c.replace-holders.ensures.value))
    (group_goes c.args.name.now c.args.text.now c.args.steps.now
    (world_in held (holders_of c.args.parts.now))
    c.in-Some.schema c.requires.legal read)
