use Rattle.std.proofs.Common.{◌≡◌, option_map, string_bytes, sym, ap, ◌∙◌, rules}
use Rattle.serde_json.proofs.Views.{members_view-insert_entry}
use Rattle.serde_json.specs.Data.{null, put}
use Rattle.serde_json.specs.View.{view, members_view}
use Rattle.serde_json.specs.declared.value.Value.{Null, the_lemmas}
use Rattle.rx_wire.specs.Kept.{with_name}
use Rattle.rx_wire.proofs.kept.name_other.Goals as goal

pub returns-in_ok-insert : goal.returns-in_ok-insert
returns-in_ok-insert c =
    let old = c.args.found.now.entries in
    let name = c.in-Some.name.now in
    let copied : string_bytes c.in_ok-key.key ≡ name = search rules in
    let seen : view Null ≡ null = search (rules, the_lemmas) in
    ap members_view c.in_ok-insert.ensures.entries
    ∙ members_view-insert_entry old c.in_ok-key.key Null
    ∙ ap (λ k. put k (view Null) (members_view old)) copied
    ∙ ap (λ d. put name d (members_view old)) seen
    ∙ ap (λ o. with_name (option_map (λ k. k.now) o) (members_view old)) (sym c.in-Some.is)
