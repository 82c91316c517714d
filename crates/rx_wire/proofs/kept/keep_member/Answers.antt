use Rattle.std.proofs.Common.{◌≡◌, cond, string_bytes, sym, ap, ◌∙◌, rules}
use Rattle.serde_json.proofs.Views.{members_view-insert_entry}
use Rattle.serde_json.specs.Data.{put}
use Rattle.serde_json.specs.View.{view, members_view}
use Rattle.rx_wire.proofs.kept.keep_member.Goals as goal

pub returns-in_ok-insert : goal.returns-in_ok-insert
returns-in_ok-insert c =
    let old = c.args.found.now.entries in
    let name = c.args.name.now in
    let member = c.args.member in
    let copied : string_bytes c.in_ok-key.key ≡ name = search rules in
    ap members_view c.in_ok-insert.ensures.entries
    ∙ members_view-insert_entry old c.in_ok-key.key member
    ∙ ap (λ k. put k (view member) (members_view old)) copied
    ∙ ap (λ b. cond b (put name (view member) (members_view old)) (members_view old))
    (sym c.if-known.true)
