use Rattle.std.proofs.Common.{refl, ap, ◌∙◌}
use Rattle.serde_json.proofs.Views.{members_view-insert_entry, view-Object}
use Rattle.serde_json.specs.Data.{object}
use Rattle.serde_json.specs.View.{members_view}
use Rattle.rx_value.proofs.writing.state_json.Goals as goal

pub returns-clause-data : goal.returns-clause-data
returns-clause-data c =
    view-Object c.insert.new.self
    ∙ ap object
    (ap members_view c.in_ok-insert.ensures.entries
    ∙ members_view-insert_entry c.in_ok-members.members.entries c.in_ok-from_str.field-0
    c.from.result
    ∙ rw (c.in_ok-from_str.ensures.ok, c.in_ok-members.ensures.data, c.from.ensures) refl)
