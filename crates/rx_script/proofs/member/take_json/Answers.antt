use Rattle.std.proofs.Common.{◌∙◌, ap, option_map}
use Rattle.serde_json.proofs.Views.{view-lookup}
use Rattle.serde_json.specs.View.{view, members_view}
use Rattle.rx_script.proofs.Members.{get-object, found_or_null}
use Rattle.rx_script.proofs.member.take_json.Goals as goal

pub returns-in-Some : goal.returns-in-Some
returns-in-Some c =
    let name = c.args.name.now in
    let members = c.in-Some.members.now.entries in
    rw c.unwrap_or.ensures (found_or_null c.remove.result name (view c.args.json.now)
    (ap (option_map view) c.remove.ensures.value ∙ view-lookup name members
    ∙ get-object name (view c.args.json.now) (members_view members) c.in-Some.ensures.value))
