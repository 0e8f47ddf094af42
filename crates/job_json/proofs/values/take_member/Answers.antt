use Rattle.std.proofs.Common.{option_map, sym, ap, ◌∙◌}
use Rattle.serde_json.proofs.Views.{view-lookup, view-Object}
use Rattle.serde_json.specs.Find.{get}
use Rattle.serde_json.specs.View.{view}
use Rattle.job_json.proofs.values.take_member.Goals as goal

pub returns-in-Object : goal.returns-in-Object
returns-in-Object c =
    let name = c.args.name.now in
    let members = c.in-Object.members in
    let found = ap (option_map view) c.remove.ensures.value ∙ view-lookup name members.entries in
    found ∙ sym (ap (get name) (ap view c.in-Object.is ∙ view-Object members))
