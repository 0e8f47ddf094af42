use Rattle.std.proofs.Common.{option_map, Some, sym, ap, ◌∙◌}
use Rattle.job_json.specs.Json.{list_of}
use Rattle.job_json.proofs.Items.{list_of-items_of}
use Rattle.job_json.proofs.values.items_of.Goals as goal

pub returns-in-Some : goal.returns-in-Some
returns-in-Some c = rw c.as_slice.ensures.value (ap Some (sym (list_of-items_of _)) ∙ ap (option_map list_of) c.in-Some.ensures)
