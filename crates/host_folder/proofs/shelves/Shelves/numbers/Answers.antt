use Rattle.std.proofs.Common.{◌≡◌, Some, None, sym, ap, ◌∙◌}
use Rattle.std.specs.List.{position}
use Rattle.host_folder.specs.Shelves.{has_name}
use Rattle.host_folder.specs.declared.shelves.Named.{Named}
use Rattle.host_folder.proofs.Shelving.{numbers_at, numbers_none}
use Rattle.host_folder.proofs.shelves.Shelves.numbers.Goals as goal

pub returns-in-Some : goal.returns-in-Some
returns-in-Some c =
    let name = c.args.name.now in
    let ts = c.args.self.now.tenants.items in
    let at : position (has_name name) ts ≡ Some c.in-Some.place = sym c.place.ensures ∙ c.in-Some.is in
    c.numbers.ensures ∙ ap (λ (t : Named). t.shelf) c.index.ensures ∙ sym (numbers_at name ts c.in-Some.place at c.index.result.now)

pub returns-in-None : goal.returns-in-None
returns-in-None c =
    let name = c.args.name.now in
    let ts = c.args.self.now.tenants.items in
    let at : position (has_name name) ts ≡ None = sym c.place.ensures ∙ c.in-None.is in
    sym (numbers_none name ts at)
