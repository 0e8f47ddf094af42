use Rattle.tenant_model.specs.State.{empty}
use Rattle.tenant_model.proofs.KeptAdvances.{empty_kept}
use Rattle.tenant_model.proofs.RegionLaws.{keeps_regions}
use Rattle.tenant_model.proofs.laws.regions_protect_cells.Goals as goal

pub returns : goal.returns
returns c = record { regions = λ config xs slots. keeps_regions (empty config) xs (empty_kept config slots) }
