-- What the fields of a pass say.
use Rattle.std.specs.Prelude.{◌≤◌, vec_capacity}
use Rattle.tenant_record.specs.PassData.{PassData, log_of}
use Rattle.tenant_record.specs.declared.passes.Pass.TheInside.{Inside}

abbrev pub pass_data : Inside → PassData
pass_data p = record {
  tenant = p.kept.value.tenant;
  slot = p.kept.value.slot;
  limit = p.kept.value.limit;
  log = log_of p.kept.value.slot p.kept.value.log.items;
  full = p.kept.value.full;
  still =
      p.kept.value.still;
}

-- Room for the log is reserved.
abbrev pub IsPass : Inside → Type 0
IsPass p = p.kept.value.limit ≤ vec_capacity p.kept.value.log
