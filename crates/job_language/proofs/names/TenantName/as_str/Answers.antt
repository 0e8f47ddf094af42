use Rattle.std.proofs.Common.{subst, sym}
use Rattle.std.specs.Str.{IsUtf8}
use Rattle.job_language.proofs.AsciiNames.{IsUtf8-name, IsOk-unless}
use Rattle.job_language.proofs.names.TenantName.as_str.Goals as goal

pub unwrap-requires : goal.unwrap-requires
unwrap-requires c = IsOk-unless _ _ _ _ c.from_utf8.ensures.cases (subst IsUtf8 (sym c.as_bytes.ensures.value) (IsUtf8-name _ c.as_bytes.ensures.name))
