use Rattle.std.proofs.lemmas.Str.{is_utf8-from_IsUtf8}
use Rattle.request_reader.proofs.canonical.job_in.Goals as goal

pub returns-in-Ok-clause-line : goal.returns-in-Ok-clause-line
returns-in-Ok-clause-line c = is_utf8-from_IsUtf8 c.args.line.now c.in-Ok.ensures.cases.1
