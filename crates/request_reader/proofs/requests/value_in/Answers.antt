use Rattle.std.proofs.Common.{Some}
use Rattle.std.proofs.lemmas.Str.{is_utf8-from_IsUtf8}
use Rattle.serde_json.specs.View.{view}
use Rattle.request_reader.proofs.LineAnswers.{value_in-not_text, value_in-text}
use Rattle.request_reader.proofs.requests.value_in.Goals as goal

pub returns-in_default-clause-ok : goal.returns-in_default-clause-ok
returns-in_default-clause-ok c = value_in-not_text c.args.line.now c.in_default.ensures.cases.0

pub returns-in-Ok-from_str-clause-ok : goal.returns-in-Ok-from_str-clause-ok
returns-in-Ok-from_str-clause-ok c = value_in-text c.args.line.now c.in-Ok.text.now (Some (view c.in-Ok-from_str.value)) c.in-Ok.ensures.cases c.in-Ok-from_str.ensures.ok

pub returns-in-Err-clause-takes : goal.returns-in-Err-clause-takes
returns-in-Err-clause-takes c = is_utf8-from_IsUtf8 c.args.line.now c.in-Ok.ensures.cases.1
