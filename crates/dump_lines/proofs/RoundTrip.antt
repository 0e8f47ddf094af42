-- Lines, refusals and asks read back.
use Rattle.std.proofs.Common.{◌≡◌, ℕ, List, Some, true, refl, subst}
use Rattle.std.specs.Str.{IsUtf8, is_utf8}
use Rattle.std.proofs.lemmas.Str.{is_utf8-from_IsUtf8}
use Rattle.serde_json.specs.Data.{Data}
use Rattle.serde_json.specs.Read.{read}
use Rattle.request_reader.specs.LineAsks.{value_in}
use Rattle.job_language.specs.declared.answers.Reply.{Reply}
use Rattle.job_language.specs.declared.answers.Reply.TheVariants.{Refused}
use Rattle.job_language.specs.declared.errors.Error.{Error}
use Rattle.job_language.specs.declared.errors.Error.TheVariants.{LineTooLong, BadJson, BadRequest, BadProgram, UnknownTenant, UnknownJob, JobLimit, HistoryFull, NoMemory, TaskLimit, NoTenant, Busy}
use Rattle.job_language.specs.declared.errors.Error.TheVariants.{ConnectionLimit}
use Rattle.job_language.specs.declared.requests.Request.{Request}
use Rattle.dump_lines.specs.declared.lines.Said.TheVariants as said
use Rattle.dump_lines.specs.Lines.{ask, recorded, said_in_value}
use Rattle.dump_lines.specs.Replies.{reply_in}
use Rattle.dump_lines.specs.Requests.{request_in}
use Rattle.dump_lines.specs.Written.{ask_data, refusal_data}

pub text_reads : (line text : List ℕ) (d : Data) → text ≡ line → IsUtf8 text → read line ≡ Some d → value_in line ≡ Some d
text_reads line text d same utf8 reads =
    let is : is_utf8 line ≡ true = is_utf8-from_IsUtf8 line (subst IsUtf8 same utf8) in
    rw is reads

pub read_refusal : (e : Error) → reply_in (refusal_data e) ≡ Some (Some (Refused e))
read_refusal LineTooLong = refl
read_refusal BadJson = refl
read_refusal BadRequest = refl
read_refusal BadProgram = refl
read_refusal UnknownTenant = refl
read_refusal UnknownJob = refl
read_refusal JobLimit = refl
read_refusal HistoryFull = refl
read_refusal NoMemory = refl
read_refusal TaskLimit = refl
read_refusal NoTenant = refl
read_refusal Busy = refl
read_refusal ConnectionLimit = refl

pub read_ask : (d answered asked : Data) (request : Request) (reply : Reply) → d ≡ ask_data answered asked → recorded (request_in asked) ≡ Some request → reply_in answered ≡ Some (Some reply) →
    said_in_value d ≡ Some (said.Entry (ask request reply))
read_ask d answered asked request reply is p q = rw (is, p, q) refl
