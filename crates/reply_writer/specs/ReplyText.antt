-- The text of each reply, without its newline.
use Rattle.std.specs.Prelude.{ℕ, List, [], ◌++◌, Bool, true, false, codes, decimal}
use Rattle.std.specs.Fmt.{signed_decimal}
use Rattle.job_language.specs.declared.answers.Reply.{Reply}
use Rattle.job_language.specs.declared.answers.Reply.TheVariants.{Bound, Made, Placed, Job, Cancelled, Cells, Arena, Epoch, Released, Refused, Pending}
use Rattle.job_language.specs.declared.answers.Status.{Status}
use Rattle.job_language.specs.declared.answers.Status.TheVariants as status
use Rattle.job_language.specs.ErrorCodes.{code_of, name_of, fault_code_of}
use Rattle.job_language.specs.TenantWords.{level_word}

abbrev pub job_text : ℕ → Status → List ℕ
job_text job status.Running = codes "{\"job\":" ++ decimal job ++ codes ",\"status\":\"running\"}"
job_text job status.Cancelled = codes "{\"job\":" ++ decimal job ++ codes ",\"status\":\"canceled\"}"
job_text job (status.Complete value) = codes "{\"job\":" ++ decimal job ++ codes ",\"status\":\"complete\",\"value\":" ++ signed_decimal value ++ codes "}"
job_text job (status.Fault fault) = codes "{\"fault\":" ++ decimal (fault_code_of fault) ++ codes ",\"job\":" ++ decimal job ++ codes ",\"status\":\"fault\"}"

abbrev pub bool_text : Bool → List ℕ
bool_text true = codes "true"
bool_text false = codes "false"

-- A pending reply has no text.
abbrev pub reply_text : Reply → List ℕ
reply_text (Bound name) = codes "{\"tenant\":\"" ++ name ++ codes "\"}"
reply_text (Made job) = codes "{\"job\":" ++ decimal job ++ codes "}"
reply_text (Placed job slot) = codes "{\"job\":" ++ decimal job ++ codes ",\"slot\":" ++ decimal slot ++ codes "}"
reply_text (Job job s) = job_text job s
reply_text (Cancelled job first) = codes "{\"first\":" ++ bool_text first ++ codes ",\"job\":" ++ decimal job ++ codes "}"
reply_text (Cells key count sum) = codes "{\"count\":" ++ decimal count ++ codes ",\"key\":" ++ decimal key ++ codes ",\"sum\":" ++ signed_decimal sum ++ codes "}"
reply_text (Arena level reserved slots) = codes "{\"priority\":\"" ++ level_word level ++ codes "\",\"reserved\":" ++ decimal reserved ++ codes ",\"slots\":" ++ decimal slots ++ codes "}"
reply_text (Epoch epoch) = codes "{\"epoch\":" ++ decimal epoch ++ codes "}"
reply_text (Released job) = codes "{\"released\":" ++ decimal job ++ codes "}"
reply_text (Refused error) = codes "{\"code\":" ++ decimal (code_of error) ++ codes ",\"error\":\"" ++ name_of error ++ codes "\"}"
reply_text Pending = []
