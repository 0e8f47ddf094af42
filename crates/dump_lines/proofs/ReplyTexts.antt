-- A reply that a history records has one text, on a connection as in a dump.
use Rattle.std.proofs.Common.{◌≡◌, ◌++◌, ◌∙◌, ℕ, ℤ, pos, negsuc, List, true, false, refl, ap, append_assoc, codes, decimal}
use Rattle.std.specs.Fmt.{signed_decimal}
use Rattle.json.specs.Print.{escape_byte}
use Rattle.serde_json.specs.Written.{compact_text}
use Rattle.job_language.specs.ErrorCodes.{code_of, name_of, fault_code_of}
use Rattle.job_json.specs.JobData.{number_data}
use Rattle.job_language.specs.Recorded.{is_recorded_reply}
use Rattle.job_language.specs.TenantWords.{level_word}
use Rattle.job_language.specs.declared.answers.Reply.{Reply}
use Rattle.job_language.specs.declared.answers.Reply.TheVariants.{Bound, Made, Placed, Job, Cancelled, Cells, Arena, Epoch, Released, Refused, Pending}
use Rattle.job_language.specs.declared.answers.Status.TheVariants as status
use Rattle.job_language.specs.declared.errors.Error.{Error}
use Rattle.job_language.specs.declared.errors.Error.TheVariants.{LineTooLong, BadJson, BadRequest, BadProgram, UnknownTenant, UnknownJob, JobLimit, HistoryFull, NoMemory, TaskLimit, NoTenant, Busy}
use Rattle.job_language.specs.declared.errors.Error.TheVariants.{ConnectionLimit}
use Rattle.job_language.specs.declared.tenants.Level.TheVariants.{Low, Normal, High}
use Rattle.reply_writer.specs.ReplyText.{reply_text}
use Rattle.dump_lines.specs.Written.{reply_data, refusal_data}

two_parts : (a x b y c : List ℕ) → a ++ x ++ b ++ y ++ c ≡ a ++ (x ++ (b ++ (y ++ c)))
two_parts a x b y c = append_assoc (a ++ x ++ b) y c ∙ append_assoc (a ++ x) b (y ++ c) ∙ append_assoc a x (b ++ (y ++ c))

three_parts : (a x b y c z d : List ℕ) → a ++ x ++ b ++ y ++ c ++ z ++ d ≡ a ++ (x ++ (b ++ (y ++ (c ++ (z ++ d)))))
three_parts a x b y c z d = append_assoc (a ++ x ++ b ++ y ++ c) z d ∙ append_assoc (a ++ x ++ b ++ y) c (z ++ d) ∙ two_parts a x b y (c ++ (z ++ d))

signed_text : (z : ℤ) → signed_decimal z ≡ compact_text (number_data z)
signed_text (pos n) = refl
signed_text (negsuc n) = refl

parted : (e : Error) → reply_text (Refused e) ≡ codes "{\"code\":" ++ (decimal (code_of e) ++ (codes ",\"error\":\"" ++ (name_of e ++ codes "\"}")))
parted e = two_parts (codes "{\"code\":") (decimal (code_of e)) (codes ",\"error\":\"") (name_of e) (codes "\"}")

refusal_text : (e : Error) → reply_text (Refused e) ≡ compact_text (refusal_data e)
unfolding escape_byte
refusal_text LineTooLong = parted LineTooLong
refusal_text BadJson = parted BadJson
refusal_text BadRequest = parted BadRequest
refusal_text BadProgram = parted BadProgram
refusal_text UnknownTenant = parted UnknownTenant
refusal_text UnknownJob = parted UnknownJob
refusal_text JobLimit = parted JobLimit
refusal_text HistoryFull = parted HistoryFull
refusal_text NoMemory = parted NoMemory
refusal_text TaskLimit = parted TaskLimit
refusal_text NoTenant = parted NoTenant
refusal_text Busy = parted Busy
refusal_text ConnectionLimit = parted ConnectionLimit

pub reply_texts : (r : Reply) → is_recorded_reply r ≡ true → reply_text r ≡ compact_text (reply_data r)
unfolding escape_byte
reply_texts (Bound name) h = cc
reply_texts (Made job) h = refl
reply_texts (Placed job slot) h = two_parts (codes "{\"job\":") (decimal job) (codes ",\"slot\":") (decimal slot) (codes "}")
reply_texts (Job job status.Running) h = refl
reply_texts (Job job status.Cancelled) h = refl
reply_texts (Job job (status.Complete value)) h =
    two_parts (codes "{\"job\":") (decimal job) (codes ",\"status\":\"complete\",\"value\":") (signed_decimal value) (codes "}")
    ∙ ap (λ t. codes "{\"job\":" ++ (decimal job ++ (codes ",\"status\":\"complete\",\"value\":" ++ (t ++ codes "}")))) (signed_text value)
reply_texts (Job job (status.Fault fault)) h = two_parts (codes "{\"fault\":") (decimal (fault_code_of fault)) (codes ",\"job\":") (decimal job) (codes ",\"status\":\"fault\"}")
reply_texts (Cancelled job true) h = refl
reply_texts (Cancelled job false) h = refl
reply_texts (Cells key count sum) h =
    three_parts (codes "{\"count\":") (decimal count) (codes ",\"key\":") (decimal key) (codes ",\"sum\":") (signed_decimal sum) (codes "}")
    ∙ ap (λ t. codes "{\"count\":" ++ (decimal count ++ (codes ",\"key\":" ++ (decimal key ++ (codes ",\"sum\":" ++ (t ++ codes "}")))))) (signed_text sum)
reply_texts (Arena Low reserved slots) h = two_parts (codes "{\"priority\":\"" ++ level_word Low ++ codes "\",\"reserved\":") (decimal reserved) (codes ",\"slots\":") (decimal slots) (codes "}")
reply_texts (Arena Normal reserved slots) h = two_parts (codes "{\"priority\":\"" ++ level_word Normal ++ codes "\",\"reserved\":") (decimal reserved) (codes ",\"slots\":") (decimal slots) (codes "}")
reply_texts (Arena High reserved slots) h = two_parts (codes "{\"priority\":\"" ++ level_word High ++ codes "\",\"reserved\":") (decimal reserved) (codes ",\"slots\":") (decimal slots) (codes "}")
reply_texts (Epoch epoch) h = refl
reply_texts (Released job) h = refl
reply_texts (Refused error) h = refusal_text error
reply_texts Pending h = cc
