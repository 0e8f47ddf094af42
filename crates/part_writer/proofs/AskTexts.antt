-- The lines of requests with their replies.
use Rattle.std.proofs.Common.{◌≡◌, ℕ, List, [], ◌∷◌, ◌++◌, ap, append_assoc, append-nil, codes, decimal, refl, subst, sym, ◌∙◌, Option, Some, None, option_map, Result, IfOk}
use Rattle.std.specs.Prelude.{Bool, true, false, is_some}
use Rattle.std.specs.Option.{option_map_or}
use Rattle.json.specs.Print.{escape_byte}
use Rattle.serde_json.specs.Data.{Data}
use Rattle.serde_json.specs.Written.{compact_text}
use Rattle.job_language.specs.Recorded.{is_recorded_reply}
use Rattle.job_language.specs.declared.answers.Answer.{Answer}
use Rattle.job_language.specs.declared.answers.Answer.TheVariants as answer
use Rattle.job_language.specs.declared.answers.Reply.{Reply}
use Rattle.job_language.specs.declared.jobs.Job.{Job}
use Rattle.job_language.specs.declared.requests.Request.{Request}
use Rattle.job_language.specs.declared.requests.Request.TheVariants as request
use Rattle.job_language.specs.declared.steps.Entry.{Entry}
use Rattle.job_language.specs.declared.steps.Step.{Step}
use Rattle.job_language.specs.declared.steps.Step.TheVariants as step
use Rattle.job_json.specs.CanonicalText.{job_then}
use Rattle.job_json.specs.JobData.{job_data}
use Rattle.job_json.proofs.CanonicalTexts.{job_text}
use Rattle.dump_lines.specs.Dumps.{HasLine, entry_text, line_text}
use Rattle.dump_lines.specs.Lines.{ask}
use Rattle.dump_lines.specs.Written.{ask_data, reply_data, request_data}
use Rattle.part_writer.specs.Added.{Adds}
use Rattle.part_writer.specs.Requests.{request_then}

mapped : {A B : Type 0} (f : A → B) (o : Option A) → is_some o ≡ true → is_some (option_map f o) ≡ true
mapped f None some = cc
mapped f (Some x) some = refl

line_parts : (a x b y c : List ℕ) → (a ++ (x ++ (b ++ (y ++ c)))) ++ 10 ∷ [] ≡ a ++ (x ++ (b ++ (y ++ (c ++ 10 ∷ []))))
line_parts a x b y c = simp append_assoc

line_of : (p : Reply) (q : Data) → line_text (compact_text (ask_data (reply_data p) q))
    ≡ codes "{\"reply\":" ++ (compact_text (reply_data p) ++ (codes ",\"request\":" ++ (compact_text q ++ codes ",\"step\":\"ask\"}\n")))
unfolding escape_byte
line_of p q = line_parts (codes "{\"reply\":") (compact_text (reply_data p)) (codes ",\"request\":") (compact_text q) (codes ",\"step\":\"ask\"}")

brought : (job : Job) (behind rest : List ℕ) → (codes "{\"job\":" ++ (compact_text (job_data job) ++ behind)) ++ rest ≡ codes "{\"job\":" ++ job_then job (behind ++ rest)
brought job behind rest = ap (λ (t : List ℕ). codes "{\"job\":" ++ t) (append_assoc (compact_text (job_data job)) behind rest ∙ sym (job_text job (behind ++ rest)))

about : (before digits behind rest : List ℕ) → (before ++ (digits ++ behind)) ++ rest ≡ before ++ (digits ++ (behind ++ rest))
about before digits behind rest = simp append_assoc

request_text : (r : Request) (rest : List ℕ) → option_map_or (λ d. compact_text d ++ rest) (request_data r) rest ≡ request_then r rest
unfolding escape_byte
request_text (request.Hello name) rest = refl
request_text (request.Submit job) rest = brought job (codes ",\"op\":\"submit\"}") rest
request_text (request.Execute job) rest = brought job (codes ",\"op\":\"execute\"}") rest
request_text (request.Poll job) rest = about (codes "{\"job\":") (decimal job) (codes ",\"op\":\"poll\"}") rest
request_text (request.Collect job) rest = about (codes "{\"job\":") (decimal job) (codes ",\"op\":\"collect\"}") rest
request_text (request.Cancel job) rest = about (codes "{\"job\":") (decimal job) (codes ",\"op\":\"cancel\"}") rest
request_text (request.Cells key) rest = about (codes "{\"key\":") (decimal key) (codes ",\"op\":\"cells\"}") rest
request_text request.Arena rest = refl
request_text request.Retire rest = refl
request_text (request.Release job) rest = about (codes "{\"job\":") (decimal job) (codes ",\"op\":\"release\"}") rest
request_text (request.Take job) rest = about (codes "{\"job\":") (decimal job) (codes ",\"op\":\"collect\",\"release\":true}") rest

asked_line : (p : Reply) (o : Option Data) → is_some o ≡ true → option_map_or (λ d. line_text (compact_text d)) (option_map (ask_data (reply_data p)) o) []
    ≡ codes "{\"reply\":" ++ (compact_text (reply_data p) ++ (codes ",\"request\":" ++ option_map_or (λ d. compact_text d ++ codes ",\"step\":\"ask\"}\n") o (codes ",\"step\":\"ask\"}\n")))
asked_line p None some = cc
asked_line p (Some q) some = line_of p q

ask_text : (r : Request) (p : Reply) → is_recorded_reply p ≡ true → is_some (request_data r) ≡ true
    → entry_text (ask r p) ≡ codes "{\"reply\":" ++ (compact_text (reply_data p) ++ (codes ",\"request\":" ++ request_then r (codes ",\"step\":\"ask\"}\n")))
ask_text r p recorded some =
    rw recorded (asked_line p (request_data r) some
    ∙ ap (λ (t : List ℕ). codes "{\"reply\":" ++ (compact_text (reply_data p) ++ (codes ",\"request\":" ++ t))) (request_text r (codes ",\"step\":\"ask\"}\n")))

pub has_line : (r : Request) (p : Reply) → is_recorded_reply p ≡ true → is_some (request_data r) ≡ true → HasLine (ask r p)
has_line r p recorded some = rw recorded (mapped (ask_data (reply_data p)) (request_data r) some)

-- what was added, part by part, is the line of the entry
pub ask_added : (r : Request) (p : Reply) (t0 t1 t2 t3 t4 t5 reply : List ℕ) → is_recorded_reply p ≡ true → is_some (request_data r) ≡ true → reply ≡ compact_text (reply_data p)
    → Adds t0 t1 (λ rest. codes "{\"reply\":" ++ rest) → Adds t1 t2 (λ rest. reply ++ rest) → Adds t2 t3 (λ rest. codes ",\"request\":" ++ rest)
    → Adds t3 t4 (request_then r) → Adds t4 t5 (λ rest. codes ",\"step\":\"ask\"}\n" ++ rest) → t5 ≡ t0 ++ entry_text (ask r p)
ask_added r p t0 t1 t2 t3 t4 t5 reply recorded some is one two three four five =
    let end = codes ",\"step\":\"ask\"}\n" in
    sym (append-nil t5) ∙ five [] ∙ four end ∙ three (request_then r end) ∙ two (codes ",\"request\":" ++ request_then r end) ∙ one (reply ++ (codes ",\"request\":" ++ request_then r end))
    ∙ ap (λ (t : List ℕ). t0 ++ (codes "{\"reply\":" ++ (t ++ (codes ",\"request\":" ++ request_then r end)))) is ∙ ap (λ (t : List ℕ). t0 ++ t) (sym (ask_text r p recorded some))

same_entry : (e : Entry) (r : Request) (p : Reply) → e.step ≡ step.Ask r → e.answer ≡ answer.Replied p → ask r p ≡ e
same_entry e r p is was = ap (λ (x : Step). record { step = x; answer = answer.Replied p }) (sym is) ∙ ap (λ (x : Answer). record { step = e.step; answer = x }) (sym was)

pub of_entry : {E : Type 0} (result : Result Bool E) (e : Entry) (r : Request) (p : Reply) (old new : List ℕ) → e.step ≡ step.Ask r → e.answer ≡ answer.Replied p
    → IfOk result (λ is_ask. is_ask ≡ true → new ≡ old ++ entry_text (ask r p)) → IfOk result (λ is_ask. is_ask ≡ true → new ≡ old ++ entry_text e)
of_entry result e r p old new is was h = subst (λ (d : Entry). IfOk result (λ is_ask. is_ask ≡ true → new ≡ old ++ entry_text d)) (same_entry e r p is was) h

pub line_of_entry : {E : Type 0} (result : Result Bool E) (e : Entry) (r : Request) (p : Reply) → e.step ≡ step.Ask r → e.answer ≡ answer.Replied p
    → IfOk result (λ is_ask. is_ask ≡ true → HasLine (ask r p)) → IfOk result (λ is_ask. is_ask ≡ true → HasLine e)
line_of_entry result e r p is was h = subst (λ (d : Entry). IfOk result (λ is_ask. is_ask ≡ true → HasLine d)) (same_entry e r p is was) h
